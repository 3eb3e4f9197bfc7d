-- What a list of pairs in order holds, with one pair more, and with one less. Assumes nothing.
use Rattle.std.proofs.Common.{◌≡◌, ℕ, zero, suc, ◌-◌, ◌<◌, ◌≤◌, Bool, true, false, not, ◌&&◌, ◌||◌, List, [], ◌∷◌, ◌++◌, length, take, drop, get_or, slice_index_or, Ordering, Less, Greater, sym, refl, ap, ◌∙◌, subst, ⊎_elim, arith}
use Rattle.std.specs.Ordering.{ordering_reverse}
use Rattle.std.specs.List.{AllByRecursion, insert, remove}
use Rattle.std.specs.List.Sorted.{IsStrictlySortedBy}
use Rattle.std.proofs.lemmas.Bool.{cases_lt, or_right}
use Rattle.std.proofs.lemmas.List.{get_or_default}
use Rattle.std.proofs.lemmas.List.Elements.{All-from_recursion, recursion_from_All}
use Rattle.std.proofs.lemmas.Map.Keys.{Less-from_sorted}
use Rattle.keys.specs.Laws.{TotalOrder}
use Rattle.index.specs.Sets.{pair_order, tie, holds, plus, minus}
use Rattle.index.proofs.Listing.{or_turn}
use Rattle.index.proofs.Pairs.{pair_total, same_tie, tie_itself, lt_tie, gt_tie}

-- no pair is in order
pub none_sorted : {K : Type 0} (o : K → K → Ordering) (xs : List (K × ℕ)) → xs ≡ [] → IsStrictlySortedBy (pair_order o) xs
unfolding IsStrictlySortedBy
none_sorted o xs e = subst (IsStrictlySortedBy (pair_order o)) (sym e) tt

-- ---- what holds of each element of a list

all_put : {X : Type 0} (P : X → Type 0) (q : X) (i : ℕ) (xs : List X) → P q → AllByRecursion P xs → AllByRecursion P (insert xs i q)
all_put P q zero xs p a = (p, a)
all_put P q (suc i) [] p a = (p, tt)
all_put P q (suc i) (x ∷ xs) p a = (a.0, all_put P q i xs p a.1)

all_cut : {X : Type 0} (P : X → Type 0) (i : ℕ) (xs : List X) → AllByRecursion P xs → AllByRecursion P (remove xs i)
all_cut P zero [] a = tt
all_cut P zero (x ∷ xs) a = a.1
all_cut P (suc i) [] a = tt
all_cut P (suc i) (x ∷ xs) a = (a.0, all_cut P i xs a.1)

gone : (t b : Bool) → (t ≡ true → b ≡ false) → b ≡ (not t && (t || b))
gone true b h = h refl
gone false b h = refl

past : (t a b c : Bool) → (t ≡ true → a ≡ false) → c ≡ (not t && b) → (a || c) ≡ (not t && (a || b))
past true a b c h e = ap (λ w. w || c) (h refl) ∙ e
past false true b c h e = refl
past false false b c h e = e

module _ {K : Type 0} (o : K → K → Ordering) (laws : TotalOrder o) where
  -- ---- what is held

  pub holds_none : (xs : List (K × ℕ)) (q : K × ℕ) → ((j : ℕ) → j < length xs → tie o q (get_or xs j q) ≡ false) → holds o xs q ≡ false
  holds_none [] q a = refl
  holds_none (x ∷ xs) q a = ap (λ t. t || holds o xs q) (a 0 (omega arith)) ∙ holds_none xs q (λ j l. a (suc j) (omega arith))

  pub holds_at : (xs : List (K × ℕ)) (i : ℕ) (d q : K × ℕ) → i < length xs → q ≡ get_or xs i d → holds o xs q ≡ true
  holds_at [] i d q h e = absurd (omega arith)
  holds_at (x ∷ xs) zero d q h e = ap (λ t. t || holds o xs q) (ap (λ w. tie o q w) (sym e) ∙ tie_itself o laws q)
  holds_at (x ∷ xs) (suc i) d q h e = or_right (tie o q x) (holds o xs q) (holds_at xs i d q (omega arith) e)

  -- ---- one pair more

  put_at : (i : ℕ) (xs : List (K × ℕ)) (q x : K × ℕ) → holds o (insert xs i q) x ≡ plus o q (holds o xs) x
  put_at zero xs q x = refl
  put_at (suc i) [] q x = refl
  put_at (suc i) (y ∷ ys) q x = ap (λ t. tie o x y || t) (put_at i ys q x) ∙ or_turn (tie o x y) (tie o x q) (holds o ys x)

  pub holds_put : (i : ℕ) (xs : List (K × ℕ)) (q : K × ℕ) → holds o (insert xs i q) ≡ plus o q (holds o xs)
  holds_put i xs q = λ j x. put_at i xs q x j

  -- what stands before i is below q, and the rest is above it
  pub sorted_between : (q : K × ℕ) (i : ℕ) (xs : List (K × ℕ)) → IsStrictlySortedBy (pair_order o) xs → ((j : ℕ) → j < i → j < length xs → pair_order o (get_or xs j q) q ≡ Less) → ((j : ℕ) → i ≤ j → j < length xs → pair_order o q (get_or xs j q) ≡ Less) → IsStrictlySortedBy (pair_order o) (insert xs i q)
  unfolding IsStrictlySortedBy
  sorted_between q zero xs s u v = (recursion_from_All (λ y. pair_order o q y ≡ Less) xs (λ j d l. subst (λ y. pair_order o q y ≡ Less) (get_or_default xs j q d l) (v j (omega arith) l)), s)
  sorted_between q (suc i) [] s u v = (tt, tt)
  sorted_between q (suc i) (x ∷ xs) s u v =
      (all_put (λ y. pair_order o x y ≡ Less) q i xs (u 0 (omega arith) (omega arith)) s.0, sorted_between q i xs s.1 (λ j l m. u (suc j) (omega arith) (omega arith)) (λ j l m. v (suc j) (omega arith) (omega arith)))

  -- the same by the two neighbours alone
  pub sorted_put : (q : K × ℕ) (xs : List (K × ℕ)) (i : ℕ) → IsStrictlySortedBy (pair_order o) xs → i ≤ length xs → (0 < i → Greater ≡ pair_order o q (slice_index_or xs (i - 1) q)) → (i < length xs → Less ≡ pair_order o q (slice_index_or xs i q)) → IsStrictlySortedBy (pair_order o) (take i xs ++ q ∷ drop i xs)
  sorted_put q xs i s h b a = sorted_between q i xs s under over
    where
      under : (j : ℕ) → j < i → j < length xs → pair_order o (get_or xs j q) q ≡ Less
      under j l m =
          let last : pair_order o (get_or xs (i - 1) q) q ≡ Less = (pair_total o laws).antisymm (get_or xs (i - 1) q) q ∙ ap ordering_reverse (sym (b (omega arith))) in
          ⊎_elim
          (λ (u : j < i - 1). (pair_total o laws).trans (get_or xs j q) (get_or xs (i - 1) q) q (Less-from_sorted (pair_order o) xs j (i - 1) q s u (omega arith)) last)
          (λ (u : i - 1 ≤ j). let is : i - 1 ≡ j = omega arith in subst (λ n. pair_order o (get_or xs n q) q ≡ Less) is last)
          (cases_lt j (i - 1))

      over : (j : ℕ) → i ≤ j → j < length xs → pair_order o q (get_or xs j q) ≡ Less
      over j l m =
          let next : pair_order o q (get_or xs i q) ≡ Less = sym (a (omega arith)) in
          ⊎_elim
          (λ (u : i < j). (pair_total o laws).trans q (get_or xs i q) (get_or xs j q) next (Less-from_sorted (pair_order o) xs i j q s u m))
          (λ (u : j ≤ i). let is : i ≡ j = omega arith in subst (λ n. pair_order o q (get_or xs n q) ≡ Less) is next)
          (cases_lt i j)

  -- ---- one pair less

  cut_at : (i : ℕ) (xs : List (K × ℕ)) (q x : K × ℕ) → IsStrictlySortedBy (pair_order o) xs → i < length xs → q ≡ get_or xs i q → holds o (remove xs i) x ≡ minus o q (holds o xs) x
  unfolding IsStrictlySortedBy
  cut_at i [] q x s h e = absurd (omega arith)
  cut_at zero (y ∷ ys) q x s h e =
      gone (tie o x q) (holds o ys x)
      (λ t. ap (holds o ys) (same_tie o laws x q t ∙ e) ∙ holds_none ys y (λ j l. lt_tie o laws y (get_or ys j y) (All-from_recursion (λ z. pair_order o y z ≡ Less) ys s.0 j y l)))
      ∙ ap (λ w. not (tie o x q) && (tie o x w || holds o ys x)) e
  cut_at (suc i) (y ∷ ys) q x s h e =
      past (tie o x q) (tie o x y) (holds o ys x) (holds o (remove ys i) x)
      (λ t. ap (λ w. tie o w y) (same_tie o laws x q t ∙ e) ∙ gt_tie o laws (get_or ys i q) y (All-from_recursion (λ z. pair_order o y z ≡ Less) ys s.0 i q (omega arith)))
      (cut_at i ys q x s.1 (omega arith) e)

  pub holds_cut : (i : ℕ) (xs : List (K × ℕ)) (q : K × ℕ) → IsStrictlySortedBy (pair_order o) xs → i < length xs → q ≡ get_or xs i q → holds o (remove xs i) ≡ minus o q (holds o xs)
  holds_cut i xs q s h e = λ j x. cut_at i xs q x s h e j

  pub sorted_cut : (i : ℕ) (xs : List (K × ℕ)) → IsStrictlySortedBy (pair_order o) xs → IsStrictlySortedBy (pair_order o) (remove xs i)
  unfolding IsStrictlySortedBy
  sorted_cut zero [] s = tt
  sorted_cut zero (x ∷ xs) s = s.1
  sorted_cut (suc i) [] s = tt
  sorted_cut (suc i) (x ∷ xs) s = (all_cut (λ y. pair_order o x y ≡ Less) i xs s.0, sorted_cut i xs s.1)
