-- A pair put at the end, taken off it, and put in the place of another. Assumes nothing.
use Rattle.std.proofs.Common.{◌≡◌, ℕ, zero, suc, ◌+◌, ◌<◌, Bool, true, false, not, ◌&&◌, ◌||◌, List, [], ◌∷◌, ◌++◌, length, get_or, take, set, Ordering, sym, refl, ap, ◌∙◌, subst, true≢false, arith}
use Rattle.std.specs.List.{AllByRecursion, IsDistinct}
use Rattle.std.specs.Ordering.{is_eq}
use Rattle.std.specs.Cmp.{tied_back}
use Rattle.std.proofs.lemmas.List.Elements.{All-from_recursion}
use Rattle.std.proofs.lemmas.List.{take_more, take_all, get_or-take, length-take-le}
use Rattle.std.proofs.lemmas.Bool.{or_parts}
use Rattle.keys.specs.Laws.{TotalOrder}
use Rattle.index.specs.Sets.{pair_order, tie, holds, plus, minus}
use Rattle.index.proofs.Listing.{or_turn}
use Rattle.index.proofs.Pairs.{pair_total, same_tie, false_unless, is_equal}

gone : (t b : Bool) → (t ≡ true → b ≡ false) → b ≡ (not t && (t || b))
gone true b h = h refl
gone false b h = refl

passed : (a u t b : Bool) → (t ≡ true → a ≡ false) → (a || (u || (not t && b))) ≡ (u || (not t && (a || b)))
passed true u true b h = absurd (true≢false (h refl))
passed true true false b h = refl
passed true false false b h = refl
passed false u t b h = refl

module _ {A : Type 0} (P : A → Type 0) where
  all_push : (xs : List A) (x : A) → AllByRecursion P xs → P x → AllByRecursion P (xs ++ x ∷ [])
  all_push [] x a p = (p, tt)
  all_push (y ∷ ys) x a p = (a.0, all_push ys x a.1 p)

  all_pop : (xs : List A) (x : A) → AllByRecursion P (xs ++ x ∷ []) → AllByRecursion P xs × P x
  all_pop [] x a = (tt, a.0)
  all_pop (y ∷ ys) x a = let r = all_pop ys x a.1 in ((a.0, r.0), r.1)

  all_set : (xs : List A) (i : ℕ) (x : A) → AllByRecursion P xs → P x → AllByRecursion P (set xs i x)
  all_set [] i x a p = tt
  all_set (y ∷ ys) zero x a p = (p, a.1)
  all_set (y ∷ ys) (suc i) x a p = (a.0, all_set ys i x a.1 p)

module _ {K : Type 0} (o : K → K → Ordering) (laws : TotalOrder o) where
  flipped : (x y : K × ℕ) → tie o x y ≡ false → tie o y x ≡ false
  flipped x y e = false_unless (tie o y x) (λ t. true≢false (sym (ap is_eq (tied_back (pair_total o laws) y x (is_equal (pair_order o y x) t))) ∙ e))

  none_held : (q : K × ℕ) (xs : List (K × ℕ)) → AllByRecursion (λ y. tie o q y ≡ false) xs → holds o xs q ≡ false
  none_held q [] a = refl
  none_held q (x ∷ xs) a = ap (λ t. t || holds o xs q) a.0 ∙ none_held q xs a.1

  held_none : (q : K × ℕ) (xs : List (K × ℕ)) → holds o xs q ≡ false → AllByRecursion (λ y. tie o q y ≡ false) xs
  held_none q [] e = tt
  held_none q (x ∷ xs) e = let f = or_parts (tie o q x) (holds o xs q) e in (f.0, held_none q xs f.1)

  -- ---- at the end

  pub push_at : (xs : List (K × ℕ)) (q x : K × ℕ) → holds o (xs ++ q ∷ []) x ≡ plus o q (holds o xs) x
  push_at [] q x = refl
  push_at (y ∷ ys) q x = ap (λ t. tie o x y || t) (push_at ys q x) ∙ or_turn (tie o x y) (tie o x q) (holds o ys x)

  pub holds_push : (xs : List (K × ℕ)) (q : K × ℕ) → holds o (xs ++ q ∷ []) ≡ plus o q (holds o xs)
  holds_push xs q = λ j x. push_at xs q x j

  pub distinct_push : (xs : List (K × ℕ)) (q : K × ℕ) → IsDistinct (tie o) xs → holds o xs q ≡ false → IsDistinct (tie o) (xs ++ q ∷ [])
  unfolding IsDistinct
  distinct_push [] q s e = (tt, tt)
  distinct_push (x ∷ xs) q s e =
      let f = or_parts (tie o q x) (holds o xs q) e in
      (all_push (λ y. tie o x y ≡ false) xs q s.0 (flipped q x f.0), distinct_push xs q s.1 f.1)

  distinct_pop : (xs : List (K × ℕ)) (q : K × ℕ) → IsDistinct (tie o) (xs ++ q ∷ []) → IsDistinct (tie o) xs × (holds o xs q ≡ false)
  unfolding IsDistinct
  distinct_pop [] q s = (tt, refl)
  distinct_pop (x ∷ xs) q s =
      let f = all_pop (λ y. tie o x y ≡ false) xs q s.0 in
      let r = distinct_pop xs q s.1 in
      ((f.0, r.0), ap (λ t. t || holds o xs q) (flipped x q f.1) ∙ r.1)

  -- ---- in the place of another

  distinct_set : (xs : List (K × ℕ)) (i : ℕ) (w : K × ℕ) → IsDistinct (tie o) xs → holds o xs w ≡ false → IsDistinct (tie o) (set xs i w)
  unfolding IsDistinct
  distinct_set [] i w s e = tt
  distinct_set (x ∷ xs) zero w s e = (held_none w xs (or_parts (tie o w x) (holds o xs w) e).1, s.1)
  distinct_set (x ∷ xs) (suc i) w s e =
      let f = or_parts (tie o w x) (holds o xs w) e in
      (all_set (λ y. tie o x y ≡ false) xs i w s.0 (flipped w x f.0), distinct_set xs i w s.1 f.1)

  set_at : (xs : List (K × ℕ)) (i : ℕ) (w q x : K × ℕ) → IsDistinct (tie o) xs → i < length xs → q ≡ get_or xs i q → holds o (set xs i w) x ≡ (tie o x w || (not (tie o x q) && holds o xs x))
  unfolding IsDistinct
  set_at [] i w q x s l e = absurd (omega arith)
  set_at (y ∷ ys) zero w q x s l e =
      ap (λ t. tie o x w || t)
      (gone (tie o x q) (holds o ys x) (λ t. ap (holds o ys) (same_tie o laws x q t ∙ e) ∙ none_held y ys s.0)
      ∙ ap (λ z. not (tie o x q) && (tie o x z || holds o ys x)) e)
  set_at (y ∷ ys) (suc i) w q x s l e =
      ap (λ t. tie o x y || t) (set_at ys i w q x s.1 (omega arith) e)
      ∙ passed (tie o x y) (tie o x w) (tie o x q) (holds o ys x)
      (λ t. ap (λ z. tie o z y) (same_tie o laws x q t ∙ e) ∙ flipped y (get_or ys i q) (All-from_recursion (λ z. tie o y z ≡ false) ys s.0 i q (omega arith)))

  -- ---- a pair taken out: the last one, w, takes its place

  module _ (xs : List (K × ℕ)) (s : IsDistinct (tie o) xs) (m : ℕ) (long : length xs ≡ suc m) (w : K × ℕ) (last : w ≡ get_or xs m w) where
    parts : xs ≡ take m xs ++ w ∷ []
    parts =
        let next : m + 1 ≡ length xs = omega arith in
        sym (take_all (m + 1) xs (omega arith)) ∙ take_more xs m w (omega arith) ∙ ap (λ y. take m xs ++ y ∷ []) (sym last)

    both : IsDistinct (tie o) (take m xs) × (holds o (take m xs) w ≡ false)
    both = distinct_pop (take m xs) w (subst (IsDistinct (tie o)) parts s)

    pub distinct_last : IsDistinct (tie o) (take m xs)
    distinct_last = both.0

    held_both : (x : K × ℕ) → holds o xs x ≡ (tie o x w || holds o (take m xs) x)
    held_both x = ap (λ ys. holds o ys x) parts ∙ push_at (take m xs) w x

    -- it is the last one itself
    pub holds_last : (q : K × ℕ) → q ≡ get_or xs m q → w ≡ q → holds o (take m xs) ≡ minus o q (holds o xs)
    holds_last q e is = λ j x. at x j
      where
        at : (x : K × ℕ) → holds o (take m xs) x ≡ (not (tie o x q) && holds o xs x)
        at x =
            gone (tie o x q) (holds o (take m xs) x) (λ t. ap (holds o (take m xs)) (same_tie o laws x q t ∙ sym is) ∙ both.1)
            ∙ ap (λ b. not (tie o x q) && b) (ap (λ z. tie o x z || holds o (take m xs) x) (sym is) ∙ sym (held_both x))

    module _ (i : ℕ) (q : K × ℕ) (low : i < m) (e : q ≡ get_or xs i q) where
      here : q ≡ get_or (take m xs) i q
      here = e ∙ sym (get_or-take m xs i q low)

      within : i < length (take m xs)
      within = let l = length-take-le m xs (omega arith) in omega arith

      pub distinct_moved : IsDistinct (tie o) (set (take m xs) i w)
      distinct_moved = distinct_set (take m xs) i w both.0 both.1

      -- the last one is another pair
      other : (x : K × ℕ) → tie o x q ≡ true → tie o x w ≡ false
      other x t =
          ap (λ z. tie o z w) (same_tie o laws x q t ∙ here)
          ∙ flipped w (get_or (take m xs) i q) (All-from_recursion (λ z. tie o w z ≡ false) (take m xs) (held_none w (take m xs) both.1) i q within)

      turn : (u t b : Bool) → (t ≡ true → u ≡ false) → (u || (not t && b)) ≡ (not t && (u || b))
      turn u true b h = ap (λ v. v || false) (h refl)
      turn u false b h = refl

      pub holds_moved : holds o (set (take m xs) i w) ≡ minus o q (holds o xs)
      holds_moved = λ j x. at x j
        where
          at : (x : K × ℕ) → holds o (set (take m xs) i w) x ≡ (not (tie o x q) && holds o xs x)
          at x =
              set_at (take m xs) i w q x both.0 within here
              ∙ turn (tie o x w) (tie o x q) (holds o (take m xs) x) (other x)
              ∙ ap (λ b. not (tie o x q) && b) (sym (held_both x))
