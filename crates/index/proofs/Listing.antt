-- The set of an index as one list in order: what the calls of the trait say of it. Assumes nothing.
use Rattle.std.proofs.Common.{◌≡◌, ℕ, suc, ◌+◌, Bool, true, false, cond, not, ◌&&◌, ◌||◌, ◌⊎◌, List, [], ◌∷◌, length, Some, None, Ordering, Less, Equal, Greater, sym, refl, ap, ◌∙◌, inl, inr, ⊎_elim, true≢false, arith}
use Rattle.std.specs.Ordering.{is_eq, is_lt, is_le, ordering_reverse}
use Rattle.std.specs.List.{AllByRecursion, IsDistinct}
use Rattle.std.specs.List.Sorted.{IsStrictlySortedBy}
use Rattle.std.proofs.lemmas.Bool.{and_parts, and_from, and_right, and_left}
use Rattle.keys.specs.Laws.{TotalOrder}
use Rattle.index.specs.Sets.{pair_order, tie, holds, plus, minus}
use Rattle.index.specs.Listed.{keep, with_pair, listed, from_on, rest, Next}
use Rattle.index.proofs.Pairs.{pair_total, same_pair, same_tie, tie_itself, false_unless, three, Lt, Le, le_lt, turned, lt_tie, lt_place, next_above, above_next}

pub or_turn : (a b c : Bool) → (a || (b || c)) ≡ (b || (a || c))
or_turn true true c = refl
or_turn true false c = refl
or_turn false b c = refl

not_less : (a : Ordering) → is_lt a ≡ false → (a ≡ Equal) ⊎ (a ≡ Greater)
not_less Less h = absurd (true≢false h)
not_less Equal h = inl refl
not_less Greater h = inr refl

is_less : (a : Ordering) → is_lt a ≡ true → a ≡ Less
is_less Less h = refl
is_less Equal h = absurd (true≢false (sym h))
is_less Greater h = absurd (true≢false (sym h))

module _ {A : Type 0} where
  pub all_weaker : (P Q : A → Type 0) → ((x : A) → P x → Q x) → (xs : List A) → AllByRecursion P xs → AllByRecursion Q xs
  all_weaker P Q f [] a = tt
  all_weaker P Q f (x ∷ xs) a = (f x a.0, all_weaker P Q f xs a.1)

  all_keep : (f : A → Bool) (P : A → Type 0) (xs : List A) → AllByRecursion P xs → AllByRecursion P (keep f xs)
  all_keep f P [] a = tt
  all_keep f P (x ∷ xs) a = go (f x) (all_keep f P xs a.1)
    where
      go : (b : Bool) → AllByRecursion P (keep f xs) → AllByRecursion P (cond b (x ∷ keep f xs) (keep f xs))
      go true r = (a.0, r)
      go false r = r

  kept_pass : (f : A → Bool) (P : A → Type 0) → ((x : A) → f x ≡ true → P x) → (xs : List A) → AllByRecursion P (keep f xs)
  kept_pass f P h [] = tt
  kept_pass f P h (x ∷ xs) = go (f x) refl (kept_pass f P h xs)
    where
      go : (b : Bool) → f x ≡ b → AllByRecursion P (keep f xs) → AllByRecursion P (cond b (x ∷ keep f xs) (keep f xs))
      go true e r = (h x e, r)
      go false e r = r

  sorted_keep : (c : A → A → Ordering) (f : A → Bool) (xs : List A) → IsStrictlySortedBy c xs → IsStrictlySortedBy c (keep f xs)
  unfolding IsStrictlySortedBy
  sorted_keep c f [] s = tt
  sorted_keep c f (x ∷ xs) s = go (f x) (all_keep f (λ y. c x y ≡ Less) xs s.0) (sorted_keep c f xs s.1)
    where
      go : (b : Bool) → AllByRecursion (λ y. c x y ≡ Less) (keep f xs) → IsStrictlySortedBy c (keep f xs) → IsStrictlySortedBy c (cond b (x ∷ keep f xs) (keep f xs))
      go true a r = (a, r)
      go false a r = r

module _ {K : Type 0} (o : K → K → Ordering) (laws : TotalOrder o) where
  -- ---- what is held

  below_all : (x : K × ℕ) (xs : List (K × ℕ)) → AllByRecursion (λ y. pair_order o x y ≡ Less) xs → holds o xs x ≡ false
  below_all x [] a = refl
  below_all x (y ∷ ys) a = ap (λ t. t || holds o ys x) (lt_tie o laws x y a.0) ∙ below_all x ys a.1

  below_more : (x y : K × ℕ) (ys : List (K × ℕ)) → Lt o laws x y → AllByRecursion (λ z. pair_order o y z ≡ Less) ys → AllByRecursion (λ z. pair_order o x z ≡ Less) (y ∷ ys)
  below_more x y ys h a = (h, all_weaker (λ z. pair_order o y z ≡ Less) (λ z. pair_order o x z ≡ Less) (λ z e. (pair_total o laws).trans x y z h e) ys a)

  holds_first : (x : K × ℕ) (xs : List (K × ℕ)) → holds o (x ∷ xs) x ≡ true
  holds_first x xs = ap (λ t. t || holds o xs x) (tie_itself o laws x)

  -- ---- sorted lists that hold the same are one

  pub sorted_one : (xs ys : List (K × ℕ)) → IsStrictlySortedBy (pair_order o) xs → IsStrictlySortedBy (pair_order o) ys → ((q : K × ℕ) → holds o xs q ≡ holds o ys q) → xs ≡ ys
  unfolding IsStrictlySortedBy
  sorted_one [] [] s t h = refl
  sorted_one [] (y ∷ ys) s t h = absurd (true≢false (sym (holds_first y ys) ∙ sym (h y)))
  sorted_one (x ∷ xs) [] s t h = absurd (true≢false (sym (holds_first x xs) ∙ h x))
  sorted_one (x ∷ xs) (y ∷ ys) s t h =
      ⊎_elim
      (λ e. absurd (true≢false (sym (holds_first x xs) ∙ h x ∙ below_all x (y ∷ ys) (below_more x y ys e t.0))))
      (⊎_elim
      (λ e. let p = same_pair o laws x y e in let q = sorted_one xs ys s.1 t.1 (λ z. tails z (tie o z x) refl p) in λ i. p i ∷ q i)
      (λ e. absurd (true≢false (sym (holds_first y ys) ∙ sym (h y) ∙ below_all y (x ∷ xs) (below_more y x xs ((pair_total o laws).antisymm y x ∙ ap ordering_reverse e) s.0)))))
      (three (pair_order o x y))
    where
      tails : (z : K × ℕ) (b : Bool) → tie o z x ≡ b → x ≡ y → holds o xs z ≡ holds o ys z
      tails z true e p =
          let q = same_tie o laws z x e in
          ap (holds o xs) q ∙ below_all x xs s.0 ∙ sym (ap (holds o ys) (q ∙ p) ∙ below_all y ys t.0)
      tails z false e p =
          sym (ap (λ b. b || holds o xs z) e) ∙ h z ∙ ap (λ b. b || holds o ys z) (ap (tie o z) (sym p) ∙ e)

  -- ---- a pair put in its place

  with_at : (q : K × ℕ) (xs : List (K × ℕ)) (x : K × ℕ) → holds o (with_pair o q xs) x ≡ plus o q (holds o xs) x
  with_at q [] x = refl
  with_at q (y ∷ ys) x = go (is_lt (pair_order o q y)) (with_at q ys x)
    where
      go : (b : Bool) → holds o (with_pair o q ys) x ≡ plus o q (holds o ys) x → holds o (cond b (q ∷ y ∷ ys) (y ∷ with_pair o q ys)) x ≡ plus o q (holds o (y ∷ ys)) x
      go true h = refl
      go false h = ap (λ t. tie o x y || t) h ∙ or_turn (tie o x y) (tie o x q) (holds o ys x)

  all_with : (P : K × ℕ → Type 0) (q : K × ℕ) (xs : List (K × ℕ)) → P q → AllByRecursion P xs → AllByRecursion P (with_pair o q xs)
  all_with P q [] p a = (p, tt)
  all_with P q (y ∷ ys) p a = go (is_lt (pair_order o q y)) (all_with P q ys p a.1)
    where
      go : (b : Bool) → AllByRecursion P (with_pair o q ys) → AllByRecursion P (cond b (q ∷ y ∷ ys) (y ∷ with_pair o q ys))
      go true r = (p, a)
      go false r = (a.0, r)

  pub sorted_with : (q : K × ℕ) (xs : List (K × ℕ)) → IsStrictlySortedBy (pair_order o) xs → holds o xs q ≡ false → IsStrictlySortedBy (pair_order o) (with_pair o q xs)
  unfolding IsStrictlySortedBy
  sorted_with q [] s h = (tt, tt)
  sorted_with q (y ∷ ys) s h = go (is_lt (pair_order o q y)) refl (sorted_with q ys s.1)
    where
      right : (a b : Bool) → (a || b) ≡ false → b ≡ false
      right true b e = absurd (true≢false e)
      right false b e = e

      left : (a b : Bool) → (a || b) ≡ false → a ≡ false
      left true b e = absurd (true≢false e)
      left false b e = refl

      after : is_lt (pair_order o q y) ≡ false → pair_order o y q ≡ Less
      after e =
          ⊎_elim
          (λ f. absurd (true≢false (sym (ap is_eq f) ∙ left (tie o q y) (holds o ys q) h)))
          (λ f. (pair_total o laws).antisymm y q ∙ ap ordering_reverse f)
          (not_less (pair_order o q y) e)

      go : (b : Bool) → is_lt (pair_order o q y) ≡ b → (holds o ys q ≡ false → IsStrictlySortedBy (pair_order o) (with_pair o q ys)) → IsStrictlySortedBy (pair_order o) (cond b (q ∷ y ∷ ys) (y ∷ with_pair o q ys))
      go true e r = (below_more q y ys (is_less (pair_order o q y) e) s.0, s)
      go false e r = (all_with (λ z. pair_order o y z ≡ Less) q ys (after e) s.0, r (right (tie o q y) (holds o ys q) h))

  length_with : (q : K × ℕ) (xs : List (K × ℕ)) → length (with_pair o q xs) ≡ suc (length xs)
  length_with q [] = refl
  length_with q (y ∷ ys) = go (is_lt (pair_order o q y)) (length_with q ys)
    where
      go : (b : Bool) → length (with_pair o q ys) ≡ suc (length ys) → length (cond b (q ∷ y ∷ ys) (y ∷ with_pair o q ys)) ≡ suc (suc (length ys))
      go true h = refl
      go false h = ap suc h

  -- ---- the listing

  pub listed_at : (xs : List (K × ℕ)) (q : K × ℕ) → holds o (listed o xs) q ≡ holds o xs q
  listed_at [] q = refl
  listed_at (x ∷ xs) q = with_at x (listed o xs) q ∙ ap (λ t. tie o q x || t) (listed_at xs q)

  apart : (x : K × ℕ) (xs : List (K × ℕ)) → AllByRecursion (λ y. tie o x y ≡ false) xs → holds o xs x ≡ false
  apart x [] a = refl
  apart x (y ∷ ys) a = ap (λ t. t || holds o ys x) a.0 ∙ apart x ys a.1

  pub listed_sorted : (xs : List (K × ℕ)) → IsDistinct (tie o) xs → IsStrictlySortedBy (pair_order o) (listed o xs)
  unfolding IsStrictlySortedBy IsDistinct
  listed_sorted [] d = tt
  listed_sorted (x ∷ xs) d = sorted_with x (listed o xs) (listed_sorted xs d.1) (listed_at xs x ∙ apart x xs d.0)

  pub listed_length : (xs : List (K × ℕ)) → length (listed o xs) ≡ length xs
  listed_length [] = refl
  listed_length (x ∷ xs) = length_with x (listed o xs) ∙ ap suc (listed_length xs)

  -- two sets that hold the same have one listing
  pub listed_one : (xs ys : List (K × ℕ)) → IsDistinct (tie o) xs → IsDistinct (tie o) ys → ((q : K × ℕ) → holds o xs q ≡ holds o ys q) → listed o xs ≡ listed o ys
  listed_one xs ys d e h = sorted_one (listed o xs) (listed o ys) (listed_sorted xs d) (listed_sorted ys e) (λ q. listed_at xs q ∙ h q ∙ sym (listed_at ys q))

  -- the listing once a pair is put
  pub listed_put : (xs ys : List (K × ℕ)) (q : K × ℕ) → IsDistinct (tie o) xs → IsDistinct (tie o) ys → holds o xs q ≡ false → holds o ys ≡ plus o q (holds o xs) → listed o ys ≡ with_pair o q (listed o xs)
  listed_put xs ys q d e n h =
      sorted_one (listed o ys) (with_pair o q (listed o xs)) (listed_sorted ys e) (sorted_with q (listed o xs) (listed_sorted xs d) (listed_at xs q ∙ n))
      (λ z. listed_at ys z ∙ ap (λ f. f z) h ∙ sym (with_at q (listed o xs) z ∙ ap (λ t. tie o z q || t) (listed_at xs z)))

  -- ---- keeping some

  holds_keep : (f : K × ℕ → Bool) (xs : List (K × ℕ)) (q : K × ℕ) → holds o (keep f xs) q ≡ (f q && holds o xs q)
  holds_keep f [] q = go (f q)
    where
      go : (b : Bool) → false ≡ (b && false)
      go true = refl
      go false = refl
  holds_keep f (x ∷ xs) q = go (f x) (tie o q x) refl refl (holds_keep f xs q)
    where
      go : (b t : Bool) → f x ≡ b → tie o q x ≡ t → holds o (keep f xs) q ≡ (f q && holds o xs q) → holds o (cond b (x ∷ keep f xs) (keep f xs)) q ≡ (f q && (t || holds o xs q))
      go true true e g h = ap (λ w. w || holds o (keep f xs) q) g ∙ sym (and_from (f q) true (ap f (same_tie o laws q x g) ∙ e) refl)
      go true false e g h = ap (λ w. w || holds o (keep f xs) q) g ∙ h
      go false true e g h = h ∙ and_left (f q) (holds o xs q) (ap f (same_tie o laws q x g) ∙ e) ∙ sym (and_left (f q) true (ap f (same_tie o laws q x g) ∙ e))
      go false false e g h = h

  -- the listing once a pair is removed
  pub listed_remove : (xs ys : List (K × ℕ)) (q : K × ℕ) → IsDistinct (tie o) xs → IsDistinct (tie o) ys → holds o ys ≡ minus o q (holds o xs) → listed o ys ≡ keep (λ x. not (tie o x q)) (listed o xs)
  listed_remove xs ys q d e h =
      sorted_one (listed o ys) (keep (λ x. not (tie o x q)) (listed o xs)) (listed_sorted ys e) (sorted_keep (pair_order o) (λ x. not (tie o x q)) (listed o xs) (listed_sorted xs d))
      (λ z. listed_at ys z ∙ ap (λ f. f z) h ∙ sym (holds_keep (λ x. not (tie o x q)) (listed o xs) z ∙ ap (λ t. not (tie o z q) && t) (listed_at xs z)))

  -- ---- the first of the pairs from (k, p) on

  module _ (xs : List (K × ℕ)) (d : IsDistinct (tie o) xs) (k : K) (p : ℕ) (upper : K) where
    pub none_from : ((y : K × ℕ) → holds o xs y ≡ true → from_on o k p upper y ≡ false) → Next o k p upper xs None
    unfolding IsStrictlySortedBy
    none_from h =
        sorted_one (rest o k p upper xs) [] (sorted_keep (pair_order o) (from_on o k p upper) (listed o xs) (listed_sorted xs d)) tt
        (λ q. holds_keep (from_on o k p upper) (listed o xs) q ∙ ap (λ t. from_on o k p upper q && t) (listed_at xs q) ∙ go q (holds o xs q) refl)
      where
        go : (q : K × ℕ) (b : Bool) → holds o xs q ≡ b → (from_on o k p upper q && b) ≡ false
        go q true e = and_left (from_on o k p upper q) true (h q e)
        go q false e = and_right (from_on o k p upper q) false refl

    module _ (x : K × ℕ) (in_set : holds o xs x ≡ true) (low : Le o laws (k, p) x) (high : is_le (o x.0 upper) ≡ true) (lowest : (y : K × ℕ) → holds o xs y ≡ true → Le o laws (k, p) y → Lt o laws y x → ⊥) where
      here : from_on o k p upper x ≡ true
      here = and_from (is_le (pair_order o (k, p) x)) (is_le (o x.0 upper)) low high

      beyond : from_on o x.0 (x.1 + 1) upper x ≡ false
      beyond = and_left (is_le (pair_order o (x.0, x.1 + 1) x)) (is_le (o x.0 upper)) (ap is_le (turned o laws (x.0, x.1 + 1) x (lt_place o laws x.0 x.1 (x.1 + 1) (omega arith))))

      -- a pair other than x
      other : (y : K × ℕ) → holds o xs y ≡ true → (Lt o laws y x) ⊎ (Lt o laws x y) → from_on o k p upper y ≡ from_on o x.0 (x.1 + 1) upper y
      other y m (inl b) =
          and_left (is_le (pair_order o (k, p) y)) (is_le (o y.0 upper)) (false_unless (is_le (pair_order o (k, p) y)) (λ l. lowest y m l b))
          ∙ sym (and_left (is_le (pair_order o (x.0, x.1 + 1) y)) (is_le (o y.0 upper)) (ap is_le (turned o laws (x.0, x.1 + 1) y ((pair_total o laws).trans y x (x.0, x.1 + 1) b (lt_place o laws x.0 x.1 (x.1 + 1) (omega arith))))))
      other y m (inr b) =
          ap (λ t. t && is_le (o y.0 upper)) (ap is_le (le_lt o laws (k, p) x y low b) ∙ sym (above_next o laws x y b))

      same_held : (q : K × ℕ) (r : Ordering) (m : Bool) → pair_order o q x ≡ r → holds o xs q ≡ m → (from_on o k p upper q && m) ≡ (is_eq r || (from_on o x.0 (x.1 + 1) upper q && m))
      same_held q Less true e g = ap (λ t. t && true) (other q g (inl e))
      same_held q Less false e g = and_right (from_on o k p upper q) false refl ∙ sym (and_right (from_on o x.0 (x.1 + 1) upper q) false refl)
      same_held q Equal true e g = ap (λ t. from_on o k p upper t && true) (same_pair o laws q x e) ∙ ap (λ t. t && true) here
      same_held q Equal false e g = absurd (true≢false (sym in_set ∙ ap (holds o xs) (sym (same_pair o laws q x e)) ∙ g))
      same_held q Greater true e g = ap (λ t. t && true) (other q g (inr ((pair_total o laws).antisymm x q ∙ ap ordering_reverse e)))
      same_held q Greater false e g = and_right (from_on o k p upper q) false refl ∙ sym (and_right (from_on o x.0 (x.1 + 1) upper q) false refl)

      pub some_from : Next o k p upper xs (Some x)
      unfolding IsStrictlySortedBy
      some_from =
          sorted_one (rest o k p upper xs) (x ∷ rest o x.0 (x.1 + 1) upper xs)
          (sorted_keep (pair_order o) (from_on o k p upper) (listed o xs) (listed_sorted xs d)) headed
          (λ q.
          holds_keep (from_on o k p upper) (listed o xs) q ∙ ap (λ t. from_on o k p upper q && t) (listed_at xs q)
          ∙ same_held q (pair_order o q x) (holds o xs q) refl refl
          ∙ sym (ap (λ t. tie o q x || t) (holds_keep (from_on o x.0 (x.1 + 1) upper) (listed o xs) q ∙ ap (λ t. from_on o x.0 (x.1 + 1) upper q && t) (listed_at xs q))))
        where
          headed : IsStrictlySortedBy (pair_order o) (x ∷ rest o x.0 (x.1 + 1) upper xs)
          headed = (
            kept_pass (from_on o x.0 (x.1 + 1) upper) (λ y. pair_order o x y ≡ Less)
                (λ y e. next_above o laws x.0 x.1 y (and_parts (is_le (pair_order o (x.0, x.1 + 1) y)) (is_le (o y.0 upper)) e).0) (listed o xs),
            sorted_keep (pair_order o) (from_on o x.0 (x.1 + 1) upper) (listed o xs) (listed_sorted xs d),
          )
