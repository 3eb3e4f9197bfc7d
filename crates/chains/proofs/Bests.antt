-- The lowest place and the lowest key, with one pair more. Assumes nothing.
use Rattle.std.proofs.Common.{◌≡◌, ℕ, ◌<◌, ◌≤◌, Bool, true, false, cond, ◌||◌, ltb, List, [], ◌∷◌, ◌++◌, Some, None, Option, Ordering, Less, Equal, Greater, sym, refl, ap, ◌∙◌, true≢false, arith}
use Rattle.std.specs.Ordering.{is_eq, is_lt}
use Rattle.std.proofs.lemmas.Bool.{ltb-true, ltb-false, or_right}
use Rattle.keys.specs.Laws.{TotalOrder}
use Rattle.index.specs.Sets.{tie, holds, Lowest, LowestKey, reaches}
use Rattle.index.proofs.Pairs.{same_tie, tie_itself, false_unless, is_equal}
use Rattle.chains.specs.Best.{lower_of, closer, nearer_of}
use Rattle.chains.proofs.Swaps.{push_at}

-- ---- places

lowest_same : (P Q : ℕ → Bool) (from : ℕ) (r : Option ℕ) → ((p : ℕ) → Q p ≡ P p) → Lowest P from r → Lowest Q from r
lowest_same P Q from None e l = λ p h. e p ∙ l p h
lowest_same P Q from (Some b) e l = (l.0, e b ∙ l.1, λ p h k. e p ∙ l.2 p h k)

module _ (P Q : ℕ → Bool) (from v : ℕ) (there : Q v ≡ true) (other : (p : ℕ) → (p ≡ v → ⊥) → Q p ≡ P p) where
  below_none : (t : Bool) → ltb v from ≡ t → Lowest P from None → Lowest Q from (cond t None (Some v))
  below_none true e l = let low : v < from = ltb-true v from e in λ p h. other p (omega arith) ∙ l p h
  below_none false e l = let high : from ≤ v = ltb-false v from e in (high, there, λ p h k. other p (omega arith) ∙ l p h)

  below_some : (b : ℕ) (t u : Bool) → ltb v from ≡ t → ltb b v ≡ u → Lowest P from (Some b) → Lowest Q from (cond t (Some b) (cond u (Some b) (Some v)))
  below_some b true u e f l = let low : v < from = ltb-true v from e in let in' = l.0 in (l.0, other b (omega arith) ∙ l.1, λ p h k. other p (omega arith) ∙ l.2 p h k)
  below_some b false true e f l = let low : b < v = ltb-true b v f in (l.0, other b (omega arith) ∙ l.1, λ p h k. other p (omega arith) ∙ l.2 p h k)
  below_some b false false e f l =
      let high : from ≤ v = ltb-false v from e in
      let low : v ≤ b = ltb-false b v f in
      (high, there, λ p h k. other p (omega arith) ∙ l.2 p h (omega arith))

  lowest_more : (best : Option ℕ) → Lowest P from best → Lowest Q from (lower_of best from v)
  lowest_more None l = below_none (ltb v from) refl l
  lowest_more (Some b) l = below_some b (ltb v from) (ltb b v) refl refl l

module _ {K : Type 0} (o : K → K → Ordering) (laws : TotalOrder o) (k : K) (x : K × ℕ) (P Q : ℕ → Bool) (one : (p : ℕ) → Q p ≡ (tie o (k, p) x || P p)) (from : ℕ) (best : Option ℕ) (l : Lowest P from best) where
  -- the best place once the pair x is looked at
  pub place_more : (t : Bool) → is_eq (o k x.0) ≡ t → Lowest Q from (cond t (lower_of best from x.1) best)
  place_more true e =
      let is : k ≡ x.0 = laws.same k x.0 (is_equal (o k x.0) e) in
      lowest_more P Q from x.1
      (one x.1 ∙ ap (λ t. t || P x.1) (ap (λ y. tie o (y, x.1) x) is ∙ tie_itself o laws x))
      (λ p n. one p ∙ ap (λ t. t || P p) (false_unless (tie o (k, p) x) (λ t. n (ap (λ (y : K × ℕ). y.1) (same_tie o laws (k, p) x t)))))
      best l
  place_more false e =
      lowest_same P Q from best
      (λ p. one p ∙ ap (λ t. t || P p) (false_unless (tie o (k, p) x) (λ t. true≢false (sym (ap is_eq (ap (o k) (sym (ap (λ (y : K × ℕ). y.0) (same_tie o laws (k, p) x t))) ∙ laws.itself k)) ∙ e))))
      l

-- ---- keys

is_less : (r : Ordering) → is_lt r ≡ true → r ≡ Less
is_less Less e = refl
is_less Equal e = absurd (true≢false (sym e))
is_less Greater e = absurd (true≢false (sym e))

module _ {K : Type 0} (o : K → K → Ordering) (laws : TotalOrder o) (ys : List (K × ℕ)) (k : K) (s : Bool) (x : K × ℕ) where
  not_x : (z : K × ℕ) → (z ≡ x → ⊥) → holds o (ys ++ x ∷ []) z ≡ holds o ys z
  not_x z n = push_at o laws ys x z ∙ ap (λ t. t || holds o ys z) (false_unless (tie o z x) (λ t. n (same_tie o laws z x t)))

  still : (z : K × ℕ) → holds o ys z ≡ true → holds o (ys ++ x ∷ []) z ≡ true
  still z e = push_at o laws ys x z ∙ or_right (tie o z x) (holds o ys z) e

  at_x : holds o (ys ++ x ∷ []) (x.0, x.1) ≡ true
  at_x = push_at o laws ys x x ∙ ap (λ t. t || holds o ys x) (tie_itself o laws x)

  not_below : (z : K × ℕ) → o z.0 x.0 ≡ Less → z ≡ x → ⊥
  not_below z l e = true≢false (sym (ap is_lt l) ∙ ap (λ (y : K × ℕ). is_lt (o y.0 x.0)) e ∙ ap is_lt (laws.itself x.0))

  far : reaches s (o k x.0) ≡ false → (z : K × ℕ) → reaches s (o k z.0) ≡ true → z ≡ x → ⊥
  far f z r e = true≢false (sym r ∙ ap (λ (y : K × ℕ). reaches s (o k y.0)) e ∙ f)

  key_far : (best : Option K) → reaches s (o k x.0) ≡ false → LowestKey o ys k s best → LowestKey o (ys ++ x ∷ []) k s best
  key_far None f l = λ z r. not_x z (far f z r) ∙ l z r
  key_far (Some b) f l = (l.0, (l.1.0, still (b, l.1.0) l.1.1), λ z r g. not_x z (far f z r) ∙ l.2 z r g)

  key_pick : (b : K) (t : Bool) → is_lt (o x.0 b) ≡ t → reaches s (o k x.0) ≡ true → LowestKey o ys k s (Some b) → LowestKey o (ys ++ x ∷ []) k s (cond t (Some x.0) (Some b))
  key_pick b true e f l = (f, (x.1, at_x), λ z r g. not_x z (not_below z g) ∙ l.2 z r (laws.trans z.0 x.0 b g (is_less (o x.0 b) e)))
  key_pick b false e f l = (l.0, (l.1.0, still (b, l.1.0) l.1.1), λ z r g. not_x z (λ w. true≢false (sym (ap is_lt g) ∙ ap (λ (y : K × ℕ). is_lt (o y.0 b)) w ∙ e)) ∙ l.2 z r g)

  key_near : (best : Option K) → reaches s (o k x.0) ≡ true → LowestKey o ys k s best → LowestKey o (ys ++ x ∷ []) k s (closer o best x.0)
  key_near None f l = (f, (x.1, at_x), λ z r g. not_x z (not_below z g) ∙ l z r)
  key_near (Some b) f l = key_pick b (is_lt (o x.0 b)) refl f l

  key_by : (best : Option K) (t : Bool) → reaches s (o k x.0) ≡ t → LowestKey o ys k s best → LowestKey o (ys ++ x ∷ []) k s (cond t (closer o best x.0) best)
  key_by best true f l = key_near best f l
  key_by best false f l = key_far best f l

  -- the best key once the pair x is looked at
  pub key_more : (best : Option K) → LowestKey o ys k s best → LowestKey o (ys ++ x ∷ []) k s (nearer_of o best k s x.0)
  key_more best l = key_by best (reaches s (o k x.0)) refl l
