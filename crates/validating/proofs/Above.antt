-- The order of notes by number and then place. Assumes nothing.
use Rattle.std.proofs.Common.{◌≡◌, ℕ, ◌<◌, ◌≤◌, Bool, true, false, ◌&&◌, eqb, ltb, ◌⊎◌, Some, None, Option, sym, refl, ◌∙◌, inl, inr, ⊎_elim, arith}
use Rattle.std.proofs.lemmas.Bool.{ltb-true, lt-ltb, eqb-true, eq-eqb, and_parts, and_from, or_cases, or_left, or_right, cases_order, cases_Bool, both_ways}
use Rattle.validating.specs.Order.{above}

above_parts : (a p b q : ℕ) → above (Some (a, p)) b q ≡ true → (a < b) ⊎ ((a ≡ b) × (p < q))
above_parts a p b q h =
    ⊎_elim (λ l. inl (ltb-true a b l)) (λ r. let e = and_parts (eqb a b) (ltb p q) r in inr (eqb-true a b e.0, ltb-true p q e.1))
    (or_cases (ltb a b) (eqb a b && ltb p q) h)

pub above_number : (a p b q : ℕ) → a < b → above (Some (a, p)) b q ≡ true
above_number a p b q h = or_left (ltb a b) (eqb a b && ltb p q) (lt-ltb a b h)

above_place : (a p b q : ℕ) → a ≡ b → p < q → above (Some (a, p)) b q ≡ true
above_place a p b q e h = or_right (ltb a b) (eqb a b && ltb p q) (and_from (eqb a b) (ltb p q) (eq-eqb a b e) (lt-ltb p q h))

-- further on in the table, and of no lower number
pub above_since : (a p b q : ℕ) → a ≤ b → p < q → above (Some (a, p)) b q ≡ true
above_since a p b q l h =
    ⊎_elim (λ e. above_place a p b q e h) (λ o. ⊎_elim (λ k. above_number a p b q k) (λ k. absurd (omega (arith, l, k))) o)
    (cases_order a b)

pub above_trans : (last : Option (ℕ × ℕ)) (a p b q : ℕ) → above last a p ≡ true → above (Some (a, p)) b q ≡ true → above last b q ≡ true
above_trans None a p b q h k = refl
above_trans (Some x) a p b q h k =
    ⊎_elim
    (λ l. ⊎_elim (λ m. above_number x.0 x.1 b q (omega (arith, l, m))) (λ m. above_number x.0 x.1 b q (omega (arith, l, m.0))) (above_parts a p b q k))
    (λ l. ⊎_elim (λ m. above_number x.0 x.1 b q (omega (arith, l.0, m))) (λ m. above_place x.0 x.1 b q (omega (arith, l.0, m.0)) (omega (arith, l.1, m.1))) (above_parts a p b q k))
    (above_parts x.0 x.1 a p h)

unless : (t : Bool) → (t ≡ true → ⊥) → t ≡ false
unless true h = absurd (h refl)
unless false h = refl

pub not_above_itself : (a p : ℕ) → above (Some (a, p)) a p ≡ false
not_above_itself a p = unless _ (λ h. ⊎_elim (λ l. absurd (omega (arith, l))) (λ l. absurd (omega (arith, l.1))) (above_parts a p a p h))

-- what is not after the last one is not after a later one
pub not_above_later : (last : Option (ℕ × ℕ)) (a p b q : ℕ) → above last a p ≡ true → above last b q ≡ false → above (Some (a, p)) b q ≡ false
not_above_later last a p b q h k = unless _ (λ m. both_ways _ k (above_trans last a p b q h m))

-- a later one lets pass the same, of those further on and of no lower number
pub above_same : (last : Option (ℕ × ℕ)) (a p b q : ℕ) → above last a p ≡ true → p < q → (above last b q ≡ true → a ≤ b) → above (Some (a, p)) b q ≡ above last b q
above_same last a p b q h l m =
    ⊎_elim (λ t. above_since a p b q (m t) l ∙ sym t) (λ f. not_above_later last a p b q h f ∙ sym f) (cases_Bool (above last b q))
