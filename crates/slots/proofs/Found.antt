-- A change of the one named is a write to its slot. Assumes nothing.
use Rattle.std.proofs.Common.{◌≡◌, ℕ, suc, ◌+◌, Bool, true, false, cond, eqb, [], ◌∷◌, set, Some, None, Option, refl, ap, ◌∙◌, arith}
use Rattle.seeing.specs.declared.Transaction.{Transaction}
use Rattle.seeing.specs.Slots.{Slots, found}
use Rattle.rules.specs.Slots.{change, unseat}

-- the slot found, counted from i, and what the two changes come to there
abbrev Written : Slots → ℕ → ℕ → ℕ → Transaction → Type 0
Written ts n i p t = (q : ℕ) × (p ≡ i + q) × ((f : Transaction → Transaction) → change n f ts ≡ set ts q (Some (f t))) × (unseat n ts ≡ set ts q None)

further : (u : Option Transaction) (ts : Slots) (n i p : ℕ) (t : Transaction) → ((f : Transaction → Transaction) → change n f (u ∷ ts) ≡ u ∷ change n f ts) → unseat n (u ∷ ts) ≡ u ∷ unseat n ts → Written ts n (i + 1) p t → Written (u ∷ ts) n i p t
further u ts n i p t c d w = (suc w.0, omega (arith, w.1), (λ f. c f ∙ ap (λ xs. u ∷ xs) (w.2 f)), d ∙ ap (λ xs. u ∷ xs) w.3)

written : (ts : Slots) (n i p : ℕ) (t : Transaction) → found ts n i ≡ Some (p, t) → Written ts n i p t
written [] n i p t e = let z : ◌≡◌ {A = ℕ} 0 1 = cc in absurd (omega arith)
written (None ∷ ts) n i p t e = further None ts n i p t (λ f. refl) refl (written ts n (i + 1) p t e)
written (Some u ∷ ts) n i p t e = go (eqb u.name n) refl e (written ts n (i + 1) p t)
  where
    go : (b : Bool) → eqb u.name n ≡ b → cond b (Some (i, u)) (found ts n (i + 1)) ≡ Some (p, t) → (found ts n (i + 1) ≡ Some (p, t) → Written ts n (i + 1) p t) → Written (Some u ∷ ts) n i p t
    go true b k h =
        let s : ◌≡◌ {A = ℕ × Transaction} (i, u) (p, t) = cc in (
          0,
          omega (arith, ap (λ (x : ℕ × Transaction). x.0) s),
          (λ f. ap (λ (z : Bool). cond z (Some (f u) ∷ ts) (Some u ∷ change n f ts)) b ∙ ap (λ (x : ℕ × Transaction). Some (f x.1) ∷ ts) s),
          ap (λ (z : Bool). cond z (None ∷ ts) (Some u ∷ unseat n ts)) b,
        )
    go false b k h =
        further (Some u) ts n i p t
        (λ f. ap (λ (z : Bool). cond z (Some (f u) ∷ ts) (Some u ∷ change n f ts)) b)
        (ap (λ (z : Bool). cond z (None ∷ ts) (Some u ∷ unseat n ts)) b)
        (h k)

module _ (ts : Slots) (n p : ℕ) (t : Transaction) (e : found ts n 0 ≡ Some (p, t)) where
  place : (written ts n 0 p t e).0 ≡ p
  place = let w = written ts n 0 p t e in omega (arith, w.1)

  pub change_found : (f : Transaction → Transaction) → change n f ts ≡ set ts p (Some (f t))
  change_found f = let w = written ts n 0 p t e in w.2 f ∙ ap (λ (q : ℕ). set ts q (Some (f t))) place

  pub unseat_found : unseat n ts ≡ set ts p None
  unseat_found = let w = written ts n 0 p t e in w.3 ∙ ap (λ (q : ℕ). set ts q None) place
