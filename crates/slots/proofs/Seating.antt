-- What chains over the slots come to. Assumes nothing.
use Rattle.std.proofs.Common.{◌≡◌, ℕ, suc, ◌+◌, Bool, true, false, not, ◌&&◌, ltb, List, [], ◌∷◌, set, is_some, Some, None, Option, MatchOption, cond, sym, refl, ap, ◌∙◌, subst, arith, count_by, position}
use Rattle.std.specs.List.{position_from, list_all}
use Rattle.std.proofs.lemmas.Iterator.Adapters.{position_from-zero}
use Rattle.std.proofs.lemmas.List.Sums.{sum_by-cons}
use Rattle.seeing.specs.declared.Transaction.{Transaction}
use Rattle.seeing.specs.Slots.{Slots}
use Rattle.slots.specs.Seats.{is_after}
use Rattle.rules.specs.Lists.{all, count, used}
use Rattle.rules.specs.Slots.{seat}

-- ---- the lowest free slot

abbrev pub is_free : Option Transaction → Bool
is_free x = not (is_some x)

-- the slot p, counted from i, is free, and there a new transaction is seated
abbrev SeatsFrom : Slots → ℕ → ℕ → Type 0
SeatsFrom ts i p = (q : ℕ) × (p ≡ i + q) × (all is_some ts ≡ false) × ((t : Transaction) → seat t ts ≡ set ts q (Some t))

seats_from : (ts : Slots) (i : ℕ) → MatchOption (position_from is_free i ts) (all is_some ts ≡ true) (SeatsFrom ts i)
seats_from [] i = refl
seats_from (None ∷ ts) i = (0, omega arith, refl, λ t. refl)
seats_from (Some u ∷ ts) i = go (position_from is_free (i + 1) ts) (seats_from ts (i + 1))
  where
    go : (o : Option ℕ) → MatchOption o (all is_some ts ≡ true) (SeatsFrom ts (i + 1)) → MatchOption o (all is_some ts ≡ true) (SeatsFrom (Some u ∷ ts) i)
    go None h = h
    go (Some p) w = (suc w.0, omega (arith, w.1), w.2, λ t. ap (λ xs. Some u ∷ xs) (w.3 t))

pub seats : (ts : Slots) (r : Option ℕ) → r ≡ position is_free ts → MatchOption r (all is_some ts ≡ true) (λ p. (all is_some ts ≡ false) × ((t : Transaction) → seat t ts ≡ set ts p (Some t)))
seats ts r e = go r (subst (λ o. MatchOption o (all is_some ts ≡ true) (SeatsFrom ts 0)) (sym (e ∙ position_from-zero is_free ts)) (seats_from ts 0))
  where
    go : (o : Option ℕ) → MatchOption o (all is_some ts ≡ true) (SeatsFrom ts 0) → MatchOption o (all is_some ts ≡ true) (λ p. (all is_some ts ≡ false) × ((t : Transaction) → seat t ts ≡ set ts p (Some t)))
    go None h = h
    go (Some p) w = let q : w.0 ≡ p = omega (arith, w.1) in (w.2, λ t. w.3 t ∙ ap (λ (r : ℕ). set ts r (Some t)) q)

-- ---- who began after a stamp

pub after_all : (s : ℕ) (ts : Slots) → list_all (is_after s) ts ≡ all (λ t. ltb s t.name) (used ts)
after_all s [] = refl
after_all s (None ∷ ts) = after_all s ts
after_all s (Some t ∷ ts) = ap (λ (b : Bool). ltb s t.name && b) (after_all s ts)

-- ---- how many marks

count_all : (ws : List Bool) → count_by (λ b. b) ws ≡ count (λ b. b) ws
count_all [] = refl
count_all (true ∷ ws) = let e = count_all ws in omega (arith, sum_by-cons (λ (b : Bool). cond b 1 0) true ws, e)
count_all (false ∷ ws) = let e = count_all ws in omega (arith, sum_by-cons (λ (b : Bool). cond b 1 0) false ws, e)

pub counted : (ws : List Bool) (r : ℕ) → r ≡ count_by (λ b. b) ws → r ≡ count (λ b. b) ws
counted ws r e = e ∙ count_all ws
