-- `find` is what `found` gives without the slot. Assumes nothing.
use Rattle.std.proofs.Common.{◌≡◌, ℕ, ◌+◌, Bool, true, false, cond, eqb, [], ◌∷◌, Some, None, refl}
use Rattle.std.specs.Option.{option_map}
use Rattle.seeing.specs.Slots.{Slots, found, find}

pub find_found : (ts : Slots) (n i : ℕ) → find ts n ≡ option_map (λ x. x.1) (found ts n i)
find_found [] n i = refl
find_found (None ∷ ts) n i = find_found ts n (i + 1)
find_found (Some t ∷ ts) n i = go (eqb t.name n) (find_found ts n (i + 1))
  where
    go : (b : Bool) → find ts n ≡ option_map (λ x. x.1) (found ts n (i + 1)) → cond b (Some t) (find ts n) ≡ option_map (λ x. x.1) (cond b (Some (i, t)) (found ts n (i + 1)))
    go true h = refl
    go false h = h
