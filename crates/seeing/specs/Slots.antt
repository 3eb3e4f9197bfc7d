-- The slots of a store, each with a transaction or none. Assumes nothing.
use Rattle.std.specs.Prelude.{ℕ, ◌+◌, cond, List, [], ◌∷◌, Some, None, Option, ◌==◌}
use Rattle.seeing.specs.declared.Phase.{Phase}
use Rattle.seeing.specs.declared.Phase.TheVariants.{Aborted}
use Rattle.seeing.specs.declared.Transaction.{Transaction}
use Rattle.seeing.specs.Phases.{phase_to_others}

abbrev pub Slots : Type 0
Slots = List (Option Transaction)

-- the transaction of that name, or none
abbrev pub find : Slots → ℕ → Option Transaction
find [] n = None
find (None ∷ ts) n = find ts n
find (Some t ∷ ts) n = cond (t.name == n) (Some t) (find ts n)

-- its slot too, counted from i
abbrev pub found : Slots → ℕ → ℕ → Option (ℕ × Transaction)
found [] n i = None
found (None ∷ ts) n i = found ts n (i + 1)
found (Some t ∷ ts) n i = cond (t.name == n) (Some (i, t)) (found ts n (i + 1))

-- the phase that others take the transaction of that name to be in; an unknown one counts as aborted
abbrev pub seen_phase : Option Transaction → Phase
seen_phase None = Aborted
seen_phase (Some t) = phase_to_others t.doomed t.phase
