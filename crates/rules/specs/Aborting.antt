-- An abort: the transaction named, and all that wait on it, directly or through others. Assumes nothing.
-- The lists of 64 are unfoldable, so that goals do not print 64 nested terms.
use Rattle.std.specs.Prelude.{ℕ, zero, suc, Bool, true, false, cond, ◌&&◌, ◌||◌, List, map, Some, None, Option, ◌==◌, slice_index_or}
use Rattle.std.specs.List.{range_with_len}
use Rattle.seeing.specs.declared.Phase.TheVariants.{Aborted}
use Rattle.seeing.specs.declared.Transaction.{Transaction}
use Rattle.seeing.specs.Slots.{Slots}
use Rattle.rules.specs.declared.Store.{Store}
use Rattle.rules.specs.Lists.{some_below}
use Rattle.rules.specs.Worlds.{with_slots}
use Rattle.rules.specs.Slots.{nobody, with_phase, with_waits, one_more_abort}

abbrev pub is_named : ℕ → Option Transaction → Bool
is_named n None = false
is_named n (Some t) = t.name == n

-- a mark in both
unfoldable pub meets : List Bool → List Bool → Bool
meets xs ys = some_below (λ i. slice_index_or xs i false && slice_index_or ys i false) 64

abbrev pub waits_on : List Bool → Option Transaction → Bool
waits_on marks None = false
waits_on marks (Some t) = meets t.waits marks

-- whoever waits on a marked one is marked too
unfoldable pub spread : Slots → List Bool → List Bool
spread ts marks = map (λ i. slice_index_or marks i false || waits_on marks (slice_index_or ts i None)) (range_with_len 0 64)

abbrev pub spread_for : ℕ → Slots → List Bool → List Bool
spread_for zero ts marks = marks
spread_for (suc n) ts marks = spread ts (spread_for n ts marks)

-- the mark of the one named
unfoldable pub named_marks : Slots → ℕ → List Bool
named_marks ts n = map (λ i. is_named n (slice_index_or ts i None)) (range_with_len 0 64)

-- the marks of the one named and of all that wait on it, directly or through others
unfoldable pub dragged : Slots → ℕ → List Bool
dragged ts n = spread_for 64 ts (named_marks ts n)

abbrev pub abort_one : Transaction → Transaction
abort_one t = with_phase Aborted (with_waits nobody t)

abbrev pub doom : Transaction → Transaction
doom t = record { name = t.name; level = t.level; phase = t.phase; doomed = true; made = t.made; waits = nobody }

-- what becomes of a transaction where the one named aborts
abbrev pub after_abort : ℕ → Bool → Option Transaction → Option Transaction
after_abort n marked None = None
after_abort n marked (Some t) = Some (cond (t.name == n) (abort_one t) (cond marked (doom t) t))

unfoldable pub doom_marked : ℕ → Slots → List Bool → Slots
doom_marked n ts marks = map (λ i. after_abort n (slice_index_or marks i false) (slice_index_or ts i None)) (range_with_len 0 64)

-- the store after an abort of the one named
abbrev pub abort_store : ℕ → Store → Store
abort_store n s = one_more_abort (with_slots s (doom_marked n s.slots (dragged s.slots n)))
