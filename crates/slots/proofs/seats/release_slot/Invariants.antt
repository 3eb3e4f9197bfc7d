use Rattle.std.proofs.Common.{◌≡◌, ◌++◌, false, length, map, take, drop, set}
use Rattle.std.specs.Option.{option_map}
use Rattle.rules.specs.Slots.{with_waits}
use Rattle.slots.proofs.seats.release_slot.Given as goal

abbrev pub invariant-loop-i : goal.invariant-loop-i
invariant-loop-i l = (l.slots ≡ map (option_map (λ u. with_waits (set u.waits l.slot false) u)) (take l.i l.initial.slots) ++ drop l.i l.initial.slots) × (length l.slots ≡ 64)
