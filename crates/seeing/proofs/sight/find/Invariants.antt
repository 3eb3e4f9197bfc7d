use Rattle.std.proofs.Common.{◌≡◌, length, drop}
use Rattle.seeing.specs.Slots.{found}
use Rattle.seeing.proofs.sight.find.Given as goal

abbrev pub invariant-loop-i : goal.invariant-loop-i
invariant-loop-i l = (found l.slots l.name 0 ≡ found (drop l.i l.slots) l.name l.i) × (length l.slots ≡ 64)
