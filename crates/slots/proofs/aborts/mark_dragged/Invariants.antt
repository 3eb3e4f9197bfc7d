use Rattle.std.proofs.Common.{◌≡◌}
use Rattle.rules.specs.Aborting.{spread_for}
use Rattle.slots.proofs.aborts.mark_dragged.Given as goal

abbrev pub invariant-loop-i : goal.invariant-loop-i
invariant-loop-i l = l.marks ≡ spread_for l._i l.slots l.initial.marks
