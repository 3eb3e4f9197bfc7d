use Rattle.std.proofs.Common.{◌≡◌}
use Rattle.validating.proofs.Nexts.{Found}
use Rattle.validating.proofs.order.next_note.Given as goal

abbrev pub invariant-loop-place : goal.invariant-loop-place
invariant-loop-place g l = Found l.owner l.last l.notes l.place-iterator.iter.iter.rest.now l.first × (l.place-iterator.iter.count ≡ 0)
