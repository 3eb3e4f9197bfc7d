use Rattle.std.proofs.Common.{◌≡◌, ◌≤◌, length}
use Rattle.script_lines.specs.Growing.{all_grown}
use Rattle.script_lines.proofs.numbers.up_to.Given as goal

abbrev pub invariant-loop-rest : goal.invariant-loop-rest
invariant-loop-rest l = (all_grown l.max 0 l.digits ≡ all_grown l.max l.n l.rest) × (l.n ≤ l.max)

abbrev pub decreases-loop-rest : goal.decreases-loop-rest
decreases-loop-rest l = length l.rest
