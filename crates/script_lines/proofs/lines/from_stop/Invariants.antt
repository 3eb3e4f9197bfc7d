use Rattle.std.proofs.Common.{◌≡◌, length}
use Rattle.script_lines.specs.Cuts.{from}
use Rattle.script_lines.proofs.lines.from_stop.Given as goal

abbrev pub invariant-loop-rest : goal.invariant-loop-rest
invariant-loop-rest l = from l.stop l.bytes ≡ from l.stop l.rest

abbrev pub decreases-loop-rest : goal.decreases-loop-rest
decreases-loop-rest l = length l.rest
