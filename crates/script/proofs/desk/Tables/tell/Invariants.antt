use Rattle.std.proofs.Common.{◌≡◌, ◌+◌, ◌^◌, ◌<◌, ◌++◌, length, string_bytes}
use Rattle.script_lines.specs.Lines.{lines}
use Rattle.script.specs.Running.{desk_of, told}
use Rattle.script.proofs.desk.Tables.tell.Given as goal

-- what is written so far and what the lines left are to print make up the whole
abbrev pub invariant-loop-rest : goal.invariant-loop-rest
invariant-loop-rest g l =
    (string_bytes l.initial.out ++ told l.first (desk_of g.I.Index.pairs g.I.Index.limit l.initial.self) (lines l.text)
    ≡ string_bytes l.out ++ told l.line (desk_of g.I.Index.pairs g.I.Index.limit l.self) (lines l.rest))
    × (l.line + length l.rest < 2 ^ 64)

abbrev pub decreases-loop-rest : goal.decreases-loop-rest
decreases-loop-rest g l = length l.rest
