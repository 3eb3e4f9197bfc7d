-- What is written so far is the text of the rows so far.
use Rattle.std.proofs.Common.{◌≡◌, ◌++◌, take, string_bytes}
use Rattle.script_text.specs.Texts.{rows_text}
use Rattle.script_text.proofs.lines.say_rows.Given as goal

abbrev pub invariant-loop-row : goal.invariant-loop-row
invariant-loop-row l = string_bytes l.out ≡ string_bytes l.initial.out ++ rows_text l.line (take l.row-index l.rows)
