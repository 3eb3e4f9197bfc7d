use Rattle.std.proofs.lemmas.Bool.{le-ltb}
use Rattle.script.proofs.Wholes.{under_heading, in_lines}
use Rattle.script.proofs.run.run_script.Goals as goal

pub returns-clause-text : goal.returns-clause-text
returns-clause-text c =
    under_heading c.args.script.now _ _ _ c.cut_line.result.0.now c.cut_line.result.1.now c.index_kind.result c.new-out.ensures.bytes c.in_ok-say_heading.ensures c.index_kind.ensures c.in_ok-run_lines.ensures
    (in_lines c.args.script.now c.cut_line.result.0.now c.cut_line.result.1.now c.cut_line.ensures.lines c.cut_line.ensures.none.0 c.cut_line.ensures.none.1 (le-ltb 65536 _ c.if-script-gt-LONGEST.false))
