use Rattle.std.proofs.Common.{◌<◌, length, rules, arith}
use Rattle.script.proofs.Wholes.{one_more, the_last, no_more}
use Rattle.script.proofs.desk.Tables.tell.Goals as goal

pub returns-then-not-goes : goal.returns-then-not-goes
returns-then-not-goes g c =
    the_last _ _ c.loop-rest.line _ _ c.loop-rest.invariant.0 c.cut_line.result.0.now _ (c.cut_line.ensures.lines (search rules)) _ _ c.in_ok-goes.goes c.in_ok-goes.ensures c.if-not-goes.true

pub loop-rest-preserved : goal.loop-rest-preserved
loop-rest-preserved g c =
    let some : 0 < length c.loop-rest.rest.now = search rules in
    let less = c.cut_line.ensures.shorter some in
    let fits = c.loop-rest.invariant.1 in (
      one_more _ _ c.loop-rest.line _ _ c.loop-rest.invariant.0 c.cut_line.result.0.now _ (c.cut_line.ensures.lines some) _ _ c.in_ok-goes.goes c.in_ok-goes.ensures c.if-not-goes.false,
      omega (arith, less, fits),
    )

pub returns : goal.returns
returns g c = no_more _ _ c.loop-rest.line _ c.loop-rest.rest.now c.loop-rest.invariant.0 (search rules)
