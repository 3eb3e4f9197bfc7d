use Rattle.tables.proofs.Steps.{exit}
use Rattle.transaction_calls.proofs.Ending.{finish_unnamed, finish_phase, finished}
use Rattle.transaction_calls.proofs.ends.finish.Goals as goal

pub returns-in_err-one : goal.returns-in_err-one
returns-in_err-one g c = finish_unnamed _ _ _ _ _ c.of.ensures _ _ c.in_err-one.ensures _ (exit _ _ c.from_residual.ensures.1)

pub returns-then-not-may_finish : goal.returns-then-not-may_finish
returns-then-not-may_finish g c = finish_phase _ _ _ _ _ c.of.ensures _ _ _ c.in_ok-one.ensures c.if-not-may_finish.ensures

pub returns : goal.returns
returns g c = finished _ _ _ _ _ c.of.ensures _ _ _ c.in_ok-one.ensures c.if-not-may_finish.ensures _ _ c.settle_all.ensures c.free_notes.ensures
