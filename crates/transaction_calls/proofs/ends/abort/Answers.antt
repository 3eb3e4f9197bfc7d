use Rattle.tables.proofs.Steps.{exit}
use Rattle.transaction_calls.proofs.Ending.{abort_unnamed, abort_phase, aborted}
use Rattle.transaction_calls.proofs.ends.abort.Goals as goal

pub returns-in_err-one : goal.returns-in_err-one
returns-in_err-one g c = abort_unnamed _ _ _ _ _ c.of.ensures _ _ c.in_err-one.ensures _ (exit _ _ c.from_residual.ensures.1)

pub returns-then-not-may_abort : goal.returns-then-not-may_abort
returns-then-not-may_abort g c = abort_phase _ _ _ _ _ c.of.ensures _ _ _ c.in_ok-one.ensures c.if-not-may_abort.ensures

pub returns : goal.returns
returns g c = aborted _ _ _ _ _ c.of.ensures _ _ _ c.in_ok-one.ensures c.if-not-may_abort.ensures _ c.abort_one.ensures
