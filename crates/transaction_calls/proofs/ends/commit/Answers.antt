use Rattle.tables.proofs.Steps.{exit}
use Rattle.transaction_calls.proofs.Ending.{commit_unnamed, commit_unsound, commit_waits, committed}
use Rattle.transaction_calls.proofs.ends.commit.Goals as goal

pub returns-in_err-one : goal.returns-in_err-one
returns-in_err-one g c = commit_unnamed _ _ _ _ _ c.of.ensures _ _ c.in_err-one.ensures _ (exit _ _ c.from_residual.ensures.1)

pub returns-in_err-stamp : goal.returns-in_err-stamp
returns-in_err-stamp g c = commit_unsound _ _ _ _ _ c.of.ensures _ _ _ c.in_ok-one.ensures _ c.if_validated.ensures _ c.in_err-stamp.ensures _ (exit _ _ c.from_residual-in_err-stamp.ensures.1)

pub returns-then-is_any : goal.returns-then-is_any
returns-then-is_any g c = commit_waits _ _ _ _ _ c.of.ensures _ _ _ c.in_ok-one.ensures _ c.if_validated.ensures _ c.in_ok-stamp.ensures _ c.count_waits-waited_on.ensures c.if-is_any.ensures

pub returns : goal.returns
returns g c = committed _ _ _ _ _ c.of.ensures _ _ _ c.in_ok-one.ensures _ c.if_validated.ensures _ c.in_ok-stamp.ensures _ c.count_waits-waited_on.ensures c.if-is_any.ensures _ c.commit_one.ensures
