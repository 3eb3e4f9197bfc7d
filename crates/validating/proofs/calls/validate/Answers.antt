use Rattle.tables.proofs.Steps.{exit}
use Rattle.validating.proofs.Verdicts.{unnamed_one, unsound_one, test_fails, verdict_given}
use Rattle.validating.proofs.calls.validate.Goals as goal

pub returns-in_err-one : goal.returns-in_err-one
returns-in_err-one g c rows = unnamed_one g.I.Key.Key.order _ _ _ (g.I.Index.pairs c.args.index.now) _ _ c.of.ensures rows c.args.transaction _ c.in_err-one.ensures _ (exit _ _ c.from_residual.ensures.1)

pub returns-in_err-end : goal.returns-in_err-end
returns-in_err-end g c rows = unsound_one g.I.Key.Key.order _ _ _ (g.I.Index.pairs c.args.index.now) _ _ c.of.ensures rows c.args.transaction _ _ c.in_ok-one.ensures _ c.if_preparing.ensures _ c.in_err-end.ensures _ (exit _ _ c.from_residual-in_err-end.ensures.1)

pub returns-in_err-verdict : goal.returns-in_err-verdict
returns-in_err-verdict g c rows = test_fails g.I.Key.Key.order _ _ _ (g.I.Index.pairs c.args.index.now) _ _ c.of.ensures rows c.args.transaction _ _ c.in_ok-one.ensures _ c.if_preparing.ensures _ c.in_ok-end.ensures _ c.in_err-verdict.ensures _ (exit _ _ c.from_residual-in_err-verdict.ensures.1)

pub returns : goal.returns
returns g c rows = verdict_given g.I.Key.Key.order _ _ _ (g.I.Index.pairs c.args.index.now) _ _ c.of.ensures rows c.args.transaction _ _ c.in_ok-one.ensures _ c.if_preparing.ensures _ c.in_ok-end.ensures _ _ _ c.in_ok-verdict.ensures c.conclude.ensures.leaves c.conclude.ensures.answers
