use Rattle.std.proofs.Common.{◌∙◌}
use Rattle.tables.proofs.Steps.{exit}
use Rattle.walks.proofs.Walking.{walk_stops, walk_goes_on}
use Rattle.walks.proofs.Search.survey.Goals as goal

pub returns-in_err-met : goal.returns-in_err-met
returns-in_err-met g c =
    exit _ _ c.from_residual.ensures.1
    ∙ walk_stops g.I.Key.Key.order c.args.self.now.slots.now c.args.self.now.versions.now c.args.self.now.name _ c.loop-key.survey _ c.loop-key.invariant _ _ c.in-Some.ensures.steps c.in_err-met.field-0.0 c.in_err-met.ensures.says

pub loop-key-preserved : goal.loop-key-preserved
loop-key-preserved g c =
    walk_goes_on g.I.Key.Key.order c.args.self.now.slots.now c.args.self.now.versions.now c.args.self.now.name _ c.loop-key.survey _ c.loop-key.invariant
    _ _ c.in-Some.ensures.steps c.in_ok-met.met c.meet-survey.result c.in_ok-met.ensures.says c.meet-survey.ensures
