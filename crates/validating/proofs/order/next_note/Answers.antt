use Rattle.std.proofs.Common.{◌∙◌, arith, rules}
use Rattle.validating.proofs.Nexts.{next_none, next_more, is_next}
use Rattle.validating.proofs.order.next_note.Goals as goal

pub loop-place-init : goal.loop-place-init
loop-place-init g c = (next_none c.args.owner c.args.last c.args.notes.now _ (search rules), search rules)

pub loop-place-preserved : goal.loop-place-preserved
loop-place-preserved g c =
    let e = c.in-Some.ensures.steps in (
      next_more c.args.owner c.args.last c.args.notes.now _ _ c.loop-place.first _ c.loop-place.invariant.0 c.in-Some.entry.now c.in-Some.place e.1.0 (omega (arith, e.1.1, c.loop-place.invariant.1)) (search rules),
      e.0 ∙ c.loop-place.invariant.1,
    )

pub returns : goal.returns
returns g c = is_next c.args.owner c.args.last c.args.notes.now _ c.loop-place.first c.in-None.ensures.steps.1.0 c.loop-place.invariant.0
