use Rattle.std.proofs.Common.{ap, ◌∙◌}
use Rattle.rules.specs.Aborting.{dragged, spread_for}
use Rattle.slots.proofs.Filled.{spread_step, spread_end}
use Rattle.slots.proofs.aborts.mark_dragged.Goals as goal

pub loop-i-preserved : goal.loop-i-preserved
loop-i-preserved c = spread_step c.loop-i._i c.args.slots.now c.mark_named-marks.result c.loop-i.marks c.spread_once-next.result c.loop-i.invariant c.spread_once-next.ensures

pub returns : goal.returns
unfolding dragged
returns c =
    spread_end c.loop-i._i c.args.slots.now c.mark_named-marks.result c.loop-i.marks c.loop-i-test.false c.loop-i.auto._i-end c.loop-i.invariant
    ∙ ap (spread_for 64 c.args.slots.now) c.mark_named-marks.ensures
