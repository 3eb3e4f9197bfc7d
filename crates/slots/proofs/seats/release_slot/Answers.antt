use Rattle.std.proofs.Common.{arith, false, set, None, ◌∙◌}
use Rattle.std.specs.Option.{option_map}
use Rattle.rules.specs.Slots.{with_waits}
use Rattle.std.proofs.lemmas.List.{get_or_default, length-set}
use Rattle.slots.proofs.Filled.{mapped_more}
use Rattle.slots.proofs.seats.release_slot.Goals as goal

pub loop-i-preserved : goal.loop-i-preserved
loop-i-preserved c = (
  mapped_more (option_map (λ u. with_waits (set u.waits c.args.slot false) u)) c.args.slots.now c.loop-i.i c.loop-i.slots _ _
      (omega (arith, c.told-slots, c.loop-i-test.true)) c.loop-i.invariant.0
      (get_or_default c.loop-i.slots c.loop-i.i None _ (omega (arith, c.loop-i.invariant.1, c.loop-i-test.true)))
      c.without_wait.ensures,
  length-set c.loop-i.slots c.loop-i.i c.without_wait.result ∙ c.loop-i.invariant.1,
)
