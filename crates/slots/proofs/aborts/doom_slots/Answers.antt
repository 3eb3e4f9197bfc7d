use Rattle.std.proofs.Common.{false, get_or, None, rules}
use Rattle.rules.specs.Aborting.{after_abort, doom_marked}
use Rattle.slots.proofs.Filled.{from_fn_all}
use Rattle.slots.proofs.aborts.doom_slots.Goals as goal

pub returns : goal.returns
unfolding doom_marked
returns c = from_fn_all _ (λ k. after_abort c.args.name (get_or c.args.marks.now k false) (get_or c.args.slots k None)) _ (λ i y q k. search rules) c.from_fn.result 64 None c.from_fn.ensures.items
