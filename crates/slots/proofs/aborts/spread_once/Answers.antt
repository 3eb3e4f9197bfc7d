use Rattle.std.proofs.Common.{false, ◌||◌, get_or, None, rules}
use Rattle.rules.specs.Aborting.{waits_on, spread}
use Rattle.slots.proofs.Filled.{from_fn_all}
use Rattle.slots.proofs.aborts.spread_once.Goals as goal

pub returns : goal.returns
unfolding spread
returns c = from_fn_all _ (λ k. get_or c.args.marks k false || waits_on c.args.marks (get_or c.args.slots.now k None)) _ (λ i y q k. search rules) c.from_fn.result 64 false c.from_fn.ensures.items
