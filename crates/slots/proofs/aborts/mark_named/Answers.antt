use Rattle.std.proofs.Common.{false, get_or, None, rules}
use Rattle.rules.specs.Aborting.{is_named, named_marks}
use Rattle.slots.proofs.Filled.{from_fn_all}
use Rattle.slots.proofs.aborts.mark_named.Goals as goal

pub returns : goal.returns
unfolding named_marks
returns c = from_fn_all _ (λ k. is_named c.args.name (get_or c.args.slots.now k None)) _ (λ i y q k. search rules) c.from_fn.result 64 false c.from_fn.ensures.items
