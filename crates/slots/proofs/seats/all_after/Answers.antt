use Rattle.std.proofs.Common.{◌∙◌, rules, tests}
use Rattle.std.proofs.lemmas.Iterator.{YieldsList-from_slice}
use Rattle.std.proofs.lemmas.Iterator.Search.{all_from_yields_List}
use Rattle.slots.specs.Seats.{is_after}
use Rattle.slots.proofs.Seating.{after_all}
use Rattle.slots.proofs.seats.all_after.Goals as goal

pub returns : goal.returns
returns c =
    all_from_yields_List (is_after c.args.stamp) c.all.new.self _ _ c.all.ensures.ran (YieldsList-from_slice c.args.slots.now cc) (λ x b q k. search (rules, tests))
    ∙ after_all c.args.stamp c.args.slots.now
