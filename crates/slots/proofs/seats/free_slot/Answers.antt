use Rattle.std.proofs.Common.{rules, tests}
use Rattle.std.proofs.lemmas.Iterator.{YieldsList-from_slice}
use Rattle.std.proofs.lemmas.Iterator.Search.{position_from_yields_List}
use Rattle.slots.proofs.Seating.{is_free, seats}
use Rattle.slots.proofs.seats.free_slot.Goals as goal

pub returns-clause-seats : goal.returns-clause-seats
returns-clause-seats c =
    seats c.args.slots.now c.position.result
    (position_from_yields_List is_free c.position.new.self _ _ c.position.ensures.ran (YieldsList-from_slice c.args.slots.now cc) (λ x b q k. search (rules, tests)))
