use Rattle.std.proofs.Common.{◌≡◌, drop, rules, tests, ◌-◌, not, is_some, length, ◌∙◌, refl, sym}
use Rattle.std.proofs.lemmas.Iterator.{YieldsList-from_range}
use Rattle.std.proofs.lemmas.Iterator.Search.{find_from_yields_List}
use Rattle.std.proofs.lemmas.Iterator.Adapters.{option_map_id}
use Rattle.rules.specs.Tables.{entry, free_from}
use Rattle.tables.proofs.Picking.{first_free, first_inside}
use Rattle.tables.proofs.places.free_from.Goals as goal

pub returns : goal.returns
returns g c =
    let e : c.find.result ≡ free_from c.args.from (drop c.args.from c.args.table.now) =
    sym (option_map_id c.find.result)
    ∙ find_from_yields_List (λ p. not (is_some (entry c.args.table.now p))) c.find.new.self _ c.find.result c.find.ensures.ran (YieldsList-from_range c.args.from (length c.args.table.now) (length c.args.table.now - c.args.from) refl refl) (λ x b q k. search (rules, tests))
    ∙ first_free c.args.table.now c.args.from (length c.args.table.now - c.args.from) refl in
    record { found = e; inside = first_inside c.args.from c.args.table.now c.find.result e }
