use Rattle.std.proofs.Common.{refl}
use Rattle.ordered.specs.Rows.{items}
use Rattle.ordered.proofs.Changes.{lacking, remove_says}
use Rattle.ordered.proofs.calls.InOrderIndex.remove.Goals as goal

pub returns-in_default-clause-says : goal.returns-in_default-clause-says
returns-in_default-clause-says g c =
    (lacking g.K.Key.order g.K.Key.laws.total (items c.args.self.now) (c.args.key, c.args.place) c.in_default.field-0 c.args.self.now.sorted c.in_default.ensures.within c.in_default.ensures.position, refl)

pub returns-clause-says : goal.returns-clause-says
returns-clause-says g c =
    remove_says g.K.Key.order g.K.Key.laws.total (items c.args.self.now) (c.args.key, c.args.place) c.in-Ok.at c.in-Ok.ensures.within c.in-Ok.ensures.position c.cut_pair.new.pairs.items c.args.self.now.sorted c.cut_pair.ensures.items
