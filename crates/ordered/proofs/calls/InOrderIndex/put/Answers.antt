use Rattle.std.proofs.Common.{refl, arith}
use Rattle.ordered.specs.Rows.{items}
use Rattle.ordered.proofs.Changes.{found, lacking, put_says}
use Rattle.ordered.proofs.calls.InOrderIndex.put.Goals as goal

pub returns-in_default-clause-says : goal.returns-in_default-clause-says
returns-in_default-clause-says g c =
    (found g.K.Key.order g.K.Key.laws.total (items c.args.self.now) (c.args.key, c.args.place) c.in_default.field-0 c.in_default.ensures.within c.in_default.ensures.position, refl)

pub returns-then-len-capacity-clause-says : goal.returns-then-len-capacity-clause-says
returns-then-len-capacity-clause-says g c =
    (lacking g.K.Key.order g.K.Key.laws.total (items c.args.self.now) (c.args.key, c.args.place) c.in-Err.at c.args.self.now.sorted c.in-Err.ensures.within c.in-Err.ensures.position, omega arith, c.capacity-capacity.ensures, refl)

pub returns-clause-says : goal.returns-clause-says
returns-clause-says g c =
    put_says g.K.Key.order g.K.Key.laws.total (items c.args.self.now) (c.args.key, c.args.place) c.in-Err.at c.args.self.now.sorted c.in-Err.ensures.within c.in-Err.ensures.position c.insert_pair.new.pairs.items c.insert_pair.ensures.items c.args.self.now.limit (omega arith)
