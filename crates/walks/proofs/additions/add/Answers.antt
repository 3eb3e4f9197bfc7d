use Rattle.std.proofs.Common.{refl, rules}
use Rattle.rules.specs.Index.{meaning}
use Rattle.tables.proofs.Steps.{exit}
use Rattle.walks.proofs.Taking.{none_to_add, refused_to_add, added}
use Rattle.walks.proofs.additions.add.Goals as goal

pub returns-in_default : goal.returns-in_default
returns-in_default g c = (none_to_add g.I.Key.Key.order c.args.hint c.args.name c.args.key c.args.value c.args.versions.now (meaning g.I.Key.Key.order (g.I.Index.pairs c.args.index.now) (g.I.Index.limit c.args.index.now)) c.in_default.ensures.picks, refl)

pub returns-in_err-map_err : goal.returns-in_err-map_err
returns-in_err-map_err g c =
    rw (exit _ _ c.from_residual.ensures.1)
    (refused_to_add g.I.Key.Key.order g.I.Key.Key.laws.total (g.I.Index.pairs c.args.index.now) (g.I.Index.pairs c.put.new.self) (g.met.I.Index.distinct c.args.index.now) (g.met.I.Index.distinct c.put.new.self)
    (g.I.Index.limit c.args.index.now) (g.I.Index.limit c.put.new.self) c.put.ensures.limit c.args.hint c.args.name c.args.key c.args.value c.args.versions.now c.in-Some.place c.in-Some.ensures.picks
    c.put.result c.in_err-map_err.field-0.0 _ (λ e q. search rules) c.in_err-map_err.ensures.variant c.in_err-map_err.ensures.cases c.put.ensures.says)

pub returns : goal.returns
returns g c =
    added g.I.Key.Key.order g.I.Key.Key.laws.total (g.I.Index.pairs c.args.index.now) (g.I.Index.pairs c.put.new.self) (g.met.I.Index.distinct c.args.index.now) (g.met.I.Index.distinct c.put.new.self)
    (g.I.Index.limit c.args.index.now) (g.I.Index.limit c.put.new.self) c.put.ensures.limit c.args.hint c.args.name c.args.key c.args.value c.args.versions.now c.in-Some.place c.in-Some.ensures.picks
    c.put.result c.new_version.result c.replace.new.table c.in_ok-map_err.ensures.variant c.put.ensures.says c.new_version.ensures c.replace.ensures
