use Rattle.std.proofs.Common.{◌≡◌, sym, subst, rules}
use Rattle.std.specs.Option.{option_map}
use Rattle.index.specs.Sets.{LowestKey}
use Rattle.ordered.specs.Rows.{items, First}
use Rattle.ordered.proofs.Firsts.{key_first}
use Rattle.ordered.proofs.calls.InOrderIndex.next_key.Goals as goal

pub returns : goal.returns
returns g c =
    let e : c.map.result ≡ option_map (λ x. x.0) c.first.result = search rules in
    subst (LowestKey g.K.Key.order (items c.args.self.now) c.args.key c.args.strictly) (sym e)
    (key_first g.K.Key.order g.K.Key.laws.total (items c.args.self.now) c.args.key c.args.strictly c.first.result
    (subst (λ s. First g.K.Key.order (items c.args.self.now) c.args.key s c.first.result) c.key_start.ensures c.first.ensures))
