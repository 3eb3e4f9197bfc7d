use Rattle.std.proofs.Common.{is_some, Option, ap, ◌∙◌}
use Rattle.index.specs.Listed.{listed}
use Rattle.rules.specs.Tables.{entry}
use Rattle.transaction_calls.specs.Sweeping.{key_to_sweep, taken_out}
use Rattle.transaction_calls.proofs.Sweeping.{freed_here, swept_key}
use Rattle.transaction_calls.proofs.Pairs.{removed}
use Rattle.transaction_calls.proofs.sweeps.sweep_at.Goals as goal

pub returns : goal.returns
returns g c =
    let k = swept_key c.args.slots.now c.args.versions.now c.args.place _ _ c.held_at.ensures.holds c.in-Some.ensures in
    record {
      tells = ap is_some k;
      frees = freed_here c.args.place c.in-Some.key (key_to_sweep c.args.slots.now (entry c.args.versions.now c.args.place)) c.args.versions.now c.set_at.new.table c.free.result k c.free.ensures c.set_at.ensures;
      takes =
          removed g.I.Key.Key.order g.I.Key.Key.laws.total (g.I.Index.pairs c.args.index.now) (g.I.Index.pairs c.remove-was_there.new.self) (c.in-Some.key, c.args.place) (g.met.I.Index.distinct c.args.index.now) (g.met.I.Index.distinct c.remove-was_there.new.self) c.remove-was_there.result c.remove-was_there.ensures.says
          ∙ ap (λ (q : Option g.row.I-Key.Denot). taken_out g.I.Key.Key.order c.args.place q (listed g.I.Key.Key.order (g.I.Index.pairs c.args.index.now))) k;
      limit = c.remove-was_there.ensures.limit;
    }
