use Rattle.transaction_calls.proofs.Sweeping.{sweep_lengths, swept}
use Rattle.transaction_calls.proofs.sweeps.sweep.Goals as goal

pub returns-then-not-is_in_order : goal.returns-then-not-is_in_order
returns-then-not-is_in_order g c = sweep_lengths g.I.Key.Key.order _ _ _ (g.I.Index.pairs c.args.index.now) _ _ c.of.ensures c.if-not-is_in_order.ensures

pub returns : goal.returns
returns g c = swept g.I.Key.Key.order _ _ _ (g.I.Index.pairs c.args.index.now) _ _ c.of.ensures c.if-not-is_in_order.ensures _ (g.I.Index.pairs c.sweep_all.new.index) _ _ c.sweep_all.ensures.counts c.sweep_all.ensures.frees c.sweep_all.ensures.takes c.sweep_all.ensures.limit
