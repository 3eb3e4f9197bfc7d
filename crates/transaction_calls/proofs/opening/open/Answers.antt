use Rattle.transaction_calls.proofs.Restart.{open_lengths, open_stamp, opened}
use Rattle.transaction_calls.proofs.opening.open.Goals as goal

pub returns-then-not-is_allowed : goal.returns-then-not-is_allowed
returns-then-not-is_allowed g c = open_lengths g.I.Key.Key.order _ _ _ (g.I.Index.pairs c.args.index.now) _ _ c.of.ensures _ c.if-not-is_allowed.ensures

pub returns-then-is_too_high : goal.returns-then-is_too_high
returns-then-is_too_high g c = open_stamp g.I.Key.Key.order _ _ _ (g.I.Index.pairs c.args.index.now) _ _ c.of.ensures _ c.if-not-is_allowed.ensures c.if-is_too_high.ensures

pub returns : goal.returns
returns g c = opened g.I.Key.Key.order _ _ _ (g.I.Index.pairs c.args.index.now) _ _ c.of.ensures _ c.if-not-is_allowed.ensures c.if-is_too_high.ensures _ _ _ _ _ c.start.ensures c.free_all.ensures c.free_all-2.ensures c.clear.ensures.pairs c.clear.ensures.limit
