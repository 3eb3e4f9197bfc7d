use Rattle.std.proofs.Common.{take}
use Rattle.index.specs.Sets.{LowestKey}
use Rattle.chains.specs.Chained.{held}
use Rattle.chains.proofs.calls.ChainsIndex.next_key.Given as goal

abbrev pub invariant-loop-pair : goal.invariant-loop-pair
invariant-loop-pair g l = LowestKey g.K.Key.order (take l.pair-index (held l.self.arena)) l.key l.strictly l.best
