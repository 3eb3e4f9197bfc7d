use Rattle.std.proofs.Common.{◌≡◌, false, drop}
use Rattle.index.specs.Sets.{holds}
use Rattle.chains.specs.Chained.{held, bucket, numbers}
use Rattle.chains.proofs.Walks.{On}
use Rattle.chains.proofs.chains.Chains.find.Given as goal

abbrev pub invariant-loop-at : goal.invariant-loop-at
invariant-loop-at g l =
    On (bucket g.K.Key.hashed l.key) (numbers g.K.Key.hashed (held l.self.arena)) l.at
    × (holds g.K.Key.order (drop l.at (held l.self.arena)) (l.key, l.place) ≡ false)

abbrev pub decreases-loop-at : goal.decreases-loop-at
decreases-loop-at g l = l.at
