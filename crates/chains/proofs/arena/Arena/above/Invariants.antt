use Rattle.std.proofs.Common.{ℕ, ◌<◌, List}
use Rattle.chains.specs.Chained.{Wired}
use Rattle.chains.proofs.Walks.{On}
use Rattle.chains.proofs.arena.Arena.above.Given as goal

abbrev pub invariant-loop-chain : goal.invariant-loop-chain
invariant-loop-chain g l = ((cs : List ℕ) → Wired cs l.self → On l.chain cs l.at) × (l.bound < l.at)

abbrev pub decreases-loop-chain : goal.decreases-loop-chain
decreases-loop-chain g l = l.at
