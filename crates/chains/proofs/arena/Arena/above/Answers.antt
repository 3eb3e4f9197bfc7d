use Rattle.std.proofs.Common.{arith}
use Rattle.chains.proofs.Walks.{on_head, on_next, next_less}
use Rattle.chains.proofs.arena.Arena.above.Goals as goal

pub loop-chain-init : goal.loop-chain-init
loop-chain-init g c = (λ cs w. on_head c.args.self.now cs w c.args.chain c.requires.chain, c.requires.bound)

pub loop-chain-smaller : goal.loop-chain-smaller
loop-chain-smaller g c =
    let w = c.requires.wired in
    next_less c.args.self.now w.0 w.1 c.args.chain c.requires.chain c.loop-chain.at (c.loop-chain.invariant.0 w.0 w.1) (omega arith) c.index-next.result.now c.index-next.ensures

pub loop-chain-preserved : goal.loop-chain-preserved
loop-chain-preserved g c =
    (λ cs w. on_next c.args.self.now cs w c.args.chain c.requires.chain c.loop-chain.at (c.loop-chain.invariant.0 cs w) (omega arith) c.index-next.result.now c.index-next.ensures, c.if-next-bound.false)
