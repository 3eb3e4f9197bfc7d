use Rattle.chains.proofs.Walks.{none_twice}
use Rattle.chains.proofs.calls.ChainsIndex.clear.Goals as goal

pub invariant_of-self : goal.invariant_of-self
invariant_of-self g c =
    let w = c.clear.ensures.wired in
    record { once = none_twice g.K.Key.order _ c.clear.ensures.pairs; links = w.links; heads = w.heads }
