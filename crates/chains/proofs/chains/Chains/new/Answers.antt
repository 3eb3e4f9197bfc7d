use Rattle.chains.proofs.Walks.{none_twice}
use Rattle.chains.proofs.chains.Chains.new.Goals as goal

pub invariant_of-result : goal.invariant_of-result
invariant_of-result g c =
    let w = c.in_ok-arena.ensures.2 in
    record { once = none_twice g.K.Key.order _ c.in_ok-arena.ensures.0; links = w.links; heads = w.heads }
