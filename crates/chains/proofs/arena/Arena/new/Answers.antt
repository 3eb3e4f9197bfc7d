use Rattle.std.proofs.Common.{refl}
use Rattle.std.proofs.lemmas.List.{get_or-replicate}
use Rattle.chains.proofs.Walks.{none_right}
use Rattle.chains.proofs.arena.Arena.new.Goals as goal

pub returns : goal.returns
returns g c =
    let none = c.in_ok-pairs.ensures.items in
    (none, refl, none_right g.K.Key.hashed c.in_ok-pairs.pairs.items c.in_ok-links.links.items _ none c.in_ok-links.ensures.items refl (λ k l. get_or-replicate 256 k 0 0 l))
