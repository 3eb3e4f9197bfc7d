use Rattle.chains.proofs.Walks.{none_right}
use Rattle.chains.proofs.arena.Arena.clear.Goals as goal

pub returns-clause-wired : goal.returns-clause-wired
returns-clause-wired g c =
    none_right g.K.Key.hashed c.clear.new.self.items c.clear-2.new.self.items c.reset.new.heads c.clear.ensures.items c.clear-2.ensures.items c.reset.ensures.fixed c.reset.ensures.zeros
