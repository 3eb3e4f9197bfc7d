use Rattle.std.proofs.Common.{◌≡◌}
use Rattle.index.specs.Listed.{rest}
use Rattle.walks.specs.Walk.{walk, start}
use Rattle.walks.proofs.Search.survey.Given as goal

abbrev pub invariant-loop-key : goal.invariant-loop-key
invariant-loop-key g l =
    let o = g.I.Key.Key.order in
    walk o l.self.slots.now l.self.versions.now l.self.name (start l.fn.waits) (rest o l.self.lower 0 l.self.upper (g.I.Index.pairs l.self.index.now))
    ≡ walk o l.self.slots.now l.self.versions.now l.self.name l.survey l.key-iterator
