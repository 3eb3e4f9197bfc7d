use Rattle.std.proofs.Common.{◌≡◌, None}
use Rattle.index.specs.Listed.{rest}
use Rattle.walks.specs.Rows.{listing}
use Rattle.walks.proofs.Search.list_rows.Given as goal

abbrev pub invariant-loop-key : goal.invariant-loop-key
invariant-loop-key g l =
    let o = g.I.Key.Key.order in
    listing o l.self.slots.now l.self.versions.now l.self.name l.room (record { last = None; count = 0; table = l.initial.rows }) (rest o l.self.lower 0 l.self.upper (g.I.Index.pairs l.self.index.now))
    ≡ listing o l.self.slots.now l.self.versions.now l.self.name l.room (record { last = l.last; count = l.count; table = l.rows }) l.key-iterator
