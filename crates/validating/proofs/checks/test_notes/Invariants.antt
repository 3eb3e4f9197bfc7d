use Rattle.std.proofs.Common.{◌≡◌, length, Some}
use Rattle.rules.specs.Index.{meaning}
use Rattle.rules.specs.Validating.{test_all, tests_for}
use Rattle.validating.specs.Order.{left_after}
use Rattle.validating.specs.Walk.{pairs_ahead}
use Rattle.validating.proofs.Turns.{notes_from, pairs_from}
use Rattle.validating.proofs.checks.test_notes.Given as goal

-- all tests come to what those of the notes left come to
abbrev pub invariant-notes : goal.invariant-notes
invariant-notes g l =
    let o = g.I.Key.Key.order in
    let xs = g.I.Index.pairs l.index in
    let limit = g.I.Index.limit l.index in
    test_all o l.slots l.versions l.name l.end (tests_for o (meaning o xs limit) l.name l.notes) l.fn.waits
    ≡ notes_from o l.slots l.versions l.name l.end xs limit l.notes l.fn.waits l.last l.marks

abbrev pub decreases-notes : goal.decreases-notes
decreases-notes g l = length (left_after l.name l.last l.notes)

-- and to what those of the pairs ahead come to with the notes after this one
abbrev pub invariant-pairs : goal.invariant-pairs
invariant-pairs g l =
    let o = g.I.Key.Key.order in
    let xs = g.I.Index.pairs l.index in
    let limit = g.I.Index.limit l.index in
    test_all o l.slots l.versions l.name l.end (tests_for o (meaning o xs limit) l.name l.notes) l.fn.waits
    ≡ pairs_from o l.slots l.versions l.name l.end xs limit l.notes l.fn.waits l.show (pairs_ahead l.key-iterator) (Some (l.note.number, l.place)) l.marks
