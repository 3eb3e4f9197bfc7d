use Rattle.std.proofs.Common.{Err, refl, ap}
use Rattle.rules.specs.declared.BookCall.TheVariants as book
use Rattle.rules.specs.Index.{meaning}
use Rattle.tables.proofs.Steps.{exit}
use Rattle.data_calls.proofs.Shapes.{told_around}
use Rattle.data_calls.proofs.Inserting.{sees, stands_against, is_free, refuses, present, conflicts, no_room, done}
use Rattle.data_calls.proofs.changes.insert.Goals as goal

pub returns-in_err-one : goal.returns-in_err-one
returns-in_err-one g c = told_around g.I.Key.Key.order c.args.version_hint c.args.note_hint _ _ c.args.transaction (book.Insert c.args.key c.args.value) _ _ (exit _ _ c.from_residual.ensures.1) (λ rows. refuses g.I.Key.Key.order c.args.version_hint c.args.note_hint rows c.args.store.now c.args.versions.now c.args.notes.now (g.I.Index.pairs c.args.index.now) (g.I.Index.limit c.args.index.now) c.args.transaction c.args.key c.args.value _ c.in_err-one.ensures)

pub returns-in-Ok-true : goal.returns-in-Ok-true
returns-in-Ok-true g c = told_around g.I.Key.Key.order c.args.version_hint c.args.note_hint _ _ c.args.transaction (book.Insert c.args.key c.args.value) _ _ refl (λ rows. present g.I.Key.Key.order c.args.version_hint c.args.note_hint rows c.args.store.now c.args.versions.now c.args.notes.now (g.I.Index.pairs c.args.index.now) (g.I.Index.limit c.args.index.now) c.args.transaction c.args.key c.args.value c.in_ok-one.one.slot c.in_ok-one.one.transaction c.in_ok-one.found c.in_ok-one.ensures (sees _ _ _ c.in-Ok-true.field-0-test c.in-Ok-true.ensures).0 (sees _ _ _ c.in-Ok-true.field-0-test c.in-Ok-true.ensures).1 c.note_for-note.result _ _ _ c.note_for-note.ensures c.conclude.ensures)

pub returns-in-Err : goal.returns-in-Err
returns-in-Err g c = told_around g.I.Key.Key.order c.args.version_hint c.args.note_hint _ _ c.args.transaction (book.Insert c.args.key c.args.value) _ _ (ap Err (stands_against _ _ _ c.in-Err.ensures).2) (λ rows. conflicts g.I.Key.Key.order c.args.version_hint c.args.note_hint rows c.args.store.now c.args.versions.now c.args.notes.now (g.I.Index.pairs c.args.index.now) (g.I.Index.limit c.args.index.now) c.args.transaction c.args.key c.args.value c.in_ok-one.one.slot c.in_ok-one.one.transaction c.in_ok-one.found c.in_ok-one.ensures (stands_against _ _ _ c.in-Err.ensures).0 _ (stands_against _ _ _ c.in-Err.ensures).1 c.abort_one.ensures)

pub returns-in_err-_place-in-Ok-false : goal.returns-in_err-_place-in-Ok-false
returns-in_err-_place-in-Ok-false g c = told_around g.I.Key.Key.order c.args.version_hint c.args.note_hint _ _ c.args.transaction (book.Insert c.args.key c.args.value) _ _ (exit _ _ c.from_residual-in_err-_place-in-Ok-false.ensures.1) (λ rows. no_room g.I.Key.Key.order c.args.version_hint c.args.note_hint rows c.args.store.now c.args.versions.now c.args.notes.now (g.I.Index.pairs c.args.index.now) (g.I.Index.limit c.args.index.now) c.args.transaction c.args.key c.args.value c.in_ok-one.one.slot c.in_ok-one.one.transaction c.in_ok-one.found c.in_ok-one.ensures (is_free _ _ _ c.in-Ok-false.field-0-test c.in-Ok-false.ensures).0 (is_free _ _ _ c.in-Ok-false.field-0-test c.in-Ok-false.ensures).1 _ _ (meaning g.I.Key.Key.order (g.I.Index.pairs c.add.new.index) (g.I.Index.limit c.add.new.index)) c.in_err-_place-in-Ok-false.ensures.0 c.in_err-_place-in-Ok-false.ensures.1)

pub returns-in_ok-_place-in-Ok-false : goal.returns-in_ok-_place-in-Ok-false
returns-in_ok-_place-in-Ok-false g c = told_around g.I.Key.Key.order c.args.version_hint c.args.note_hint _ _ c.args.transaction (book.Insert c.args.key c.args.value) _ _ refl (λ rows. done g.I.Key.Key.order c.args.version_hint c.args.note_hint rows c.args.store.now c.args.versions.now c.args.notes.now (g.I.Index.pairs c.args.index.now) (g.I.Index.limit c.args.index.now) c.args.transaction c.args.key c.args.value c.in_ok-one.one.slot c.in_ok-one.one.transaction c.in_ok-one.found c.in_ok-one.ensures (is_free _ _ _ c.in-Ok-false.field-0-test c.in-Ok-false.ensures).0 (is_free _ _ _ c.in-Ok-false.field-0-test c.in-Ok-false.ensures).1 _ _ (meaning g.I.Key.Key.order (g.I.Index.pairs c.add.new.index) (g.I.Index.limit c.add.new.index)) c.in_ok-_place-in-Ok-false.ensures c.enter.ensures)
