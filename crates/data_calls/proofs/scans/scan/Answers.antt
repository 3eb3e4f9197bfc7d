use Rattle.rules.specs.declared.BookCall.TheVariants as book
use Rattle.std.proofs.Common.{refl}
use Rattle.tables.proofs.Steps.{exit}
use Rattle.data_calls.proofs.Shapes.{told}
use Rattle.data_calls.proofs.Scanning.{refuses, wrong_keys, faulty, too_many, no_note, not_twice, done}
use Rattle.data_calls.proofs.scans.scan.Goals as goal

pub returns-in_err-one : goal.returns-in_err-one
returns-in_err-one g c = told g.I.Key.Key.order 0 c.args.note_hint _ _ c.args.transaction (book.Scan c.args.lower c.args.upper) _ _ (exit _ _ c.from_residual.ensures.1) (refuses g.I.Key.Key.order 0 c.args.note_hint c.args.store.now c.args.versions.now c.args.notes.now c.args.rows.now (g.I.Index.pairs c.args.index.now) (g.I.Index.limit c.args.index.now) c.of.result c.of.ensures c.args.transaction c.args.lower c.args.upper c.in_err-one.field-0.0 c.in_err-one.ensures)

pub returns-then-is_above : goal.returns-then-is_above
returns-then-is_above g c = told g.I.Key.Key.order 0 c.args.note_hint _ _ c.args.transaction (book.Scan c.args.lower c.args.upper) _ _ refl (wrong_keys g.I.Key.Key.order 0 c.args.note_hint c.args.store.now c.args.versions.now c.args.notes.now c.args.rows.now (g.I.Index.pairs c.args.index.now) (g.I.Index.limit c.args.index.now) c.of.result c.of.ensures c.args.transaction c.args.lower c.args.upper c.in_ok-one.one.slot c.in_ok-one.one.transaction c.in_ok-one.ensures c.if-is_above.ensures)

pub returns-in_err-found : goal.returns-in_err-found
returns-in_err-found g c = told g.I.Key.Key.order 0 c.args.note_hint _ _ c.args.transaction (book.Scan c.args.lower c.args.upper) _ _ (exit _ _ c.from_residual-in_err-found.ensures.1) (faulty g.I.Key.Key.order 0 c.args.note_hint c.args.store.now c.args.versions.now c.args.notes.now c.args.rows.now (g.I.Index.pairs c.args.index.now) (g.I.Index.limit c.args.index.now) c.of.result c.of.ensures c.args.transaction c.args.lower c.args.upper c.in_ok-one.one.slot c.in_ok-one.one.transaction c.in_ok-one.ensures c.if-is_above.ensures c.in_err-found.field-0.0 c.in_err-found.ensures)

pub returns-in_err-count_rows : goal.returns-in_err-count_rows
returns-in_err-count_rows g c = told g.I.Key.Key.order 0 c.args.note_hint _ _ c.args.transaction (book.Scan c.args.lower c.args.upper) _ _ (exit _ _ c.from_residual-in_err-count_rows.ensures.1) (too_many g.I.Key.Key.order 0 c.args.note_hint c.args.store.now c.args.versions.now c.args.notes.now c.args.rows.now (g.I.Index.pairs c.args.index.now) (g.I.Index.limit c.args.index.now) c.of.result c.of.ensures c.args.transaction c.args.lower c.args.upper c.in_ok-one.one.slot c.in_ok-one.one.transaction c.in_ok-one.ensures c.if-is_above.ensures c.in_ok-found.found c.in_ok-found.ensures c.in_err-count_rows.field-0.0 c.in_err-count_rows.ensures)

pub returns-in_err-made : goal.returns-in_err-made
returns-in_err-made g c = told g.I.Key.Key.order 0 c.args.note_hint _ _ c.args.transaction (book.Scan c.args.lower c.args.upper) _ _ (exit _ _ c.from_residual-in_err-made.ensures.1) (no_note g.I.Key.Key.order 0 c.args.note_hint c.args.store.now c.args.versions.now c.args.notes.now c.args.rows.now (g.I.Index.pairs c.args.index.now) (g.I.Index.limit c.args.index.now) c.of.result c.of.ensures c.args.transaction c.args.lower c.args.upper c.in_ok-one.one.slot c.in_ok-one.one.transaction c.in_ok-one.ensures c.if-is_above.ensures c.in_ok-found.found c.in_ok-found.ensures c.in_ok-count_rows.ensures.0 c.in_ok-count_rows.ensures.1 c.in_err-made.field-0.0 c.make_note.new.notes c.in_err-made.ensures.0 c.in_err-made.ensures.1)

pub returns-in_err-written : goal.returns-in_err-written
returns-in_err-written g c = absurd (not_twice g.I.Key.Key.order 0 c.args.note_hint c.args.store.now c.args.versions.now c.args.notes.now c.args.rows.now (g.I.Index.pairs c.args.index.now) (g.I.Index.limit c.args.index.now) c.of.result c.of.ensures c.args.transaction c.args.lower c.args.upper c.in_ok-one.one.slot c.in_ok-one.one.transaction c.in_ok-one.ensures c.if-is_above.ensures c.in_ok-found.found c.in_ok-found.ensures c.in_ok-count_rows.ensures.0 c.in_ok-count_rows.ensures.1 c.in_err-written.field-0.0 c.in_err-written.ensures)

pub returns : goal.returns
returns g c = told g.I.Key.Key.order 0 c.args.note_hint _ _ c.args.transaction (book.Scan c.args.lower c.args.upper) _ _ refl (done g.I.Key.Key.order 0 c.args.note_hint c.args.store.now c.args.versions.now c.args.notes.now c.args.rows.now (g.I.Index.pairs c.args.index.now) (g.I.Index.limit c.args.index.now) c.of.result c.of.ensures c.args.transaction c.args.lower c.args.upper c.in_ok-one.one.slot c.in_ok-one.one.transaction c.in_ok-one.ensures c.if-is_above.ensures c.in_ok-found.found c.in_ok-found.ensures c.in_ok-count_rows.ensures.0 c.in_ok-count_rows.ensures.1 c.in_ok-made.made c.in_ok-written.written c.make_note.new.notes c.write_rows.new.rows c.enter.new.store c.in_ok-written.ensures.0 c.in_ok-made.ensures c.in_ok-written.ensures.1 c.in_ok-written.ensures.2 c.in_ok-written.ensures.3 c.enter.ensures)
