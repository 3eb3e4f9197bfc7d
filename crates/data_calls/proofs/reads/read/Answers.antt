use Rattle.std.proofs.Common.{refl}
use Rattle.rules.specs.declared.BookCall.TheVariants as book
use Rattle.tables.proofs.Steps.{exit}
use Rattle.data_calls.proofs.Shapes.{told_around}
use Rattle.data_calls.proofs.Reading.{refuses, reads}
use Rattle.data_calls.proofs.reads.read.Goals as goal

pub returns-in_err-one : goal.returns-in_err-one
returns-in_err-one g c = told_around g.I.Key.Key.order 0 c.args.note_hint _ _ c.args.transaction (book.Read c.args.key) _ _ (exit _ _ c.from_residual.ensures.1) (λ rows. refuses g.I.Key.Key.order 0 c.args.note_hint rows _ _ _ (g.I.Index.pairs c.args.index.now) _ c.args.transaction c.args.key _ c.in_err-one.ensures)

pub returns : goal.returns
returns g c = told_around g.I.Key.Key.order 0 c.args.note_hint _ _ c.args.transaction (book.Read c.args.key) _ _ refl (λ rows. reads g.I.Key.Key.order 0 c.args.note_hint rows _ _ _ (g.I.Index.pairs c.args.index.now) _ c.args.transaction c.args.key _ _ _ _ _ _ _ _ c.in_ok-one.ensures c.note_for-note.ensures c.value_for-value.ensures c.conclude.ensures)
