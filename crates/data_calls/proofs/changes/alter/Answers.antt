use Rattle.std.proofs.Common.{Some, Err, sym, refl, ap, ◌∙◌}
use Rattle.rules.specs.Index.{meaning}
use Rattle.tables.proofs.Steps.{exit}
use Rattle.data_calls.specs.Calling.{call_of}
use Rattle.data_calls.proofs.Shapes.{told_around}
use Rattle.data_calls.proofs.Altering.{is_own, is_locked, is_free, refuses, absent, own_done, conflicts, no_room, done}
use Rattle.data_calls.proofs.changes.alter.Goals as goal

pub returns-in_err-one : goal.returns-in_err-one
returns-in_err-one g c = told_around g.I.Key.Key.order c.args.version_hint c.args.note_hint _ _ c.args.transaction (call_of c.args.key c.args.new) _ _ (exit _ _ c.from_residual.ensures.1) (λ rows. refuses g.I.Key.Key.order c.args.version_hint c.args.note_hint rows c.args.store.now c.args.versions.now c.args.notes.now (g.I.Index.pairs c.args.index.now) (g.I.Index.limit c.args.index.now) c.args.transaction c.args.key c.args.new _ c.in_err-one.ensures)

pub returns-in_default : goal.returns-in_default
returns-in_default g c = told_around g.I.Key.Key.order c.args.version_hint c.args.note_hint _ _ c.args.transaction (call_of c.args.key c.args.new) _ _ refl (λ rows. absent g.I.Key.Key.order c.args.version_hint c.args.note_hint rows c.args.store.now c.args.versions.now c.args.notes.now (g.I.Index.pairs c.args.index.now) (g.I.Index.limit c.args.index.now) c.args.transaction c.args.key c.args.new c.in_ok-one.one.slot c.in_ok-one.one.transaction c.in_ok-one.found c.in_ok-one.ensures _ _ _ c.in_default.is c.conclude.ensures)

pub returns-in-Ok-true : goal.returns-in-Ok-true
returns-in-Ok-true g c = told_around g.I.Key.Key.order c.args.version_hint c.args.note_hint _ _ c.args.transaction (call_of c.args.key c.args.new) _ _ refl (λ rows. own_done g.I.Key.Key.order c.args.version_hint c.args.note_hint rows c.args.store.now c.args.versions.now c.args.notes.now (g.I.Index.pairs c.args.index.now) (g.I.Index.limit c.args.index.now) c.args.transaction c.args.key c.args.new c.in_ok-one.one.slot c.in_ok-one.one.transaction c.in_ok-one.found c.in_ok-one.ensures _ (c.in-Some.is ∙ ap Some (sym c.in-Some.met-is)) c.altered.result _ _ (is_own _ _ _ c.in-Ok-true.field-0-test c.in-Ok-true.ensures) c.altered.ensures c.replace.ensures c.enter.ensures)

pub returns-in-Err : goal.returns-in-Err
returns-in-Err g c = told_around g.I.Key.Key.order c.args.version_hint c.args.note_hint _ _ c.args.transaction (call_of c.args.key c.args.new) _ _ (ap Err (is_locked _ _ _ c.in-Err.ensures).2) (λ rows. conflicts g.I.Key.Key.order c.args.version_hint c.args.note_hint rows c.args.store.now c.args.versions.now c.args.notes.now (g.I.Index.pairs c.args.index.now) (g.I.Index.limit c.args.index.now) c.args.transaction c.args.key c.args.new c.in_ok-one.one.slot c.in_ok-one.one.transaction c.in_ok-one.found c.in_ok-one.ensures _ (c.in-Some.is ∙ ap Some (sym c.in-Some.met-is)) _ (is_locked _ _ _ c.in-Err.ensures).0 (is_locked _ _ _ c.in-Err.ensures).1 c.abort_one.ensures)

pub returns-in_err-_place-in-Ok-false : goal.returns-in_err-_place-in-Ok-false
returns-in_err-_place-in-Ok-false g c = told_around g.I.Key.Key.order c.args.version_hint c.args.note_hint _ _ c.args.transaction (call_of c.args.key c.args.new) _ _ (exit _ _ c.from_residual-in_err-_place-in-Ok-false.ensures.1) (λ rows. no_room g.I.Key.Key.order c.args.version_hint c.args.note_hint rows c.args.store.now c.args.versions.now c.args.notes.now (g.I.Index.pairs c.args.index.now) (g.I.Index.limit c.args.index.now) c.args.transaction c.args.key c.args.new c.in_ok-one.one.slot c.in_ok-one.one.transaction c.in_ok-one.found c.in_ok-one.ensures _ (c.in-Some.is ∙ ap Some (sym c.in-Some.met-is)) _ _ (meaning g.I.Key.Key.order (g.I.Index.pairs c.add_if.new.index) (g.I.Index.limit c.add_if.new.index)) (is_free _ _ _ c.in-Ok-false.field-0-test c.in-Ok-false.ensures).0 (is_free _ _ _ c.in-Ok-false.field-0-test c.in-Ok-false.ensures).1 c.in_err-_place-in-Ok-false.ensures.0 c.in_err-_place-in-Ok-false.ensures.1)

pub returns-in_ok-_place-in-Ok-false : goal.returns-in_ok-_place-in-Ok-false
returns-in_ok-_place-in-Ok-false g c = told_around g.I.Key.Key.order c.args.version_hint c.args.note_hint _ _ c.args.transaction (call_of c.args.key c.args.new) _ _ refl (λ rows. done g.I.Key.Key.order c.args.version_hint c.args.note_hint rows c.args.store.now c.args.versions.now c.args.notes.now (g.I.Index.pairs c.args.index.now) (g.I.Index.limit c.args.index.now) c.args.transaction c.args.key c.args.new c.in_ok-one.one.slot c.in_ok-one.one.transaction c.in_ok-one.found c.in_ok-one.ensures _ (c.in-Some.is ∙ ap Some (sym c.in-Some.met-is)) c.ended_by.result _ c.add_if.new.versions _ (meaning g.I.Key.Key.order (g.I.Index.pairs c.add_if.new.index) (g.I.Index.limit c.add_if.new.index)) (is_free _ _ _ c.in-Ok-false.field-0-test c.in-Ok-false.ensures).0 (is_free _ _ _ c.in-Ok-false.field-0-test c.in-Ok-false.ensures).1 c.in_ok-_place-in-Ok-false.ensures c.ended_by.ensures c.replace-in-Ok-false.ensures c.enter-in-Ok-false.ensures)
