use Rattle.std.proofs.Common.{Some, None, Ok, ap, sym, ◌∙◌, rules}
use Rattle.tables.proofs.Steps.{exit}
use Rattle.validating.specs.Walk.{pairs_ahead}
use Rattle.validating.proofs.Turns.{notes_begin, pairs_begin, pair_refused, pair_judged}
use Rattle.validating.proofs.checks.test_notes.Goals as goal

pub notes-init : goal.notes-init
notes-init g c = notes_begin g.I.Key.Key.order c.args.slots.now c.args.versions.now c.args.name c.args.end (g.I.Index.pairs c.args.index.now) (g.I.Index.limit c.args.index.now) c.args.notes.now c.args.waits

pub pairs-init : goal.pairs-init
pairs-init g c =
    pairs_begin g.I.Key.Key.order c.args.slots.now c.args.versions.now c.args.name c.args.end (g.I.Index.pairs c.args.index.now) (g.I.Index.limit c.args.index.now) c.args.notes.now c.args.waits c.notes.last c.notes.marks c.notes.invariant
    (search rules) c.in-Some.note c.in-Some.place c.must_show-show.result _ c.in-Some.ensures c.must_show-show.ensures (ap pairs_ahead c.into_iter-key-iterator.ensures.into_iter_gives ∙ c.covered-key-items.ensures)

pub returns-in_err-next : goal.returns-in_err-next
returns-in_err-next g c =
    exit _ _ c.from_residual.ensures.1
    ∙ pair_refused g.I.Key.Key.order c.args.slots.now c.args.versions.now c.args.name c.args.end (g.I.Index.pairs c.args.index.now) (g.I.Index.limit c.args.index.now) c.args.notes.now c.args.waits c.must_show-show.result _ (Some (c.in-Some.note.number, c.in-Some.place)) c.pairs.marks c.pairs.invariant
    _ _ c.in-Some-2.ensures.steps c.in_err-next.field-0.0 c.in_err-next.ensures.says

pub pairs-preserved : goal.pairs-preserved
pairs-preserved g c =
    pair_judged g.I.Key.Key.order c.args.slots.now c.args.versions.now c.args.name c.args.end (g.I.Index.pairs c.args.index.now) (g.I.Index.limit c.args.index.now) c.args.notes.now c.args.waits c.must_show-show.result _ (Some (c.in-Some.note.number, c.in-Some.place)) c.pairs.marks c.pairs.invariant
    _ _ c.in-Some-2.ensures.steps (Some c.in-Some-3.next) (ap Ok (sym c.in-Some-3.is) ∙ c.in_ok-next.ensures.says)

pub returns-in-None-2 : goal.returns-in-None-2
returns-in-None-2 g c =
    sym
    (pair_judged g.I.Key.Key.order c.args.slots.now c.args.versions.now c.args.name c.args.end (g.I.Index.pairs c.args.index.now) (g.I.Index.limit c.args.index.now) c.args.notes.now c.args.waits c.must_show-show.result _ (Some (c.in-Some.note.number, c.in-Some.place)) c.pairs.marks c.pairs.invariant
    _ _ c.in-Some-2.ensures.steps None (ap Ok (sym c.in-None-2.is) ∙ c.in_ok-next.ensures.says))
