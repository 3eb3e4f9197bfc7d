use Rattle.std.proofs.Common.{rules}
use Rattle.tables.proofs.Noting.{note_unplaced, note_made}
use Rattle.tables.proofs.notes.make_note.Goals as goal

pub returns-in_err-place : goal.returns-in_err-place
returns-in_err-place g c =
    note_unplaced c.args.name c.args.t c.args.what c.args.notes.now c.args.hint c.in-Some.noted c.in-Some.ensures c.free_place.result c.from_residual.result c.free_place.ensures.picks (search rules) (search rules)

pub returns : goal.returns
returns g c =
    note_made c.args.name c.args.t c.args.what c.args.notes.now c.args.hint c.in-Some.noted c.in-Some.ensures c.free_place.result c.in_ok-place.place c.saturating_add.result _ c.free_place.ensures.picks (search rules) c.saturating_add.ensures c.replace.ensures
