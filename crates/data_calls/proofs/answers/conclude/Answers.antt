use Rattle.std.proofs.Common.{◌∙◌}
use Rattle.tables.proofs.Steps.{go_on, give_up, exit}
use Rattle.data_calls.proofs.Shapes.{entered}
use Rattle.data_calls.proofs.answers.conclude.Goals as goal

pub returns-in_err-made : goal.returns-in_err-made
returns-in_err-made g c = rw (exit _ _ c.from_residual.ensures.1) (give_up _ c.in_err-made.ensures.0, (let q = c.in_err-made.ensures.1 in λ j. (c.args.store.now, q j)))

pub returns : goal.returns
returns g c = go_on _ c.in_ok-made.ensures ∙ entered c.args.answer _ c.enter.new.store c.make_note.new.notes c.enter.ensures
