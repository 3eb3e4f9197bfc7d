use Rattle.std.proofs.Common.{length, sym, ◌∙◌}
use Rattle.tables.proofs.Lookups.{located_at}
use Rattle.tables.proofs.Steps.{go_on, give_up, exit}
use Rattle.data_calls.proofs.checks.approach.Goals as goal

pub returns-in_err-one : goal.returns-in_err-one
returns-in_err-one g c = rw (exit _ _ c.from_residual.ensures.1) (sym (give_up _ (sym (c.in_err-one.ensures ∙ located_at c.of.result (length c.args.versions.now) (length c.args.notes.now) (g.I.Index.limit c.args.index.now) c.of.ensures c.args.store.now c.args.name))))

pub returns-in_err-found : goal.returns-in_err-found
returns-in_err-found g c = rw (exit _ _ c.from_residual-in_err-found.ensures.1) (sym (go_on _ (sym (c.in_ok-one.ensures ∙ located_at c.of.result (length c.args.versions.now) (length c.args.notes.now) (g.I.Index.limit c.args.index.now) c.of.ensures c.args.store.now c.args.name)) ∙ give_up _ (sym c.in_err-found.ensures)))

pub returns : goal.returns
returns g c = sym (go_on _ (sym (c.in_ok-one.ensures ∙ located_at c.of.result (length c.args.versions.now) (length c.args.notes.now) (g.I.Index.limit c.args.index.now) c.of.ensures c.args.store.now c.args.name)) ∙ go_on _ (sym c.in_ok-found.ensures))
