-- What a call comes to. Assumes nothing.
use Rattle.std.proofs.Common.{◌≡◌, List, Ok, Err, Result, sym, ap, ◌∙◌}
use Rattle.rules.specs.declared.Row.{Row}
use Rattle.rules.specs.declared.Answer.{Answer}
use Rattle.rules.specs.declared.Refusal.{Refusal}
use Rattle.rules.specs.Worlds.{World}
use Rattle.rules.specs.Checks.{Checked, Outcome, Comes}
use Rattle.tables.proofs.Steps.{left_as_found, came_to}

module _ {K V : Type 0} (rule : World K V → Outcome K V) (w : List (Row K V) → World K V) where
  pub refused : (e : Refusal) → ((rows : List (Row K V)) → rule (w rows) ≡ Err e) → Comes rule w w (Err e)
  refused e h rows = left_as_found (w rows) (h rows)

  pub refused_by : (r : Result (Answer V) Refusal) (e : Refusal) → r ≡ Err e → ((rows : List (Row K V)) → rule (w rows) ≡ Err e) → Comes rule w w r
  refused_by r e q h rows = left_as_found (w rows) (h rows) ∙ ap (λ z. (w rows, z)) (sym q)

  pub comes : (w' : List (Row K V) → World K V) (r : Checked (Answer V)) → ((rows : List (Row K V)) → rule (w rows) ≡ Ok (w' rows, r)) → Comes rule w w' r
  comes w' r h rows = came_to (w rows) (w' rows, r) (h rows)
