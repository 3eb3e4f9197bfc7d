-- What a verdict leaves and answers, and what a call comes to. Assumes nothing.
use Rattle.std.specs.Prelude.{ℕ, Bool, List, Option, Some, None, Ok, Err, slice_set}
use Rattle.seeing.specs.declared.Transaction.{Transaction}
use Rattle.rules.specs.declared.Store.{Store}
use Rattle.rules.specs.declared.Answer.{Answer}
use Rattle.rules.specs.declared.Answer.TheVariants as answer
use Rattle.rules.specs.declared.Refusal.TheVariants as refusal
use Rattle.rules.specs.Worlds.{with_slots}
use Rattle.rules.specs.Checks.{Checked}
use Rattle.rules.specs.Aborting.{abort_store}
use Rattle.rules.specs.Validating.{validated}

-- the store after the verdict on the transaction in the slot, which ends at e
abbrev pub concluded : ℕ → Transaction → ℕ → Option (List Bool) → Store → Store
concluded slot t e (Some ws) s = with_slots s (slice_set s.slots slot (Some (validated e ws t)))
concluded slot t e None s = abort_store t.name s

abbrev pub answer_to : {V : Type 0} → Option (List Bool) → Checked (Answer V)
answer_to (Some ws) = Ok answer.Done
answer_to None = Err refusal.Validation
