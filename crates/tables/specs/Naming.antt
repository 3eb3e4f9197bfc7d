-- The transaction that a call names. Assumes nothing.
use Rattle.std.specs.Prelude.{ℕ, cond, Some, None, Ok, Err, Option, ok_or}
use Rattle.std.specs.Bool.{then_some}
use Rattle.seeing.specs.declared.Transaction.{Transaction}
use Rattle.seeing.specs.Phases.{is_active}
use Rattle.seeing.specs.Slots.{found}
use Rattle.rules.specs.declared.Store.{Store}
use Rattle.rules.specs.declared.Refusal.TheVariants as refusal
use Rattle.rules.specs.Checks.{Checked, still_allowed}

module _ {A B : Type 0} (f : A → B) where
  -- what is given, seen through f, or the refusal
  abbrev pub through : Checked A → Checked B
  through (Ok a) = Ok (f a)
  through (Err r) = Err r

-- the slot of the transaction of that name, and the transaction
abbrev pub placed : Store → ℕ → ℕ → ℕ → ℕ → Checked (ℕ × Transaction)
placed s versions notes capacity n = cond (still_allowed s.opened versions notes capacity) (ok_or (found s.slots n 0) refusal.Unknown) (Err refusal.Lengths)

module _ {A : Type 0} where
  -- what the phase gives, unless it gives nothing or the transaction is doomed
  abbrev pub if_sound : Transaction → Option A → Checked A
  if_sound t None = Err refusal.Phase
  if_sound t (Some x) = cond t.doomed (Err refusal.Doomed) (Ok x)

-- the same as placed, if the transaction is active and not doomed
abbrev pub located : Store → ℕ → ℕ → ℕ → ℕ → Checked (ℕ × Transaction)
located s versions notes capacity n = elim (placed s versions notes capacity n) [ Err r ↦ Err r | Ok x ↦ if_sound x.1 (then_some (is_active x.1.phase) x) ]
