-- Checks in the order of the refusals. Assumes nothing.
-- The five that chain checks are unfoldable; all else computes. So a proof goes through a rule check by check.
use Rattle.std.specs.Prelude.{◌≡◌, ℕ, Bool, true, false, not, ◌&&◌, List, length, Some, None, Ok, Err, Option, Result, ◌==◌, nat_le}
use Rattle.seeing.specs.declared.Phase.{Phase}
use Rattle.seeing.specs.declared.Transaction.{Transaction}
use Rattle.seeing.specs.Slots.{find}
use Rattle.rules.specs.declared.Lengths.{Lengths}
use Rattle.rules.specs.declared.Store.{Store}
use Rattle.rules.specs.declared.Row.{Row}
use Rattle.rules.specs.declared.Answer.{Answer}
use Rattle.rules.specs.declared.Refusal.{Refusal}
use Rattle.rules.specs.declared.Refusal.TheVariants as refusal
use Rattle.rules.specs.Worlds.{World}

infixl 10 ◌>>=◌ ◌>>◌
-- a value, or the first refusal met on the way to it
abbrev pub Checked : Type 0 → Type 0
Checked A = Result A Refusal

module _ {A B : Type 0} where
  unfoldable pub ◌>>=◌ : Checked A → (A → Checked B) → Checked B
  ◌>>=◌ (Ok a) f = f a
  ◌>>=◌ (Err r) f = Err r

  unfoldable pub ◌>>◌ : Checked A → Checked B → Checked B
  ◌>>◌ (Ok a) next = next
  ◌>>◌ (Err r) next = Err r

module _ {A : Type 0} where
  unfoldable pub some_or : Refusal → Option A → Checked A
  some_or r None = Err r
  some_or r (Some a) = Ok a

unfoldable pub refuse_if : Bool → Refusal → Checked Bool
refuse_if true r = Err r
refuse_if false r = Ok true

-- what a call comes to: the world after it and its answer, or a refusal that leaves all as found
abbrev pub Outcome : Type 0 → Type 0 → Type 0
Outcome K V = Checked (World K V × Checked (Answer V))

module _ {K V : Type 0} where
  unfoldable pub or_as_found : World K V → Outcome K V → World K V × Checked (Answer V)
  or_as_found w (Ok r) = r
  or_as_found w (Err r) = (w, Err r)

module _ {K V : Type 0} where
  -- the rule, taken from the world w, leaves w' and answers r, whatever rows the caller keeps
  abbrev pub Comes : (World K V → Outcome K V) → (List (Row K V) → World K V) → (List (Row K V) → World K V) → Result (Answer V) Refusal → Type 0
  Comes rule w w' r = (rows : List (Row K V)) → or_as_found (w rows) (rule (w rows)) ≡ (w' rows, r)

-- the largest stamp
abbrev pub largest : ℕ
largest = 9223372036854775806

-- lengths of the two tables, and a capacity, that are allowed
abbrev pub allowed : ℕ → ℕ → ℕ → Bool
allowed versions notes capacity = nat_le 1 versions && nat_le versions 65536 && nat_le notes 65536 && nat_le 1 capacity && nat_le capacity 65536

-- and the same as at opening
abbrev pub still_allowed : Option Lengths → ℕ → ℕ → ℕ → Bool
still_allowed None versions notes capacity = false
still_allowed (Some l) versions notes capacity = allowed versions notes capacity && l.versions == versions && l.notes == notes

-- the transaction that a call names, in a phase that allows the call
abbrev pub named : Store → ℕ → ℕ → ℕ → ℕ → (Phase → Bool) → Checked Transaction
named s versions notes capacity n allows = do
  refuse_if (not (still_allowed s.opened versions notes capacity)) refusal.Lengths
  t ← some_or refusal.Unknown (find s.slots n)
  refuse_if (not (allows t.phase)) refusal.Phase
  Ok t

-- the same, and it is not doomed
abbrev pub sound : Store → ℕ → ℕ → ℕ → ℕ → (Phase → Bool) → Checked Transaction
sound s versions notes capacity n allows = do
  t ← named s versions notes capacity n allows
  refuse_if t.doomed refusal.Doomed
  Ok t

module _ {K V : Type 0} where
  -- the store is open, with tables as long as at opening
  abbrev pub in_order : World K V → Bool
  in_order w = still_allowed w.store.opened (length w.versions) (length w.notes) w.index.capacity

  abbrev pub named_in : World K V → ℕ → (Phase → Bool) → Checked Transaction
  named_in w n allows = named w.store (length w.versions) (length w.notes) w.index.capacity n allows

  abbrev pub sound_in : World K V → ℕ → (Phase → Bool) → Checked Transaction
  sound_in w n allows = sound w.store (length w.versions) (length w.notes) w.index.capacity n allows
