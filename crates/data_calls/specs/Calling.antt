-- What the calls on rows and their helpers come to. Assumes nothing.
use Rattle.std.specs.Prelude.{◌≡◌, ℕ, Bool, List, length, Some, None, Ok, Option, Result, slice_set}
use Rattle.std.specs.declared.cmp.Ordering.{Ordering}
use Rattle.index.specs.Listed.{rest}
use Rattle.seeing.specs.declared.Transaction.{Transaction}
use Rattle.seeing.specs.declared.Version.{Version}
use Rattle.rules.specs.declared.Entry.{Entry}
use Rattle.rules.specs.declared.Store.{Store}
use Rattle.rules.specs.declared.Note.{Note}
use Rattle.rules.specs.declared.Noted.{Noted}
use Rattle.rules.specs.declared.Row.{Row}
use Rattle.rules.specs.declared.BookCall.{BookCall}
use Rattle.rules.specs.declared.BookCall.TheVariants as book
use Rattle.rules.specs.declared.Call.TheVariants as call
use Rattle.rules.specs.declared.Answer.{Answer}
use Rattle.rules.specs.declared.Refusal.{Refusal}
use Rattle.rules.specs.Index.{Index}
use Rattle.rules.specs.Worlds.{World, Choice, Allowed, with_slots}
use Rattle.rules.specs.Checks.{Checked, ◌>>=◌}
use Rattle.rules.specs.Slots.{answered}
use Rattle.rules.specs.BookRules.{noting}
use Rattle.rules.specs.Rules.{rule}
use Rattle.tables.specs.Places.{pick}
use Rattle.tables.specs.Naming.{located}
use Rattle.walks.specs.declared.Survey.{Survey}
use Rattle.walks.specs.Walk.{start, walk}

module _ {K V : Type 0} where
  abbrev pub world : Store → List (Entry (Version K V)) → List (Entry (Note K)) → List (Row K V) → Index K → World K V
  world s vs ns rows i = record { store = s; versions = vs; notes = ns; rows = rows; index = i }

  -- the free entries that a search from the hints comes to
  abbrev pub picked : ℕ → ℕ → List (Entry (Version K V)) → List (Entry (Note K)) → Choice
  picked version_hint note_hint vs ns = record { version = pick version_hint vs; note = pick note_hint ns }

module _ {K V : Type 0} (order : K → K → Ordering) where
  -- a call of n that finds the world w leaves w' and answers r, for some choice of free entries
  abbrev pub Answers : World K V → World K V → ℕ → BookCall K V → Result (Answer V) Refusal → Type 0
  Answers w w' n a r = (c : Choice) × Allowed c w × (rule order c w (call.Book n a) ≡ (w', r))

  -- the same whatever the row table, which stays as it is
  abbrev pub AnswersAround : (List (Row K V) → World K V) → (List (Row K V) → World K V) → ℕ → BookCall K V → Result (Answer V) Refusal → Type 0
  AnswersAround w w' n a r = (rows : List (Row K V)) → Answers (w rows) (w' rows) n a r

  -- a call of n that finds the world w leaves w' and answers r, with the free entries picked from the hints;
  -- a read or scan takes no version entry, so that any version hint says the same
  abbrev pub AnswersFrom : ℕ → ℕ → World K V → World K V → ℕ → BookCall K V → Result (Answer V) Refusal → Type 0
  AnswersFrom version_hint note_hint w w' n a r = rule order (picked version_hint note_hint w.versions w.notes) w (call.Book n a) ≡ (w', r)

  -- the same whatever the row table, which stays as it is
  abbrev pub AnswersFromAround : ℕ → ℕ → (List (Row K V) → World K V) → (List (Row K V) → World K V) → ℕ → BookCall K V → Result (Answer V) Refusal → Type 0
  AnswersFromAround version_hint note_hint w w' n a r = (rows : List (Row K V)) → AnswersFrom version_hint note_hint (w rows) (w' rows) n a r

module _ {K V : Type 0} (order : K → K → Ordering) where
  -- the slot and the transaction that a call names, and what a walk over the versions from lower to upper finds for it
  abbrev pub approached : Store → List (Entry (Version K V)) → ℕ → List (K × ℕ) → ℕ → ℕ → K → K → Checked (ℕ × Transaction × Survey K V)
  approached s vs notes xs limit n lower upper = do
    x ← located s (length vs) notes limit n
    y ← walk order s.slots vs n (start x.1.waits) (rest order lower 0 upper xs)
    Ok (x.0, x.1, y)

module _ {K V : Type 0} where
  -- the note is made at the place p, and the waits are entered
  abbrev pub concluding : ℕ → ℕ → ℕ → Transaction → Option (Noted K) → List Bool → Answer V → Store × List (Entry (Note K)) → Checked (Answer V × (Store × List (Entry (Note K))))
  concluding p n slot t what ws a s = do
    x ← noting p n t what s.1
    Ok (a, (with_slots s.0 (slice_set s.0.slots slot (Some (answered x.0 ws t))), x.1))

  -- an update with a value, a delete with none
  abbrev pub call_of : K → Option V → BookCall K V
  call_of k None = book.Delete k
  call_of k (Some x) = book.Update k x
