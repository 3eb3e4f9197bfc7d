-- The rules of read, scan, insert, update and delete: what each answers, and all that it leaves. Assumes nothing.
use Rattle.std.specs.Prelude.{ℕ, Bool, false, cond, not, ◌&&◌, List, [], ◌∷◌, ◌++◌, length, drop, set, Some, None, Ok, Err, Option, nat_lt}
use Rattle.std.specs.declared.cmp.Ordering.{Ordering}
use Rattle.seeing.specs.declared.End.TheVariants as end
use Rattle.seeing.specs.declared.Transaction.{Transaction}
use Rattle.seeing.specs.declared.Version.{Version}
use Rattle.seeing.specs.Phases.{is_active, is_serializable}
use Rattle.seeing.specs.Slots.{Slots}
use Rattle.seeing.specs.Seeing.{visible}
use Rattle.seeing.specs.Changing.{made_by, not_writable, new_version, with_end, altered}
use Rattle.rules.specs.declared.Entry.{Entry}
use Rattle.rules.specs.declared.Noted.{Noted}
use Rattle.rules.specs.declared.Noted.TheVariants as noted
use Rattle.rules.specs.declared.Note.{Note}
use Rattle.rules.specs.declared.Row.{Row}
use Rattle.rules.specs.declared.BookCall.{BookCall}
use Rattle.rules.specs.declared.BookCall.TheVariants as book
use Rattle.rules.specs.declared.Answer.{Answer}
use Rattle.rules.specs.declared.Answer.TheVariants as answer
use Rattle.rules.specs.declared.Refusal.TheVariants as refusal
use Rattle.rules.specs.Tables.{any_free, filled}
use Rattle.rules.specs.Keys.{same, above}
use Rattle.rules.specs.Index.{Index, says_full, put}
use Rattle.rules.specs.Worlds.{World, Choice, with_store, with_versions, with_rows, with_added, with_slots}
use Rattle.rules.specs.Checks.{Checked, ◌>>=◌, ◌>>◌, refuse_if, Outcome, sound_in}
use Rattle.rules.specs.Slots.{one_more, answered, change}
use Rattle.rules.specs.Aborting.{abort_store}
use Rattle.rules.specs.Reaching.{Met, reach, first_seen, waits_after, any_newer}

module _ {K : Type 0} where
  -- the note that a serializable transaction makes, at the place given: the number of its notes then, and the note table
  abbrev pub noting : ℕ → ℕ → Transaction → Option (Noted K) → List (Entry (Note K)) → Checked (ℕ × List (Entry (Note K)))
  noting p n t None ns = Ok (t.made, ns)
  noting p n t (Some what) ns =
      cond (is_serializable t.level)
      (do
        refuse_if (not (any_free ns)) refusal.Notes
        Ok (one_more t.made, set ns p (filled (record { owner = n; number = t.made; noted = what }))))
      (Ok (t.made, ns))

module _ {K V : Type 0} where
  -- a note of the version met, unless it is n's own; "absent" is noted as the range of the one key
  abbrev pub note_of : ℕ → K → Option (Met K V) → Option (Noted K)
  note_of n k None = Some (noted.Range k k)
  note_of n k (Some y) = cond (made_by n y.1) None (Some (noted.Version y.1.key y.0))

  abbrev pub value_of : Option (Met K V) → Answer V
  value_of None = answer.Absent
  value_of (Some y) = answer.Value y.1.value

  -- the call answers: the note is made and the waits are entered
  abbrev pub conclude : Choice → World K V → ℕ → Transaction → Option (Noted K) → List Bool → Answer V → Outcome K V
  conclude c w n t what ws a = do
    x ← noting c.note n t what w.notes
    Ok (
      record {
        store = with_slots w.store (change n (answered x.0 ws) w.store.slots);
        versions = w.versions;
        notes = x.1;
        rows = w.rows;
        index = w.index;
      },
      Ok a,
    )

  abbrev pub aborted : World K V → ℕ → World K V
  aborted w n = with_store w (abort_store n w.store)

  -- the change conflicts: n is aborted
  abbrev pub conflict : World K V → ℕ → Outcome K V
  conflict w n = Ok (aborted w n, Err refusal.Conflict)

  abbrev pub row_of : Version K V → Row K V
  row_of v = record { key = v.key; value = v.value }

module _ {K : Type 0} (order : K → K → Ordering) where
  -- the key is that of the row before
  abbrev pub same_last : Option K → K → Bool
  same_last None k = false
  same_last (Some l) k = same order l k

module _ {K V : Type 0} (order : K → K → Ordering) where
  abbrev pub read_rule : Choice → World K V → ℕ → K → Outcome K V
  read_rule c w n k = do
    t ← sound_in w n is_active
    met ← reach order w k k
    let seen = first_seen w.store.slots n met
    conclude c w n t (note_of n k seen) (waits_after w.store.slots n n met t.waits) (value_of seen)

  -- a new version at the place given, in the table and the index
  abbrev pub adding : ℕ → ℕ → K → V → List (Entry (Version K V)) × Index K → Checked (List (Entry (Version K V)) × Index K)
  adding p n k x s = do
    refuse_if (not (any_free s.0)) refusal.Versions
    refuse_if (says_full order s.1 k p) (refusal.Full n (record { capacity = s.1.capacity }))
    Ok (set s.0 p (filled (new_version n k x)), put order s.1 k p)

  abbrev pub insert_rule : Choice → World K V → ℕ → K → V → Outcome K V
  insert_rule c w n k x = do
    t ← sound_in w n is_active
    met ← reach order w k k
    let waits = waits_after w.store.slots n n met t.waits
    elim (first_seen w.store.slots n met) [
      | Some y ↦ conclude c w n t (note_of n k (Some y)) waits answer.Present
      | None ↦
          cond (any_newer w.store.slots n met) (conflict w n)
          (do
            s ← adding c.version n k x (w.versions, w.index)
            conclude c (with_added w s) n t None waits answer.Done)
    ]

  -- a new version of the value, if there is one
  abbrev pub adding_if : ℕ → ℕ → K → Option V → List (Entry (Version K V)) × Index K → Checked (List (Entry (Version K V)) × Index K)
  adding_if p n k None s = Ok s
  adding_if p n k (Some x) s = adding p n k x s

  -- update with a value, delete with none
  abbrev pub alter_rule : Choice → World K V → ℕ → K → Option V → Outcome K V
  alter_rule c w n k new = do
    t ← sound_in w n is_active
    met ← reach order w k k
    let waits = waits_after w.store.slots n n met t.waits
    elim (first_seen w.store.slots n met) [
      | None ↦ conclude c w n t (Some (noted.Range k k)) waits answer.Absent
      | Some y ↦
          cond (made_by n y.1)
          (conclude c (with_versions w (set w.versions y.0 (filled (altered n new y.1)))) n t None waits answer.Done)
          (cond (not_writable w.store.slots y.1.end) (conflict w n)
          (do
            s ← adding_if c.version n k new (w.versions, w.index)
            conclude c (with_added w (set s.0 y.0 (filled (with_end (end.Owner n) y.1)), s.1)) n t None waits answer.Done))
    ]

  -- the version is a row: it is seen, and no row of its key stands before it
  abbrev pub shows : Slots → ℕ → Option K → Version K V → Bool
  shows ts n last v = visible ts n n v && not (same_last order last v.key)

  -- the rows of the versions met; last is the key of the row before
  abbrev pub rows_from : Slots → ℕ → Option K → List (Met K V) → List (Row K V)
  rows_from ts n last [] = []
  rows_from ts n last (y ∷ ys) = cond (shows ts n last y.1) (row_of y.1 ∷ rows_from ts n (Some y.1.key) ys) (rows_from ts n last ys)

  abbrev pub scan_rule : Choice → World K V → ℕ → K → K → Outcome K V
  scan_rule c w n lower upper = do
    t ← sound_in w n is_active
    refuse_if (above order lower upper) refusal.Keys
    met ← reach order w lower upper
    let rows = rows_from w.store.slots n None met
    refuse_if (nat_lt (length w.rows) (length rows)) refusal.Rows
    conclude c (with_rows w (rows ++ drop (length rows) w.rows)) n t (Some (noted.Range lower upper)) (waits_after w.store.slots n n met t.waits) (answer.Number (length rows))

  abbrev pub book_rule : Choice → World K V → ℕ → BookCall K V → Outcome K V
  book_rule c w n (book.Read k) = read_rule c w n k
  book_rule c w n (book.Scan lower upper) = scan_rule c w n lower upper
  book_rule c w n (book.Insert k x) = insert_rule c w n k x
  book_rule c w n (book.Update k x) = alter_rule c w n k (Some x)
  book_rule c w n (book.Delete k) = alter_rule c w n k None
