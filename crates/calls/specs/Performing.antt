-- Exactly what a call does: which free entries it takes, and all that it leaves. Assumes nothing.
use Rattle.std.specs.Prelude.{◌≡◌, ℕ, cond, List, Some, None, Option, Result}
use Rattle.std.specs.declared.cmp.Ordering.{Ordering}
use Rattle.seeing.specs.declared.Transaction.{Transaction}
use Rattle.seeing.specs.declared.Version.{Version}
use Rattle.seeing.specs.Phases.{is_serializable}
use Rattle.seeing.specs.Slots.{found}
use Rattle.rules.specs.declared.Entry.{Entry}
use Rattle.rules.specs.declared.Note.{Note}
use Rattle.rules.specs.declared.Row.{Row}
use Rattle.rules.specs.declared.BookCall.{BookCall}
use Rattle.rules.specs.declared.BookCall.TheVariants as book
use Rattle.rules.specs.declared.Call.{Call}
use Rattle.rules.specs.declared.Call.TheVariants as call
use Rattle.rules.specs.declared.Answer.{Answer}
use Rattle.rules.specs.declared.Refusal.{Refusal}
use Rattle.rules.specs.Index.{Index}
use Rattle.rules.specs.Worlds.{World, Choice, around}
use Rattle.rules.specs.Rules.{rule}
use Rattle.tables.specs.Places.{pick}
use Rattle.data_calls.specs.Calling.{picked}
use Rattle.calls.specs.declared.store.TableStore.{TableStore}
use Rattle.calls.specs.Promises.{never_opened}

-- a store that was never opened, as a caller holds it; the first search begins at the front
abbrev pub new_store : TableStore
new_store = record { store = never_opened; version_hint = 0; note_hint = 0 }

-- all that a call finds and leaves
pub record Desk (K V : Type 0) : Type 0 where
  pub store : TableStore
  pub versions : List (Entry (Version K V))
  pub notes : List (Entry (Note K))
  pub rows : List (Row K V)
  pub index : Index K

-- where a search for a free version entry begins, and where one for a free note
abbrev pub Hints : Type 0
Hints = ℕ × ℕ

abbrev pub hints_of : TableStore → Hints
hints_of s = (s.version_hint, s.note_hint)

-- the store has those hints
abbrev pub Hinted : TableStore → Hints → Type 0
Hinted s hints = (s.version_hint ≡ hints.0) × (s.note_hint ≡ hints.1)

module _ {A : Type 0} where
  -- the free entry found from the store's hint
  abbrev pub version_place : TableStore → List (Entry A) → ℕ
  version_place s vs = pick s.version_hint vs

  abbrev pub note_place_for : Option (ℕ × Transaction) → ℕ → List (Entry A) → ℕ
  note_place_for None hint ns = hint
  note_place_for (Some x) hint ns = cond (is_serializable x.1.level) (pick hint ns) hint

  -- the free note found from the store's hint, for a transaction that makes notes; for any other the hint stays
  abbrev pub note_place : TableStore → List (Entry A) → ℕ → ℕ
  note_place s ns n = note_place_for (found s.store.slots n 0) s.note_hint ns

module _ {K V : Type 0} where
  -- the hints after a call
  abbrev pub book_hints : TableStore → List (Entry (Version K V)) → List (Entry (Note K)) → ℕ → BookCall K V → Hints
  book_hints s vs ns n (book.Read k) = (s.version_hint, note_place s ns n)
  book_hints s vs ns n (book.Scan lower upper) = (s.version_hint, note_place s ns n)
  book_hints s vs ns n (book.Insert k x) = (version_place s vs, note_place s ns n)
  book_hints s vs ns n (book.Update k x) = (version_place s vs, note_place s ns n)
  book_hints s vs ns n (book.Delete k) = (version_place s vs, note_place s ns n)

  abbrev pub hints_after : TableStore → List (Entry (Version K V)) → List (Entry (Note K)) → Call K V → Hints
  hints_after s vs ns (call.Open stamp) = (0, 0)
  hints_after s vs ns (call.Begin level) = hints_of s
  hints_after s vs ns (call.Book n b) = book_hints s vs ns n b
  hints_after s vs ns (call.Prepare n) = hints_of s
  hints_after s vs ns (call.Validate n) = hints_of s
  hints_after s vs ns (call.Commit n) = hints_of s
  hints_after s vs ns (call.Abort n) = hints_of s
  hints_after s vs ns (call.Finish n) = hints_of s
  hints_after s vs ns call.Sweep = hints_of s
  hints_after s vs ns call.Tally = hints_of s

  -- a desk for each row table
  abbrev pub desk : TableStore → List (Entry (Version K V)) → List (Entry (Note K)) → Index K → List (Row K V) → Desk K V
  desk s vs ns i rows = record { store = s; versions = vs; notes = ns; rows = rows; index = i }

  abbrev pub world_of : Desk K V → World K V
  world_of d = around d.store.store d.versions d.notes d.index d.rows

  abbrev pub desk_of : World K V → Hints → Desk K V
  desk_of w hints = desk (record { store = w.store; version_hint = hints.0; note_hint = hints.1 }) w.versions w.notes w.index w.rows

  -- the free entries found from those hints
  abbrev pub found_from : Hints → Desk K V → Choice
  found_from hints d = picked hints.0 hints.1 d.versions d.notes

  abbrev pub after : Desk K V → Call K V → Hints
  after d a = hints_after d.store d.versions d.notes a

  -- the free entries that a call takes, should it need any: those found from the hints after it
  abbrev pub chosen : Desk K V → Call K V → Choice
  chosen d a = found_from (after d a) d

module _ {K V : Type 0} (order : K → K → Ordering) where
  -- what the call leaves, and its answer
  abbrev pub performed : Desk K V → Call K V → Desk K V × Result (Answer V) Refusal
  performed d a =
      let r = rule order (chosen d a) (world_of d) a in
      (desk_of r.0 (after d a), r.1)

  -- a call that finds the desk d leaves d' and answers r
  abbrev pub Performs : Desk K V → Desk K V → Call K V → Result (Answer V) Refusal → Type 0
  Performs d d' a r = performed d a ≡ (d', r)

  -- the same for a call that has no row table: whatever rows there are, they stay
  abbrev pub PerformsAround : (List (Row K V) → Desk K V) → (List (Row K V) → Desk K V) → Call K V → Result (Answer V) Refusal → Type 0
  PerformsAround d d' a r = (rows : List (Row K V)) → Performs (d rows) (d' rows) a r
