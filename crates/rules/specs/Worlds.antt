-- All that a call may find and change. Assumes nothing.
use Rattle.std.specs.Prelude.{ℕ, T, List}
use Rattle.seeing.specs.declared.Version.{Version}
use Rattle.seeing.specs.Slots.{Slots}
use Rattle.rules.specs.declared.Entry.{Entry}
use Rattle.rules.specs.declared.Store.{Store}
use Rattle.rules.specs.declared.Note.{Note}
use Rattle.rules.specs.declared.Row.{Row}
use Rattle.rules.specs.Tables.{any_free, is_free}
use Rattle.rules.specs.Index.{Index}

pub record World (K V : Type 0) : Type 0 where
  pub store : Store
  pub versions : List (Entry (Version K V))
  pub notes : List (Entry (Note K))
  pub rows : List (Row K V)
  pub index : Index K

-- which free entries a call takes, should it need any
pub record Choice : Type 0 where
  pub version : ℕ
  pub note : ℕ

module _ {K V : Type 0} where
  -- the choice falls on free entries, wherever there are any
  pub record Allowed (c : Choice) (w : World K V) : Type 0 where
    pub version : T (any_free w.versions) → T (is_free w.versions c.version)
    pub note : T (any_free w.notes) → T (is_free w.notes c.note)

  -- the world around a store, for each row table
  abbrev pub around : Store → List (Entry (Version K V)) → List (Entry (Note K)) → Index K → List (Row K V) → World K V
  around s vs ns i rows = record { store = s; versions = vs; notes = ns; rows = rows; index = i }

  abbrev pub with_store : World K V → Store → World K V
  with_store w s = record { store = s; versions = w.versions; notes = w.notes; rows = w.rows; index = w.index }

  abbrev pub with_versions : World K V → List (Entry (Version K V)) → World K V
  with_versions w vs = record { store = w.store; versions = vs; notes = w.notes; rows = w.rows; index = w.index }

  abbrev pub with_rows : World K V → List (Row K V) → World K V
  with_rows w rows = record { store = w.store; versions = w.versions; notes = w.notes; rows = rows; index = w.index }

  abbrev pub with_added : World K V → List (Entry (Version K V)) × Index K → World K V
  with_added w s = record { store = w.store; versions = s.0; notes = w.notes; rows = w.rows; index = s.1 }

abbrev pub with_slots : Store → Slots → Store
with_slots s ts = record { opened = s.opened; last = s.last; commits = s.commits; aborts = s.aborts; slots = ts }
