-- Which free place of a table is taken. Assumes nothing.
use Rattle.std.specs.Prelude.{ℕ, List, drop, Some, None, Option}
use Rattle.std.specs.Option.{unwrap_or}
use Rattle.rules.specs.declared.Entry.{Entry}
use Rattle.rules.specs.Tables.{free_from}

module _ {A : Type 0} where
  -- the first free place at or after the hint, or else the first of all
  abbrev pub search_from : ℕ → List (Entry A) → Option ℕ
  search_from hint xs = elim (free_from hint (drop hint xs)) [ Some p ↦ Some p | None ↦ free_from 0 xs ]

  -- the same, and 0 where nothing is free
  abbrev pub pick : ℕ → List (Entry A) → ℕ
  pick hint xs = unwrap_or (search_from hint xs) 0
