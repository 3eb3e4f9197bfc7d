-- Tables, whose entries are used or free. Assumes nothing.
use Rattle.std.specs.Prelude.{ℕ, zero, suc, ◌+◌, Bool, false, cond, not, List, [], ◌∷◌, map, is_some, Some, None, Option}
use Rattle.rules.specs.declared.Entry.{Entry}
use Rattle.rules.specs.Lists.{any, used}

module _ {A : Type 0} where
  abbrev pub filled : A → Entry A
  filled x = record { held = Some x }

  abbrev pub emptied : Entry A
  emptied = record { held = None }

  -- what the table has at the place; none if the entry is free or lies outside
  abbrev pub entry : List (Entry A) → ℕ → Option A
  entry [] p = None
  entry (x ∷ xs) zero = x.held
  entry (x ∷ xs) (suc p) = entry xs p

  abbrev pub free : Entry A → Bool
  free x = not (is_some x.held)

  abbrev pub any_free : List (Entry A) → Bool
  any_free xs = any free xs

  -- the place lies in the table, and its entry is free
  abbrev pub is_free : List (Entry A) → ℕ → Bool
  is_free [] p = false
  is_free (x ∷ xs) zero = free x
  is_free (x ∷ xs) (suc p) = is_free xs p

  -- the first free place, counted from i
  abbrev pub free_from : ℕ → List (Entry A) → Option ℕ
  free_from i [] = None
  free_from i (x ∷ xs) = cond (free x) (Some i) (free_from (i + 1) xs)

  -- the items of the used entries, in order
  abbrev pub items : List (Entry A) → List A
  items xs = used (map (λ x. x.held) xs)
