-- Listing the rows of some keys. Assumes nothing.
use Rattle.std.specs.Prelude.{◌≡◌, ℕ, ◌+◌, cond, List, [], ◌∷◌, Some, Ok, Err, Option, Result, nat_le, slice_set}
use Rattle.std.specs.declared.cmp.Ordering.{Ordering}
use Rattle.seeing.specs.declared.Version.{Version}
use Rattle.seeing.specs.Slots.{Slots}
use Rattle.rules.specs.declared.Entry.{Entry}
use Rattle.rules.specs.declared.Row.{Row}
use Rattle.rules.specs.declared.Refusal.{Refusal}
use Rattle.rules.specs.declared.Refusal.TheVariants as refusal
use Rattle.rules.specs.Checks.{Checked, ◌>>=◌, ◌>>◌, refuse_if}
use Rattle.rules.specs.Reaching.{reached}
use Rattle.rules.specs.BookRules.{shows, row_of}

-- where a listing of rows stands: the key of the last row, how many rows, and the row table, which is empty where rows are only counted
pub record Listed (K V : Type 0) : Type 0 where
  pub last : Option K
  pub count : ℕ
  pub table : List (Row K V)

module _ {K V : Type 0} where
  -- with the row of the version
  abbrev pub one_row : Version K V → Listed K V → Listed K V
  one_row v l = record { last = Some v.key; count = l.count + 1; table = slice_set l.table l.count (row_of v) }

module _ {K V : Type 0} (order : K → K → Ordering) where
  -- the rows of the versions that the pairs lead to, as far as there is room
  abbrev pub listing : Slots → List (Entry (Version K V)) → ℕ → ℕ → Listed K V → List (K × ℕ) → Checked (Listed K V)
  listing ts vs n room l [] = Ok l
  listing ts vs n room l (x ∷ xs) = do
    y ← reached order ts vs x
    cond (shows order ts n l.last y.1)
        (do
          refuse_if (nat_le room l.count) refusal.Rows
          listing ts vs n room (one_row y.1 l) xs)
        (listing ts vs n room l xs)

module _ {K V : Type 0} where
  -- a listing gives its count and leaves its table
  abbrev pub Lists : Checked (Listed K V) → List (Row K V) → Result ℕ Refusal → Type 0
  Lists m table (Ok n) = (l : Listed K V) × (m ≡ Ok l) × (l.count ≡ n) × (l.table ≡ table)
  Lists m table (Err e) = m ≡ Err e
