-- What a walk over the versions of some keys finds. Assumes nothing.
use Rattle.std.specs.Prelude.{ℕ, Bool, false, cond, not, ◌&&◌, ◌||◌, List, [], ◌∷◌, is_some, Some, None, Ok}
use Rattle.std.specs.declared.cmp.Ordering.{Ordering}
use Rattle.seeing.specs.declared.Version.{Version}
use Rattle.seeing.specs.Slots.{Slots}
use Rattle.seeing.specs.Seeing.{visible, waits_for}
use Rattle.seeing.specs.Changing.{too_new}
use Rattle.rules.specs.declared.Entry.{Entry}
use Rattle.rules.specs.Checks.{Checked, ◌>>=◌}
use Rattle.rules.specs.Slots.{mark}
use Rattle.rules.specs.Reaching.{Met, reached}
use Rattle.walks.specs.declared.Survey.{Survey}

module _ {K V : Type 0} where
  -- what has been found once a version more is met
  abbrev pub also : Slots → ℕ → Survey K V → Met K V → Survey K V
  also ts n s y = record {
    seen = cond (not (is_some s.seen) && visible ts n n y.1) (Some y) s.seen;
    waits = mark ts (waits_for ts n n y.1) s.waits;
    newer = s.newer || too_new ts n y.1.begin y.1.end;
  }

  -- nothing found, and those waits
  abbrev pub start : List Bool → Survey K V
  start ws = record { seen = None; waits = ws; newer = false }

module _ {K V : Type 0} (order : K → K → Ordering) where
  -- a walk over the versions that the pairs lead to, from what has been found
  abbrev pub walk : Slots → List (Entry (Version K V)) → ℕ → Survey K V → List (K × ℕ) → Checked (Survey K V)
  walk ts vs n s [] = Ok s
  walk ts vs n s (x ∷ xs) = do
    y ← reached order ts vs x
    walk ts vs n (also ts n s y) xs
