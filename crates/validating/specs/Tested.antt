-- The test of one version. Assumes nothing.
use Rattle.std.specs.Prelude.{ℕ, Bool, cond, List, Some, None, Ok, Option}
use Rattle.std.specs.declared.cmp.Ordering.{Ordering}
use Rattle.seeing.specs.declared.Version.{Version}
use Rattle.seeing.specs.Slots.{Slots}
use Rattle.seeing.specs.Seeing.{waits_for}
use Rattle.seeing.specs.Changing.{own_work}
use Rattle.rules.specs.declared.Entry.{Entry}
use Rattle.rules.specs.Checks.{Checked, ◌>>=◌}
use Rattle.rules.specs.Slots.{mark}
use Rattle.rules.specs.Reaching.{reached}
use Rattle.rules.specs.Validating.{passes}

module _ {K V : Type 0} where
  -- what the test of a version comes to for n, which ends at e
  abbrev pub judged : Slots → ℕ → ℕ → Bool → Version K V → List Bool → Option (List Bool)
  judged ts n e show v ws = cond (own_work n v) (Some ws) (cond (passes ts n e show v) (Some (mark ts (waits_for ts n e v) ws)) None)

module _ {K V : Type 0} (order : K → K → Ordering) where
  -- the same of the version that the pair leads to
  abbrev pub one_test : Slots → List (Entry (Version K V)) → ℕ → ℕ → Bool → K × ℕ → List Bool → Checked (Option (List Bool))
  one_test ts vs n e show x ws = do
    y ← reached order ts vs x
    Ok (judged ts n e show y.1 ws)
