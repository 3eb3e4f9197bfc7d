-- Who sees which version at a time, and whom it then waits on. Assumes nothing.
use Rattle.std.specs.Prelude.{ℕ, Bool, false, cond, not, ◌&&◌, ◌||◌, Some, None, Option, ◌==◌, nat_le}
use Rattle.seeing.specs.declared.Begin.{Begin}
use Rattle.seeing.specs.declared.Begin.TheVariants as begin
use Rattle.seeing.specs.declared.End.{End}
use Rattle.seeing.specs.declared.End.TheVariants as end
use Rattle.seeing.specs.declared.Version.{Version}
use Rattle.seeing.specs.Phases.{stamped_by, is_preparing}
use Rattle.seeing.specs.Slots.{Slots, find, seen_phase}

-- a Begin read as an End: what holds of the one by its cases holds of the other
abbrev pub as_end : Begin → End
as_end (begin.Stamp s) = end.Stamp s
as_end (begin.Owner m) = end.Owner m

-- for the reader named n it has come about by the time
abbrev pub happened : Slots → ℕ → ℕ → End → Bool
happened ts n time (end.Stamp s) = nat_le s time
happened ts n time (end.Owner m) = m == n || stamped_by time (seen_phase (find ts m))
happened ts n time end.Open = false

-- the preparing transaction other than n that it names
abbrev pub preparing_other : Slots → ℕ → End → Option ℕ
preparing_other ts n (end.Stamp s) = None
preparing_other ts n (end.Owner m) = cond (not (m == n) && is_preparing (seen_phase (find ts m))) (Some m) None
preparing_other ts n end.Open = None

module _ {K V : Type 0} where
  abbrev pub begun : Slots → ℕ → ℕ → Version K V → Bool
  begun ts n time v = happened ts n time (as_end v.begin)

  abbrev pub ended : Slots → ℕ → ℕ → Version K V → Bool
  ended ts n time v = happened ts n time v.end

  -- the transaction named n sees the version at the time
  abbrev pub visible : Slots → ℕ → ℕ → Version K V → Bool
  visible ts n time v = begun ts n time v && not (ended ts n time v)

  -- whom it waits on once it has tested the version at the time: the maker of a version that it sees, or who ended one that has begun, if that one is preparing
  abbrev pub waits_for : Slots → ℕ → ℕ → Version K V → Option ℕ
  waits_for ts n time v =
      cond (begun ts n time v) (preparing_other ts n (cond (ended ts n time v) v.end (as_end v.begin))) None
