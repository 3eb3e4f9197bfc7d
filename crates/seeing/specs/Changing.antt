-- What a version says of a change to its key, and what it becomes by a change or a finish. Assumes nothing.
use Rattle.std.specs.Prelude.{ℕ, Bool, true, false, cond, not, ◌&&◌, ◌||◌, is_some, Some, None, Option, ◌==◌, nat_lt}
use Rattle.seeing.specs.declared.Begin.{Begin}
use Rattle.seeing.specs.declared.Begin.TheVariants as begin
use Rattle.seeing.specs.declared.End.{End}
use Rattle.seeing.specs.declared.End.TheVariants as end
use Rattle.seeing.specs.declared.Phase.{Phase}
use Rattle.seeing.specs.declared.Phase.TheVariants.{Active, Preparing, Validated, Committed, Aborted}
use Rattle.seeing.specs.declared.Version.{Version}
use Rattle.seeing.specs.Phases.{is_aborted, busy_after}
use Rattle.seeing.specs.Slots.{Slots, find, seen_phase}
use Rattle.seeing.specs.Seeing.{as_end}

abbrev pub names : ℕ → End → Bool
names n (end.Stamp s) = false
names n (end.Owner m) = m == n
names n end.Open = false

-- it names no transaction that is unknown
abbrev pub known : Slots → End → Bool
known ts (end.Stamp s) = true
known ts (end.Owner m) = is_some (find ts m)
known ts end.Open = true

-- a version with that End is not to be changed: the End is a stamp, or names one that is not aborted
abbrev pub not_writable : Slots → End → Bool
not_writable ts (end.Stamp s) = true
not_writable ts (end.Owner m) = not (is_aborted (seen_phase (find ts m)))
not_writable ts end.Open = false

abbrev pub ends_at : ℕ → End → Bool
ends_at s (end.Stamp e) = e == s
ends_at s (end.Owner m) = false
ends_at s end.Open = false

-- a version with that Begin and End tells against an insert by the transaction named n
abbrev pub too_new : Slots → ℕ → Begin → End → Bool
too_new ts n (begin.Stamp s) e = nat_lt n s && not (ends_at s e)
too_new ts n (begin.Owner m) e = not (m == n) && busy_after n (seen_phase (find ts m))

-- what a finish puts in the place of the name
abbrev pub settle_end : ℕ → End → End → End
settle_end n e (end.Stamp s) = end.Stamp s
settle_end n e (end.Owner m) = cond (m == n) e (end.Owner m)
settle_end n e end.Open = end.Open

abbrev pub settle_begin : ℕ → ℕ → Begin → Begin
settle_begin n e (begin.Stamp s) = begin.Stamp s
settle_begin n e (begin.Owner m) = cond (m == n) (begin.Stamp e) (begin.Owner m)

module _ {K V : Type 0} where
  abbrev pub made_by : ℕ → Version K V → Bool
  made_by n v = names n (as_end v.begin)

  -- made or ended by n
  abbrev pub own_work : ℕ → Version K V → Bool
  own_work n v = made_by n v || names n v.end

  abbrev pub new_version : ℕ → K → V → Version K V
  new_version n k x = record { key = k; value = x; begin = begin.Owner n; end = end.Open }

  abbrev pub with_value : V → Version K V → Version K V
  with_value x v = record { key = v.key; value = x; begin = v.begin; end = v.end }

  abbrev pub with_begin : Begin → Version K V → Version K V
  with_begin b v = record { key = v.key; value = v.value; begin = b; end = v.end }

  abbrev pub with_end : End → Version K V → Version K V
  with_end e v = record { key = v.key; value = v.value; begin = v.begin; end = e }

  -- n's own version with the new value, or ended by n where there is none
  abbrev pub altered : ℕ → Option V → Version K V → Version K V
  altered n None v = with_end (end.Owner n) v
  altered n (Some x) v = with_value x v

  -- a version once n, in that phase, is finished; last is the last stamp given
  abbrev pub settle : ℕ → ℕ → Phase → Version K V → Version K V
  settle last n Active v = v
  settle last n (Preparing e) v = v
  settle last n (Validated e) v = v
  settle last n (Committed e) v = with_begin (settle_begin n e v.begin) (with_end (settle_end n (end.Stamp e) v.end) v)
  settle last n Aborted v =
      cond (made_by n v) (with_begin (begin.Stamp last) (with_end (end.Stamp last) v)) (with_end (settle_end n end.Open v.end) v)
