-- Runs: an accepted open and any calls after it, with what each transaction was told and became. Assumes nothing.
use Rattle.std.specs.Prelude.{ℕ, Bool, true, false, cond, ◌||◌, T, List, [], ◌∷◌, ◌++◌, take, Some, None, Ok, Err, Option, ◌==◌}
use Rattle.std.specs.declared.cmp.Ordering.{Ordering}
use Rattle.seeing.specs.declared.Level.{Level}
use Rattle.seeing.specs.declared.Level.TheVariants.{Snapshot}
use Rattle.rules.specs.declared.Row.{Row}
use Rattle.rules.specs.declared.Call.{Call}
use Rattle.rules.specs.declared.Call.TheVariants as call
use Rattle.rules.specs.declared.Answer.{Answer}
use Rattle.rules.specs.declared.Answer.TheVariants as answer
use Rattle.rules.specs.Said.{number}
use Rattle.rules.specs.Worlds.{World, Choice, Allowed, with_rows}
use Rattle.rules.specs.Checks.{Checked}
use Rattle.rules.specs.Rules.{rule}
use Rattle.rules.specs.Book.{Exchange, is_done}

-- what a call did for the transaction it names
pub data Event (K V : Type 0) : Type 0 where
  Began : Level → Event K V
  Exchanged : Exchange K V → Event K V
  Prepared : ℕ → Event K V
  Validated Committed Aborted : Event K V

-- the events since the last accepted open, each with the transaction's name, the newest first
abbrev pub History : Type 0 → Type 0 → Type 0
History K V = List (ℕ × Event K V)

-- what the events of one transaction come to
pub record Life (K V : Type 0) : Type 0 where
  pub level : Level
  pub transcript : List (Exchange K V)
  pub stamp : Option ℕ
  pub validated : Bool
  pub committed : Bool
  pub aborted : Bool

module _ {V : Type 0} where
  abbrev pub stamp_in : Checked (Answer V) → ℕ
  stamp_in (Err r) = 0
  stamp_in (Ok answer.Done) = 0
  stamp_in (Ok answer.Present) = 0
  stamp_in (Ok answer.Absent) = 0
  stamp_in (Ok (answer.Value x)) = 0
  stamp_in (Ok (answer.Stamp s)) = s
  stamp_in (Ok (answer.Number m)) = 0
  stamp_in (Ok (answer.Tallied c a)) = 0

  -- the number of rows that a scan answers
  abbrev pub number_in : Checked (Answer V) → ℕ
  number_in (Err r) = 0
  number_in (Ok answer.Done) = 0
  number_in (Ok answer.Present) = 0
  number_in (Ok answer.Absent) = 0
  number_in (Ok (answer.Value x)) = 0
  number_in (Ok (answer.Stamp s)) = 0
  number_in (Ok (answer.Number m)) = m
  number_in (Ok (answer.Tallied c a)) = 0

module _ {K V : Type 0} where
  abbrev pub lived : Life K V → Event K V → Life K V
  lived l (Began level) = record { level = level; transcript = []; stamp = None; validated = false; committed = false; aborted = false }
  lived l (Exchanged x) = record { level = l.level; transcript = l.transcript ++ (x ∷ []); stamp = l.stamp; validated = l.validated; committed = l.committed; aborted = l.aborted }
  lived l (Prepared e) = record { level = l.level; transcript = l.transcript; stamp = Some e; validated = l.validated; committed = l.committed; aborted = l.aborted }
  lived l Validated = record { level = l.level; transcript = l.transcript; stamp = l.stamp; validated = true; committed = l.committed; aborted = l.aborted }
  lived l Committed = record { level = l.level; transcript = l.transcript; stamp = l.stamp; validated = l.validated; committed = true; aborted = l.aborted }
  lived l Aborted = record { level = l.level; transcript = l.transcript; stamp = l.stamp; validated = l.validated; committed = l.committed; aborted = true }

  -- the life so far of the transaction of that name
  abbrev pub life : History K V → ℕ → Life K V
  life [] n = record { level = Snapshot; transcript = []; stamp = None; validated = false; committed = false; aborted = false }
  life (x ∷ h) n = cond (x.0 == n) (lived (life h n) x.1) (life h n)

  -- the event of an accepted call; refusals 8 and 15 abort the transaction, and the others do nothing
  abbrev pub event_of : ℕ → Checked (Answer V) → Event K V → History K V
  event_of n (Ok a) d = (n, d) ∷ []
  event_of n (Err r) d = cond (number r == 8 || number r == 15) ((n, Aborted) ∷ []) []

  -- the events after a call that was so answered; an accepted open starts them afresh
  abbrev pub told : Call K V → Checked (Answer V) → List (Row K V) → History K V → History K V
  told (call.Open s) a rows h = cond (is_done a) [] h
  told (call.Begin l) a rows h = event_of (stamp_in a) a (Began l) ++ h
  told (call.Book n b) a rows h = event_of n a (Exchanged (record { call = b; answer = a; rows = take (number_in a) rows })) ++ h
  told (call.Prepare n) a rows h = event_of n a (Prepared (stamp_in a)) ++ h
  told (call.Validate n) a rows h = event_of n a Validated ++ h
  told (call.Commit n) a rows h = event_of n a Committed ++ h
  told (call.Abort n) a rows h = event_of n a Aborted ++ h
  told (call.Finish n) a rows h = h
  told call.Sweep a rows h = h
  told call.Tally a rows h = h

-- where a run stands
pub record Position (K V : Type 0) : Type 0 where
  pub world : World K V
  pub history : History K V

module _ {K V : Type 0} where
  abbrev pub lend : Position K V → List (Row K V) → Position K V
  lend p rows = record { world = with_rows p.world rows; history = p.history }

module _ {K V : Type 0} (order : K → K → Ordering) where
  -- the position after one more call
  abbrev pub next : Position K V → Choice → Call K V → Position K V
  next p c a =
      let r = rule order c p.world a in
      record { world = r.0; history = told a r.1 r.0.rows p.history }

  -- the positions that runs come to: by an accepted open of any world, and then by any calls, refused ones included,
  -- each with whatever row table the caller lends it
  pub data Run : Position K V → Type 0 where
    opened : (w : World K V) (c : Choice) (stamp : ℕ) → T (is_done (rule order c w (call.Open stamp)).1) → Run (next (record { world = w; history = [] }) c (call.Open stamp))
    called : {p : Position K V} → Run p → (rows : List (Row K V)) (c : Choice) → Allowed c p.world → (a : Call K V) → Run (next (lend p rows) c a)
