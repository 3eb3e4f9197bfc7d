-- What the calls promise. Assumes nothing.
use Rattle.std.specs.Prelude.{◌≡◌, T, List, [], replicate, None, Result}
use Rattle.std.specs.declared.cmp.Ordering.{Ordering}
use Rattle.rules.specs.declared.Store.{Store}
use Rattle.rules.specs.declared.Row.{Row}
use Rattle.rules.specs.declared.Call.{Call}
use Rattle.rules.specs.declared.Call.TheVariants as call
use Rattle.rules.specs.declared.Answer.{Answer}
use Rattle.rules.specs.declared.Refusal.{Refusal}
use Rattle.rules.specs.Worlds.{World, Choice, Allowed, with_rows}
use Rattle.rules.specs.Rules.{rule}
use Rattle.rules.specs.Book.{is_done}
use Rattle.rules.specs.Runs.{Position, Run, told}
use Rattle.rules.specs.Law.{Lawful}

-- a store that was never opened
abbrev pub never_opened : Store
never_opened = record { opened = None; last = 0; commits = 0; aborts = 0; slots = replicate 64 None }

module _ {K V : Type 0} where
  -- where a run stands after a call that was answered r and left the world w'
  abbrev pub afterwards : Position K V → World K V → Call K V → Result (Answer V) Refusal → Position K V
  afterwards p w' a r = record { world = w'; history = told a r w'.rows p.history }

module _ {K V : Type 0} (order : K → K → Ordering) where
  -- a call that finds the world w answers r and leaves w', as the rules say, for some choice of free entries
  abbrev pub Answers : World K V → World K V → Call K V → Result (Answer V) Refusal → Type 0
  Answers w w' a r = (c : Choice) × Allowed c w × (rule order c w a ≡ (w', r))

  -- the same for a call that has no row table: whatever rows there are, they stay
  abbrev pub AnswersAround : (List (Row K V) → World K V) → (List (Row K V) → World K V) → Call K V → Result (Answer V) Refusal → Type 0
  AnswersAround w w' a r = (rows : List (Row K V)) → Answers (w rows) (w' rows) a r

  -- every run that led to the world w, but for the row table, which the caller lends anew for each call, goes on by this call:
  -- it is a run again, and the law holds after it
  abbrev pub GoesOn : World K V → World K V → Call K V → Result (Answer V) Refusal → Type 0
  GoesOn w w' a r =
      (p : Position K V) → Run order p → with_rows p.world w.rows ≡ w →
      Run order (afterwards p w' a r) × Lawful order (afterwards p w' a r)

  -- an accepted open of any world begins a run, and the law holds of it
  abbrev pub Begins : World K V → Call K V → Result (Answer V) Refusal → Type 0
  Begins w' (call.Open stamp) r = T (is_done r) → Run order (record { world = w'; history = [] }) × Lawful order (record { world = w'; history = [] })
  Begins w' (call.Begin l) r = Unit {0}
  Begins w' (call.Book n b) r = Unit {0}
  Begins w' (call.Prepare n) r = Unit {0}
  Begins w' (call.Validate n) r = Unit {0}
  Begins w' (call.Commit n) r = Unit {0}
  Begins w' (call.Abort n) r = Unit {0}
  Begins w' (call.Finish n) r = Unit {0}
  Begins w' call.Sweep r = Unit {0}
  Begins w' call.Tally r = Unit {0}
