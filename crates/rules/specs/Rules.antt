-- The rule of every call: the world after it and its answer. Assumes nothing.
use Rattle.std.specs.declared.cmp.Ordering.{Ordering}
use Rattle.rules.specs.declared.Answer.{Answer}
use Rattle.rules.specs.declared.Call.{Call}
use Rattle.rules.specs.declared.Call.TheVariants as call
use Rattle.rules.specs.Worlds.{World, Choice}
use Rattle.rules.specs.Checks.{Checked, Outcome, or_as_found}
use Rattle.rules.specs.BookRules.{book_rule}
use Rattle.rules.specs.Validating.{validate_rule}
use Rattle.rules.specs.TransactionRules.{begin_rule, prepare_rule, commit_rule, abort_rule, tally_rule}
use Rattle.rules.specs.TableRules.{open_rule, finish_rule, sweep_rule}

module _ {K V : Type 0} (order : K → K → Ordering) where
  abbrev pub outcome : Choice → World K V → Call K V → Outcome K V
  outcome c w (call.Open stamp) = open_rule order w stamp
  outcome c w (call.Begin level) = begin_rule w level
  outcome c w (call.Book n b) = book_rule order c w n b
  outcome c w (call.Prepare n) = prepare_rule w n
  outcome c w (call.Validate n) = validate_rule order w n
  outcome c w (call.Commit n) = commit_rule w n
  outcome c w (call.Abort n) = abort_rule w n
  outcome c w (call.Finish n) = finish_rule w n
  outcome c w call.Sweep = sweep_rule order w
  outcome c w call.Tally = tally_rule w

  -- the choice of free entries is the rules' one freedom; a refusal leaves all as found, but those for conflict and validation, which abort
  abbrev pub rule : Choice → World K V → Call K V → World K V × Checked (Answer V)
  rule c w a = or_as_found w (outcome c w a)
