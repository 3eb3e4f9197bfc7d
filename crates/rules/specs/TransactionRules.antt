-- The rules of begin, prepare, commit, abort and tally. Assumes nothing.
use Rattle.std.specs.Prelude.{ℕ, ◌+◌, not, is_some, Ok, nat_le, nat_lt}
use Rattle.seeing.specs.declared.Level.{Level}
use Rattle.seeing.specs.declared.Phase.TheVariants.{Preparing, Committed}
use Rattle.seeing.specs.Phases.{is_active, is_over, if_validated}
use Rattle.rules.specs.declared.Answer.TheVariants as answer
use Rattle.rules.specs.declared.Refusal.TheVariants as refusal
use Rattle.rules.specs.Lists.{all, count}
use Rattle.rules.specs.Worlds.{World, with_store, with_slots}
use Rattle.rules.specs.Checks.{Outcome, ◌>>=◌, ◌>>◌, some_or, refuse_if, largest, in_order, named_in, sound_in}
use Rattle.rules.specs.Slots.{with_stamp, one_more_commit, fresh, with_phase, change, seat, release}
use Rattle.rules.specs.BookRules.{aborted}

module _ {K V : Type 0} where
  -- the new transaction takes the lowest free slot
  abbrev pub begin_rule : World K V → Level → Outcome K V
  begin_rule w level = do
    refuse_if (not (in_order w)) refusal.Lengths
    refuse_if (all is_some w.store.slots) refusal.Transactions
    refuse_if (nat_le largest w.store.last) refusal.LastStamp
    let n = w.store.last + 1
    Ok (with_store w (with_slots (with_stamp w.store) (seat (fresh n level) w.store.slots)), Ok (answer.Stamp n))

  abbrev pub prepare_rule : World K V → ℕ → Outcome K V
  prepare_rule w n = do
    t ← sound_in w n is_active
    refuse_if (nat_le largest w.store.last) refusal.LastStamp
    let e = w.store.last + 1
    Ok (with_store w (with_slots (with_stamp w.store) (change n (with_phase (Preparing e)) w.store.slots)), Ok (answer.Stamp e))

  abbrev pub commit_rule : World K V → ℕ → Outcome K V
  commit_rule w n = do
    t ← sound_in w n (λ p. is_some (if_validated p))
    e ← some_or refusal.Phase (if_validated t.phase)
    let waited_on = count (λ b. b) t.waits
    refuse_if (nat_lt 0 waited_on) (refusal.Waiting waited_on)
    Ok (with_store w (one_more_commit (with_slots w.store (release n (change n (with_phase (Committed e)) w.store.slots)))), Ok answer.Done)

  abbrev pub abort_rule : World K V → ℕ → Outcome K V
  abort_rule w n = do
    t ← named_in w n (λ p. not (is_over p))
    Ok (aborted w n, Ok answer.Done)

  abbrev pub tally_rule : World K V → Outcome K V
  tally_rule w = do
    refuse_if (not (in_order w)) refusal.Lengths
    Ok (w, Ok (answer.Tallied w.store.commits w.store.aborts))
