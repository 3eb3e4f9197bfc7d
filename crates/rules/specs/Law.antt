-- The law over runs. Assumes nothing.
use Rattle.std.specs.Prelude.{◌≡◌, ℕ, ◌≤◌, Bool, true, false, cond, not, ◌&&◌, T, List, [], ◌∷◌, ◌++◌, Some, None, Ok, Option, nat_le, nat_lt}
use Rattle.std.specs.declared.cmp.Ordering.{Ordering}
use Rattle.seeing.specs.declared.End.{End}
use Rattle.seeing.specs.declared.End.TheVariants as end
use Rattle.seeing.specs.declared.Phase.TheVariants.{Active, Preparing, Validated, Committed, Aborted}
use Rattle.seeing.specs.declared.Transaction.{Transaction}
use Rattle.seeing.specs.declared.Version.{Version}
use Rattle.rules.specs.declared.Row.{Row}
use Rattle.rules.specs.declared.Call.TheVariants as call
use Rattle.rules.specs.declared.Answer.TheVariants as answer
use Rattle.keys.specs.Laws.{TotalOrder}
use Rattle.index.specs.Listed.{keep}
use Rattle.rules.specs.Tables.{items}
use Rattle.seeing.specs.Slots.{Slots, find}
use Rattle.seeing.specs.Seeing.{as_end}
use Rattle.seeing.specs.Phases.{is_serializable}
use Rattle.rules.specs.Worlds.{World, Choice}
use Rattle.rules.specs.Rules.{rule}
use Rattle.rules.specs.Book.{Book, place_row, played, AnsweredBy}
use Rattle.rules.specs.Runs as runs
use Rattle.rules.specs.Runs.{History, Event, Life, life, Position, Run}

abbrev pub is_committed : Option Transaction → Bool
is_committed None = false
is_committed (Some t) = elim t.phase [ Active ↦ false | Preparing e ↦ false | Validated e ↦ false | Committed e ↦ true | Aborted ↦ false ]

abbrev pub is_doomed : Option Transaction → Bool
is_doomed None = false
is_doomed (Some t) = t.doomed

-- a stamp, or the name of a committed transaction
abbrev pub settled : Slots → End → Bool
settled ts (end.Stamp s) = true
settled ts (end.Owner n) = is_committed (find ts n)
settled ts end.Open = false

abbrev pub end_stamp : Option ℕ → ℕ
end_stamp None = 0
end_stamp (Some e) = e

module _ {K V : Type 0} where
  abbrev pub stamp_of : History K V → ℕ → ℕ
  stamp_of h n = end_stamp (life h n).stamp

  abbrev pub commit_in : ℕ × Event K V → List ℕ
  commit_in x = elim x.1 [ runs.Began l ↦ [] | runs.Exchanged y ↦ [] | runs.Prepared e ↦ [] | runs.Validated ↦ [] | runs.Committed ↦ x.0 ∷ [] | runs.Aborted ↦ [] ]

  -- before the first with a higher end stamp
  abbrev pub place_name : History K V → ℕ → List ℕ → List ℕ
  place_name h n [] = n ∷ []
  place_name h n (m ∷ ms) = cond (nat_le (stamp_of h n) (stamp_of h m)) (n ∷ m ∷ ms) (m ∷ place_name h n ms)

  abbrev pub sorted_names : History K V → List ℕ → List ℕ
  sorted_names h [] = []
  sorted_names h (n ∷ ns) = place_name h n (sorted_names h ns)

  abbrev pub commits_in : History K V → List ℕ
  commits_in [] = []
  commits_in (x ∷ h) = commit_in x ++ commits_in h

  -- the transactions committed so far, by end stamp
  abbrev pub serial_order : History K V → List ℕ
  serial_order h = sorted_names h (commits_in h)

  abbrev pub stands : Slots → Version K V → Bool
  stands ts v = settled ts (as_end v.begin) && not (settled ts v.end)

module _ {K V : Type 0} (order : K → K → Ordering) where
  abbrev pub sorted_rows : List (Version K V) → List (Row K V)
  sorted_rows [] = []
  sorted_rows (v ∷ vs) = place_row order (record { key = v.key; value = v.value }) (sorted_rows vs)

  -- the rows standing, in key order
  abbrev pub standing : World K V → List (Row K V)
  standing w = sorted_rows (keep (stands w.store.slots) (items w.versions))

  -- the book once the transactions named are played on it, one after the other
  abbrev pub book_of : History K V → Book K V → List ℕ → Book K V
  book_of h b [] = b
  book_of h b (n ∷ ns) = book_of h (played order b (life h n).transcript) ns

  -- played singly, each serializable one of those named got exactly the book's answers
  abbrev pub ToldInTurn : History K V → Book K V → List ℕ → Type 0
  ToldInTurn h b [] = Unit {0}
  ToldInTurn h b (n ∷ ns) =
      (T (is_serializable (life h n).level) → AnsweredBy order b (life h n).transcript) × ToldInTurn h (played order b (life h n).transcript) ns

  -- the committed transactions have a serial order, by end stamp, and the rows standing are those of the book played in that order
  abbrev pub OneAfterTheOther : Position K V → Type 0
  OneAfterTheOther p =
      ToldInTurn p.history [] (serial_order p.history) × (standing p.world ≡ book_of p.history [] (serial_order p.history))

  -- each committed transaction was answered as of its begin stamp
  abbrev pub OneMoment : Position K V → Type 0
  OneMoment p =
      (n : ℕ) → T (life p.history n).committed →
      AnsweredBy order (book_of p.history [] (keep (λ m. nat_lt (stamp_of p.history m) n) (serial_order p.history))) (life p.history n).transcript

  -- prepared at the end stamp e, and neither committed, aborted nor doomed
  pub record Pending (p : Position K V) (n e : ℕ) : Type 0 where
    pub prepared : (life p.history n).stamp ≡ Some e
    pub not_committed : (life p.history n).committed ≡ false
    pub not_aborted : (life p.history n).aborted ≡ false
    pub not_doomed : is_doomed (find p.world.store.slots n) ≡ false

  -- of those pending the first by end stamp, if validated, has its commit accepted as the next call
  abbrev pub FirstCommits : Position K V → Type 0
  FirstCommits p =
      (n e : ℕ) → Pending p n e → ((m d : ℕ) → Pending p m d → e ≤ d) → T (life p.history n).validated →
      (c : Choice) → (rule order c p.world (call.Commit n)).1 ≡ Ok answer.Done

  abbrev pub Lawful : Position K V → Type 0
  Lawful p = OneAfterTheOther p × OneMoment p × FirstCommits p

-- the law, for a kind of keys with its order and a kind of values
abbrev pub SerialLaw : (K V : Type 0) → (K → K → Ordering) → Type 0
SerialLaw K V order = TotalOrder order → (p : Position K V) → Run order p → Lawful order p
