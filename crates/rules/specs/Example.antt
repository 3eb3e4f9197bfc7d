-- One run in which each thing that may befall a transaction befalls one. Assumes nothing.
use Rattle.std.specs.Prelude.{◌≡◌, ℕ, List, [], ◌∷◌, ◌++◌}
use Rattle.seeing.specs.declared.Level.TheVariants.{Serializable, Snapshot}
use Rattle.keys.specs.Laws.{TotalOrder}
use Rattle.rules.specs.declared.BookCall.TheVariants.{Read, Scan, Insert, Update, Delete}
use Rattle.rules.specs.declared.Call.TheVariants.{Begin, Book, Prepare, Validate, Commit, Abort, Finish, Tally}
use Rattle.rules.specs.declared.Answer.TheVariants.{Done, Absent, Value, Stamp, Number, Tallied}
use Rattle.rules.specs.declared.Refusal.TheVariants as refusal
use Rattle.rules.specs.Runs.{Position, Run}
use Rattle.rules.specs.Positions.{by_number, Line, after_question, order_played, plays, replies, expected, new_world, start, committed_at, ◌⊢◌, ◌⊬◌}

-- 3 and 4 update one key: the second conflicts
abbrev pub conflicting : List Line
conflicting =
    (Begin Serializable ⊢ Stamp 3)
    ∷ (Begin Serializable ⊢ Stamp 4)
    ∷ (Begin Snapshot ⊢ Stamp 5)
    ∷ (Book 3 (Update 10 6) ⊢ Done)
    ∷ (Book 4 (Update 10 9) ⊬ refusal.Conflict)
    ∷ (Finish 4 ⊢ Done)
    ∷ (Book 5 (Update 20 8) ⊢ Done)
    ∷ []

-- 8 reads what 3 has prepared, and has to wait for it; 5 commits before 3, which has the lower end stamp
abbrev pub waiting_one : List Line
waiting_one =
    (Prepare 3 ⊢ Stamp 6)
    ∷ (Prepare 5 ⊢ Stamp 7)
    ∷ (Begin Serializable ⊢ Stamp 8)
    ∷ (Book 8 (Read 10) ⊢ Value 6)
    ∷ (Validate 5 ⊢ Done)
    ∷ (Commit 5 ⊢ Done)
    ∷ (Prepare 8 ⊢ Stamp 9)
    ∷ (Validate 8 ⊢ Done)
    ∷ (Commit 8 ⊬ refusal.Waiting 1)
    ∷ (Validate 3 ⊢ Done)
    ∷ (Commit 3 ⊢ Done)
    ∷ (Commit 8 ⊢ Done)
    ∷ (order_played, plays (1 ∷ 3 ∷ 5 ∷ 8 ∷ []))
    ∷ []

-- 12 reads what 10 has prepared; 10 aborts, and dooms it
abbrev pub doomed_one : List Line
doomed_one =
    (Begin Serializable ⊢ Stamp 10)
    ∷ (Book 10 (Delete 20) ⊢ Done)
    ∷ (Prepare 10 ⊢ Stamp 11)
    ∷ (Begin Serializable ⊢ Stamp 12)
    ∷ (Book 12 (Read 20) ⊢ Absent)
    ∷ (Abort 10 ⊢ Done)
    ∷ (Book 12 (Read 20) ⊬ refusal.Doomed)
    ∷ (Abort 12 ⊢ Done)
    ∷ []

-- 14 inserts into a range that 13 has scanned, and commits: 13 fails
abbrev pub failing_one : List Line
failing_one =
    (Begin Serializable ⊢ Stamp 13)
    ∷ (Begin Serializable ⊢ Stamp 14)
    ∷ (Book 13 (Scan 0 100) ⊢ Number 2)
    ∷ (Book 14 (Insert 15 1) ⊢ Done)
    ∷ committed_at 14 15
    ++ ((Prepare 13 ⊢ Stamp 16) ∷ (Validate 13 ⊬ refusal.Validation) ∷ [])

abbrev pub example : List Line
example = start ++ conflicting ++ waiting_one ++ doomed_one ++ failing_one ++ ((Tally ⊢ Tallied 5 4) ∷ (order_played, plays (1 ∷ 3 ∷ 5 ∷ 8 ∷ 14 ∷ [])) ∷ [])

abbrev pub after_lines : Position ℕ ℕ → List Line → Position ℕ ℕ
after_lines p [] = p
after_lines p (l ∷ ls) = after_lines (after_question p l.0) ls

-- it is a run, the order of its keys is a total one, and the rules give exactly the replies listed
abbrev pub Example : Type 0
Example = TotalOrder by_number × Run by_number (after_lines new_world example) × (replies new_world example ≡ expected example)
