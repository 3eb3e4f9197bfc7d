-- Played positions: runs with the answers that the rules give. Assumes nothing.
use Rattle.std.specs.Prelude.{◌≡◌, ℕ, List, [], ◌∷◌, ◌++◌, map, replicate, Some, None, Ok, Err, Option}
use Rattle.std.specs.declared.cmp.Ordering.TheVariants.{Less, Equal, Greater}
use Rattle.std.specs.declared.cmp.Ordering.{Ordering}
use Prim.Native.Nat.{compare, Ordering as Native}
use Rattle.seeing.specs.declared.Level.{Level}
use Rattle.seeing.specs.declared.Level.TheVariants.{Serializable, Snapshot}
use Rattle.seeing.specs.declared.End.{End}
use Rattle.seeing.specs.declared.End.TheVariants as end
use Rattle.rules.specs.declared.BookCall.TheVariants.{Read, Scan, Insert, Update}
use Rattle.rules.specs.declared.Call.{Call}
use Rattle.rules.specs.declared.Call.TheVariants.{Open, Begin, Book, Prepare, Validate, Commit, Abort, Finish}
use Rattle.rules.specs.declared.Answer.{Answer}
use Rattle.rules.specs.declared.Answer.TheVariants.{Done, Absent, Value, Stamp, Number}
use Rattle.rules.specs.declared.Refusal.{Refusal}
use Rattle.rules.specs.declared.Refusal.TheVariants as refusal
use Rattle.std.specs.Option.{option_map, unwrap_or}
use Rattle.rules.specs.Tables.{entry, free_from, emptied}
use Rattle.rules.specs.Worlds.{World, Choice}
use Rattle.rules.specs.Checks.{Checked}
use Rattle.rules.specs.Rules.{rule}
use Rattle.rules.specs.Runs.{Position, next}
use Rattle.rules.specs.Law.{serial_order}

abbrev pub ordering : Native → Ordering
ordering Native.lt = Less
ordering Native.eq = Equal
ordering Native.gt = Greater

-- the order of numbers
abbrev pub by_number : ℕ → ℕ → Ordering
by_number m n = ordering (compare m n)

-- what is asked of a run: the answer to a call, the End of the version at a place, or the order in which the committed are played
pub data Question : Type 0 where
  ask : Call ℕ ℕ → Question
  end_at : ℕ → Question
  order_played : Question

pub data Reply : Type 0 where
  answers : Checked (Answer ℕ) → Reply
  ends : Option End → Reply
  plays : List ℕ → Reply

-- a line of a position: a question, and the reply that is expected
abbrev pub Line : Type 0
Line = Question × Reply

-- the first free entries
abbrev pub first_choice : World ℕ ℕ → Choice
first_choice w = record { version = unwrap_or (free_from 0 w.versions) 0; note = unwrap_or (free_from 0 w.notes) 0 }

abbrev pub after_question : Position ℕ ℕ → Question → Position ℕ ℕ
after_question p (ask a) = next by_number p (first_choice p.world) a
after_question p (end_at place) = p
after_question p order_played = p

abbrev pub reply : Position ℕ ℕ → Question → Reply
reply p (ask a) = answers (rule by_number (first_choice p.world) p.world a).1
reply p (end_at place) = ends (option_map (λ v. v.end) (entry p.world.versions place))
reply p order_played = plays (serial_order p.history)

abbrev pub replies : Position ℕ ℕ → List Line → List Reply
replies p [] = []
replies p (l ∷ ls) = reply p l.0 ∷ replies (after_question p l.0) ls

abbrev pub expected : List Line → List Reply
expected ls = map (λ l. l.1) ls

-- tables of eight entries, not yet opened
abbrev pub new_world : Position ℕ ℕ
new_world =
    record {
      world =
          record {
            store = record { opened = None; last = 0; commits = 0; aborts = 0; slots = [] };
            versions = replicate 8 emptied;
            notes = replicate 8 emptied;
            rows = replicate 4 (record { key = 0; value = 0 });
            index = record { pairs = []; capacity = 8 };
          };
      history = [];
    }

infix 20 ◌⊢◌
abbrev pub ◌⊢◌ : Call ℕ ℕ → Answer ℕ → Line
a ⊢ b = (ask a, answers (Ok b))

infix 20 ◌⊬◌
abbrev pub ◌⊬◌ : Call ℕ ℕ → Refusal → Line
a ⊬ r = (ask a, answers (Err r))

-- 10 holds 5, 20 holds 7, the last stamp is 2, and no transaction is live
abbrev pub start : List Line
start =
    (Open 0 ⊢ Done)
    ∷ (Begin Serializable ⊢ Stamp 1)
    ∷ (Book 1 (Insert 10 5) ⊢ Done)
    ∷ (Book 1 (Insert 20 7) ⊢ Done)
    ∷ (Prepare 1 ⊢ Stamp 2)
    ∷ (Validate 1 ⊢ Done)
    ∷ (Commit 1 ⊢ Done)
    ∷ (Finish 1 ⊢ Done)
    ∷ []

abbrev pub crossed : Level → List Line
crossed level =
    (Begin level ⊢ Stamp 3)
    ∷ (Begin level ⊢ Stamp 4)
    ∷ (Book 3 (Read 20) ⊢ Value 7)
    ∷ (Book 4 (Read 10) ⊢ Value 5)
    ∷ (Book 3 (Update 10 6) ⊢ Done)
    ∷ (Book 4 (Update 20 8) ⊢ Done)
    ∷ (Prepare 3 ⊢ Stamp 5)
    ∷ (Validate 3 ⊢ Done)
    ∷ (Commit 3 ⊢ Done)
    ∷ (Prepare 4 ⊢ Stamp 6)
    ∷ []

-- prepare, validate and commit, with the end stamp
abbrev pub committed_at : ℕ → ℕ → List Line
committed_at n e = (Prepare n ⊢ Stamp e) ∷ (Validate n ⊢ Done) ∷ (Commit n ⊢ Done) ∷ []

abbrev pub waiting : List Line
waiting =
    (Begin Serializable ⊢ Stamp 3)
    ∷ (Book 3 (Update 10 6) ⊢ Done)
    ∷ (Prepare 3 ⊢ Stamp 4)
    ∷ (Begin Serializable ⊢ Stamp 5)
    ∷ (Book 5 (Read 10) ⊢ Value 6)
    ∷ (Prepare 5 ⊢ Stamp 6)
    ∷ (Validate 5 ⊢ Done)
    ∷ (Commit 5 ⊬ refusal.Waiting 1)
    ∷ []

abbrev pub both : Level → List Line
both level = (Begin level ⊢ Stamp 3) ∷ (Begin level ⊢ Stamp 4) ∷ []

abbrev pub late_insert : List Line
late_insert = (Book 4 (Insert 15 1) ⊢ Done) ∷ committed_at 4 5 ++ ((Prepare 3 ⊢ Stamp 6) ∷ (Validate 3 ⊬ refusal.Validation) ∷ [])

-- each is played from the start
abbrev pub positions : List (List Line)
positions =
    -- both update 10
    (both Serializable ++ ((Book 3 (Update 10 6) ⊢ Done) ∷ (Book 4 (Update 10 9) ⊬ refusal.Conflict) ∷ []))
    -- each updates what the other has read
    ∷ (crossed Serializable ++ ((Validate 4 ⊬ refusal.Validation) ∷ []))
    ∷ (crossed Snapshot ++ ((Validate 4 ⊢ Done) ∷ (Commit 4 ⊢ Done) ∷ []))
    -- 5 reads what 3 has prepared, and 3 commits
    ∷ (waiting ++ ((Validate 3 ⊢ Done) ∷ (Commit 3 ⊢ Done) ∷ (Commit 5 ⊢ Done) ∷ []))
    -- the same, and 3 aborts
    ∷ (waiting ++ ((Abort 3 ⊢ Done) ∷ (Commit 5 ⊬ refusal.Doomed) ∷ []))
    -- 4 inserts into a range that 3 has scanned
    ∷ (both Serializable ++ ((Book 3 (Scan 0 100) ⊢ Number 2) ∷ late_insert))
    -- 4 inserts a key that 3 has read as absent
    ∷ (both Serializable ++ ((Book 3 (Read 15) ⊢ Absent) ∷ late_insert))
    -- 3 aborts, and its version is updated by 4 before 3 finishes
    ∷ (both Serializable
    ++ ((Book 3 (Update 10 6) ⊢ Done)
    ∷ (Abort 3 ⊢ Done)
    ∷ (Book 4 (Update 10 9) ⊢ Done)
    ∷ (Finish 3 ⊢ Done)
    ∷ (end_at 0, ends (Some (end.Owner 4)))
    ∷ []))
    -- 4 commits before 3, which has the lower end stamp
    ∷ (both Serializable
    ++ ((Book 3 (Update 10 6) ⊢ Done)
    ∷ (Book 4 (Update 20 9) ⊢ Done)
    ∷ (Prepare 3 ⊢ Stamp 5)
    ∷ (Prepare 4 ⊢ Stamp 6)
    ∷ (Validate 4 ⊢ Done)
    ∷ (Commit 4 ⊢ Done)
    ∷ (Validate 3 ⊢ Done)
    ∷ (Commit 3 ⊢ Done)
    ∷ (order_played, plays (1 ∷ 3 ∷ 4 ∷ []))
    ∷ []))
    ∷ []

-- the rules give exactly the replies of the table
abbrev pub PositionsHold : Type 0
PositionsHold = map (λ ls. replies new_world (start ++ ls)) positions ≡ map (λ ls. expected (start ++ ls)) positions
