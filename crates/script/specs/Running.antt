-- What a script prints, and the law of the run that it makes. Assumes nothing.
use Rattle.std.specs.Prelude.{◌≡◌, ℕ, ◌+◌, Bool, cond, List, [], ◌∷◌, ◌++◌, length, replicate, pos, is_ok, Ok, Err, codes, Result, nat_lt}
use Rattle.keys.specs.declared.CardNumber.{CardNumber}
use Rattle.keys.specs.declared.Score.{Score}
use Rattle.keys.specs.Kinds.{card_order}
use Rattle.rules.specs.declared.Call.{Call}
use Rattle.rules.specs.declared.Call.TheVariants as call
use Rattle.rules.specs.declared.Answer.{Answer}
use Rattle.rules.specs.declared.Refusal.{Refusal}
use Rattle.rules.specs.declared.Row.{Row}
use Rattle.rules.specs.Tables.{emptied}
use Rattle.rules.specs.Index.{Index, meaning}
use Rattle.rules.specs.Runs.{Position, Run}
use Rattle.rules.specs.Law.{Lawful}
use Rattle.calls.specs.Promises.{afterwards}
use Rattle.calls.specs.Performing.{Desk, new_store, world_of, performed}
use Rattle.script_lines.specs.declared.LineFault.{LineFault}
use Rattle.script_lines.specs.declared.IndexKind.{IndexKind}
use Rattle.script_lines.specs.Lines.{lines}
use Rattle.script_lines.specs.Kinds.{kind_of}
use Rattle.script_lines.specs.Calls.{asked}
use Rattle.script_text.specs.Texts.{heading_text, fault_text, reply_text}
use Rattle.script.specs.declared.desk.Tables.{Tables}
use Rattle.script.specs.declared.faults.Cause.TheVariants as cause
use Rattle.script.specs.declared.faults.ScriptFault.{ScriptFault}
use Rattle.script.specs.Faults.{line_fault_text, answered_at}

-- a call of a script, and what a line asks for
abbrev pub ScriptCall : Type 0
ScriptCall = Call CardNumber Score

abbrev pub Asked : Type 0
Asked = Result ScriptCall LineFault

-- what the calls of a script find and leave
abbrev pub ScriptDesk : Type 0
ScriptDesk = Desk CardNumber Score

-- the tables of a script by what they hold, with the meaning of their index
abbrev pub desk_of : {I : Type 0} → (I → List (CardNumber × ℕ)) → (I → ℕ) → Tables I → ScriptDesk
desk_of pairs limit t = record { store = t.store; versions = t.versions; notes = t.notes; rows = t.rows; index = meaning card_order (pairs t.index) (limit t.index) }

abbrev pub blank : Row CardNumber Score
blank = record { key = record { 0 = 0 }; value = record { 0 = pos 0 } }

-- before the opening: 256 free entries in each table, and 64 rows
abbrev pub fresh_with : Index CardNumber → ScriptDesk
fresh_with index = record {
  store = new_store;
  versions = replicate 256 emptied;
  notes = replicate 256 emptied;
  rows = replicate 64 blank;
  index = index;
}

-- the same, with an empty index that has room for 256 pairs
abbrev pub fresh : ScriptDesk
fresh = fresh_with (record { pairs = []; capacity = 256 })

-- what a call comes to by the rules: what it leaves, and its answer or refusal
unfoldable pub carried : ScriptDesk → ScriptCall → ScriptDesk × Result (Answer Score) Refusal
carried d a = performed card_order d a

-- opened at stamp 0
abbrev pub opened : ScriptDesk
opened = (carried fresh (call.Open 0)).0

-- what is left after a line
abbrev pub desk_after : ScriptDesk → Asked → ScriptDesk
desk_after d (Ok a) = (carried d a).0
desk_after d (Err f) = d

-- what is printed of the line of that number
abbrev pub line_said : ℕ → ScriptDesk → Asked → List ℕ
line_said line d (Ok a) = reply_text line a (carried d a).1 (carried d a).0.rows
line_said line d (Err f) = line_fault_text line f

-- the call that a line asks for with its answer, or the fault
abbrev pub result_of : ℕ → ScriptDesk → Asked → Result (ScriptCall × Answer Score) ScriptFault
result_of line d (Ok a) = answered_at line a (carried d a).1
result_of line d (Err f) = Err (record { line = line; cause = cause.Text f })

-- what is printed of the lines, of which the first has that number: all up to a faulty one
unfoldable pub told : ℕ → ScriptDesk → List (List ℕ) → List ℕ
told line d [] = []
told line d (l ∷ ls) = line_said line d (asked l) ++ cond (is_ok (asked l)) (told (line + 1) (desk_after d (asked l)) ls) []

-- one line of the script, carried out: what is written and left, and whether it goes on
pub record LineTold (line : ℕ) (d : ScriptDesk) (q : Asked) (d' : ScriptDesk) (out out' : List ℕ) (on : Bool) : Type 0 where
  pub writes : out' ≡ out ++ line_said line d q
  pub leaves : d' ≡ desk_after d q
  pub goes : on ≡ is_ok q

-- the first line, which is empty where there is none, and the others
abbrev pub first_line : List (List ℕ) → List ℕ
first_line [] = []
first_line (l ∷ ls) = l

abbrev pub other_lines : List (List ℕ) → List (List ℕ)
other_lines [] = []
other_lines (l ∷ ls) = ls

-- what is printed under the heading, by the first line; the index that it picks makes no difference
abbrev pub script_said : Result IndexKind LineFault → List (List ℕ) → List ℕ
script_said (Ok k) ls = told 2 opened ls
script_said (Err f) ls = line_fault_text 1 f

-- what a script prints: a single line where it is longer than 65,536 bytes
unfoldable pub script_text : List ℕ → List ℕ
script_text script =
    cond (nat_lt 65536 (length script)) (fault_text 0 0 (codes "size"))
    (heading_text ++ script_said (kind_of (first_line (lines script))) (other_lines (lines script)))

-- the calls that lines ask for, up to a faulty line
abbrev pub asked_calls : List (List ℕ) → List ScriptCall
asked_calls [] = []
asked_calls (l ∷ ls) = elim (asked l) [ Ok a ↦ a ∷ asked_calls ls | Err f ↦ [] ]

-- from the position p, which stands at d, the calls make a run, and the law holds after each of them
abbrev pub LawfulThrough : Position CardNumber Score → ScriptDesk → List ScriptCall → Type 0
LawfulThrough p d [] = (p.world ≡ world_of d) × Run card_order p × Lawful card_order p
LawfulThrough p d (a ∷ calls) =
    ((p.world ≡ world_of d) × Run card_order p × Lawful card_order p)
    × LawfulThrough (afterwards p (world_of (carried d a).0) a (carried d a).1) (carried d a).0 calls

-- the law of the run that a script makes
abbrev pub ScriptLaw : List ℕ → Type 0
ScriptLaw script = LawfulThrough (record { world = world_of opened; history = [] }) opened (asked_calls (other_lines (lines script)))
