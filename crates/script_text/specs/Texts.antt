-- The lines that are printed, as bytes. Assumes nothing.
use Rattle.std.specs.Prelude.{ℕ, List, [], ◌∷◌, ◌++◌, map, flat_map, Ok, Err, codes, decimal, Result}
use Rattle.std.specs.Fmt.{signed_decimal}
use Rattle.keys.specs.declared.CardNumber.{CardNumber}
use Rattle.keys.specs.declared.Score.{Score}
use Rattle.rules.specs.declared.Answer.{Answer}
use Rattle.rules.specs.declared.Call.{Call}
use Rattle.rules.specs.declared.Refusal.{Refusal}
use Rattle.rules.specs.declared.Row.{Row}
use Rattle.rules.specs.Said.{Said, word, value, numbers, said, number, carried}
use Rattle.script_text.specs.Words.{call_word, rows_said}

-- each field after a comma, then the line feed
abbrev pub fields : List (List ℕ) → List ℕ
fields [] = 10 ∷ []
fields (f ∷ fs) = 44 ∷ (f ++ fields fs)

-- a line of the output: the number of the script's line, then fields
abbrev pub line_text : ℕ → List (List ℕ) → List ℕ
line_text line fs = decimal line ++ fields fs

abbrev pub heading_text : List ℕ
heading_text = codes "line,call,answer\n"

-- what an answer says: its word, the score, or its numbers
abbrev pub said_fields : Said Score → List (List ℕ)
said_fields (word w) = w ∷ []
said_fields (value x) = signed_decimal x.0 ∷ []
said_fields (numbers ns) = map decimal ns

-- a refusal is the word, its number and what it carries
abbrev pub answer_fields : Result (Answer Score) Refusal → List (List ℕ)
answer_fields (Ok a) = said_fields (said a)
answer_fields (Err e) = codes "refused" ∷ decimal (number e) ∷ map decimal (carried e)

-- fields with commas between them
abbrev pub joined : List (List ℕ) → List ℕ
joined [] = []
joined (f ∷ []) = f
joined (f ∷ g ∷ fs) = f ++ 44 ∷ joined (g ∷ fs)

abbrev pub row_text : ℕ → Row CardNumber Score → List ℕ
row_text line row = line_text line (codes "row" ∷ decimal row.key.0 ∷ signed_decimal row.value.0 ∷ [])

abbrev pub rows_text : ℕ → List (Row CardNumber Score) → List ℕ
rows_text line rows = flat_map (row_text line) rows

-- a call with its answer, then its rows
abbrev pub reply_text : ℕ → Call CardNumber Score → Result (Answer Score) Refusal → List (Row CardNumber Score) → List ℕ
reply_text line c r rows = line_text line (call_word c ∷ answer_fields r) ++ rows_text line (rows_said c r rows)

-- a line of the script that is no call: which field is at fault, and how
abbrev pub fault_text : ℕ → ℕ → List ℕ → List ℕ
fault_text line field kind = line_text line (codes "fault" ∷ decimal field ∷ kind ∷ [])
