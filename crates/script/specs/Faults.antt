-- What the faults of a script are made of. Assumes nothing.
use Rattle.std.specs.Prelude.{ℕ, Bool, true, false, List, Ok, Err, codes, Result}
use Rattle.keys.specs.declared.CardNumber.{CardNumber}
use Rattle.keys.specs.declared.Score.{Score}
use Rattle.rules.specs.declared.Answer.{Answer}
use Rattle.rules.specs.declared.Call.{Call}
use Rattle.rules.specs.declared.Refusal.{Refusal}
use Rattle.rules.specs.declared.Row.{Row}
use Rattle.script_lines.specs.declared.LineFault.{LineFault}
use Rattle.script_lines.specs.declared.LineFault.TheVariants.{Word, Count, Number}
use Rattle.script_text.specs.Texts.{fault_text, reply_text}
use Rattle.script.specs.declared.faults.AtLine.{AtLine}
use Rattle.script.specs.declared.faults.AtCall.{AtCall}
use Rattle.script.specs.declared.faults.Cause.{Cause}
use Rattle.script.specs.declared.faults.Cause.TheVariants as cause
use Rattle.script.specs.declared.faults.ScriptFault.{ScriptFault}

-- the field at fault, counted from 1; 0 where it is their number
abbrev pub field_of : LineFault → ℕ
field_of (Word field) = field
field_of Count = 0
field_of (Number field) = field

abbrev pub kind_word : LineFault → List ℕ
kind_word (Word field) = codes "word"
kind_word Count = codes "count"
kind_word (Number field) = codes "number"

-- what is printed of a line that asks for nothing
abbrev pub line_fault_text : ℕ → LineFault → List ℕ
line_fault_text line f = fault_text line (field_of f) (kind_word f)

abbrev pub of_text : AtLine → ScriptFault
of_text at = record { line = at.line; cause = cause.Text at.fault }

abbrev pub of_store : AtCall → ScriptFault
of_store at = record { line = at.line; cause = cause.Store at.call at.refusal }

-- the call that a line asks for, or its fault as the script's
abbrev pub read_at : ℕ → Result (Call CardNumber Score) LineFault → Result (Call CardNumber Score) ScriptFault
read_at line (Ok a) = Ok a
read_at line (Err f) = Err (record { line = line; cause = cause.Text f })

-- a call with what the store answers it, or its refusal as the script's fault
abbrev pub answered_at : ℕ → Call CardNumber Score → Result (Answer Score) Refusal → Result (Call CardNumber Score × Answer Score) ScriptFault
answered_at line a (Ok x) = Ok (a, x)
answered_at line a (Err e) = Err (record { line = line; cause = cause.Store a e })

-- what is printed of a fault: what is wrong with the line, or the call with its refusal
abbrev pub fault_said : ScriptFault → List (Row CardNumber Score) → List ℕ
fault_said f rows = elim f.cause [ cause.Text e ↦ line_fault_text f.line e | cause.Store a e ↦ reply_text f.line a (Err e) rows ]

-- the script goes on after a refusal of the store
abbrev pub goes_on : Cause → Bool
goes_on (cause.Text e) = false
goes_on (cause.Store a e) = true
