-- The word of each call, and the rows that it hands out. Assumes nothing.
use Rattle.std.specs.Prelude.{ℕ, Bool, true, false, cond, List, take, codes, Result}
use Rattle.rules.specs.declared.BookCall.{BookCall}
use Rattle.rules.specs.declared.BookCall.TheVariants.{Read, Scan, Insert, Update, Delete}
use Rattle.rules.specs.declared.Call.{Call}
use Rattle.rules.specs.declared.Call.TheVariants as call
use Rattle.rules.specs.declared.Answer.{Answer}
use Rattle.rules.specs.declared.Refusal.{Refusal}
use Rattle.rules.specs.declared.Row.{Row}
use Rattle.rules.specs.Runs.{number_in}

abbrev pub book_word : {K V : Type 0} → BookCall K V → List ℕ
book_word (Read key) = codes "read"
book_word (Scan lower upper) = codes "scan"
book_word (Insert key value) = codes "insert"
book_word (Update key value) = codes "update"
book_word (Delete key) = codes "delete"

abbrev pub call_word : {K V : Type 0} → Call K V → List ℕ
call_word (call.Open stamp) = codes "open"
call_word (call.Begin level) = codes "begin"
call_word (call.Book transaction asked) = book_word asked
call_word (call.Prepare transaction) = codes "prepare"
call_word (call.Validate transaction) = codes "validate"
call_word (call.Commit transaction) = codes "commit"
call_word (call.Abort transaction) = codes "abort"
call_word (call.Finish transaction) = codes "finish"
call_word call.Sweep = codes "sweep"
call_word call.Tally = codes "tally"

abbrev pub book_scans : {K V : Type 0} → BookCall K V → Bool
book_scans (Read key) = false
book_scans (Scan lower upper) = true
book_scans (Insert key value) = false
book_scans (Update key value) = false
book_scans (Delete key) = false

-- whether the call is a scan
abbrev pub scans : {K V : Type 0} → Call K V → Bool
scans (call.Open stamp) = false
scans (call.Begin level) = false
scans (call.Book transaction asked) = book_scans asked
scans (call.Prepare transaction) = false
scans (call.Validate transaction) = false
scans (call.Commit transaction) = false
scans (call.Abort transaction) = false
scans (call.Finish transaction) = false
scans call.Sweep = false
scans call.Tally = false

-- how many rows of the row table are the caller's: as many as an accepted scan answered, none after any other call
abbrev pub rows_counted : {K V : Type 0} → Call K V → Result (Answer V) Refusal → ℕ
rows_counted c r = cond (scans c) (number_in r) 0

-- the rows that are the caller's
abbrev pub rows_said : {K V : Type 0} → Call K V → Result (Answer V) Refusal → List (Row K V) → List (Row K V)
rows_said c r rows = take (rows_counted c r) rows
