-- From a step to the call of the store. Assumes nothing.
use Rattle.std.specs.Prelude.{◌≡◌, ℕ, ◌-◌, ◌^◌, List, Ok, Err, Result}
use Rattle.std.specs.Option.{option_map, ok_or}
use Rattle.keys.specs.declared.CardNumber.{CardNumber}
use Rattle.keys.specs.declared.Score.{Score}
use Rattle.rules.specs.declared.BookCall.{BookCall}
use Rattle.rules.specs.declared.BookCall.TheVariants as book
use Rattle.rules.specs.declared.Call.{Call}
use Rattle.rules.specs.declared.Call.TheVariants as call
use Rattle.script_lines.specs.declared.LineFault.{LineFault}
use Rattle.script_lines.specs.declared.LineFault.TheVariants.{Word, Number}
use Rattle.script_lines.specs.Numbers.{number_up_to, score_of}
use Rattle.script_lines.specs.Words.{named, levels}
use Rattle.script_lines.specs.Steps.{Plain, begins, reads, scans, inserts, updates, deletes, prepares, validates, commits, aborts, finishes, sweeps, tallies, parsed}

abbrev pub Asked : Type 0
Asked = Result (Call CardNumber Score) LineFault

-- what follows from a value; a fault stays
abbrev pub then : {A B : Type 0} → Result A LineFault → (A → Result B LineFault) → Result B LineFault
then (Ok a) f = f a
then (Err e) f = Err e

-- the number of a transaction, the second field of its line
abbrev pub transaction_of : List ℕ → Result ℕ LineFault
transaction_of ds = ok_or (number_up_to (2 ^ 64 - 1) ds) (Number 2)

-- the number of a card, in the given field
abbrev pub card_at : ℕ → List ℕ → Result CardNumber LineFault
card_at field ds = ok_or (option_map (λ n. record { 0 = n }) (number_up_to (2 ^ 32 - 1) ds)) (Number field)

abbrev pub score_at : ℕ → List ℕ → Result Score LineFault
score_at field text = ok_or (option_map (λ z. record { 0 = z }) (score_of text)) (Number field)

abbrev pub begin_call : List ℕ → Asked
begin_call l = ok_or (option_map (λ v. call.Begin v) (named l levels)) (Word 2)

-- the fields of a call on one card, and of one that brings a score too; or the first fault
unfoldable pub key_fields : List ℕ → List ℕ → Result (ℕ × CardNumber) LineFault
key_fields t k = then (transaction_of t) (λ n. then (card_at 3 k) (λ c. Ok (n, c)))

unfoldable pub score_fields : List ℕ → List ℕ → List ℕ → Result (ℕ × CardNumber × Score) LineFault
score_fields t k s = then (transaction_of t) (λ n. then (card_at 3 k) (λ c. then (score_at 4 s) (λ v. Ok (n, c, v))))

-- the call of those fields, of which post says what is asked of the book; or the fault
abbrev pub KeyAsked : (CardNumber → BookCall CardNumber Score → Type 0) → Result (ℕ × CardNumber) LineFault → Asked → Type 0
KeyAsked post (Err e) r = r ≡ Err e
KeyAsked post (Ok p) r = (b : BookCall CardNumber Score) × post p.1 b × (r ≡ Ok (call.Book p.0 b))

abbrev pub ScoreAsked : (CardNumber → Score → BookCall CardNumber Score → Type 0) → Result (ℕ × CardNumber × Score) LineFault → Asked → Type 0
ScoreAsked post (Err e) r = r ≡ Err e
ScoreAsked post (Ok p) r = (b : BookCall CardNumber Score) × post p.1 p.2 b × (r ≡ Ok (call.Book p.0 b))

abbrev pub read_call : List ℕ → List ℕ → Asked
read_call t k = then (key_fields t k) (λ p. Ok (call.Book p.0 (book.Read p.1)))

abbrev pub delete_call : List ℕ → List ℕ → Asked
delete_call t k = then (key_fields t k) (λ p. Ok (call.Book p.0 (book.Delete p.1)))

abbrev pub scan_call : List ℕ → List ℕ → List ℕ → Asked
scan_call t l u = then (transaction_of t) (λ n. then (card_at 3 l) (λ c. then (card_at 4 u) (λ d. Ok (call.Book n (book.Scan c d)))))

abbrev pub insert_call : List ℕ → List ℕ → List ℕ → Asked
insert_call t k s = then (score_fields t k s) (λ p. Ok (call.Book p.0 (book.Insert p.1 p.2)))

abbrev pub update_call : List ℕ → List ℕ → List ℕ → Asked
update_call t k s = then (score_fields t k s) (λ p. Ok (call.Book p.0 (book.Update p.1 p.2)))

-- the call of a step, or the first field that is no number in range
abbrev pub call_of : Plain → Asked
call_of (begins l) = begin_call l
call_of (reads t k) = read_call t k
call_of (scans t l u) = scan_call t l u
call_of (inserts t k s) = insert_call t k s
call_of (updates t k s) = update_call t k s
call_of (deletes t k) = delete_call t k
call_of (prepares t) = then (transaction_of t) (λ n. Ok (call.Prepare n))
call_of (validates t) = then (transaction_of t) (λ n. Ok (call.Validate n))
call_of (commits t) = then (transaction_of t) (λ n. Ok (call.Commit n))
call_of (aborts t) = then (transaction_of t) (λ n. Ok (call.Abort n))
call_of (finishes t) = then (transaction_of t) (λ n. Ok (call.Finish n))
call_of sweeps = Ok call.Sweep
call_of tallies = Ok call.Tally

-- what a call's line asks for
abbrev pub asked : List ℕ → Asked
asked line = then (parsed line) call_of
