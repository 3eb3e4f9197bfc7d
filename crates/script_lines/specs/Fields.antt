-- The fields that follow a word, if there are as many as asked for. Assumes nothing.
use Rattle.std.specs.Prelude.{ℕ, List, Ok, Err, Result}
use Rattle.std.specs.Borrow.{Bor}
use Rattle.script_lines.specs.declared.LineFault.{LineFault}
use Rattle.script_lines.specs.Steps.{with_none, with_one, with_two, with_three}

abbrev pub none : List (List ℕ) → Result (Unit {0}) LineFault
none fs = with_none tt fs

abbrev pub one : List (List ℕ) → Result (List ℕ) LineFault
one fs = with_one (λ a. a) fs

abbrev pub two : List (List ℕ) → Result (List ℕ × List ℕ) LineFault
two fs = with_two (λ a b. (a, b)) fs

abbrev pub three : List (List ℕ) → Result (List ℕ × List ℕ × List ℕ) LineFault
three fs = with_three (λ a b c. (a, b, c)) fs

-- fields that were read, by their bytes
abbrev pub one_now : Result (Bor (List ℕ)) LineFault → Result (List ℕ) LineFault
one_now (Ok a) = Ok a.now
one_now (Err e) = Err e

abbrev pub two_now : Result (Bor (List ℕ) × Bor (List ℕ)) LineFault → Result (List ℕ × List ℕ) LineFault
two_now (Ok p) = Ok (p.0.now, p.1.now)
two_now (Err e) = Err e

abbrev pub three_now : Result (Bor (List ℕ) × Bor (List ℕ) × Bor (List ℕ)) LineFault → Result (List ℕ × List ℕ × List ℕ) LineFault
three_now (Ok p) = Ok (p.0.now, p.1.now, p.2.now)
three_now (Err e) = Err e
