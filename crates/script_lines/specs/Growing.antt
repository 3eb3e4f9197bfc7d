-- A number that is read digit by digit. Assumes nothing.
use Rattle.std.specs.Prelude.{ℕ, ◌+◌, ◌-◌, ◌*◌, cond, ◌&&◌, List, [], ◌∷◌, Some, None, Option, nat_le}
use Rattle.script_lines.specs.Numbers.{digit}

-- n with one digit more, if it is a digit and the number stays at most max
abbrev pub grown : ℕ → ℕ → ℕ → Option ℕ
grown max n b = cond (digit b && nat_le (n * 10 + (b - 48)) max) (Some (n * 10 + (b - 48))) None

-- n with all the digits more
abbrev pub all_grown : ℕ → ℕ → List ℕ → Option ℕ
all_grown max n [] = Some n
all_grown max n (b ∷ bs) = elim (grown max n b) [ Some m ↦ all_grown max m bs | None ↦ None ]
