-- The numbers that bytes write. Assumes nothing.
use Rattle.std.specs.Prelude.{ℕ, ◌+◌, ◌-◌, ◌*◌, Bool, true, cond, ◌&&◌, List, [], ◌∷◌, ℤ, pos, neg_ℤ, Some, None, Option, ◌==◌, nat_le}
use Rattle.std.specs.Option.{option_map}

-- whether a byte is a decimal digit, 0 (48) to 9 (57)
abbrev pub digit : ℕ → Bool
digit b = nat_le 48 b && nat_le b 57

abbrev pub all_digits : List ℕ → Bool
all_digits [] = true
all_digits (b ∷ bs) = digit b && all_digits bs

-- the number that digits write after those of n
abbrev pub value_after : ℕ → List ℕ → ℕ
value_after n [] = n
value_after n (b ∷ bs) = value_after (n * 10 + (b - 48)) bs

-- the number that digits write
abbrev pub value : List ℕ → ℕ
value ds = value_after 0 ds

-- one or more digits that write a number of at most max
abbrev pub number_up_to : ℕ → List ℕ → Option ℕ
number_up_to max [] = None
number_up_to max (b ∷ bs) = cond (all_digits (b ∷ bs) && nat_le (value (b ∷ bs)) max) (Some (value (b ∷ bs))) None

-- a score: a minus (45) or none, then one or more digits, from -2147483648 to 2147483647
abbrev pub score_of : List ℕ → Option ℤ
score_of [] = None
score_of (b ∷ bs) = cond (b == 45) (option_map (λ n. neg_ℤ (pos n)) (number_up_to 2147483648 bs)) (option_map pos (number_up_to 2147483647 (b ∷ bs)))
