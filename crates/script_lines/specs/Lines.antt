-- The lines of a text and the fields of a line. Assumes nothing.
use Rattle.std.specs.Prelude.{ℕ, cond, List, [], ◌∷◌, ◌==◌}

-- a byte put before the first of some parts
abbrev pub prepend : ℕ → List (List ℕ) → List (List ℕ)
prepend b [] = (b ∷ []) ∷ []
prepend b (x ∷ xs) = (b ∷ x) ∷ xs

-- the lines of a text, which a line feed (10) ends; the last line may lack its own
abbrev pub lines : List ℕ → List (List ℕ)
lines [] = []
lines (b ∷ bs) = cond (b == 10) ([] ∷ lines bs) (prepend b (lines bs))

-- the fields of a line, which commas (44) part
abbrev pub fields : List ℕ → List (List ℕ)
fields [] = [] ∷ []
fields (b ∷ bs) = cond (b == 44) ([] ∷ fields bs) (prepend b (fields bs))
