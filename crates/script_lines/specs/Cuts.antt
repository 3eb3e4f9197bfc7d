-- A text cut at its first stop byte. Assumes nothing.
use Rattle.std.specs.Prelude.{ℕ, cond, List, [], ◌∷◌, Some, None, Option, ◌==◌}
use Rattle.std.specs.Option.{option_map, unwrap_or}
use Rattle.script_lines.specs.declared.lines.Cut.{Cut}
use Rattle.script_lines.specs.Lines.{fields}

-- the bytes from the first stop byte on
abbrev pub from : ℕ → List ℕ → List ℕ
from stop [] = []
from stop (b ∷ bs) = cond (b == stop) (b ∷ bs) (from stop bs)

-- the bytes before the first stop byte
abbrev pub before : ℕ → List ℕ → List ℕ
before stop [] = []
before stop (b ∷ bs) = cond (b == stop) [] (b ∷ before stop bs)

-- the bytes after the first stop byte, if there is one
abbrev pub after : ℕ → List ℕ → Option (List ℕ)
after stop [] = None
after stop (b ∷ bs) = cond (b == stop) (Some bs) (after stop bs)

-- the text after the first line feed
abbrev pub beyond : List ℕ → List ℕ
beyond bytes = unwrap_or (after 10 bytes) []

-- the fields of what follows a comma, if there was a comma
abbrev pub fields_of : Option (List ℕ) → List (List ℕ)
fields_of None = []
fields_of (Some bs) = fields bs

-- the fields of a line that was cut at its first comma
abbrev pub all_of : Cut → List (List ℕ)
all_of c = c.front.now ∷ fields_of (option_map (λ x. x.now) c.rest)
