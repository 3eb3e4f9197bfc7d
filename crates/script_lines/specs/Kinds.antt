-- The first line of a script. Assumes nothing.
use Rattle.std.specs.Prelude.{ℕ, List, [], ◌∷◌, Some, None, Ok, Err, Option, Result}
use Rattle.script_lines.specs.declared.IndexKind.{IndexKind}
use Rattle.script_lines.specs.declared.LineFault.{LineFault}
use Rattle.script_lines.specs.declared.LineFault.TheVariants.{Word, Count}
use Rattle.script_lines.specs.Lines.{fields}
use Rattle.script_lines.specs.Words.{named, kinds}

-- a word with no fields after it
abbrev pub alone : Option IndexKind → List (List ℕ) → Result IndexKind LineFault
alone None fs = Err (Word 1)
alone (Some k) [] = Ok k
alone (Some k) (f ∷ fs) = Err Count

abbrev pub kind_of_fields : List (List ℕ) → Result IndexKind LineFault
kind_of_fields [] = Err Count
kind_of_fields (w ∷ fs) = alone (named w kinds) fs

-- the index that the first line picks, or what is wrong with it; a line has at least one field
abbrev pub kind_of : List ℕ → Result IndexKind LineFault
kind_of line = kind_of_fields (fields line)
