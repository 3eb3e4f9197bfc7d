-- The words of a script. Assumes nothing.
use Rattle.std.specs.Prelude.{ℕ, List, [], ◌∷◌, codes, Option}
use Rattle.std.specs.List.{find}
use Rattle.std.specs.Option.{option_map}
use Rattle.std.specs.Str.{bytes_eq}
use Rattle.seeing.specs.declared.Level.{Level}
use Rattle.seeing.specs.declared.Level.TheVariants as level
use Rattle.script_lines.specs.declared.IndexKind.{IndexKind}
use Rattle.script_lines.specs.declared.IndexKind.TheVariants as kind
use Rattle.script_lines.specs.declared.words.CallWord.{CallWord}
use Rattle.script_lines.specs.declared.words.CallWord.TheVariants as word

-- what a table of words has for a text: the first entry with it
abbrev pub named : {A : Type 0} → List ℕ → List (List ℕ × A) → Option A
named text table = option_map (λ p. p.1) (find (λ p. bytes_eq text p.0) table)

-- the words of the calls
abbrev pub words : List (List ℕ × CallWord)
words =
    (codes "begin", word.Begin) ∷ (codes "read", word.Read) ∷ (codes "scan", word.Scan) ∷ (codes "insert", word.Insert) ∷ (codes "update", word.Update) ∷ (codes "delete", word.Delete)
    ∷ (codes "prepare", word.Prepare) ∷ (codes "validate", word.Validate) ∷ (codes "commit", word.Commit) ∷ (codes "abort", word.Abort) ∷ (codes "finish", word.Finish) ∷ (codes "sweep", word.Sweep)
    ∷ (codes "tally", word.Tally) ∷ []

-- the words of the levels
abbrev pub levels : List (List ℕ × Level)
levels = (codes "ser", level.Serializable) ∷ (codes "snap", level.Snapshot) ∷ []

-- the words of the indexes
abbrev pub kinds : List (List ℕ × IndexKind)
kinds = (codes "hash", kind.Hash) ∷ (codes "ordered", kind.Ordered) ∷ []
