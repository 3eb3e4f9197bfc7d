-- What a call's line asks for: its word and its fields. Assumes nothing.
use Rattle.std.specs.Prelude.{ℕ, List, [], ◌∷◌, Some, None, Ok, Err, Option, Result}
use Rattle.seeing.specs.declared.Level.{Level}
use Rattle.script_lines.specs.declared.LineFault.{LineFault}
use Rattle.script_lines.specs.declared.LineFault.TheVariants.{Word, Count}
use Rattle.script_lines.specs.declared.Step.{Step}
use Rattle.script_lines.specs.declared.Step.TheVariants as step
use Rattle.script_lines.specs.declared.words.CallWord.{CallWord}
use Rattle.script_lines.specs.declared.words.CallWord.TheVariants as word
use Rattle.script_lines.specs.Lines.{fields}
use Rattle.script_lines.specs.Words.{named, words, levels}

-- a step by the bytes of its fields
pub data Plain : Type 0 where
  begins : List ℕ → Plain
  reads : List ℕ → List ℕ → Plain
  scans : List ℕ → List ℕ → List ℕ → Plain
  inserts : List ℕ → List ℕ → List ℕ → Plain
  updates : List ℕ → List ℕ → List ℕ → Plain
  deletes : List ℕ → List ℕ → Plain
  prepares : List ℕ → Plain
  validates : List ℕ → Plain
  commits : List ℕ → Plain
  aborts : List ℕ → Plain
  finishes : List ℕ → Plain
  sweeps : Plain
  tallies : Plain

abbrev pub plain : Step → Plain
plain (step.Begin l) = begins l.now
plain (step.Read t k) = reads t.now k.now
plain (step.Scan t l u) = scans t.now l.now u.now
plain (step.Insert t k s) = inserts t.now k.now s.now
plain (step.Update t k s) = updates t.now k.now s.now
plain (step.Delete t k) = deletes t.now k.now
plain (step.Prepare t) = prepares t.now
plain (step.Validate t) = validates t.now
plain (step.Commit t) = commits t.now
plain (step.Abort t) = aborts t.now
plain (step.Finish t) = finishes t.now
plain step.Sweep = sweeps
plain step.Tally = tallies

abbrev pub plainly : Result Step LineFault → Result Plain LineFault
plainly (Ok s) = Ok (plain s)
plainly (Err e) = Err e

-- what is made of no, one, two or three fields, from the fields that follow the word
abbrev pub with_none : {A : Type 0} → A → List (List ℕ) → Result A LineFault
with_none p [] = Ok p
with_none p (a ∷ fs) = Err Count

abbrev pub with_one : {A : Type 0} → (List ℕ → A) → List (List ℕ) → Result A LineFault
with_one p [] = Err Count
with_one p (a ∷ fs) = with_none (p a) fs

abbrev pub with_two : {A : Type 0} → (List ℕ → List ℕ → A) → List (List ℕ) → Result A LineFault
with_two p [] = Err Count
with_two p (a ∷ fs) = with_one (p a) fs

abbrev pub with_three : {A : Type 0} → (List ℕ → List ℕ → List ℕ → A) → List (List ℕ) → Result A LineFault
with_three p [] = Err Count
with_three p (a ∷ fs) = with_two (p a) fs

-- r, unless the second field of the line is no level
abbrev pub if_level : Option Level → Result Plain LineFault → Result Plain LineFault
if_level None r = Err (Word 2)
if_level (Some l) r = r

-- a level that is none is told before a wrong count
abbrev pub begin_of : List (List ℕ) → Result Plain LineFault
begin_of [] = Err Count
begin_of (l ∷ fs) = if_level (named l levels) (with_one begins (l ∷ fs))

-- the step of a word and the fields that follow it
abbrev pub step_of : CallWord → List (List ℕ) → Result Plain LineFault
step_of word.Begin fs = begin_of fs
step_of word.Read fs = with_two reads fs
step_of word.Scan fs = with_three scans fs
step_of word.Insert fs = with_three inserts fs
step_of word.Update fs = with_three updates fs
step_of word.Delete fs = with_two deletes fs
step_of word.Prepare fs = with_one prepares fs
step_of word.Validate fs = with_one validates fs
step_of word.Commit fs = with_one commits fs
step_of word.Abort fs = with_one aborts fs
step_of word.Finish fs = with_one finishes fs
step_of word.Sweep fs = with_none sweeps fs
step_of word.Tally fs = with_none tallies fs

abbrev pub step_if_named : Option CallWord → List (List ℕ) → Result Plain LineFault
step_if_named None fs = Err (Word 1)
step_if_named (Some w) fs = step_of w fs

abbrev pub parsed_fields : List (List ℕ) → Result Plain LineFault
parsed_fields [] = Err Count
parsed_fields (w ∷ fs) = step_if_named (named w words) fs

-- the step of a line, or what is wrong with its word, its level or the number of its fields; a line has at least one field
abbrev pub parsed : List ℕ → Result Plain LineFault
parsed line = parsed_fields (fields line)
