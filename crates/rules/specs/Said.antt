-- The number of each refusal, the word of each answer, and the values that go with them. Assumes nothing.
use Rattle.std.specs.Prelude.{ℕ, List, [], ◌∷◌, codes}
use Rattle.rules.specs.declared.Refusal.{Refusal}
use Rattle.rules.specs.declared.Refusal.TheVariants.{Lengths, OpeningStamp, Unknown, Phase, Doomed, Keys, Version, Conflict, Rows, Notes, Versions, Full, Transactions, LastStamp, Validation, Waiting}
use Rattle.rules.specs.declared.Answer.{Answer}
use Rattle.rules.specs.declared.Answer.TheVariants.{Done, Present, Absent, Value, Stamp, Number, Tallied}

abbrev pub number : Refusal → ℕ
number Lengths = 1
number OpeningStamp = 2
number Unknown = 3
number Phase = 4
number Doomed = 5
number Keys = 6
number Version = 7
number Conflict = 8
number Rows = 9
number Notes = 10
number Versions = 11
number (Full transaction fault) = 12
number Transactions = 13
number LastStamp = 14
number Validation = 15
number (Waiting waited_on) = 16

-- what a refusal carries besides its number: the capacity of a full index, or how many are waited on
abbrev pub carried : Refusal → List ℕ
carried Lengths = []
carried OpeningStamp = []
carried Unknown = []
carried Phase = []
carried Doomed = []
carried Keys = []
carried Version = []
carried Conflict = []
carried Rows = []
carried Notes = []
carried Versions = []
carried (Full transaction fault) = fault.capacity ∷ []
carried Transactions = []
carried LastStamp = []
carried Validation = []
carried (Waiting waited_on) = waited_on ∷ []

-- what an answer says: a word, a row's value, or numbers
pub data Said (V : Type 0) : Type 0 where
  word : List ℕ → Said V
  value : V → Said V
  numbers : List ℕ → Said V

abbrev pub said : {V : Type 0} → Answer V → Said V
said Done = word (codes "done")
said Present = word (codes "present")
said Absent = word (codes "absent")
said (Value x) = value x
said (Stamp s) = numbers (s ∷ [])
said (Number n) = numbers (n ∷ [])
said (Tallied commits aborts) = numbers (commits ∷ aborts ∷ [])

-- the letters of the word, none where a value or numbers are said
abbrev pub letters : {V : Type 0} → Said V → List ℕ
letters (word w) = w
letters (value x) = []
letters (numbers ns) = []
