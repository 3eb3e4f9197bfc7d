-- The plain book, and playing a transaction on it. Assumes nothing.
use Rattle.std.specs.Prelude.{◌≡◌, Bool, true, false, cond, not, List, [], ◌∷◌, length, Some, None, Ok, Err, Option}
use Rattle.std.specs.declared.cmp.Ordering.{Ordering}
use Rattle.rules.specs.declared.Row.{Row}
use Rattle.rules.specs.declared.BookCall.{BookCall}
use Rattle.rules.specs.declared.BookCall.TheVariants as book
use Rattle.rules.specs.declared.Answer.{Answer}
use Rattle.rules.specs.declared.Answer.TheVariants as answer
use Rattle.rules.specs.Checks.{Checked}
use Rattle.rules.specs.Keys.{same, below, within}
use Rattle.std.specs.Option.{option_map}
use Rattle.index.specs.Listed.{keep}
use Rattle.rules.specs.Lists.{first}

-- the rows of the book, in key order, one at most for a key
abbrev pub Book : Type 0 → Type 0 → Type 0
Book K V = List (Row K V)

-- a book call and all that it was told: its answer, and a scan's rows
pub record Exchange (K V : Type 0) : Type 0 where
  pub call : BookCall K V
  pub answer : Checked (Answer V)
  pub rows : List (Row K V)

module _ {V : Type 0} where
  abbrev pub value_or_absent : Option V → Answer V
  value_or_absent None = answer.Absent
  value_or_absent (Some x) = answer.Value x

  -- one answer for a key with a value, and another for one without
  abbrev pub by_value : Answer V → Answer V → Option V → Answer V
  by_value held free None = free
  by_value held free (Some x) = held

  abbrev pub is_done : Checked (Answer V) → Bool
  is_done (Err r) = false
  is_done (Ok answer.Done) = true
  is_done (Ok answer.Present) = false
  is_done (Ok answer.Absent) = false
  is_done (Ok (answer.Value x)) = false
  is_done (Ok (answer.Stamp s)) = false
  is_done (Ok (answer.Number n)) = false
  is_done (Ok (answer.Tallied c a)) = false

module _ {K V : Type 0} (order : K → K → Ordering) where
  abbrev pub value_of : Book K V → K → Option V
  value_of b k = option_map (λ r. r.value) (first (λ r. same order k r.key) b)

  abbrev pub take_out : K → Book K V → Book K V
  take_out k b = keep (λ r. not (same order k r.key)) b

  -- the row before the first of a higher key
  abbrev pub place_row : Row K V → Book K V → Book K V
  place_row r [] = r ∷ []
  place_row r (x ∷ xs) = cond (below order r.key x.key) (r ∷ x ∷ xs) (x ∷ place_row r xs)

  abbrev pub set_value : K → V → Book K V → Book K V
  set_value k x b = place_row (record { key = k; value = x }) (take_out k b)

  abbrev pub rows_within : K → K → Book K V → List (Row K V)
  rows_within lower upper b = keep (λ r. within order lower upper r.key) b

  -- what the book answers
  abbrev pub book_answer : Book K V → BookCall K V → Answer V
  book_answer b (book.Read k) = value_or_absent (value_of b k)
  book_answer b (book.Scan lower upper) = answer.Number (length (rows_within lower upper b))
  book_answer b (book.Insert k x) = by_value answer.Present answer.Done (value_of b k)
  book_answer b (book.Update k x) = by_value answer.Done answer.Absent (value_of b k)
  book_answer b (book.Delete k) = by_value answer.Done answer.Absent (value_of b k)

  -- and the rows of a scan
  abbrev pub book_rows : Book K V → BookCall K V → List (Row K V)
  book_rows b (book.Read k) = []
  book_rows b (book.Scan lower upper) = rows_within lower upper b
  book_rows b (book.Insert k x) = []
  book_rows b (book.Update k x) = []
  book_rows b (book.Delete k) = []

  -- the book after a call that was answered "done"
  abbrev pub changed : Book K V → BookCall K V → Book K V
  changed b (book.Read k) = b
  changed b (book.Scan lower upper) = b
  changed b (book.Insert k x) = set_value k x b
  changed b (book.Update k x) = set_value k x b
  changed b (book.Delete k) = take_out k b

  abbrev pub after : Book K V → Exchange K V → Book K V
  after b x = cond (is_done x.answer) (changed b x.call) b

  -- the book once the exchanges of a transaction are played on it, in order
  abbrev pub played : Book K V → List (Exchange K V) → Book K V
  played b [] = b
  played b (x ∷ xs) = played (after b x) xs

  -- each exchange had exactly the answer of the book, as it stood at that point
  abbrev pub AnsweredBy : Book K V → List (Exchange K V) → Type 0
  AnsweredBy b [] = Unit {0}
  AnsweredBy b (x ∷ xs) = (x.answer ≡ Ok (book_answer b x.call)) × (x.rows ≡ book_rows b x.call) × AnsweredBy (after b x) xs
