-- The notes of a transaction one after another: by number, and at one number by place. Assumes nothing.
use Rattle.std.specs.Prelude.{◌≡◌, ℕ, ◌+◌, Bool, true, cond, ◌&&◌, ◌||◌, List, [], ◌∷◌, Some, None, Option, MatchOption, ◌==◌, nat_le, nat_lt}
use Rattle.rules.specs.declared.Entry.{Entry}
use Rattle.rules.specs.declared.Note.{Note}
use Rattle.rules.specs.Validating.{place_note}

-- a note of that number and place comes after the last one, which is given by its own
abbrev pub above : Option (ℕ × ℕ) → ℕ → ℕ → Bool
above None number place = true
above (Some met) number place = nat_lt met.0 number || (met.0 == number && nat_lt met.1 place)

module _ {K : Type 0} where
  -- n made it, and it comes after the last one
  abbrev pub is_left : ℕ → Option (ℕ × ℕ) → ℕ → Note K → Bool
  is_left n last place x = x.owner == n && above last x.number place

  -- the notes, with what the entry at i holds in its place among them, if that is left
  abbrev pub left_one : ℕ → Option (ℕ × ℕ) → ℕ → Option (Note K) → List (Note K) → List (Note K)
  left_one n last i None xs = xs
  left_one n last i (Some x) xs = cond (is_left n last i x) (place_note x xs) xs

  -- the notes of n after the last one, in the order made; the table is counted from i
  abbrev pub left_from : ℕ → Option (ℕ × ℕ) → ℕ → List (Entry (Note K)) → List (Note K)
  left_from n last i [] = []
  left_from n last i (e ∷ es) = left_one n last i e.held (left_from n last (i + 1) es)

  -- the same of a whole table
  abbrev pub left_after : ℕ → Option (ℕ × ℕ) → List (Entry (Note K)) → List (Note K)
  left_after n last ns = left_from n last 0 ns

  -- r is the first of those left, with its place, and those left after it are the others; or none is left
  abbrev pub NextLeft : ℕ → Option (ℕ × ℕ) → List (Entry (Note K)) → Option (ℕ × Note K) → Type 0
  NextLeft n last ns r = MatchOption r (left_after n last ns ≡ []) (λ x. left_after n last ns ≡ x.1 ∷ left_after n (Some (x.1.number, x.0)) ns)

  -- it comes before the other one, which stands further on in the table
  abbrev pub comes_first : Note K → Option (ℕ × Note K) → Bool
  comes_first x None = true
  comes_first x (Some y) = nat_le x.number y.1.number

  -- the first of the notes left: what the entry at the place holds, or the first of those further on
  abbrev pub sooner : ℕ → Option (ℕ × ℕ) → ℕ → Option (Note K) → Option (ℕ × Note K) → Option (ℕ × Note K)
  sooner n last i None first = first
  sooner n last i (Some x) first = cond (is_left n last i x && comes_first x first) (Some (i, x)) first
