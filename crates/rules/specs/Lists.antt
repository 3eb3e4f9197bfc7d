-- Lists. Assumes nothing.
use Rattle.std.specs.Prelude.{ℕ, zero, suc, ◌+◌, Bool, true, false, cond, ◌&&◌, ◌||◌, List, [], ◌∷◌, ◌++◌, Some, None, Option}

module _ {A : Type 0} where
  abbrev pub any : (A → Bool) → List A → Bool
  any f [] = false
  any f (x ∷ xs) = f x || any f xs

  abbrev pub all : (A → Bool) → List A → Bool
  all f [] = true
  all f (x ∷ xs) = f x && all f xs

  -- the first that passes, or none
  abbrev pub first : (A → Bool) → List A → Option A
  first f [] = None
  first f (x ∷ xs) = cond (f x) (Some x) (first f xs)

  -- how many pass
  abbrev pub count : (A → Bool) → List A → ℕ
  count f [] = 0
  count f (x ∷ xs) = cond (f x) (count f xs + 1) (count f xs)

  -- the items of the options, in order
  abbrev pub used : List (Option A) → List A
  used [] = []
  used (None ∷ xs) = used xs
  used (Some x ∷ xs) = x ∷ used xs

module _ {A B : Type 0} where
  abbrev pub concat_map : (A → List B) → List A → List B
  concat_map f [] = []
  concat_map f (x ∷ xs) = f x ++ concat_map f xs

-- some number below n passes
abbrev pub some_below : (ℕ → Bool) → ℕ → Bool
some_below f zero = false
some_below f (suc n) = some_below f n || f n
