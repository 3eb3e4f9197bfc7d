-- What `put` and `remove` say of the set before, xs, and after, ys. Assumes nothing.
use Rattle.std.specs.Prelude.{◌≡◌, ℕ, ◌+◌, ◌<◌, Bool, true, false, List, length, Ok, Err, Result}
use Rattle.std.specs.declared.cmp.Ordering.{Ordering}
use Rattle.index.specs.declared.Put.{Put}
use Rattle.index.specs.declared.Put.TheVariants.{Added, Present}
use Rattle.index.specs.declared.IndexFault.{IndexFault}
use Rattle.index.specs.Sets.{holds, plus, minus}

-- n is the capacity
abbrev pub PutSays : {K : Type 0} → (K → K → Ordering) → List (K × ℕ) → List (K × ℕ) → ℕ → K × ℕ → Result Put IndexFault → Type 0
PutSays o xs ys n q (Ok Added) = (holds o xs q ≡ false) × (length xs < n) × (holds o ys ≡ plus o q (holds o xs)) × (length ys ≡ length xs + 1)
PutSays o xs ys n q (Ok Present) = (holds o xs q ≡ true) × (ys ≡ xs)
PutSays o xs ys n q (Err full) = (holds o xs q ≡ false) × (length xs ≡ n) × (full.capacity ≡ n) × (ys ≡ xs)

abbrev pub RemoveSays : {K : Type 0} → (K → K → Ordering) → List (K × ℕ) → List (K × ℕ) → K × ℕ → Bool → Type 0
RemoveSays o xs ys q true = (holds o xs q ≡ true) × (holds o ys ≡ minus o q (holds o xs)) × (length ys + 1 ≡ length xs)
RemoveSays o xs ys q false = (holds o xs q ≡ false) × (ys ≡ xs)
