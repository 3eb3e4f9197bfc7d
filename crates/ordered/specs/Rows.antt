-- What the index holds, and what a search in it says. Assumes nothing.
--     items s      the pairs, as they stand
--     reached o k start x      x is at the start among the pairs of k, or after it
--     key_start strictly      where the pairs begin whose key is not below k, or above it
--     First o xs k start r      r is the first pair of xs that is reached
use Rattle.std.specs.Prelude.{◌≡◌, ℕ, Bool, true, false, cond, List, vec_items, Option, MatchOption}
use Rattle.std.specs.declared.cmp.Ordering.TheVariants.{Less}
use Rattle.std.specs.declared.cmp.Ordering.{Ordering}
use Rattle.std.specs.Ordering.{is_lt, is_le}
use Rattle.keys.specs.declared.Key as key
use Rattle.index.specs.Sets.{pair_order, holds}
use Rattle.ordered.specs.declared.in_order.InOrder.{InOrder}
use Rattle.ordered.specs.declared.search.Start.{Start}
use Rattle.ordered.specs.declared.search.Start.TheVariants.{At, After}

abbrev pub items : {K : Type 0} {g : key.Ghosts K} → InOrder K g → List (K × ℕ)
items s = vec_items s.pairs

abbrev pub reached : {K : Type 0} → (K → K → Ordering) → K → Start → K × ℕ → Bool
reached o k (At p) x = is_le (pair_order o (k, p) x)
reached o k After x = is_lt (o k x.0)

abbrev pub key_start : Bool → Start
key_start strictly = cond strictly After (At 0)

abbrev pub First : {K : Type 0} → (K → K → Ordering) → List (K × ℕ) → K → Start → Option (K × ℕ) → Type 0
First {K} o xs k start r =
    MatchOption r ((y : K × ℕ) → reached o k start y ≡ true → holds o xs y ≡ false) (λ x. (reached o k start x ≡ true) × (holds o xs x ≡ true) × ((y : K × ℕ) → reached o k start y ≡ true → pair_order o y x ≡ Less → holds o xs y ≡ false))
