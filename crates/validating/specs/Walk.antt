-- The pairs of key and place that a note covers, one after another. Assumes nothing.
use Rattle.std.specs.Prelude.{ℕ, Bool, true, false, List, [], ◌∷◌, Some, None}
use Rattle.std.specs.declared.cmp.Ordering.{Ordering}
use Rattle.index.specs.Listed.{rest, up_to_max}
use Rattle.rules.specs.declared.Noted.{Noted}
use Rattle.rules.specs.declared.Noted.TheVariants as noted
use Rattle.validating.specs.declared.walk.Ahead.{Ahead}
use Rattle.validating.specs.declared.walk.Ahead.TheVariants as ahead

-- whether a version covered has to be visible
abbrev pub must_show : {K : Type 0} → Noted K → Bool
must_show (noted.Version k p) = true
must_show (noted.Range lower upper) = false

-- the pairs that the note covers, of an index with the pairs xs, up to one at usize::MAX
abbrev pub covered : {K : Type 0} → (K → K → Ordering) → List (K × ℕ) → Noted K → List (K × ℕ)
covered order xs (noted.Version k p) = (k, p) ∷ []
covered order xs (noted.Range lower upper) = up_to_max (rest order lower 0 upper xs)

-- those that are still ahead
abbrev pub pairs_ahead : {I K : Type 0} → Ahead I K → List (K × ℕ)
pairs_ahead (ahead.Version None) = []
pairs_ahead (ahead.Version (Some x)) = x ∷ []
pairs_ahead (ahead.Range left) = left
