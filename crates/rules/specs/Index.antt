-- What the rules take of an index: its pairs, listed by key and then place, and its capacity. Assumes nothing.
use Rattle.std.specs.Prelude.{ℕ, Bool, cond, not, ◌&&◌, List, [], length, nat_le}
use Rattle.std.specs.declared.cmp.Ordering.{Ordering}
use Rattle.index.specs.Sets.{holds}
use Rattle.index.specs.Listed.{keep, with_pair, listed}
use Rattle.rules.specs.Keys.{within}

pub record Index (K : Type 0) : Type 0 where
  pub pairs : List (K × ℕ)
  pub capacity : ℕ

module _ {K : Type 0} (order : K → K → Ordering) where
  -- an index with those pairs, in any order
  abbrev pub meaning : List (K × ℕ) → ℕ → Index K
  meaning pairs capacity = record { pairs = listed order pairs; capacity = capacity }

  -- put says "full" of a pair that is not in the set
  abbrev pub says_full : Index K → K → ℕ → Bool
  says_full i k p = not (holds order i.pairs (k, p)) && nat_le i.capacity (length i.pairs)

  abbrev pub put : Index K → K → ℕ → Index K
  put i k p = record { pairs = cond (holds order i.pairs (k, p)) i.pairs (with_pair order (k, p) i.pairs); capacity = i.capacity }

  abbrev pub clear : Index K → Index K
  clear i = record { pairs = []; capacity = i.capacity }

  -- the pairs of the keys from lower to upper, by key and then place
  abbrev pub covering : Index K → K → K → List (K × ℕ)
  covering i lower upper = keep (λ x. within order lower upper x.0) i.pairs
