-- A sweep, place by place. Assumes nothing.
use Rattle.std.specs.Prelude.{ℕ, cond, not, ◌&&◌, List, Some, None, Option, nat_lt, slice_set}
use Rattle.std.specs.declared.cmp.Ordering.{Ordering}
use Rattle.seeing.specs.declared.Version.{Version}
use Rattle.seeing.specs.Slots.{Slots}
use Rattle.index.specs.Sets.{tie}
use Rattle.index.specs.Listed.{keep}
use Rattle.rules.specs.declared.Entry.{Entry}
use Rattle.rules.specs.Tables.{emptied}
use Rattle.rules.specs.TableRules.{is_past, sweeps_pair}

module _ {K V : Type 0} where
  -- the key of the version, if it is to be swept
  abbrev pub key_to_sweep : Slots → Option (Version K V) → Option K
  key_to_sweep ts None = None
  key_to_sweep ts (Some v) = cond (is_past ts v.end) (Some v.key) None

  -- the table without the version of that key at the place
  abbrev pub freed_at : ℕ → Option K → List (Entry (Version K V)) → List (Entry (Version K V))
  freed_at p None vs = vs
  freed_at p (Some k) vs = slice_set vs p emptied

module _ {K : Type 0} (order : K → K → Ordering) where
  -- the pairs without the one of that key and the place
  abbrev pub taken_out : ℕ → Option K → List (K × ℕ) → List (K × ℕ)
  taken_out p None xs = xs
  taken_out p (Some k) xs = keep (λ x. not (tie order x (k, p))) xs

module _ {K V : Type 0} (order : K → K → Ordering) where
  -- the pairs that are left once the places below i are swept
  abbrev pub left_below : Slots → List (Entry (Version K V)) → ℕ → List (K × ℕ) → List (K × ℕ)
  left_below ts vs i xs = keep (λ x. not (sweeps_pair order ts vs x && nat_lt x.1 i)) xs
