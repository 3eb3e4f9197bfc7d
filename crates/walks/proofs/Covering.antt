-- The pairs of the keys from lower to upper are those from (lower, 0) on. Assumes nothing.
use Rattle.std.proofs.Common.{◌≡◌, ℕ, zero, suc, Bool, cond, ◌&&◌, eqb, List, Ordering, Less, Equal, Greater, sym, refl, ap, arith}
use Rattle.std.proofs.lemmas.Bool.{lt-ltb}
use Rattle.std.specs.Ordering.{is_le, ordering_then, nat_cmp}
use Rattle.index.specs.Listed.{keep, listed, from_on, rest}
use Rattle.rules.specs.Keys.{within}
use Rattle.rules.specs.Index.{meaning, covering}

from_zero : (r : Ordering) (q : ℕ) → is_le r ≡ is_le (ordering_then r (nat_cmp 0 q))
from_zero Less q = refl
from_zero Equal zero = refl
from_zero Equal (suc q) = ap (λ (b : Bool). is_le (cond b Less (cond (eqb 0 (suc q)) Equal Greater))) (sym (lt-ltb 0 (suc q) (omega arith)))
from_zero Greater q = refl

module _ {K : Type 0} (o : K → K → Ordering) (lower upper : K) where
  within_is : (x : K × ℕ) → within o lower upper x.0 ≡ from_on o lower 0 upper x
  within_is x = ap (λ (b : Bool). b && is_le (o x.0 upper)) (from_zero (o lower x.0) x.1)

  pub covering_rest : (xs : List (K × ℕ)) (limit : ℕ) → covering o (meaning o xs limit) lower upper ≡ rest o lower 0 upper xs
  covering_rest xs limit = λ j. keep (λ x. within_is x j) (listed o xs)
