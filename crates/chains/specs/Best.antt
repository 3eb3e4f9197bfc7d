-- The best place, and the best key, so far. Assumes nothing.
use Rattle.std.specs.Prelude.{ℕ, Bool, cond, Some, None, Option, nat_lt}
use Rattle.std.specs.declared.cmp.Ordering.{Ordering}
use Rattle.std.specs.Ordering.{is_lt}
use Rattle.index.specs.Sets.{reaches}

-- the lower of the best so far and v, which counts only from `from` on
abbrev pub lower_of : Option ℕ → ℕ → ℕ → Option ℕ
lower_of None from v = cond (nat_lt v from) None (Some v)
lower_of (Some b) from v = cond (nat_lt v from) (Some b) (cond (nat_lt b v) (Some b) (Some v))

-- the lower of the best key so far and l
abbrev pub closer : {K : Type 0} → (K → K → Ordering) → Option K → K → Option K
closer o None l = Some l
closer o (Some b) l = cond (is_lt (o l b)) (Some l) (Some b)

-- the same, where l counts only if it is far enough from k
abbrev pub nearer_of : {K : Type 0} → (K → K → Ordering) → Option K → K → Bool → K → Option K
nearer_of o best k strictly l = cond (reaches strictly (o k l)) (closer o best l) best
