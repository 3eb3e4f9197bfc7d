-- Keys are compared through their order alone. Assumes nothing.
use Rattle.std.specs.Prelude.{Bool, ◌&&◌}
use Rattle.std.specs.declared.cmp.Ordering.{Ordering}
use Rattle.std.specs.Ordering.{is_eq, is_lt, is_le, is_gt}

module _ {K : Type 0} (order : K → K → Ordering) where
  abbrev pub same : K → K → Bool
  same k l = is_eq (order k l)

  abbrev pub below : K → K → Bool
  below k l = is_lt (order k l)

  abbrev pub above : K → K → Bool
  above k l = is_gt (order k l)

  abbrev pub within : K → K → K → Bool
  within lower upper k = is_le (order lower k) && is_le (order k upper)
