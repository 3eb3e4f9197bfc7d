-- What is_past asks of one slot. Assumes nothing.
use Rattle.std.specs.Prelude.{ℕ, Bool, true, Some, None, Option, nat_lt}
use Rattle.seeing.specs.declared.Transaction.{Transaction}

-- the slot is free, or its transaction began after the stamp
abbrev pub is_after : ℕ → Option Transaction → Bool
is_after s None = true
is_after s (Some t) = nat_lt s t.name
