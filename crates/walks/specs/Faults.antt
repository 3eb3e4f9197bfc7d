-- The fault of an index as a refusal of the store. Assumes nothing.
use Rattle.rules.specs.declared.Refusal.{Refusal}
use Rattle.rules.specs.declared.Refusal.TheVariants as refusal
use Rattle.walks.specs.declared.FaultFor.{FaultFor}

-- the index is full for the transaction
abbrev pub full_for : FaultFor → Refusal
full_for b = refusal.Full b.transaction b.fault
