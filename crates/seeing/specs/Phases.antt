-- What a phase and a level say. Assumes nothing.
use Rattle.std.specs.Prelude.{ℕ, Bool, true, false, Some, None, Option, nat_le, nat_lt}
use Rattle.seeing.specs.declared.Level.{Level}
use Rattle.seeing.specs.declared.Level.TheVariants.{Serializable, Snapshot}
use Rattle.seeing.specs.declared.Phase.{Phase}
use Rattle.seeing.specs.declared.Phase.TheVariants.{Active, Preparing, Validated, Committed, Aborted}

abbrev pub is_serializable : Level → Bool
is_serializable Serializable = true
is_serializable Snapshot = false

abbrev pub is_active : Phase → Bool
is_active Active = true
is_active (Preparing e) = false
is_active (Validated e) = false
is_active (Committed e) = false
is_active Aborted = false

-- preparing, or validated
abbrev pub is_preparing : Phase → Bool
is_preparing Active = false
is_preparing (Preparing e) = true
is_preparing (Validated e) = true
is_preparing (Committed e) = false
is_preparing Aborted = false

abbrev pub is_aborted : Phase → Bool
is_aborted Active = false
is_aborted (Preparing e) = false
is_aborted (Validated e) = false
is_aborted (Committed e) = false
is_aborted Aborted = true

-- committed or aborted
abbrev pub is_over : Phase → Bool
is_over Active = false
is_over (Preparing e) = false
is_over (Validated e) = false
is_over (Committed e) = true
is_over Aborted = true

-- the end stamp of a transaction that is to be validated
abbrev pub if_preparing : Phase → Option ℕ
if_preparing Active = None
if_preparing (Preparing e) = Some e
if_preparing (Validated e) = None
if_preparing (Committed e) = None
if_preparing Aborted = None

-- the end stamp of a transaction that is to be committed
abbrev pub if_validated : Phase → Option ℕ
if_validated Active = None
if_validated (Preparing e) = None
if_validated (Validated e) = Some e
if_validated (Committed e) = None
if_validated Aborted = None

-- preparing or committed, with an end stamp not above the time
abbrev pub stamped_by : ℕ → Phase → Bool
stamped_by time Active = false
stamped_by time (Preparing e) = nat_le e time
stamped_by time (Validated e) = nat_le e time
stamped_by time (Committed e) = nat_le e time
stamped_by time Aborted = false

-- active, or preparing or committed with an end stamp above the time
abbrev pub busy_after : ℕ → Phase → Bool
busy_after time Active = true
busy_after time (Preparing e) = nat_lt time e
busy_after time (Validated e) = nat_lt time e
busy_after time (Committed e) = nat_lt time e
busy_after time Aborted = false

-- the phase as others take it: a doomed transaction counts as aborted, a validated one as preparing
abbrev pub phase_to_others : Bool → Phase → Phase
phase_to_others true p = Aborted
phase_to_others false Active = Active
phase_to_others false (Preparing e) = Preparing e
phase_to_others false (Validated e) = Preparing e
phase_to_others false (Committed e) = Committed e
phase_to_others false Aborted = Aborted
