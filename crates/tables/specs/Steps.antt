-- What steps of a rule, taken from a state, give and leave. Assumes nothing.
use Rattle.std.specs.Prelude.{◌≡◌, Ok, Err, Result}
use Rattle.rules.specs.declared.Refusal.{Refusal}
use Rattle.rules.specs.Checks.{Checked}

module _ {A S : Type 0} where
  -- the steps m, taken from the state s, give r and leave the state s'; a refusal leaves it as found
  abbrev pub Gives : Checked (A × S) → S → S → Result A Refusal → Type 0
  Gives m s s' (Ok a) = m ≡ Ok (a, s')
  Gives m s s' (Err e) = (m ≡ Err e) × (s' ≡ s)

  -- the same, where the steps give nothing but the state
  abbrev pub Leaves : Checked S → S → S → Result A Refusal → Type 0
  Leaves m s s' (Ok a) = m ≡ Ok s'
  Leaves m s s' (Err e) = (m ≡ Err e) × (s' ≡ s)
