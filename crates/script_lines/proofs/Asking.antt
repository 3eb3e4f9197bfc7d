-- What a line asks for, from what the two calls that read it say. Assumes nothing.
use Rattle.std.proofs.Common.{◌≡◌, ℕ, List, Ok, Err, sym, ap}
use Rattle.script_lines.specs.declared.LineFault.{LineFault}
use Rattle.script_lines.specs.declared.Step.{Step}
use Rattle.script_lines.specs.Steps.{plain, plainly, parsed}
use Rattle.script_lines.specs.Calls.{then, call_of, asked}

-- a line that was read asks for the call of its step
pub asked_of_step : (line : List ℕ) (s : Step) → plainly (Ok s) ≡ parsed line → asked line ≡ call_of (plain s)
asked_of_step line s e = ap (λ p. then p call_of) (sym e)

-- a line that was not read asks for nothing, with the same fault
pub asked_of_fault : (line : List ℕ) (f : LineFault) → plainly (Err f) ≡ parsed line → asked line ≡ Err f
asked_of_fault line f e = ap (λ p. then p call_of) (sym e)
