-- How many fields follow a word. Assumes nothing.
use Rattle.std.proofs.Common.{◌≡◌, ℕ, true, List, Some, None, is_some, Err, Option, Bor, ap, arith}
use Rattle.std.specs.Option.{option_map}
use Rattle.script_lines.specs.declared.LineFault.TheVariants.{Count}
use Rattle.script_lines.specs.Cuts.{fields_of}
use Rattle.script_lines.specs.Fields.{none}
use Rattle.script_lines.proofs.Cutting.{fields_cut}

-- a comma is followed by a field
pub none_over : (rest : Option (Bor (List ℕ))) → is_some rest ≡ true → none (fields_of (option_map (λ x. x.now) rest)) ≡ Err Count
none_over None h = let z : ◌≡◌ {A = ℕ} 0 1 = cc in absurd (omega arith)
none_over (Some bytes) h = ap none (fields_cut bytes.now)
