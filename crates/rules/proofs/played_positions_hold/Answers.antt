use Rattle.std.proofs.Common.{refl}
use Rattle.rules.specs.Checks.{◌>>=◌, ◌>>◌, some_or, refuse_if, or_as_found}
use Rattle.rules.specs.Aborting.{meets, spread, named_marks, dragged, doom_marked}
use Rattle.rules.proofs.played_positions_hold.Goals as goal

pub returns : goal.returns
unfolding ◌>>=◌ ◌>>◌ some_or refuse_if or_as_found meets spread named_marks dragged doom_marked
returns c = refl
