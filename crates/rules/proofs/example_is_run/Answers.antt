use Rattle.std.proofs.Common.{drop, refl}
use Rattle.rules.specs.Checks.{◌>>=◌, ◌>>◌, some_or, refuse_if, or_as_found}
use Rattle.rules.specs.Aborting.{meets, spread, named_marks, dragged, doom_marked}
use Rattle.rules.specs.Runs.{opened}
use Rattle.rules.specs.Positions.{new_world, first_choice}
use Rattle.rules.specs.Example.{example}
use Rattle.rules.proofs.Playing.{number_total, run_on}
use Rattle.rules.proofs.example_is_run.Goals as goal

pub returns : goal.returns
unfolding ◌>>=◌ ◌>>◌ some_or refuse_if or_as_found meets spread named_marks dragged doom_marked
returns c = (number_total, run_on _ (opened new_world.world (first_choice new_world.world) 0 tt) (drop 1 example), refl)
