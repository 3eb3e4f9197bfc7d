use Rattle.std.proofs.Common.{rules, tests}
use Rattle.rules.specs.Checks.{◌>>=◌, ◌>>◌, refuse_if, some_or}
use Rattle.walks.proofs.reach.reach_one.Goals as goal

pub returns-in_default-clause-says : goal.returns-in_default-clause-says
unfolding ◌>>=◌ ◌>>◌ refuse_if some_or
returns-in_default-clause-says g c = search (rules, tests)

pub returns-then-not-is_fitting-clause-says : goal.returns-then-not-is_fitting-clause-says
unfolding ◌>>=◌ ◌>>◌ refuse_if some_or
returns-then-not-is_fitting-clause-says g c = search (rules, tests)

pub returns-clause-says : goal.returns-clause-says
unfolding ◌>>=◌ ◌>>◌ refuse_if some_or
returns-clause-says g c = search (rules, tests)
