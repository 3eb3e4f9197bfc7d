use Rattle.std.proofs.Common.{rules, tests}
use Rattle.rules.specs.Checks.{◌>>=◌}
use Rattle.validating.proofs.checks.test_one.Goals as goal

pub returns-in_err-version-clause-says : goal.returns-in_err-version-clause-says
unfolding ◌>>=◌
returns-in_err-version-clause-says g c = search (rules, tests)

pub returns-clause-says : goal.returns-clause-says
unfolding ◌>>=◌
returns-clause-says g c = search (rules, tests)
