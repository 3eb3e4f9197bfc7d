use Rattle.transaction_calls.proofs.Restart.{tallied}
use Rattle.transaction_calls.proofs.opening.tally.Goals as goal

pub returns : goal.returns
returns g c = tallied _ _ _ _ _ c.of.ensures _ c.counts.ensures
