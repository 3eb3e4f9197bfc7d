use Rattle.rules.proofs.Final.{serial_law}
use Rattle.rules.proofs.law_holds.Goals as goal

pub returns : goal.returns
returns g c = serial_law _ _ g.K.Key.order
