use Rattle.std.proofs.Common.{◌∙◌}
use Rattle.calls.proofs.Places.{place_is}
use Rattle.calls.proofs.store.place_from.Goals as goal

pub returns : goal.returns
returns g c = c.unwrap_or.ensures ∙ place_is c.args.hint c.args.table.now c.free_place.result c.free_place.ensures.picks
