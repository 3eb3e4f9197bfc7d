use Rattle.std.proofs.Common.{rules, tests, ◌&&◌, ◌∙◌}
use Rattle.std.proofs.lemmas.Iterator.{YieldsList-from_slice, YieldsList-from_zip}
use Rattle.std.proofs.lemmas.Iterator.Search.{any_from_yields_List}
use Rattle.rules.specs.Aborting.{meets}
use Rattle.slots.proofs.Filled.{some_zip}
use Rattle.slots.proofs.aborts.have_common.Goals as goal

pub returns : goal.returns
unfolding meets
returns c =
    any_from_yields_List (λ p. p.0 && p.1) c.any.new.self _ _ c.any.ensures.ran (YieldsList-from_zip (YieldsList-from_slice c.args.xs.now cc) (YieldsList-from_slice c.args.ys.now cc)) (λ x b q k. search (rules, tests))
    ∙ some_zip c.args.xs.now c.args.ys.now 64 c.told-xs c.told-ys
