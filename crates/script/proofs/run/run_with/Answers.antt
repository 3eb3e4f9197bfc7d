use Rattle.script.proofs.Wholes.{opened_with, told_from}
use Rattle.script.proofs.run.run_with.Goals as goal

pub returns : goal.returns
returns g c =
    told_from c.tell.result _ _ _ _ (opened_with (g.I.Index.pairs c.args.index) (g.I.Index.limit c.args.index) _ _ c.requires.0 c.requires.1 c.new-tables.ensures c.open.ensures) c.tell.ensures
