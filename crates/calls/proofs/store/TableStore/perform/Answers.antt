use Rattle.calls.proofs.Going.{goes_on, begins}
use Rattle.calls.proofs.Performing.{answers}
use Rattle.calls.proofs.store.TableStore.perform.Goals as goal

pub returns : goal.returns
returns g c =
    let a = answers g.I.Key.Key.order _ _ c.args.call _ c.carry_out.ensures in
    record {
      exact = c.carry_out.ensures;
      answers = a;
      law = goes_on g.I.Key.Key.order g.I.Key.Key.laws.total _ _ c.args.call _ a;
      opens = begins g.I.Key.Key.order g.I.Key.Key.laws.total _ _ c.args.call _ a;
    }
