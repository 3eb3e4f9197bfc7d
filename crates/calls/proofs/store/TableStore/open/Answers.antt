use Rattle.rules.specs.declared.Call.TheVariants as call
use Rattle.calls.proofs.Performing.{whichever}
use Rattle.calls.proofs.store.TableStore.open.Goals as goal

pub returns-clause-answers : goal.returns-clause-answers
returns-clause-answers g c = λ rows. whichever g.I.Key.Key.order _ _ (call.Open c.args.stamp) _ (λ w. c.open.ensures rows)
