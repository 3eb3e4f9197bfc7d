use Rattle.rules.specs.declared.Call.TheVariants as call
use Rattle.calls.proofs.Performing.{whichever}
use Rattle.calls.proofs.store.TableStore.abort.Goals as goal

pub returns-clause-answers : goal.returns-clause-answers
returns-clause-answers g c = λ rows. whichever g.I.Key.Key.order _ _ (call.Abort c.args.transaction) _ (λ w. c.abort.ensures rows)
