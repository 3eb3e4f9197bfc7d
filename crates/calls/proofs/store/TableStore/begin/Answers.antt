use Rattle.rules.specs.declared.Call.TheVariants as call
use Rattle.calls.proofs.Performing.{whichever}
use Rattle.calls.proofs.store.TableStore.begin.Goals as goal

pub returns-clause-answers : goal.returns-clause-answers
returns-clause-answers g c = λ rows. whichever g.I.Key.Key.order _ _ (call.Begin c.args.level) _ (λ w. c.begin.ensures rows)
