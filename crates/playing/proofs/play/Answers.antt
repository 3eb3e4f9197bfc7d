use Rattle.tables.proofs.Steps.{exit}
use Rattle.playing.proofs.Opening.{played_all, not_opened}
use Rattle.playing.proofs.play.Goals as goal

pub returns-in_err-open_at : goal.returns-in_err-open_at
returns-in_err-open_at g c = rw (exit _ _ c.from_residual.ensures.1) (not_opened g.I.Key.Key.order c.args.stamp _ _ c.args.calls.now c.args.answers.now _ c.in_err-open_at.ensures.answers)

pub returns : goal.returns
returns g c = played_all g.I.Key.Key.order c.args.stamp _ _ c.args.calls.now c.args.answers.now _ _ c.in_ok-open_at.field-0 c.play_on.result c.in_ok-open_at.ensures.answers c.in_ok-open_at.ensures.opens c.play_on.ensures.counts c.play_on.ensures.plays
