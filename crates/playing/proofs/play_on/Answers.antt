use Rattle.std.proofs.Common.{◌≡◌, ◌<◌, length, take, ◌∙◌, arith}
use Rattle.std.proofs.lemmas.List.{get_or-take, length-take-le}
use Rattle.playing.proofs.Going.{play_none, play_more, play_all}
use Rattle.playing.proofs.play_on.Goals as goal

pub loop-place-init : goal.loop-place-init
loop-place-init g c = (omega arith, play_none g.I.Key.Key.order _ c.args.calls.now c.args.answers.now)

pub loop-place-preserved : goal.loop-place-preserved
loop-place-preserved g c =
    let long : length (take c.room-count.result c.args.calls.now) ≡ c.room-count.result = length-take-le c.room-count.result c.args.calls.now (omega (arith, c.room-count.ensures)) in
    let inside : c.loop-place.place < c.room-count.result = omega (arith, long, c.loop-place-test.true) in (
      omega (arith, inside),
      play_more g.I.Key.Key.order _ _ _ c.args.calls.now c.args.answers.now c.loop-place.answers _ c.loop-place.place c.call-item.result c.play_one-answer.result
          (omega (arith, inside, c.room-count.ensures)) (omega (arith, inside, c.room-count.ensures)) (c.call-item.is ∙ get_or-take c.room-count.result c.args.calls.now c.loop-place.place c.call-item.result inside)
          c.loop-place.invariant.1 c.play_one-answer.ensures.answers c.play_one-answer.ensures.law c.play_one-answer.ensures.writes,
    )

pub returns : goal.returns
returns g c =
    let long : length (take c.room-count.result c.args.calls.now) ≡ c.room-count.result = length-take-le c.room-count.result c.args.calls.now (omega (arith, c.room-count.ensures)) in record {
      counts = c.room-count.ensures;
      plays = play_all g.I.Key.Key.order _ _ c.args.calls.now c.args.answers.now c.loop-place.answers c.loop-place.place c.room-count.result c.loop-place.invariant.0 (omega (arith, long, c.loop-place-test.false)) c.loop-place.invariant.1;
    }
