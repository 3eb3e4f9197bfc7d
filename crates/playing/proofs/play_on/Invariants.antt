use Rattle.std.proofs.Common.{◌≤◌}
use Rattle.rules.specs.Index.{meaning}
use Rattle.rules.specs.Worlds.{around}
use Rattle.playing.specs.Plays.{PlaysOn}
use Rattle.playing.proofs.play_on.Given as goal

abbrev pub invariant-loop-place : goal.invariant-loop-place
invariant-loop-place g l =
    (l.place ≤ l.count)
    × PlaysOn g.I.Key.Key.order
    (around l.initial.store.store l.initial.versions l.initial.notes (meaning g.I.Key.Key.order (g.I.Index.pairs l.initial.index) (g.I.Index.limit l.initial.index)) l.initial.rows)
    (around l.store.store l.versions l.notes (meaning g.I.Key.Key.order (g.I.Index.pairs l.index) (g.I.Index.limit l.index)) l.rows)
    l.calls l.initial.answers l.answers l.place
