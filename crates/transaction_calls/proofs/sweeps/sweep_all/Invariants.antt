use Rattle.std.proofs.Common.{◌≡◌, ◌≤◌, take}
use Rattle.index.specs.Listed.{listed}
use Rattle.rules.specs.Lists.{count}
use Rattle.transaction_calls.specs.Sweeping.{left_below}
use Rattle.transaction_calls.proofs.Places.{sweeps, swept_below}
use Rattle.transaction_calls.proofs.sweeps.sweep_all.Given as goal

abbrev pub invariant-loop-place : goal.invariant-loop-place
invariant-loop-place g l =
    (l.versions ≡ swept_below l.slots l.place l.initial.versions)
    × (l.count ≡ count (sweeps l.slots) (take l.place l.initial.versions))
    × (l.count ≤ l.place)
    × (listed g.I.Key.Key.order (g.I.Index.pairs l.index) ≡ left_below g.I.Key.Key.order l.slots l.initial.versions l.place (listed g.I.Key.Key.order (g.I.Index.pairs l.initial.index)))
    × (g.I.Index.limit l.index ≡ g.I.Index.limit l.initial.index)
