use Rattle.std.proofs.Common.{◌≡◌, ◌+◌, cond, refl, ◌∙◌, arith}
use Rattle.index.specs.Listed.{listed}
use Rattle.rules.specs.Tables.{entry}
use Rattle.transaction_calls.proofs.Places.{entry_still, freed_more, freed_all, count_more, count_all}
use Rattle.transaction_calls.proofs.Pairs.{taken_none, taken_more, taken_all}
use Rattle.transaction_calls.proofs.sweeps.sweep_all.Goals as goal
use Rattle.transaction_calls.proofs.sweeps.sweep_all.Goals.{then-sweep_at, else-sweep_at}

pub loop-place-init : goal.loop-place-init
loop-place-init g c = (refl, refl, omega arith, taken_none g.I.Key.Key.order g.I.Key.Key.laws.total c.args.slots.now c.args.versions.now (listed g.I.Key.Key.order (g.I.Index.pairs c.args.index.now)), refl)

pub loop-place-preserved : goal.loop-place-preserved
loop-place-preserved g c =
    let counted : c.if-sweep_at.count ≡ cond c.sweep_at.result (c.loop-place.count + 1) c.loop-place.count = elim c.if-sweep_at.branch [ then-sweep_at w ↦ rw w.if-sweep_at.true w.count-is | else-sweep_at w ↦ rw w.if-sweep_at.false w.count-is ] in
    let n = count_more c.args.slots.now c.args.versions.now c.loop-place.versions c.loop-place.place c.loop-place.count c.if-sweep_at.count c.sweep_at.result c.loop-place-test.true c.loop-place.invariant.0 c.sweep_at.ensures.tells counted c.loop-place.invariant.1 c.loop-place.invariant.2 in (
      freed_more c.args.slots.now c.args.versions.now c.loop-place.versions _ c.loop-place.place c.loop-place-test.true c.loop-place.invariant.0 c.sweep_at.ensures.frees,
      n.0,
      n.1,
      taken_more g.I.Key.Key.order g.I.Key.Key.laws.total c.args.slots.now c.args.versions.now c.loop-place.place (entry c.loop-place.versions c.loop-place.place)
          (entry_still c.args.slots.now c.args.versions.now c.loop-place.versions c.loop-place.place c.loop-place.invariant.0)
          (listed g.I.Key.Key.order (g.I.Index.pairs c.args.index.now)) _ _ c.loop-place.invariant.3 c.sweep_at.ensures.takes,
      c.sweep_at.ensures.limit ∙ c.loop-place.invariant.4,
    )

pub returns : goal.returns
returns g c = record {
  counts = count_all c.args.slots.now c.args.versions.now c.loop-place.place c.loop-place.count c.loop-place-test.false c.loop-place.invariant.1;
  frees = freed_all c.args.slots.now c.args.versions.now c.loop-place.versions c.loop-place.place c.loop-place-test.false c.loop-place.invariant.0;
  takes = taken_all g.I.Key.Key.order g.I.Key.Key.laws.total c.args.slots.now c.args.versions.now c.loop-place.place c.loop-place-test.false (listed g.I.Key.Key.order (g.I.Index.pairs c.args.index.now)) _ c.loop-place.invariant.3;
  limit = c.loop-place.invariant.4;
}
