use Rattle.std.proofs.Common.{◌≡◌, ℕ, ◌-◌, ◌<◌, ◌||◌, false, length, get_or, drop, sym, ap, ◌∙◌, subst, arith}
use Rattle.std.proofs.lemmas.List.{get_or_read, length-map}
use Rattle.index.specs.Sets.{holds}
use Rattle.index.proofs.Pairs.{same_tie}
use Rattle.chains.specs.Chained.{held, bucket, numbers}
use Rattle.chains.proofs.Walks.{On, on_head, on_next, next_is, next_less, wired}
use Rattle.chains.proofs.Rows.{start_none, step_one}
use Rattle.chains.proofs.chains.Chains.find.Goals as goal

pub loop-at-init : goal.loop-at-init
loop-at-init g c =
    let o = g.K.Key.order in
    let h = g.K.Key.hashed in
    let s = c.args.self.now.arena in
    let q : g.row.K.Denot × ℕ = (c.args.key, c.args.place) in
    let cs = numbers h (held s) in
    let w = wired c.args.self.now in
    let b : ℕ = bucket h c.args.key in
    let small : b < 256 = omega arith in
    subst (λ k. On b cs (get_or s.heads k 0) × (holds o (drop (get_or s.heads k 0) (held s)) q ≡ false)) (sym c.chain_of.ensures)
    (on_head s cs w b small, start_none o g.K.Key.laws.total h (held s) q (get_or s.heads b 0) (w.heads b small))

pub index-requires : goal.index-requires
index-requires g c =
    let low = c.loop-at.invariant.0.low in
    let long = length-map (held c.args.self.now.arena) (λ x. bucket g.K.Key.hashed x.0) in
    omega arith

pub returns-then-is_pair : goal.returns-then-is_pair
returns-then-is_pair g c =
    let xs = held c.args.self.now.arena in
    let q : g.row.K.Denot × ℕ = (c.args.key, c.args.place) in
    let low = c.loop-at.invariant.0.low in
    let long = length-map xs (λ x. bucket g.K.Key.hashed x.0) in
    let lt : c.loop-at.at - 1 < length xs = omega arith in
    let same = same_tie g.K.Key.order g.K.Key.laws.total q c.index.result.now (sym c.if-is_pair.ensures) in
    (lt, same ∙ get_or_read xs (c.loop-at.at - 1) c.index.result.now lt c.index.ensures q)

pub index-at-requires : goal.index-at-requires
index-at-requires g c =
    let low = c.loop-at.invariant.0.low in
    let long = length-map (held c.args.self.now.arena) (λ x. bucket g.K.Key.hashed x.0) in
    omega arith

pub loop-at-smaller : goal.loop-at-smaller
loop-at-smaller g c =
    let s = c.args.self.now.arena in
    let b : ℕ = bucket g.K.Key.hashed c.args.key in
    let small : b < 256 = omega arith in
    next_less s (numbers g.K.Key.hashed (held s)) (wired c.args.self.now) b small c.loop-at.at c.loop-at.invariant.0 c.loop-at-test.true c.index-at.result.now c.index-at.ensures

pub loop-at-preserved : goal.loop-at-preserved
loop-at-preserved g c =
    let o = g.K.Key.order in
    let h = g.K.Key.hashed in
    let s = c.args.self.now.arena in
    let xs = held s in
    let q : g.row.K.Denot × ℕ = (c.args.key, c.args.place) in
    let next = c.index-at.result.now in
    let read = c.index-at.ensures in
    let at = c.loop-at.at in
    let on = c.loop-at.invariant.0 in
    let some : 0 < at = c.loop-at-test.true in
    let w = wired c.args.self.now in
    let b : ℕ = bucket h c.args.key in
    let small : b < 256 = omega arith in
    let low = on.low in
    let long = length-map xs (λ x. bucket h x.0) in
    let is = next_is s (numbers h xs) w b small at on some next read in
    let one = step_one o g.K.Key.laws.total h xs q at next c.index.result.now some (omega arith) c.index.ensures is in
    (on_next s (numbers h xs) w b small at on some next read, one ∙ ap (λ t. t || holds o (drop at xs) q) (sym c.if-is_pair.ensures) ∙ c.loop-at.invariant.1)

pub returns : goal.returns
returns g c =
    let z : c.loop-at.at ≡ 0 = omega arith in
    ap (λ n. holds g.K.Key.order (drop n (held c.args.self.now.arena)) (c.args.key, c.args.place)) (sym z) ∙ c.loop-at.invariant.1
