use Rattle.std.proofs.Common.{◌≡◌, ℕ, ◌<◌, ◌≤◌, false, length, get_or, drop, sym, subst, arith}
use Rattle.std.proofs.lemmas.List.{length-map}
use Rattle.index.specs.Sets.{holds, Lowest}
use Rattle.chains.specs.Chained.{held, bucket, numbers}
use Rattle.chains.proofs.Walks.{On, on_head, on_next, next_is, next_less, wired}
use Rattle.chains.proofs.Rows.{start_none, step_one}
use Rattle.chains.proofs.Bests.{place_more}
use Rattle.chains.proofs.calls.ChainsIndex.next_place.Goals as goal

pub loop-at-init : goal.loop-at-init
loop-at-init g c =
    let o = g.K.Key.order in
    let h = g.K.Key.hashed in
    let s = c.args.self.now.arena in
    let cs = numbers h (held s) in
    let w = wired c.args.self.now in
    let b : ℕ = bucket h c.args.key in
    let small : b < 256 = omega arith in
    subst (λ k. On b cs (get_or s.heads k 0) × ((p : ℕ) → c.args.from ≤ p → holds o (drop (get_or s.heads k 0) (held s)) (c.args.key, p) ≡ false)) (sym c.chain_of.ensures)
    (on_head s cs w b small, λ p _. start_none o g.K.Key.laws.total h (held s) (c.args.key, p) (get_or s.heads b 0) (w.heads b small))

pub index-requires : goal.index-requires
index-requires g c =
    let low = c.loop-at.invariant.0.low in
    let long = length-map (held c.args.self.now.arena) (λ x. bucket g.K.Key.hashed x.0) in
    omega arith

pub index-at-requires : goal.index-at-requires
index-at-requires g c =
    let low = c.loop-at.invariant.0.low in
    let long = length-map (held c.args.self.now.arena) (λ x. bucket g.K.Key.hashed x.0) in
    omega arith

pub loop-at-smaller : goal.loop-at-smaller
loop-at-smaller g c =
    let s = c.args.self.now.arena in
    let b : ℕ = bucket g.K.Key.hashed c.args.key in
    let small : b < 256 = omega arith in
    next_less s (numbers g.K.Key.hashed (held s)) (wired c.args.self.now) b small c.loop-at.at c.loop-at.invariant.0 c.loop-at-test.true c.index-at.result.now c.index-at.ensures

pub loop-at-preserved : goal.loop-at-preserved
loop-at-preserved g c =
    let o = g.K.Key.order in
    let h = g.K.Key.hashed in
    let s = c.args.self.now.arena in
    let xs = held s in
    let k = c.args.key in
    let x = c.index.result.now in
    let next = c.index-at.result.now in
    let read = c.index-at.ensures in
    let at = c.loop-at.at in
    let on = c.loop-at.invariant.0 in
    let some : 0 < at = c.loop-at-test.true in
    let w = wired c.args.self.now in
    let b : ℕ = bucket h k in
    let small : b < 256 = omega arith in
    let low = on.low in
    let long = length-map xs (λ x. bucket h x.0) in
    let in_row : at ≤ length xs = omega arith in
    let is = next_is s (numbers h xs) w b small at on some next read in
    let one = λ (p : ℕ). step_one o g.K.Key.laws.total h xs (k, p) at next x some in_row c.index.ensures is in
    let new = place_more o g.K.Key.laws.total k x (λ p. holds o (drop at xs) (k, p)) (λ p. holds o (drop next xs) (k, p)) one c.args.from c.loop-at.best c.loop-at.invariant.1 (g.K.Key.equal k x.0) (sym (g.K.Key.laws.agrees k x.0)) in
    (on_next s (numbers h xs) w b small at on some next read, subst (λ r. Lowest (λ p. holds o (drop next xs) (k, p)) c.args.from r) (sym c.better-best.ensures) new)

pub returns : goal.returns
returns g c =
    let z : c.loop-at.at ≡ 0 = omega arith in
    subst (λ n. Lowest (λ p. holds g.K.Key.order (drop n (held c.args.self.now.arena)) (c.args.key, p)) c.args.from c.loop-at.best) z c.loop-at.invariant.1
