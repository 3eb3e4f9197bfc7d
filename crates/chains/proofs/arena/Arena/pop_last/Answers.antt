use Rattle.std.proofs.Common.{◌≡◌, ℕ, suc, ◌-◌, ◌<◌, length, set, sym, ap, ◌∙◌, arith}
use Rattle.std.proofs.lemmas.List.{get_or_read, take-map, length-map}
use Rattle.chains.specs.Chained.{held, nexts, bucket, numbers}
use Rattle.chains.proofs.Links.{pop_right, right_by}
use Rattle.chains.proofs.Walks.{number_at}
use Rattle.chains.proofs.arena.Arena.pop_last.Goals as goal

pub returns-clause-wired : goal.returns-clause-wired
returns-clause-wired g c =
    let h = g.K.Key.hashed in
    let xs = held c.args.self.now in
    let ls = nexts c.args.self.now in
    let hs = c.args.self.now.heads in
    let x = c.index-pair.result.now in
    let b : ℕ = bucket h x.0 in
    let m : ℕ = c.len-last.result - 1 in
    let small : b < 256 = omega arith in
    let lt : m < length xs = omega arith in
    let lt-ls : m < length ls = omega arith in
    let long = length-map xs (λ x. bucket h x.0) in
    let count : length (numbers h xs) ≡ suc m = omega arith in
    let link = get_or_read ls m c.index.result.now lt-ls c.index.ensures 0 in
    right_by
    (take-map (λ x. bucket h x.0) m xs ∙ sym (ap (numbers h) c.truncate.ensures.items))
    (sym c.truncate-2.ensures.items)
    (λ i. set hs (sym c.chain_of.ensures i) (sym link i))
    (pop_right (numbers h xs) ls hs m b c.requires.wired count (number_at h xs m x lt c.index-pair.ensures) small)
