use Rattle.std.proofs.Common.{◌≡◌, ℕ, suc, ◌<◌, [], ◌∷◌, ◌++◌, length, get_or, set, sym, ap, ◌∙◌, arith}
use Rattle.std.proofs.lemmas.List.{map_push, length-map}
use Rattle.chains.specs.Chained.{held, nexts, bucket, numbers}
use Rattle.chains.proofs.Links.{push_right, right_by}
use Rattle.chains.proofs.arena.Arena.append.Goals as goal

pub returns-clause-wired : goal.returns-clause-wired
returns-clause-wired g c =
    let h = g.K.Key.hashed in
    let xs = held c.args.self.now in
    let ls = nexts c.args.self.now in
    let hs = c.args.self.now.heads in
    let q : g.row.K.Denot × ℕ = (c.args.key, c.args.place) in
    let b : ℕ = bucket h c.args.key in
    let small : b < 256 = omega arith in
    let more = c.push_reserved-2.ensures.items in
    let long = length-map xs (λ x. bucket h x.0) in
    let count : suc (length (numbers h xs)) ≡ c.len.result = omega arith in
    right_by
    (sym (ap (numbers h) more ∙ map_push (λ x. bucket h x.0) xs q))
    (ap (λ k. ls ++ get_or hs k 0 ∷ []) (sym c.chain_of-chain.ensures) ∙ sym c.push_reserved.ensures.items)
    (λ i. set hs (sym c.chain_of-chain.ensures i) (count i))
    (push_right (numbers h xs) ls hs b c.requires.wired small)
