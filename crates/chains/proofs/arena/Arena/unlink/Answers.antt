use Rattle.std.proofs.Common.{◌≡◌, suc, ◌<◌, length, get_or, set, sym, refl, ap, ◌∙◌, arith}
use Rattle.std.proofs.lemmas.List.{get_or_read}
use Rattle.chains.specs.Chained.{held, nexts, numbers}
use Rattle.chains.proofs.Links.{unlink_head, unlink_link, right_by, link_over, head_over}
use Rattle.chains.proofs.Walks.{number_at}
use Rattle.chains.proofs.arena.Arena.unlink.Goals as goal

pub above-before-requires-clause-bound : goal.above-before-requires-clause-bound
above-before-requires-clause-bound g c =
    let h = g.K.Key.hashed in
    let xs = held c.args.self.now in
    let k = c.chain_of-chain.result in
    let small : k < 256 = omega arith in
    let on = number_at h xs c.args.at c.index.result.now c.requires.within c.index.ensures ∙ sym c.chain_of-chain.ensures in
    let over = head_over (numbers h xs) (nexts c.args.self.now) c.args.self.now.heads c.requires.wired c.args.at k small on in
    omega arith

pub returns-then-self-chain-clause-wired : goal.returns-then-self-chain-clause-wired
returns-then-self-chain-clause-wired g c =
    let h = g.K.Key.hashed in
    let xs = held c.args.self.now in
    let ls = nexts c.args.self.now in
    let hs = c.args.self.now.heads in
    let k = c.chain_of-chain.result in
    let at = c.args.at in
    let small : k < 256 = omega arith in
    let lt-ls : at < length ls = omega arith in
    let on = number_at h xs at c.index.result.now c.requires.within c.index.ensures ∙ sym c.chain_of-chain.ensures in
    let first : get_or hs k 0 ≡ suc at = omega (arith, c.if-self-chain.true) in
    let link = get_or_read ls at c.index-next.result.now lt-ls c.index-next.ensures 0 in
    right_by refl refl (ap (set hs k) (sym link)) (unlink_head (numbers h xs) ls hs c.requires.wired at k small on first)

pub returns-else-self-chain-clause-wired : goal.returns-else-self-chain-clause-wired
returns-else-self-chain-clause-wired g c =
    let h = g.K.Key.hashed in
    let xs = held c.args.self.now in
    let ls = nexts c.args.self.now in
    let hs = c.args.self.now.heads in
    let k = c.chain_of-chain.result in
    let at = c.args.at in
    let before = c.above-before.result in
    let small : k < 256 = omega arith in
    let lt-ls : at < length ls = omega arith in
    let on = number_at h xs at c.index.result.now c.requires.within c.index.ensures ∙ sym c.chain_of-chain.ensures in
    let on-before = c.above-before.ensures.chain (numbers h xs) c.requires.wired in
    let past : at < before = omega (arith, c.above-before.ensures.bound) in
    let over = link_over (numbers h xs) ls hs c.requires.wired at k small on before on-before past in
    let first : get_or ls before 0 ≡ suc at = omega (arith, c.above-before.ensures.link) in
    let link = get_or_read ls at c.index-next.result.now lt-ls c.index-next.ensures 0 in
    right_by refl (ap (set ls before) (sym link)) refl (unlink_link (numbers h xs) ls hs c.requires.wired at k small on before on-before first)
