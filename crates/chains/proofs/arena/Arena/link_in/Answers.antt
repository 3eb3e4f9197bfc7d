use Rattle.std.proofs.Common.{◌≡◌, suc, ◌+◌, ◌<◌, set, sym, refl, ap, ◌∙◌, arith}
use Rattle.std.proofs.lemmas.List.{get_or_read}
use Rattle.chains.specs.Chained.{held, nexts, numbers}
use Rattle.chains.proofs.Links.{link_head, link_link, right_by, gap_in}
use Rattle.chains.proofs.Walks.{gap_any, number_set}
use Rattle.chains.proofs.arena.Arena.link_in.Goals as goal

pub returns-then-head-at-clause-wired : goal.returns-then-head-at-clause-wired
returns-then-head-at-clause-wired g c =
    let h = g.K.Key.hashed in
    let xs = held c.args.self.now in
    let ls = nexts c.args.self.now in
    let hs = c.args.self.now.heads in
    let k = c.chain_of-chain.result in
    let at = c.args.at in
    let x = c.args.pair in
    let small : k < 256 = omega arith in
    let on = number_set h xs at x c.requires.within ∙ sym c.chain_of-chain.ensures in
    let next : suc at ≡ at + 1 = omega arith in
    right_by refl refl (ap (set hs k) next) (link_head (numbers h (set xs at x)) ls hs at k (gap_any h xs at x ls hs c.requires.wired) small on c.if-head-at.true)

pub returns-else-head-at-clause-wired : goal.returns-else-head-at-clause-wired
returns-else-head-at-clause-wired g c =
    let h = g.K.Key.hashed in
    let xs = held c.args.self.now in
    let ls = nexts c.args.self.now in
    let hs = c.args.self.now.heads in
    let k = c.chain_of-chain.result in
    let at = c.args.at in
    let x = c.args.pair in
    let before = c.above-before.result in
    let gap = gap_any h xs at x ls hs c.requires.wired in
    let small : k < 256 = omega arith in
    let on = number_set h xs at x c.requires.within ∙ sym c.chain_of-chain.ensures in
    let on_gap = c.above-before.ensures.chain (set (numbers h (set xs at x)) at 256) gap in
    let other = gap_in (numbers h (set xs at x)) at before (omega arith) in
    let past : at < before = let ne = other.0 in omega (arith, c.above-before.ensures.bound) in
    let link = get_or_read ls before c.index.result.now c.above-before.ensures.within c.index.ensures 0 in
    let next : suc at ≡ at + 1 = omega arith in
    right_by refl (λ i. set (set ls at (sym link i)) before (next i)) refl
    (link_link (numbers h (set xs at x)) ls hs at k gap small on before (sym other.1 ∙ on_gap) past c.above-before.ensures.link)
