use Rattle.std.proofs.Common.{◌≡◌, ◌+◌, ◌<◌, ◌≤◌, [], ◌∷◌, ◌++◌, length, get_or, take, sym, ap, ◌∙◌, subst, arith}
use Rattle.std.proofs.lemmas.List.{take_more, take_all}
use Rattle.index.specs.Sets.{LowestKey}
use Rattle.chains.specs.Chained.{held}
use Rattle.chains.proofs.Bests.{key_more}
use Rattle.chains.proofs.calls.ChainsIndex.next_key.Goals as goal

pub loop-pair-preserved : goal.loop-pair-preserved
loop-pair-preserved g c =
    let o = g.K.Key.order in
    let xs = held c.args.self.now.arena in
    let x = c.pair-item.result in
    let i = c.loop-pair.pair-index in
    let lt : i < length xs = omega (arith, ap length c.deref-pair-items.ensures.value) in
    let is = c.pair-item.is ∙ ap (λ ys. get_or ys i x) c.deref-pair-items.ensures.value in
    let more : take (i + 1) xs ≡ take i xs ++ x ∷ [] = take_more xs i x lt ∙ ap (λ y. take i xs ++ y ∷ []) (sym is) in
    let new = key_more o g.K.Key.laws.total (take i xs) c.args.key c.args.strictly x c.loop-pair.best c.loop-pair.invariant in
    subst (λ ys. LowestKey o ys c.args.key c.args.strictly c.nearer-best.result) (sym more) (subst (λ b. LowestKey o (take i xs ++ x ∷ []) c.args.key c.args.strictly b) (sym c.nearer-best.ensures) new)

pub returns : goal.returns
returns g c =
    let xs = held c.args.self.now.arena in
    let h : length xs ≤ c.loop-pair.pair-index = omega (arith, ap length c.deref-pair-items.ensures.value) in
    subst (λ ys. LowestKey g.K.Key.order ys c.args.key c.args.strictly c.loop-pair.best) (take_all c.loop-pair.pair-index xs h) c.loop-pair.invariant
