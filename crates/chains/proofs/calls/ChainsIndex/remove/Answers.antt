use Rattle.std.proofs.Common.{◌≡◌, ℕ, suc, ◌-◌, ◌<◌, length, get_or, take, set, sym, ap, ◌∙◌, subst, arith}
use Rattle.std.specs.List.{IsDistinct}
use Rattle.std.proofs.lemmas.List.{length-set, length-take-le, get_or_read}
use Rattle.index.specs.Sets.{tie, holds}
use Rattle.chains.specs.Chained.{held}
use Rattle.chains.proofs.Rows.{holds_at}
use Rattle.chains.proofs.Swaps.{distinct_last, holds_last, distinct_moved, holds_moved}
use Rattle.chains.proofs.calls.ChainsIndex.remove.Goals as goal

pub invariant_of-self-then-at-len : goal.invariant_of-self-then-at-len
invariant_of-self-then-at-len g c =
    let o = g.K.Key.order in
    let l = g.K.Key.laws.total in
    let xs = held c.args.self.now.arena in
    let q : g.row.K.Denot × ℕ = (c.args.key, c.args.place) in
    let i = c.in-Some.at in
    let w = c.pop_last-last.result in
    let m : ℕ = length xs - 1 in
    let f = c.in-Some.ensures in
    let lt : i < length xs = f.0 in
    let long : length xs ≡ suc m = omega arith in
    let short = length-take-le m xs (omega arith) in
    let cut = ap length c.pop_last-last.ensures.pairs in
    let low : i < m = omega (arith, c.if-at-len.true) in
    let is : held c.replace.new.self ≡ set (take m xs) i w = c.replace.ensures.pairs ∙ ap (λ ys. set ys i w) c.pop_last-last.ensures.pairs in
    let r = c.replace.ensures.wired in
    record {
      once = subst (IsDistinct (tie o)) (sym is) (distinct_moved o l xs c.args.self.now.once m long w c.pop_last-last.ensures.pair i q low f.1);
      links = r.links;
      heads = r.heads;
    }

pub invariant_of-self-else-at-len : goal.invariant_of-self-else-at-len
invariant_of-self-else-at-len g c =
    let o = g.K.Key.order in
    let l = g.K.Key.laws.total in
    let xs = held c.args.self.now.arena in
    let w = c.pop_last-last.result in
    let m : ℕ = length xs - 1 in
    let lt = c.in-Some.ensures.0 in
    let long : length xs ≡ suc m = omega arith in
    let r = c.pop_last-last.ensures.wired in
    record {
      once = subst (IsDistinct (tie o)) (sym c.pop_last-last.ensures.pairs) (distinct_last o l xs c.args.self.now.once m long w c.pop_last-last.ensures.pair);
      links = r.links;
      heads = r.heads;
    }

pub returns-then-at-len-clause-says : goal.returns-then-at-len-clause-says
returns-then-at-len-clause-says g c =
    let o = g.K.Key.order in
    let l = g.K.Key.laws.total in
    let xs = held c.args.self.now.arena in
    let q : g.row.K.Denot × ℕ = (c.args.key, c.args.place) in
    let i = c.in-Some.at in
    let w = c.pop_last-last.result in
    let m : ℕ = length xs - 1 in
    let f = c.in-Some.ensures in
    let lt : i < length xs = f.0 in
    let long : length xs ≡ suc m = omega arith in
    let short = length-take-le m xs (omega arith) in
    let cut = ap length c.pop_last-last.ensures.pairs in
    let low : i < m = omega (arith, c.if-at-len.true) in
    let is : held c.replace.new.self ≡ set (take m xs) i w = c.replace.ensures.pairs ∙ ap (λ ys. set ys i w) c.pop_last-last.ensures.pairs in
    let count = ap length is ∙ length-set (take m xs) i w in
    (holds_at o l xs i q q lt f.1, ap (holds o) is ∙ holds_moved o l xs c.args.self.now.once m long w c.pop_last-last.ensures.pair i q low f.1, omega arith)

pub returns-else-at-len-clause-says : goal.returns-else-at-len-clause-says
returns-else-at-len-clause-says g c =
    let o = g.K.Key.order in
    let l = g.K.Key.laws.total in
    let xs = held c.args.self.now.arena in
    let q : g.row.K.Denot × ℕ = (c.args.key, c.args.place) in
    let i = c.in-Some.at in
    let w = c.pop_last-last.result in
    let m : ℕ = length xs - 1 in
    let f = c.in-Some.ensures in
    let lt : i < length xs = f.0 in
    let long : length xs ≡ suc m = omega arith in
    let short = length-take-le m xs (omega arith) in
    let cut = ap length c.pop_last-last.ensures.pairs in
    let here : i ≡ m = omega (arith, c.if-at-len.false) in
    let in_row : m < length xs = omega arith in
    let at-m = f.1 ∙ ap (λ n. get_or xs n q) here in
    let same = get_or_read xs m w in_row c.pop_last-last.ensures.pair q ∙ sym at-m in
    (holds_at o l xs i q q lt f.1, ap (holds o) c.pop_last-last.ensures.pairs ∙ holds_last o l xs c.args.self.now.once m long w c.pop_last-last.ensures.pair q at-m same, omega arith)
