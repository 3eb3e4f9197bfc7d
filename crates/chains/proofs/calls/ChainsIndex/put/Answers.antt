use Rattle.std.proofs.Common.{ℕ, length, sym, refl, ap, ◌∙◌, subst, arith}
use Rattle.std.specs.List.{IsDistinct}
use Rattle.std.proofs.lemmas.List.{length_push}
use Rattle.index.specs.Sets.{tie, holds}
use Rattle.chains.specs.Chained.{held}
use Rattle.chains.proofs.Rows.{held_found}
use Rattle.chains.proofs.Swaps.{holds_push, distinct_push}
use Rattle.chains.proofs.calls.ChainsIndex.put.Goals as goal

pub returns-then-is_some-clause-says : goal.returns-then-is_some-clause-says
returns-then-is_some-clause-says g c =
    let xs = held c.args.self.now.arena in
    (held_found g.K.Key.order g.K.Key.laws.total xs (c.args.key, c.args.place) c.find.result c.find.ensures ∙ sym c.is_some.ensures ∙ c.if-is_some.true, refl)

pub invariant_of-self : goal.invariant_of-self
invariant_of-self g c =
    let o = g.K.Key.order in
    let xs = held c.args.self.now.arena in
    let q : g.row.K.Denot × ℕ = (c.args.key, c.args.place) in
    let miss = held_found o g.K.Key.laws.total xs q c.find.result c.find.ensures ∙ sym c.is_some.ensures ∙ c.if-is_some.false in
    let w = c.append.ensures.wired in
    record {
      once = subst (IsDistinct (tie o)) (sym c.append.ensures.pairs) (distinct_push o g.K.Key.laws.total xs q c.args.self.now.once miss);
      links = w.links;
      heads = w.heads;
    }

pub returns-clause-says : goal.returns-clause-says
returns-clause-says g c =
    let o = g.K.Key.order in
    let xs = held c.args.self.now.arena in
    let q : g.row.K.Denot × ℕ = (c.args.key, c.args.place) in
    let miss = held_found o g.K.Key.laws.total xs q c.find.result c.find.ensures ∙ sym c.is_some.ensures ∙ c.if-is_some.false in
    (miss, omega arith, ap (holds o) c.append.ensures.pairs ∙ holds_push o g.K.Key.laws.total xs q, ap length c.append.ensures.pairs ∙ length_push xs q)
