use Rattle.std.proofs.Common.{◌≡◌, ℕ, subst, rules}
use Rattle.std.specs.List.Sorted.{IsBinarySearchResult}
use Rattle.std.proofs.lemmas.Fn.{always_returns_same}
use Rattle.index.specs.Sets.{pair_order}
use Rattle.ordered.proofs.in_order.InOrder.find.Goals as goal

pub returns-clause-position : goal.returns-clause-position
returns-clause-position g c =
    let by = λ (y : g.row.K.Denot × ℕ). pair_order g.K.Key.order y (c.args.key, c.args.place) in
    subst (λ xs. IsBinarySearchResult by xs c.binary_search_by.result) c.deref.ensures.value
    (c.binary_search_by.ensures.position by (always_returns_same _ (λ a r. r ≡ by a.0.now) _ (λ a r f k. search rules)))
