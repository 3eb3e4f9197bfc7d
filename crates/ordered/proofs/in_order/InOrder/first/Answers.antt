use Rattle.std.proofs.Common.{◌≡◌, ◌<◌, ◌≤◌, true, false, not, length, MatchOption, sym, subst, rules}
use Rattle.std.specs.List.{HoldsAt}
use Rattle.std.specs.List.Sorted.{IsPartitionPoint, IsPartitionedBy}
use Rattle.std.proofs.lemmas.List.Sorted.{IsPartitionPoint-from_clause}
use Rattle.ordered.specs.Rows.{items, reached, First}
use Rattle.ordered.proofs.Firsts.{parted, first_read}
use Rattle.ordered.proofs.in_order.InOrder.first.Goals as goal

pub returns : goal.returns
returns g c =
    let o = g.K.Key.order in
    let l = g.K.Key.laws.total in
    let xs = items c.args.self.now in
    let s = c.args.self.now.sorted in
    let k = c.args.key in
    let start = c.args.start in
    let i = c.partition_point-at.result in
    let split = subst (IsPartitionedBy (λ y. not (reached o k start y))) (sym c.deref.ensures.value) (parted o l xs s k start) in
    let point = IsPartitionPoint-from_clause (λ y. not (reached o k start y)) c.deref.result.now i c.partition_point-at.ensures.partitioned split (λ a r f h. search rules) in
    let here = subst (λ ys. IsPartitionPoint (λ y. not (reached o k start y) ≡ true) (λ y. not (reached o k start y) ≡ false) ys i) c.deref.ensures.value point in
    let read = subst (λ ys. MatchOption c.get.result (length ys ≤ i) (λ x. (i < length ys) × HoldsAt (λ y. x.now ≡ y) ys i)) c.deref-2.ensures.value c.get.ensures.lookup.3 in
    subst (First o xs k start) (sym c.copied.ensures) (first_read o l xs s k start i here c.get.result read)
