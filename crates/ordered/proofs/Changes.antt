-- What `put` and `remove` say, once the search has said where the pair stands. Assumes nothing.
use Rattle.std.proofs.Common.{◌≡◌, ℕ, ◌+◌, ◌<◌, ◌≤◌, true, false, List, length, get_or, Ok, Err, Ordering, Less, Equal, Greater, sym, ap, ◌∙◌, subst, ⊎_elim, arith}
use Rattle.std.specs.Ordering.{is_lt, ordering_reverse}
use Rattle.std.specs.List.{insert, remove, HoldsAt}
use Rattle.std.specs.List.Sorted.{IsStrictlySortedBy, IsSortedBy, IsPartitionPoint, IsBinarySearchResult}
use Rattle.std.proofs.lemmas.Bool.{cases_lt}
use Rattle.std.proofs.lemmas.List.Edits.{length-insert, length-remove}
use Rattle.std.proofs.lemmas.List.Sorted.{searchable_from_sorted}
use Rattle.std.proofs.lemmas.Map.Keys.{Less-from_sorted}
use Rattle.keys.specs.Laws.{TotalOrder}
use Rattle.index.specs.declared.Put.TheVariants.{Added}
use Rattle.index.specs.Answers.{PutSays, RemoveSays}
use Rattle.index.specs.Sets.{pair_order, holds}
use Rattle.index.proofs.Pairs.{pair_total, same_pair, turned, lt_tie, gt_tie}
use Rattle.ordered.proofs.Rows.{holds_at, holds_none, holds_put, holds_cut, sorted_between, sorted_cut}

module _ {K : Type 0} (o : K → K → Ordering) (laws : TotalOrder o) (xs : List (K × ℕ)) (q : K × ℕ) (i : ℕ) where
  module _ (h : i < length xs) (f : HoldsAt (λ y. pair_order o y q ≡ Equal) xs i) where
    here : q ≡ get_or xs i q
    here = sym (same_pair o laws (get_or xs i q) q (f q))

    pub found : holds o xs q ≡ true
    found = holds_at o laws xs i q q h here

    pub remove_says : (ys : List (K × ℕ)) → IsStrictlySortedBy (pair_order o) xs → ys ≡ remove xs i → RemoveSays o xs ys q true
    remove_says ys s e = (found, ap (holds o) e ∙ holds_cut o laws i xs q s h here, ap (λ n. n + 1) (ap length e) ∙ length-remove xs i h)

  pub remove_sorted : (ys : List (K × ℕ)) → IsStrictlySortedBy (pair_order o) xs → ys ≡ remove xs i → IsStrictlySortedBy (pair_order o) ys
  remove_sorted ys s e = subst (IsStrictlySortedBy (pair_order o)) (sym e) (sorted_cut o laws i xs s)

  module _ (s : IsStrictlySortedBy (pair_order o) xs) (h : i ≤ length xs) (f : IsBinarySearchResult (λ y. pair_order o y q) xs (Err i)) where
    ascend : IsSortedBy (λ x y. is_lt (pair_order o x y)) xs
    ascend k d l m = ap is_lt (turned o laws (get_or xs (k + 1) d) (get_or xs k d) (Less-from_sorted (pair_order o) xs k (k + 1) d s (omega arith) m))

    parted : IsPartitionPoint (λ y. pair_order o y q ≡ Less) (λ y. pair_order o y q ≡ Greater) xs i
    parted = f (searchable_from_sorted (pair_total o laws) (λ (x : K × ℕ). x) xs q ascend)

    above : (j : ℕ) → i ≤ j → j < length xs → pair_order o q (get_or xs j q) ≡ Less
    above j l m = (pair_total o laws).antisymm q (get_or xs j q) ∙ ap ordering_reverse (parted.1 j q l m)

    pub lacking : holds o xs q ≡ false
    lacking =
        holds_none o laws xs q
        (λ j m.
        ⊎_elim
        (λ l. gt_tie o laws q (get_or xs j q) (parted.0 j q (omega arith) l))
        (λ l. lt_tie o laws q (get_or xs j q) (above j l m))
        (cases_lt j i))

    module _ (ys : List (K × ℕ)) (e : ys ≡ insert xs i q) where
      pub put_says : (n : ℕ) → length xs < n → PutSays o xs ys n q (Ok Added)
      put_says n l = (lacking, l, ap (holds o) e ∙ holds_put o laws i xs q, ap length e ∙ length-insert xs i q h)

      pub put_sorted : IsStrictlySortedBy (pair_order o) ys
      put_sorted = subst (IsStrictlySortedBy (pair_order o)) (sym e) (sorted_between o laws q i xs s (λ j l m. parted.0 j q (omega arith) l) above)
