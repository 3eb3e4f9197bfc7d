-- The first pair that a search reaches, and what the calls say of it. Assumes nothing.
use Rattle.std.proofs.Common.{◌≡◌, ℕ, ◌<◌, ◌≤◌, Bool, true, false, not, List, length, get_or, Some, None, Option, MatchOption, Bor, Ordering, Less, Equal, Greater, sym, refl, ap, ◌∙◌, subst, ⊎_elim, true≢false, arith}
use Rattle.std.specs.Ordering.{is_lt, is_le, ordering_then, MatchOrdering, nat_cmp}
use Rattle.std.specs.Cmp.{ranks}
use Rattle.std.specs.Option.{option_copied, option_map}
use Rattle.std.specs.List.{HoldsAt}
use Rattle.std.specs.List.Sorted.{IsStrictlySortedBy, IsPartitionPoint, IsPartitionedBy}
use Rattle.std.proofs.lemmas.Bool.{cases_lt}
use Rattle.std.proofs.lemmas.List.{get_or_read}
use Rattle.std.proofs.lemmas.Map.Keys.{Less-from_sorted}
use Rattle.keys.specs.Laws.{TotalOrder}
use Rattle.index.specs.Sets.{pair_order, tie, LowestKey, reaches}
use Rattle.index.proofs.Pairs.{pair_total, same_tie, false_unless, Lt, le_lt, lt_tie, lt_parts, lt_key}
use Rattle.ordered.specs.declared.search.Start.{Start}
use Rattle.ordered.specs.declared.search.Start.TheVariants.{At, After}
use Rattle.ordered.specs.Rows.{reached, key_start, First}
use Rattle.ordered.proofs.Rows.{holds_at, holds_none}

is_less : (r : Ordering) → is_lt r ≡ true → r ≡ Less
is_less Less h = refl
is_less Equal h = absurd (true≢false (sym h))
is_less Greater h = absurd (true≢false (sym h))

not_true : (b : Bool) → not b ≡ true → b ≡ false
not_true true e = absurd (true≢false (sym e))
not_true false e = refl

not_false : (b : Bool) → not b ≡ false → b ≡ true
not_false true e = refl
not_false false e = absurd (true≢false e)

module _ {K : Type 0} (o : K → K → Ordering) (laws : TotalOrder o) where
  -- what is above a pair that is reached is reached
  onward : (k : K) (start : Start) (x y : K × ℕ) → Lt o laws x y → reached o k start x ≡ true → reached o k start y ≡ true
  onward k (At p) x y l h = ap is_le (le_lt o laws (k, p) x y h l)
  onward k After x y l h =
      let b = is_less (o k x.0) h in
      ⊎_elim
      (λ (a : o x.0 y.0 ≡ Less). ap is_lt (laws.trans k x.0 y.0 b a))
      (λ (a : (x.0 ≡ y.0) × (x.1 < y.1)). ap (λ w. is_lt (o k w)) (sym a.0) ∙ h)
      (lt_parts o laws x y l)

  module _ (xs : List (K × ℕ)) (s : IsStrictlySortedBy (pair_order o) xs) (k : K) (start : Start) where
    pub parted : IsPartitionedBy (λ y. not (reached o k start y)) xs
    parted i j d l m e =
        ⊎_elim
        (λ (u : i < j).
        ap not (false_unless (reached o k start (get_or xs i d))
        (λ h. true≢false (sym (onward k start (get_or xs i d) (get_or xs j d) (Less-from_sorted (pair_order o) xs i j d s u m) h) ∙ not_true (reached o k start (get_or xs j d)) e))))
        (λ (u : j ≤ i). let is : j ≡ i = omega arith in subst (λ n. not (reached o k start (get_or xs n d)) ≡ true) is e)
        (cases_lt i j)

    module _ (i : ℕ) (b : IsPartitionPoint (λ y. not (reached o k start y) ≡ true) (λ y. not (reached o k start y) ≡ false) xs i) where
      -- a pair that is reached is not among those before i
      front : (y : K × ℕ) (j : ℕ) → reached o k start y ≡ true → j < i → tie o y (get_or xs j y) ≡ false
      front y j h l =
          false_unless (tie o y (get_or xs j y))
          (λ t. true≢false (sym h ∙ ap (reached o k start) (same_tie o laws y (get_or xs j y) t) ∙ not_true (reached o k start (get_or xs j y)) (b.0 j y (omega arith) l)))

      first_none : length xs ≤ i → First o xs k start None
      first_none l y h = holds_none o laws xs y (λ j m. front y j h (omega arith))

      first_some : (x : K × ℕ) → i < length xs → x ≡ get_or xs i x → First o xs k start (Some x)
      first_some x l e = (
        not_false (reached o k start x) (ap (λ w. not (reached o k start w)) e ∙ b.1 i x (omega arith) l),
        holds_at o laws xs i x x l e,
        λ y h f. holds_none o laws xs y (λ j m. ⊎_elim (λ u. front y j h u) (λ u. lt_tie o laws y (get_or xs j y) (behind y f j u m)) (cases_lt j i)),
      )
        where
          here : (d : K × ℕ) → x ≡ get_or xs i d
          here d = get_or_read xs i x l e d

          -- y is below x, and so below what stands at i or after
          behind : (y : K × ℕ) → Lt o laws y x → (j : ℕ) → i ≤ j → j < length xs → Lt o laws y (get_or xs j y)
          behind y f j u m =
              ⊎_elim
              (λ (v : i < j). (pair_total o laws).trans y (get_or xs i y) (get_or xs j y) (ap (pair_order o y) (sym (here y)) ∙ f) (Less-from_sorted (pair_order o) xs i j y s v m))
              (λ (v : j ≤ i). let is : i ≡ j = omega arith in subst (λ n. Lt o laws y (get_or xs n y)) is (ap (pair_order o y) (sym (here y)) ∙ f))
              (cases_lt i j)

      -- as a slice's `get` says it
      pub first_read : (r : Option (Bor (K × ℕ))) → MatchOption r (length xs ≤ i) (λ x. (i < length xs) × HoldsAt (λ y. x.now ≡ y) xs i) → First o xs k start (option_copied r)
      first_read None l = first_none l
      first_read (Some x) f = first_some x.now f.0 (f.1 x.now)

  -- ---- the lowest key

  at_zero : (n : ℕ) → is_le (nat_cmp 0 n) ≡ true
  at_zero n = go (nat_cmp 0 n) (ranks 0 n)
    where
      go : (r : Ordering) → MatchOrdering r (0 < n) (0 ≡ n) (n < 0) → is_le r ≡ true
      go Less h = refl
      go Equal h = refl
      go Greater h = absurd (omega arith)

  reaches_key : (k : K) (strictly : Bool) (x : K × ℕ) → reached o k (key_start strictly) x ≡ reaches strictly (o k x.0)
  reaches_key k true x = refl
  reaches_key k false x = go (o k x.0)
    where
      go : (r : Ordering) → is_le (ordering_then r (nat_cmp 0 x.1)) ≡ is_le r
      go Less = refl
      go Equal = at_zero x.1
      go Greater = refl

  pub key_first : (xs : List (K × ℕ)) (k : K) (strictly : Bool) (r : Option (K × ℕ)) → First o xs k (key_start strictly) r → LowestKey o xs k strictly (option_map (λ x. x.0) r)
  key_first xs k strictly None f = λ y h. f y (reaches_key k strictly y ∙ h)
  key_first xs k strictly (Some x) f = (sym (reaches_key k strictly x) ∙ f.0, (x.1, f.1), λ y h l. f.2 y (reaches_key k strictly y ∙ h) (lt_key o laws y x l))
