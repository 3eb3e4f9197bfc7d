-- What next_place and next_key say of the pairs from (k, from) on. Assumes nothing.
use Rattle.std.proofs.Common.{◌≡◌, ℕ, ◌<◌, ◌≤◌, true, false, List, Some, None, Ordering, Less, Equal, Greater, sym, refl, ap, ◌∙◌, ⊎_elim, true≢false, arith}
use Rattle.std.specs.Ordering.{is_eq, is_lt, is_le, is_gt, ordering_reverse}
use Rattle.std.specs.List.{IsDistinct}
use Rattle.std.proofs.lemmas.Bool.{both_ways, and_parts}
use Rattle.keys.specs.Laws.{TotalOrder}
use Rattle.index.specs.Sets.{pair_order, tie, holds, Lowest, LowestKey}
use Rattle.index.specs.Listed.{from_on, Next}
use Rattle.index.proofs.Pairs.{Lt, Le, false_unless, three, lt_parts, le_parts, lt_key, less_not_same, le_unless}
use Rattle.index.proofs.Listing.{none_from, some_from}

pub is_greater : (r : Ordering) → is_gt r ≡ true → r ≡ Greater
is_greater Less e = absurd (true≢false (sym e))
is_greater Equal e = absurd (true≢false (sym e))
is_greater Greater e = refl

pub is_equal : (r : Ordering) → is_eq r ≡ true → r ≡ Equal
is_equal Less e = absurd (true≢false (sym e))
is_equal Equal e = refl
is_equal Greater e = absurd (true≢false (sym e))

pub not_beyond : (r : Ordering) → is_gt r ≡ false → is_le r ≡ true
not_beyond Less e = refl
not_beyond Equal e = refl
not_beyond Greater e = absurd (true≢false e)

module _ {K : Type 0} (o : K → K → Ordering) (laws : TotalOrder o) where
  above_key : (k l : K) → o k l ≡ Less → is_le (o l k) ≡ true → ⊥
  above_key k l h e = true≢false (sym e ∙ ap is_le (laws.flip l k ∙ ap ordering_reverse h))

  module _ (xs : List (K × ℕ)) (d : IsDistinct (tie o) xs) (k : K) (from : ℕ) (upper : K) where
    -- no pair from (k, from) on has a key up to upper
    nothing : ((y : K × ℕ) → holds o xs y ≡ true → Le o laws (k, from) y → is_le (o y.0 upper) ≡ true → ⊥) → Next o k from upper xs None
    nothing h =
        none_from o laws xs d k from upper
        (λ y m. false_unless (from_on o k from upper y) (λ e. let p = and_parts (is_le (pair_order o (k, from) y)) (is_le (o y.0 upper)) e in h y m p.0 p.1))

    pub past_upper : o k upper ≡ Greater → Next o k from upper xs None
    past_upper g =
        nothing
        (λ y m l u.
        let f : o upper k ≡ Less = laws.flip upper k ∙ ap ordering_reverse g in
        ⊎_elim
        (λ (a : o k y.0 ≡ Less). above_key upper y.0 (laws.trans upper k y.0 f a) u)
        (λ (a : (k ≡ y.0) × (from ≤ y.1)). true≢false (sym u ∙ ap is_le (ap (λ w. o w upper) (sym a.0) ∙ g)))
        (le_parts o laws (k, from) y l))

    pub at_key : (q : ℕ) → is_le (o k upper) ≡ true → Lowest (λ p. holds o xs (k, p)) from (Some q) → Next o k from upper xs (Some (k, q))
    at_key q u n =
        some_from o laws xs d k from upper (k, q) n.1 (le_place n.0) u
        (λ y m l b.
        ⊎_elim
        (λ (a : o k y.0 ≡ Less).
        ⊎_elim (λ (c : o y.0 k ≡ Less). above_key y.0 k c (ap is_le a)) (λ (c : (y.0 ≡ k) × (y.1 < q)). less_not_same o laws k y.0 a (sym c.0)) (lt_parts o laws y (k, q) b))
        (λ (a : (k ≡ y.0) × (from ≤ y.1)).
        ⊎_elim
        (λ (c : o y.0 k ≡ Less). less_not_same o laws y.0 k c (sym a.0))
        (λ (c : (y.0 ≡ k) × (y.1 < q)). let e = c.0 in both_ways (holds o xs y) (ap (holds o xs) (λ i. (e i, y.1)) ∙ n.2 y.1 a.1 c.1) m)
        (lt_parts o laws y (k, q) b))
        (le_parts o laws (k, from) y l))
      where
        le_place : from ≤ q → Le o laws (k, from) (k, q)
        le_place h = le_unless' (λ b. ⊎_elim (λ (a : o k k ≡ Less). less_not_same o laws k k a refl) (λ (a : (k ≡ k) × (q < from)). omega (arith, a.1)) (lt_parts o laws (k, q) (k, from) b))
          where
            le_unless' : (Lt o laws (k, q) (k, from) → ⊥) → Le o laws (k, from) (k, q)
            le_unless' = le_unless o laws (k, from) (k, q)

    -- no place of k is left
    module _ (n : Lowest (λ p. holds o xs (k, p)) from None) where
      further : (y : K × ℕ) → holds o xs y ≡ true → Le o laws (k, from) y → o k y.0 ≡ Less
      further y m l =
          ⊎_elim (λ a. a)
          (λ (a : (k ≡ y.0) × (from ≤ y.1)). let e = sym a.0 in absurd (both_ways (holds o xs y) (ap (holds o xs) (λ i. (e i, y.1)) ∙ n y.1 a.1) m))
          (le_parts o laws (k, from) y l)

      pub at_upper : o k upper ≡ Equal → Next o k from upper xs None
      at_upper e = nothing (λ y m l u. above_key upper y.0 (ap (λ w. o w y.0) (sym (laws.same k upper e)) ∙ further y m l) u)

      pub no_key : LowestKey o xs k true None → Next o k from upper xs None
      no_key f = nothing (λ y m l u. both_ways (holds o xs y) (f y (ap is_lt (further y m l))) m)

      module _ (next : K) (f : LowestKey o xs k true (Some next)) where
        not_below : (y : K × ℕ) → holds o xs y ≡ true → Le o laws (k, from) y → o y.0 next ≡ Less → ⊥
        not_below y m l b = both_ways (holds o xs y) (f.2 y (ap is_lt (further y m l)) b) m

        pub key_past : o next upper ≡ Greater → Next o k from upper xs None
        key_past g =
            nothing
            (λ y m l u.
            let h : o upper next ≡ Less = laws.flip upper next ∙ ap ordering_reverse g in
            ⊎_elim
            (λ a. not_below y m l a)
            (⊎_elim
            (λ a. true≢false (sym u ∙ ap is_le (ap (λ w. o w upper) (laws.same y.0 next a) ∙ g)))
            (λ a. above_key upper y.0 (laws.trans upper next y.0 h (laws.flip next y.0 ∙ ap ordering_reverse a)) u))
            (three (o y.0 next)))

        is_less : (r : Ordering) → is_lt r ≡ true → r ≡ Less
        is_less Less h = refl
        is_less Equal h = absurd (true≢false (sym h))
        is_less Greater h = absurd (true≢false (sym h))

        pub key_next : (q : ℕ) → is_le (o next upper) ≡ true → Lowest (λ p. holds o xs (next, p)) 0 (Some q) → Next o k from upper xs (Some (next, q))
        key_next q u n₁ =
            some_from o laws xs d k from upper (next, q) n₁.1 (ap is_le (lt_key o laws (k, from) (next, q) (is_less (o k next) f.0))) u
            (λ y m l b.
            ⊎_elim (λ (a : o y.0 next ≡ Less). not_below y m l a)
            (λ (a : (y.0 ≡ next) × (y.1 < q)). let e = a.0 in both_ways (holds o xs y) (ap (holds o xs) (λ i. (e i, y.1)) ∙ n₁.2 y.1 (omega arith) a.1) m)
            (lt_parts o laws y (next, q) b))

        pub key_lost : Lowest (λ p. holds o xs (next, p)) 0 None → ⊥
        key_lost n₁ = both_ways (holds o xs (next, f.1.0)) (n₁ f.1.0 (omega arith)) f.1.1
