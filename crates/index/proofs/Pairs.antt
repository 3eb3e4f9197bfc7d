-- The order of pairs. Assumes nothing.
use Rattle.std.proofs.Common.{◌≡◌, ℕ, ◌+◌, ◌<◌, ◌≤◌, Bool, true, false, ◌⊎◌, Ordering, Less, Equal, Greater, sym, refl, ap, ◌∙◌, inl, inr, ⊎_elim, true≢false, arith}
use Rattle.std.specs.Ordering.{is_eq, is_lt, is_le, is_gt, ordering_reverse, ordering_then, nat_cmp}
use Rattle.std.specs.Cmp.{IsTotalOrder, nat_cmp_total, nat_cmp_is, ranks, means, below_irrefl, below_chain, tied_itself, on_total, then_total}
use Rattle.keys.specs.Laws.{TotalOrder}
use Rattle.index.specs.Sets.{pair_order, tie}

rank_same : (m n : ℕ) → nat_cmp m n ≡ Equal → m ≡ n
rank_same m n e = means (λ (x y : ℕ). x < y) below_irrefl below_chain nat_cmp ranks m n Equal e

rank_less : (m n : ℕ) → nat_cmp m n ≡ Less → m < n
rank_less m n e = means (λ (x y : ℕ). x < y) below_irrefl below_chain nat_cmp ranks m n Less e

less_rank : (m n : ℕ) → m < n → nat_cmp m n ≡ Less
less_rank m n h = sym (nat_cmp_is m n Less h)

then_equal : (a b : Ordering) → ordering_then a b ≡ Equal → (a ≡ Equal) × (b ≡ Equal)
then_equal Less b e = absurd (true≢false (ap is_lt e))
then_equal Equal b e = (refl, e)
then_equal Greater b e = absurd (true≢false (ap is_gt e))

pub is_equal : (a : Ordering) → is_eq a ≡ true → a ≡ Equal
is_equal Less h = absurd (true≢false (sym h))
is_equal Equal h = refl
is_equal Greater h = absurd (true≢false (sym h))

pub le_cases : (a : Ordering) → is_le a ≡ true → (a ≡ Less) ⊎ (a ≡ Equal)
le_cases Less h = inl refl
le_cases Equal h = inr refl
le_cases Greater h = absurd (true≢false (sym h))

pub three : (a : Ordering) → (a ≡ Less) ⊎ ((a ≡ Equal) ⊎ (a ≡ Greater))
three Less = inl refl
three Equal = inr (inl refl)
three Greater = inr (inr refl)

pub false_unless : (b : Bool) → (b ≡ true → ⊥) → b ≡ false
false_unless true h = absurd (h refl)
false_unless false h = refl

module _ {K : Type 0} (o : K → K → Ordering) (laws : TotalOrder o) where
  key_total : IsTotalOrder o
  key_total = record {
    antisymm = laws.flip;
    trans = laws.trans;
    congr = λ x y z e. ap (λ w. o w z) (laws.same x y e);
  }

  -- the order of pairs is total
  pub pair_total : IsTotalOrder (pair_order o)
  pair_total = then_total (on_total (λ (x : K × ℕ). x.0) key_total) (on_total (λ (x : K × ℕ). x.1) nat_cmp_total)

  -- pairs that tie are one
  pub same_pair : (x y : K × ℕ) → pair_order o x y ≡ Equal → x ≡ y
  same_pair x y e =
      let p = then_equal (o x.0 y.0) (nat_cmp x.1 y.1) e in
      let k = laws.same x.0 y.0 p.0 in
      let n = rank_same x.1 y.1 p.1 in
      λ i. (k i, n i)

  pub same_tie : (x y : K × ℕ) → tie o x y ≡ true → x ≡ y
  same_tie x y t = same_pair x y (is_equal (pair_order o x y) t)

  pub tie_itself : (q : K × ℕ) → tie o q q ≡ true
  tie_itself q = ap is_eq (tied_itself pair_total q)

  abbrev pub Lt : K × ℕ → K × ℕ → Type 0
  Lt x y = pair_order o x y ≡ Less

  abbrev pub Le : K × ℕ → K × ℕ → Type 0
  Le x y = is_le (pair_order o x y) ≡ true

  pub le_lt : (x y z : K × ℕ) → Le x y → Lt y z → Lt x z
  le_lt x y z a b = ⊎_elim (λ h. pair_total.trans x y z h b) (λ h. ap (λ w. pair_order o w z) (same_pair x y h) ∙ b) (le_cases (pair_order o x y) a)

  pub lt_le : (x y z : K × ℕ) → Lt x y → Le y z → Lt x z
  lt_le x y z a b = ⊎_elim (λ h. pair_total.trans x y z a h) (λ h. ap (pair_order o x) (sym (same_pair y z h)) ∙ a) (le_cases (pair_order o y z) b)

  pub turned : (x y : K × ℕ) → Lt y x → pair_order o x y ≡ Greater
  turned x y h = pair_total.antisymm x y ∙ ap ordering_reverse h

  pub not_both : (x y : K × ℕ) → Lt y x → Le x y → ⊥
  not_both x y a b = true≢false (sym b ∙ ap is_le (turned x y a))

  pub le_unless : (x y : K × ℕ) → (Lt y x → ⊥) → Le x y
  le_unless x y h = ⊎_elim (λ e. ap is_le e) (⊎_elim (λ e. ap is_le e) (λ e. absurd (h (pair_total.antisymm y x ∙ ap ordering_reverse e)))) (three (pair_order o x y))

  pub lt_tie : (x y : K × ℕ) → Lt x y → tie o x y ≡ false
  lt_tie x y h = ap is_eq h

  pub gt_tie : (x y : K × ℕ) → Lt y x → tie o x y ≡ false
  gt_tie x y h = ap is_eq (turned x y h)

  -- by key, and then by place
  pub lt_parts : (x y : K × ℕ) → Lt x y → (o x.0 y.0 ≡ Less) ⊎ ((x.0 ≡ y.0) × (x.1 < y.1))
  lt_parts x y h = go (o x.0 y.0) refl h
    where
      go : (r : Ordering) → o x.0 y.0 ≡ r → ordering_then r (nat_cmp x.1 y.1) ≡ Less → (o x.0 y.0 ≡ Less) ⊎ ((x.0 ≡ y.0) × (x.1 < y.1))
      go Less e f = inl e
      go Equal e f = inr (laws.same x.0 y.0 e, rank_less x.1 y.1 f)
      go Greater e f = absurd (true≢false (ap is_gt f))

  pub lt_key : (x y : K × ℕ) → o x.0 y.0 ≡ Less → Lt x y
  lt_key x y e = ap (λ r. ordering_then r (nat_cmp x.1 y.1)) e

  pub lt_place : (k : K) (p q : ℕ) → p < q → Lt (k, p) (k, q)
  lt_place k p q h = ap (λ r. ordering_then r (nat_cmp p q)) (laws.itself k) ∙ less_rank p q h

  pub le_parts : (x y : K × ℕ) → Le x y → (o x.0 y.0 ≡ Less) ⊎ ((x.0 ≡ y.0) × (x.1 ≤ y.1))
  le_parts x y h =
      ⊎_elim
      (λ e. ⊎_elim (λ l. inl l) (λ l. let g : x.1 ≤ y.1 = omega (arith, l.1) in inr (l.0, g)) (lt_parts x y e))
      (λ e. let p = same_pair x y e in let f : x.1 ≡ y.1 = ap (λ (w : K × ℕ). w.1) p in let g : x.1 ≤ y.1 = omega arith in inr (ap (λ (w : K × ℕ). w.0) p, g))
      (le_cases (pair_order o x y) h)

  pub less_not_same : (k l : K) → o k l ≡ Less → k ≡ l → ⊥
  less_not_same k l h e = true≢false (sym (ap is_lt h) ∙ ap is_lt (ap (o k) (sym e) ∙ laws.itself k))

  pub next_above : (k : K) (p : ℕ) (y : K × ℕ) → Le (k, p + 1) y → Lt (k, p) y
  next_above k p y h = lt_le (k, p) (k, p + 1) y (lt_place k p (p + 1) (omega arith)) h

  pub above_next : (x y : K × ℕ) → Lt x y → Le (x.0, x.1 + 1) y
  above_next x y h =
      le_unless (x.0, x.1 + 1) y
      (λ b.
      ⊎_elim
      (λ (l : o y.0 x.0 ≡ Less). not_both x y (lt_key y x l) (ap is_le h))
      (λ (l : (y.0 ≡ x.0) × (y.1 < x.1 + 1)).
      ⊎_elim
      (λ (m : o x.0 y.0 ≡ Less). less_not_same x.0 y.0 m (sym l.0))
      (λ (m : (x.0 ≡ y.0) × (x.1 < y.1)). omega (arith, l.1, m.1))
      (lt_parts x y h))
      (lt_parts y (x.0, x.1 + 1) b))
