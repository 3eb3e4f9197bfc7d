-- The orders and hash numbers of the two kinds of key, and that they are lawful. Assumes nothing.
use Rattle.std.specs.Prelude.{◌≡◌, ℕ, ◌+◌, ◌*◌, ◌<◌, true, refl}
use Rattle.std.specs.declared.cmp.Ordering.TheVariants.{Less, Equal, Greater}
use Rattle.std.specs.declared.cmp.Ordering.{Ordering}
use Rattle.std.proofs.Common.{sym, ap, true≢false}
use Rattle.std.specs.Ordering.{ordering_then, is_lt, is_gt, is_eq, nat_cmp}
use Rattle.std.specs.Cmp.{IsTotalOrder, nat_cmp_total, ranks, means, one_rank, below_irrefl, below_chain, on_total, then_total}
use Rattle.keys.specs.Laws.{TotalOrder, KeyLaws, equal_by}
use Rattle.keys.specs.declared.BoardPlace.{BoardPlace}
use Rattle.keys.specs.declared.CardNumber.{CardNumber}

-- ---- numbers and orders

rank_itself : (n : ℕ) → nat_cmp n n ≡ Equal
rank_itself n = one_rank (λ (x y : ℕ). x < y) below_irrefl below_chain n n (nat_cmp n n) Equal (ranks n n) refl

rank_same : (m n : ℕ) → nat_cmp m n ≡ Equal → m ≡ n
rank_same m n e = means (λ (x y : ℕ). x < y) below_irrefl below_chain nat_cmp ranks m n Equal e

is_equal : (r : Ordering) → is_eq r ≡ true → r ≡ Equal
is_equal Less e = absurd (true≢false (sym e))
is_equal Equal e = refl
is_equal Greater e = absurd (true≢false (sym e))

-- where only one key compares equal to another, every function of keys is the same of equal keys
one_hash : {K : Type 0} (order : K → K → Ordering) → ((x y : K) → order x y ≡ Equal → x ≡ y) → (hashed : K → ℕ) (x y : K) → equal_by order x y ≡ true → hashed x ≡ hashed y
one_hash order same hashed x y e = ap hashed (same x y (is_equal (order x y) e))

-- ---- a card by its number

abbrev pub card_order : CardNumber → CardNumber → Ordering
card_order x y = nat_cmp x.0 y.0

abbrev pub card_hash : CardNumber → ℕ
card_hash x = x.0

card_same : (x y : CardNumber) → card_order x y ≡ Equal → x ≡ y
card_same x y e = ap (λ n. record { 0 = n }) (rank_same x.0 y.0 e)

pub card_total : TotalOrder card_order
card_total = record {
  itself = λ x. rank_itself x.0;
  same = card_same;
  flip = λ x y. nat_cmp_total.antisymm x.0 y.0;
  trans = λ x y z. nat_cmp_total.trans x.0 y.0 z.0;
}

pub card_laws : KeyLaws card_order (equal_by card_order) card_hash
card_laws = record {
  total = card_total;
  agrees = λ x y. refl;
  hashes = one_hash card_order card_same card_hash;
}

-- ---- a place by its seat, its zone and its slot

abbrev pub place_order : BoardPlace → BoardPlace → Ordering
place_order x y = ordering_then (nat_cmp x.seat y.seat) (ordering_then (nat_cmp x.zone y.zone) (nat_cmp x.slot y.slot))

-- the three bytes as one number
abbrev pub place_hash : BoardPlace → ℕ
place_hash x = x.seat * 65536 + x.zone * 256 + x.slot

then_equal : (a b : Ordering) → ordering_then a b ≡ Equal → (a ≡ Equal) × (b ≡ Equal)
then_equal Less b e = absurd (true≢false (ap is_lt e))
then_equal Equal b e = (refl, e)
then_equal Greater b e = absurd (true≢false (ap is_gt e))

place_itself : (x : BoardPlace) → place_order x x ≡ Equal
place_itself x = rw (rank_itself x.seat, rank_itself x.zone, rank_itself x.slot)

place_same : (x y : BoardPlace) → place_order x y ≡ Equal → x ≡ y
place_same x y e =
    let p = then_equal (nat_cmp x.seat y.seat) (ordering_then (nat_cmp x.zone y.zone) (nat_cmp x.slot y.slot)) e in
    let q = then_equal (nat_cmp x.zone y.zone) (nat_cmp x.slot y.slot) p.1 in
    let s = rank_same x.seat y.seat p.0 in
    let z = rank_same x.zone y.zone q.0 in
    let t = rank_same x.slot y.slot q.1 in
    λ i. record { seat = s i; zone = z i; slot = t i }

in_turn : IsTotalOrder place_order
in_turn =
    then_total (on_total (λ (x : BoardPlace). x.seat) nat_cmp_total)
    (then_total (on_total (λ (x : BoardPlace). x.zone) nat_cmp_total) (on_total (λ (x : BoardPlace). x.slot) nat_cmp_total))

pub place_total : TotalOrder place_order
place_total = record {
  itself = place_itself;
  same = place_same;
  flip = in_turn.antisymm;
  trans = in_turn.trans;
}

pub place_laws : KeyLaws place_order (equal_by place_order) place_hash
place_laws = record {
  total = place_total;
  agrees = λ x y. refl;
  hashes = one_hash place_order place_same place_hash;
}
