-- Walks along a chain, by positions. Assumes nothing.
use Rattle.std.proofs.Common.{◌≡◌, ℕ, suc, ◌-◌, ◌<◌, ◌≤◌, List, [], length, get_or, set, Ordering, sym, ap, ◌∙◌, subst, arith}
use Rattle.std.specs.List.{IsDistinct}
use Rattle.std.proofs.lemmas.List.{get_or_read, get_or-map, get_or-set_same, length-map, map-set, set-set}
use Rattle.keys.specs.declared.Key.{Ghosts}
use Rattle.index.specs.Sets.{tie}
use Rattle.chains.specs.declared.arena.Arena.{Arena}
use Rattle.chains.specs.declared.chains.Chains.{Chains}
use Rattle.chains.specs.Chained.{held, nexts, bucket, numbers, last_of, Right, Wired}
use Rattle.chains.proofs.Lasts.{last_low, last_at}

-- a walk along the chain c has come to the link at: 0, or one more than a position of the chain
pub record On (c : ℕ) (cs : List ℕ) (at : ℕ) : Type 0 where
  pub low : at ≤ length cs
  pub chain : 0 < at → get_or cs (at - 1) 256 ≡ c

pub on_last : (c : ℕ) (cs : List ℕ) (n at : ℕ) → n ≤ length cs → at ≡ last_of c cs n → On c cs at
on_last c cs n at l e =
    let low = last_low c cs n in
    record {
      low = omega arith;
      chain = λ h. let s : at ≡ suc (at - 1) = omega arith in last_at c cs n (at - 1) (sym e ∙ s);
    }

module _ {K : Type 0} {g : Ghosts K} (s : Arena K g) (cs : List ℕ) (w : Wired cs s) (c : ℕ) (small : c < 256) where
  pub on_head : On c cs (get_or s.heads c 0)
  on_head = on_last c cs (length cs) (get_or s.heads c 0) (omega arith) (w.heads c small)

  module _ (at : ℕ) (on : On c cs at) (some : 0 < at) where
    pub within : at - 1 < length (nexts s)
    within = omega (arith, on.low, w.even)

    module _ (next : ℕ) (read : next ≡ get_or (nexts s) (at - 1) next) where
      pub next_is : next ≡ last_of c cs (at - 1)
      next_is =
          let e = on.chain some in
          get_or_read (nexts s) (at - 1) next within read 0 ∙ w.links (at - 1) (omega arith) ∙ ap (λ d. last_of d cs (at - 1)) e

      pub on_next : On c cs next
      on_next = on_last c cs (at - 1) next (omega (arith, on.low)) next_is

      pub next_less : next < at
      next_less = let e = next_is in let low = last_low c cs (at - 1) in omega arith

-- what an index says of its arena
pub wired : {K : Type 0} {g : Ghosts K} (s : Chains K g) → Wired (numbers g.hashed (held s.arena)) s.arena
wired {g = g} s =
    let long = length-map (held s.arena) (λ x. bucket g.hashed x.0) in
    record { even = omega (arith, s.arena.linked); fixed = s.arena.fixed; links = s.links; heads = s.heads }

-- no pair, and each chain ends where it begins
pub none_right : {K : Type 0} (h : K → ℕ) (xs : List (K × ℕ)) (ls hs : List ℕ) → xs ≡ [] → ls ≡ [] → length hs ≡ 256 → ((c : ℕ) → c < 256 → get_or hs c 0 ≡ 0) → Right (numbers h xs) ls hs
none_right h xs ls hs e f long z =
    subst (λ ys. Right (numbers h ys) ls hs) (sym e)
    (record {
      even = ap length f;
      fixed = long;
      links = λ j l. absurd (omega arith);
      heads = z;
    })

-- no pair stands twice
pub none_twice : {K : Type 0} (o : K → K → Ordering) (xs : List (K × ℕ)) → xs ≡ [] → IsDistinct (tie o) xs
unfolding IsDistinct
none_twice o xs e = subst (IsDistinct (tie o)) (sym e) tt

pub number_at : {K : Type 0} (h : K → ℕ) (xs : List (K × ℕ)) (j : ℕ) (x : K × ℕ) → j < length xs → x ≡ get_or xs j x → get_or (numbers h xs) j 256 ≡ bucket h x.0
number_at h xs j x l e = get_or-map (λ y. bucket h y.0) xs j x 256 l ∙ ap (λ y. bucket h y.0) (sym e)

-- the chains with a gap, whatever pair stands there
pub gap_any : {K : Type 0} (h : K → ℕ) (xs : List (K × ℕ)) (i : ℕ) (x : K × ℕ) (ls hs : List ℕ) → Right (set (numbers h xs) i 256) ls hs → Right (set (numbers h (set xs i x)) i 256) ls hs
gap_any h xs i x ls hs r =
    let same = ap (λ zs. set zs i 256) (map-set (λ y. bucket h y.0) xs i x) ∙ set-set (numbers h xs) i (bucket h x.0) 256 in
    subst (λ cs. Right cs ls hs) (sym same) r

pub number_set : {K : Type 0} (h : K → ℕ) (xs : List (K × ℕ)) (i : ℕ) (x : K × ℕ) → i < length xs → get_or (numbers h (set xs i x)) i 256 ≡ bucket h x.0
number_set h xs i x l =
    let long = length-map xs (λ y. bucket h y.0) in
    ap (λ zs. get_or zs i 256) (map-set (λ y. bucket h y.0) xs i x)
    ∙ get_or-set_same (numbers h xs) i (bucket h x.0) 256 (omega arith)
