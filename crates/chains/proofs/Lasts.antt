-- The last position of a chain. Assumes nothing.
use Rattle.std.proofs.Common.{◌≡◌, ℕ, zero, suc, ◌-◌, ◌<◌, ◌≤◌, Bool, true, false, cond, eqb, List, length, get_or, set, sym, refl, ap, ◌∙◌, subst, ⊎_elim, arith}
use Rattle.std.proofs.lemmas.List.{get_or-set_same, get_or-set_other, get_or_past, length-set}
use Rattle.std.proofs.lemmas.Bool.{eqb-true, eqb-false, cases_eq, cases_lt, cases_order}
use Rattle.chains.specs.Chained.{last_of}

module _ (c : ℕ) (cs : List ℕ) where
  pub last_low : (n : ℕ) → last_of c cs n ≤ n
  last_low zero = omega arith
  last_low (suc n) = go (eqb (get_or cs n 256) c) (last_low n)
    where
      go : (b : Bool) → last_of c cs n ≤ n → cond b (suc n) (last_of c cs n) ≤ suc n
      go true h = omega arith
      go false h = omega arith

  pub last_at : (n m : ℕ) → last_of c cs n ≡ suc m → get_or cs m 256 ≡ c
  last_at zero m e = absurd (omega arith)
  last_at (suc n) m e = go (eqb (get_or cs n 256) c) refl (last_at n m) e
    where
      go : (b : Bool) → eqb (get_or cs n 256) c ≡ b → (last_of c cs n ≡ suc m → get_or cs m 256 ≡ c) → cond b (suc n) (last_of c cs n) ≡ suc m → get_or cs m 256 ≡ c
      go true t f e = let z : n ≡ m = omega arith in subst (λ k. get_or cs k 256 ≡ c) z (eqb-true (get_or cs n 256) c t)
      go false t f e = f e

  pub last_past : (n k : ℕ) → last_of c cs n ≤ k → k < n → get_or cs k 256 ≡ c → ⊥
  last_past zero k l h e = omega arith
  last_past (suc n) k l h e = go (eqb (get_or cs n 256) c) refl (λ u v. last_past n k u v e) l
    where
      go : (b : Bool) → eqb (get_or cs n 256) c ≡ b → (last_of c cs n ≤ k → k < n → ⊥) → cond b (suc n) (last_of c cs n) ≤ k → ⊥
      go true t f l = omega arith
      go false t f l =
          ⊎_elim
          (λ (i : k ≡ n). eqb-false (get_or cs n 256) c t (subst (λ j. get_or cs j 256 ≡ c) i e))
          (λ (i : k ≡ n → ⊥). f l (omega arith))
          (cases_eq k n)

  -- what has the position, and nothing past it, is the last
  pub last_is : (n p : ℕ) → p ≤ n → ((m : ℕ) → p ≡ suc m → get_or cs m 256 ≡ c) → ((k : ℕ) → p ≤ k → k < n → get_or cs k 256 ≡ c → ⊥) → p ≡ last_of c cs n
  last_is n p low at past =
      ⊎_elim (λ (e : p ≡ last_of c cs n). e)
      (⊎_elim
      (λ (l : p < last_of c cs n).
      let m : ℕ = last_of c cs n - 1 in
      let is : last_of c cs n ≡ suc m = omega arith in
      let h : p ≤ m = omega arith in
      let u : m < n = omega (arith, last_low n) in
      absurd (past m h u (last_at n m is)))
      (λ (l : last_of c cs n < p).
      let m : ℕ = p - 1 in
      let is : p ≡ suc m = omega arith in
      let h : last_of c cs n ≤ m = omega arith in
      let u : m < n = omega arith in
      absurd (last_past n m h u (at m is))))
      (cases_order p (last_of c cs n))

-- lists that are the same below n
pub last_same : (c : ℕ) (cs ds : List ℕ) (n : ℕ) → ((k : ℕ) → k < n → get_or cs k 256 ≡ get_or ds k 256) → last_of c cs n ≡ last_of c ds n
last_same c cs ds zero h = refl
last_same c cs ds (suc n) h =
    let e = h n (omega arith) in
    let r = last_same c cs ds n (λ k l. h k (omega arith)) in
    λ i. cond (eqb (e i) c) (suc n) (r i)

-- ---- a position taken out of its chain, i of cs

pub gap_none : (cs : List ℕ) (i : ℕ) → get_or (set cs i 256) i 256 ≡ 256
gap_none cs i =
    ⊎_elim
    (λ (l : i < length cs). get_or-set_same cs i 256 256 l)
    (λ (l : length cs ≤ i). get_or_past (set cs i 256) i 256 (let e = length-set cs i 256 in omega arith))
    (cases_lt i (length cs))

pub gap_other : (cs : List ℕ) (i j : ℕ) → (j ≡ i → ⊥) → get_or (set cs i 256) j 256 ≡ get_or cs j 256
gap_other cs i j n = get_or-set_other cs i j 256 256 n

module _ (c : ℕ) (small : c < 256) (cs : List ℕ) (i : ℕ) where
  not_gap : (k : ℕ) → get_or (set cs i 256) k 256 ≡ c → k ≡ i → ⊥
  not_gap k e is =
      let z : c ≡ 256 = sym e ∙ ap (λ j. get_or (set cs i 256) j 256) is ∙ gap_none cs i in
      omega arith

  pub gap_keeps : (m : ℕ) → (last_of c cs m ≡ suc i → ⊥) → last_of c cs m ≡ last_of c (set cs i 256) m
  gap_keeps m ne =
      last_is c (set cs i 256) m (last_of c cs m) (last_low c cs m)
      (λ k e. gap_other cs i k (λ z. ne (e ∙ ap suc z)) ∙ last_at c cs m k e)
      (λ k l u e. last_past c cs m k l u (sym (gap_other cs i k (not_gap k e)) ∙ e))

  pub gap_skips : (m : ℕ) → last_of c cs m ≡ suc i → last_of c cs i ≡ last_of c (set cs i 256) m
  gap_skips m is =
      let low = last_low c cs i in
      let high = last_low c cs m in
      last_is c (set cs i 256) m (last_of c cs i) (omega arith)
      (λ k e. let ne : k ≡ i → ⊥ = λ z. omega arith in gap_other cs i k ne ∙ last_at c cs i k e)
      (λ k l u e.
      let ne = not_gap k e in
      let f = sym (gap_other cs i k ne) ∙ e in
      ⊎_elim
      (λ (v : k < i). last_past c cs i k l v f)
      (λ (v : i ≤ k). let w : last_of c cs m ≤ k = omega arith in last_past c cs m k w u f)
      (cases_lt k i))

-- ---- a position put into its chain, i of ds

module _ (c : ℕ) (small : c < 256) (ds : List ℕ) (i : ℕ) where
  pub fill_keeps : (m : ℕ) → (get_or ds i 256 ≡ c → i < m → ⊥) → last_of c (set ds i 256) m ≡ last_of c ds m
  fill_keeps m n = sym (gap_keeps c small ds i m (λ e. n (last_at c ds m i e) (let l = last_low c ds m in omega arith)))

  pub fill_above : (m : ℕ) → i < last_of c (set ds i 256) m → last_of c (set ds i 256) m ≡ last_of c ds m
  fill_above m l =
      sym (gap_keeps c small ds i m (λ e. let f = gap_skips c small ds i m e in let low = last_low c ds i in omega arith))

  pub fill_here : (m : ℕ) → get_or ds i 256 ≡ c → i < m → last_of c (set ds i 256) m ≤ i → (suc i ≡ last_of c ds m) × (last_of c (set ds i 256) m ≡ last_of c ds i)
  fill_here m at l h =
      ⊎_elim
      (λ (e : last_of c ds m ≡ suc i). (sym e, sym (gap_skips c small ds i m e)))
      (λ (e : last_of c ds m ≡ suc i → ⊥).
      let f = gap_keeps c small ds i m e in
      let low : last_of c ds m ≤ i = omega arith in
      absurd (last_past c ds m i low l at))
      (cases_eq (last_of c ds m) (suc i))
