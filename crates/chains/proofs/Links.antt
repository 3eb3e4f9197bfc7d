-- What each write leaves of the links and the heads. Assumes nothing.
use Rattle.std.proofs.Common.{◌≡◌, ℕ, suc, ◌+◌, ◌<◌, ◌≤◌, cond, eqb, List, [], ◌∷◌, ◌++◌, length, get_or, take, set, sym, refl, ap, ◌∙◌, subst, ⊎_elim, arith}
use Rattle.std.proofs.lemmas.List.{length-set, length_push, length-take-le, get_or-set_same, get_or-set_other, get_or_past, get_or_push, get_or_append_left, get_or-take}
use Rattle.std.proofs.lemmas.Bool.{eq-eqb, ne_eqb, cases_eq, cases_lt, cases_order, cond-true, cond-false}
use Rattle.chains.specs.Chained.{last_of, Right}
use Rattle.chains.proofs.Lasts.{last_low, last_at, last_past, last_same, gap_none, gap_other, gap_keeps, gap_skips, fill_keeps, fill_above, fill_here}

two_ways : (cs : List ℕ) {c d m n : ℕ} → c ≡ d → m ≡ n → last_of c cs m ≡ last_of d cs n
two_ways cs p q = λ k. last_of (p k) cs (q k)

-- a position in a chain is within the list
pub in_list : (cs : List ℕ) (j : ℕ) → get_or cs j 256 < 256 → j < length cs
in_list cs j h =
    ⊎_elim (λ (l : j < length cs). l)
    (λ (l : length cs ≤ j). let e = get_or_past cs j 256 l in absurd (omega arith))
    (cases_lt j (length cs))

-- the chain of a position in the list with a gap is its chain in the list, and it is not the gap
pub gap_in : (cs : List ℕ) (i j : ℕ) → get_or (set cs i 256) j 256 < 256 → (j ≡ i → ⊥) × (get_or (set cs i 256) j 256 ≡ get_or cs j 256)
gap_in cs i j h =
    let ne : j ≡ i → ⊥ = λ e. let z = ap (λ k. get_or (set cs i 256) k 256) e ∙ gap_none cs i in omega arith in
    (ne, gap_other cs i j ne)

-- ---- a position is unlinked

module _ (cs ls hs : List ℕ) (r : Right cs ls hs) (i c : ℕ) (small : c < 256) (at : get_or cs i 256 ≡ c) where
  own_link : get_or ls i 0 ≡ last_of c cs i
  own_link = r.links i (omega arith) ∙ ap (λ d. last_of d cs i) at

  -- what points at i is of its chain
  points : (d m : ℕ) → last_of d cs m ≡ suc i → d ≡ c
  points d m e = sym (last_at d cs m i e) ∙ at

  -- the head of the chain, and the link of a later position, are not below i
  pub head_over : i < get_or hs c 0
  head_over =
      let e = r.heads c small in
      ⊎_elim (λ (l : i < get_or hs c 0). l)
      (λ (l : get_or hs c 0 ≤ i). absurd (last_past c cs (length cs) i (omega arith) (in_list cs i (omega arith)) at))
      (cases_lt i (get_or hs c 0))

  pub link_over : (a : ℕ) → get_or cs a 256 ≡ c → i < a → i < get_or ls a 0
  link_over a on l =
      let e = r.links a (omega arith) ∙ ap (λ d. last_of d cs a) on in
      ⊎_elim (λ (l : i < get_or ls a 0). l)
      (λ (u : get_or ls a 0 ≤ i). absurd (last_past c cs a i (omega arith) l at))
      (cases_lt i (get_or ls a 0))

  -- the link of j stays, unless it is to i
  link_stays : (j : ℕ) → get_or (set cs i 256) j 256 < 256 → (last_of c cs j ≡ suc i → get_or cs j 256 ≡ c → ⊥) → get_or ls j 0 ≡ last_of (get_or (set cs i 256) j 256) (set cs i 256) j
  link_stays j h n =
      let g = gap_in cs i j h in
      let k : get_or cs j 256 < 256 = subst (λ d. d < 256) g.1 h in
      r.links j k
      ∙ gap_keeps (get_or cs j 256) k cs i j (λ e. let s = points (get_or cs j 256) j e in n (ap (λ d. last_of d cs j) (sym s) ∙ e) s)
      ∙ ap (λ d. last_of d (set cs i 256) j) (sym g.1)

  pub unlink_head : get_or hs c 0 ≡ suc i → Right (set cs i 256) ls (set hs c (get_or ls i 0))
  unlink_head e =
      let first : last_of c cs (length cs) ≡ suc i = sym (r.heads c small) ∙ e in
      let long = length-set cs i 256 in
      record {
        even = r.even ∙ sym long;
        fixed = length-set hs c (get_or ls i 0) ∙ r.fixed;
        links = λ j h.
            link_stays j h
            (λ f s.
            let k = in_list cs j (subst (λ d. d < 256) (gap_in cs i j h).1 h) in
            let low = last_low c cs j in
            let past : last_of c cs (length cs) ≤ j = omega arith in
            last_past c cs (length cs) j past k s);
        heads = λ d h.
            ⊎_elim
            (λ (s : d ≡ c).
            ap (λ k. get_or (set hs c (get_or ls i 0)) k 0) s
            ∙ get_or-set_same hs c (get_or ls i 0) 0 (let f = r.fixed in omega arith)
            ∙ own_link ∙ gap_skips c small cs i (length cs) first
            ∙ sym (two_ways (set cs i 256) s long))
            (λ (s : d ≡ c → ⊥).
            get_or-set_other hs c d (get_or ls i 0) 0 s ∙ r.heads d h
            ∙ gap_keeps d h cs i (length cs) (λ f. s (points d (length cs) f))
            ∙ ap (last_of d (set cs i 256)) (sym long))
            (cases_eq d c);
      }

  pub unlink_link : (a : ℕ) → get_or cs a 256 ≡ c → get_or ls a 0 ≡ suc i → Right (set cs i 256) (set ls a (get_or ls i 0)) hs
  unlink_link a on e =
      let small_a : get_or cs a 256 < 256 = omega arith in
      let first : last_of c cs a ≡ suc i = ap (λ d. last_of d cs a) (sym on) ∙ sym (r.links a small_a) ∙ e in
      let within = in_list cs a small_a in
      let low_a = last_low c cs a in
      let long = length-set cs i 256 in
      record {
        even = length-set ls a (get_or ls i 0) ∙ r.even ∙ sym long;
        fixed = r.fixed;
        links = λ j h.
            let g = gap_in cs i j h in
            ⊎_elim
            (λ (s : j ≡ a).
            ap (λ k. get_or (set ls a (get_or ls i 0)) k 0) s
            ∙ get_or-set_same ls a (get_or ls i 0) 0 (let f = r.even in omega arith)
            ∙ own_link ∙ gap_skips c small cs i a first
            ∙ sym (two_ways (set cs i 256) (g.1 ∙ ap (λ m. get_or cs m 256) s ∙ on) s))
            (λ (s : j ≡ a → ⊥).
            get_or-set_other ls a j (get_or ls i 0) 0 s
            ∙ link_stays j h
            (λ f on_j.
            let low_j = last_low c cs j in
            ⊎_elim (λ (u : j ≡ a). s u)
            (⊎_elim
            (λ (u : j < a). last_past c cs a j (omega arith) u on_j)
            (λ (u : a < j). last_past c cs j a (omega arith) u on))
            (cases_order j a)))
            (cases_eq j a);
        heads = λ d h.
            r.heads d h
            ∙ gap_keeps d h cs i (length cs)
            (λ f.
            let s = points d (length cs) f in
            let g : last_of c cs (length cs) ≡ suc i = ap (λ k. last_of k cs (length cs)) (sym s) ∙ f in
            last_past c cs (length cs) a (omega arith) within on)
            ∙ ap (last_of d (set cs i 256)) (sym long);
      }

-- ---- a position is linked in

module _ (ds ls hs : List ℕ) (i c : ℕ) (r : Right (set ds i 256) ls hs) (small : c < 256) (at : get_or ds i 256 ≡ c) where
  inside : i < length ds
  inside = in_list ds i (omega arith)

  -- another position has its chain in the list with a gap
  same_chain : (j : ℕ) → (j ≡ i → ⊥) → get_or (set ds i 256) j 256 ≡ get_or ds j 256
  same_chain j n = gap_other ds i j n

  -- the link of another position
  old_link : (j : ℕ) → get_or ds j 256 < 256 → (j ≡ i → ⊥) → get_or ls j 0 ≡ last_of (get_or ds j 256) (set ds i 256) j
  old_link j h n =
      r.links j (subst (λ d. d < 256) (sym (same_chain j n)) h) ∙ ap (λ d. last_of d (set ds i 256) j) (same_chain j n)

  old_head : (d : ℕ) → d < 256 → get_or hs d 0 ≡ last_of d (set ds i 256) (length ds)
  old_head d h = r.heads d h ∙ ap (last_of d (set ds i 256)) (length-set ds i 256)

  -- of the chains other than c nothing changes
  other_chain : (d m : ℕ) → d < 256 → (d ≡ c → ⊥) → last_of d (set ds i 256) m ≡ last_of d ds m
  other_chain d m h n = fill_keeps d h ds i m (λ e _. n (sym e ∙ at))

  pub link_head : get_or hs c 0 ≤ i → Right ds (set ls i (get_or hs c 0)) (set hs c (suc i))
  link_head low =
      let head = old_head c small in
      let under : last_of c (set ds i 256) (length ds) ≤ i = omega arith in
      let here = fill_here c small ds i (length ds) at inside under in
      record {
        even = length-set ls i (get_or hs c 0) ∙ r.even ∙ length-set ds i 256;
        fixed = length-set hs c (suc i) ∙ r.fixed;
        links = λ j h.
            ⊎_elim
            (λ (s : j ≡ i).
            ap (λ k. get_or (set ls i (get_or hs c 0)) k 0) s
            ∙ get_or-set_same ls i (get_or hs c 0) 0 (let f = r.even in let g = length-set ds i 256 in let l = inside in omega arith)
            ∙ head ∙ here.1
            ∙ sym (two_ways ds (ap (λ m. get_or ds m 256) s ∙ at) s))
            (λ (s : j ≡ i → ⊥).
            get_or-set_other ls i j (get_or hs c 0) 0 s ∙ old_link j h s
            ∙ fill_keeps (get_or ds j 256) h ds i j
            (λ e l.
            let on : get_or ds j 256 ≡ c = sym e ∙ at in
            last_past c (set ds i 256) (length ds) j (omega arith) (in_list ds j h) (same_chain j s ∙ on)))
            (cases_eq j i);
        heads = λ d h.
            ⊎_elim
            (λ (s : d ≡ c).
            ap (λ k. get_or (set hs c (suc i)) k 0) s
            ∙ get_or-set_same hs c (suc i) 0 (let f = r.fixed in omega arith)
            ∙ here.0 ∙ ap (λ k. last_of k ds (length ds)) (sym s))
            (λ (s : d ≡ c → ⊥). get_or-set_other hs c d (suc i) 0 s ∙ old_head d h ∙ other_chain d (length ds) h s)
            (cases_eq d c);
      }

  module _ (a : ℕ) (on : get_or ds a 256 ≡ c) (after : i < a) (low : get_or ls a 0 ≤ i) where
    small_a : get_or ds a 256 < 256
    small_a = omega arith

    link_of_a : get_or ls a 0 ≡ last_of c (set ds i 256) a
    link_of_a = old_link a small_a (λ e. omega arith) ∙ ap (λ d. last_of d (set ds i 256) a) on

    here : (suc i ≡ last_of c ds a) × (last_of c (set ds i 256) a ≡ last_of c ds i)
    here = fill_here c small ds i a at after (let e = link_of_a in omega arith)

    on_gap : get_or (set ds i 256) a 256 ≡ c
    on_gap = same_chain a (λ e. omega arith) ∙ on

    -- past a the chain is above i
    past_a : (m : ℕ) → a < m → last_of c (set ds i 256) m ≡ last_of c ds m
    past_a m l =
        fill_above c small ds i m
        (⊎_elim (λ (u : i < last_of c (set ds i 256) m). u)
        (λ (u : last_of c (set ds i 256) m ≤ i). absurd (last_past c (set ds i 256) m a (omega arith) l on_gap))
        (cases_lt i (last_of c (set ds i 256) m)))

    -- the chain of j, where j is neither i nor a
    chain_stays : (j : ℕ) → get_or ds j 256 < 256 → (j ≡ i → ⊥) → (j ≡ a → ⊥) → last_of (get_or ds j 256) (set ds i 256) j ≡ last_of (get_or ds j 256) ds j
    chain_stays j h n m =
        ⊎_elim
        (λ (s : get_or ds j 256 ≡ c).
        ⊎_elim
        (λ (l : a < j). subst (λ d. last_of d (set ds i 256) j ≡ last_of d ds j) (sym s) (past_a j l))
        (λ (l : j ≤ a).
        fill_keeps (get_or ds j 256) h ds i j
        (λ _ u. let e = link_of_a in last_past c (set ds i 256) a j (omega arith) (omega arith) (same_chain j n ∙ s)))
        (cases_lt a j))
        (λ (s : get_or ds j 256 ≡ c → ⊥). other_chain (get_or ds j 256) j h s)
        (cases_eq (get_or ds j 256) c)

    pub link_link : Right ds (set (set ls i (get_or ls a 0)) a (suc i)) hs
    link_link =
        let long = length-set ds i 256 in
        let l₁ = length-set ls i (get_or ls a 0) in
        let even : length ls ≡ length ds = r.even ∙ long in
        record {
          even = length-set (set ls i (get_or ls a 0)) a (suc i) ∙ l₁ ∙ even;
          fixed = r.fixed;
          links = λ j h.
              ⊎_elim
              (λ (s : j ≡ a).
              ap (λ k. get_or (set (set ls i (get_or ls a 0)) a (suc i)) k 0) s
              ∙ get_or-set_same (set ls i (get_or ls a 0)) a (suc i) 0 (let w = in_list ds a small_a in omega arith)
              ∙ here.0
              ∙ sym (two_ways ds (ap (λ m. get_or ds m 256) s ∙ on) s))
              (λ (s : j ≡ a → ⊥).
              get_or-set_other (set ls i (get_or ls a 0)) a j (suc i) 0 s
              ∙ ⊎_elim
              (λ (t : j ≡ i).
              ap (λ k. get_or (set ls i (get_or ls a 0)) k 0) t
              ∙ get_or-set_same ls i (get_or ls a 0) 0 (let w = inside in omega arith)
              ∙ link_of_a ∙ here.1
              ∙ sym (two_ways ds (ap (λ m. get_or ds m 256) t ∙ at) t))
              (λ (t : j ≡ i → ⊥). get_or-set_other ls i j (get_or ls a 0) 0 t ∙ old_link j h t ∙ chain_stays j h t s)
              (cases_eq j i))
              (cases_eq j a);
          heads = λ d h.
              old_head d h
              ∙ ⊎_elim
              (λ (s : d ≡ c). subst (λ k. last_of k (set ds i 256) (length ds) ≡ last_of k ds (length ds)) (sym s) (past_a (length ds) (in_list ds a small_a)))
              (λ (s : d ≡ c → ⊥). other_chain d (length ds) h s)
              (cases_eq d c);
        }

-- ---- one position more, and one less

pub push_right : (cs ls hs : List ℕ) (c : ℕ) → Right cs ls hs → c < 256 → Right (cs ++ c ∷ []) (ls ++ get_or hs c 0 ∷ []) (set hs c (suc (length cs)))
push_right cs ls hs c r small =
    let n = length cs in
    let long = length_push cs c in
    let front : (d m : ℕ) → m ≤ n → last_of d cs m ≡ last_of d (cs ++ c ∷ []) m = λ d m l. last_same d cs (cs ++ c ∷ []) m (λ k u. sym (get_or_append_left cs (c ∷ []) 256 k (omega arith))) in
    let end : get_or (cs ++ c ∷ []) n 256 ≡ c = get_or_push cs c 256 n refl in
    let is : length (cs ++ c ∷ []) ≡ suc n = omega arith in
    record {
      even = length_push ls (get_or hs c 0) ∙ ap (λ k. k + 1) r.even ∙ sym long;
      fixed = length-set hs c (suc n) ∙ r.fixed;
      links = λ j h.
          let within = in_list (cs ++ c ∷ []) j h in
          ⊎_elim
          (λ (l : j < n).
          let e = get_or_append_left cs (c ∷ []) 256 j l in
          get_or_append_left ls (get_or hs c 0 ∷ []) 0 j (let f = r.even in omega arith)
          ∙ r.links j (subst (λ d. d < 256) e h)
          ∙ front (get_or cs j 256) j (omega arith)
          ∙ ap (λ d. last_of d (cs ++ c ∷ []) j) (sym e))
          (λ (l : n ≤ j).
          let s : n ≡ j = omega arith in
          let e = ap (λ k. get_or (cs ++ c ∷ []) k 256) (sym s) ∙ end in
          get_or_push ls (get_or hs c 0) 0 j (r.even ∙ s)
          ∙ r.heads c small ∙ front c n (omega arith)
          ∙ sym (two_ways (cs ++ c ∷ []) e (sym s)))
          (cases_lt j n);
      heads = λ d h.
          let top : last_of d (cs ++ c ∷ []) (length (cs ++ c ∷ [])) ≡ cond (eqb c d) (suc n) (last_of d (cs ++ c ∷ []) n) = ap (last_of d (cs ++ c ∷ [])) is ∙ ap (λ e. cond (eqb e d) (suc n) (last_of d (cs ++ c ∷ []) n)) end in
          ⊎_elim
          (λ (s : c ≡ d).
          ap (λ k. get_or (set hs c (suc n)) k 0) (sym s)
          ∙ get_or-set_same hs c (suc n) 0 (let f = r.fixed in omega arith)
          ∙ sym (top ∙ cond-true (eqb c d) (suc n) (last_of d (cs ++ c ∷ []) n) (eq-eqb c d s)))
          (λ (s : c ≡ d → ⊥).
          get_or-set_other hs c d (suc n) 0 (λ z. s (sym z)) ∙ r.heads d h ∙ front d n (omega arith)
          ∙ sym (top ∙ cond-false (eqb c d) (suc n) (last_of d (cs ++ c ∷ []) n) (ne_eqb c d s)))
          (cases_eq c d);
    }

pub pop_right : (cs ls hs : List ℕ) (m c : ℕ) → Right cs ls hs → length cs ≡ suc m → get_or cs m 256 ≡ c → c < 256 → Right (take m cs) (take m ls) (set hs c (get_or ls m 0))
pop_right cs ls hs m c r long at small =
    let shorter = length-take-le m cs (omega arith) in
    let shorter_too = length-take-le m ls (let e = r.even in omega arith) in
    let front : (d k : ℕ) → k ≤ m → last_of d cs k ≡ last_of d (take m cs) k = λ d k l. last_same d cs (take m cs) k (λ j u. sym (get_or-take m cs j 256 (omega arith))) in
    let top : (d : ℕ) → last_of d cs (length cs) ≡ cond (eqb c d) (suc m) (last_of d cs m) = λ d. ap (last_of d cs) long ∙ ap (λ e. cond (eqb e d) (suc m) (last_of d cs m)) at in
    record {
      even = shorter_too ∙ sym shorter;
      fixed = length-set hs c (get_or ls m 0) ∙ r.fixed;
      links = λ j h.
          let within : j < m = let w = in_list (take m cs) j h in omega arith in
          let e = get_or-take m cs j 256 within in
          get_or-take m ls j 0 within ∙ r.links j (subst (λ d. d < 256) e h)
          ∙ front (get_or cs j 256) j (omega arith) ∙ ap (λ d. last_of d (take m cs) j) (sym e);
      heads = λ d h.
          ⊎_elim
          (λ (s : c ≡ d).
          ap (λ k. get_or (set hs c (get_or ls m 0)) k 0) (sym s)
          ∙ get_or-set_same hs c (get_or ls m 0) 0 (let f = r.fixed in omega arith)
          ∙ r.links m (omega arith) ∙ ap (λ k. last_of k cs m) (at ∙ s)
          ∙ front d m (omega arith) ∙ ap (last_of d (take m cs)) (sym shorter))
          (λ (s : c ≡ d → ⊥).
          get_or-set_other hs c d (get_or ls m 0) 0 (λ z. s (sym z)) ∙ r.heads d h
          ∙ top d ∙ cond-false (eqb c d) (suc m) (last_of d cs m) (ne_eqb c d s)
          ∙ front d m (omega arith) ∙ ap (last_of d (take m cs)) (sym shorter))
          (cases_eq c d);
    }

-- the same of equal lists
pub right_by : {cs ds ls ms hs gs : List ℕ} → cs ≡ ds → ls ≡ ms → hs ≡ gs → Right cs ls hs → Right ds ms gs
right_by {cs} {ds} {ls} {ms} {hs} {gs} a b d r =
    subst (λ x. Right x ms gs) a (subst (λ x. Right cs x gs) b (subst (λ x. Right cs ls x) d r))
