-- The history and the machine's state stay together. Assumes nothing.
use Rattle.std.proofs.Common.{◌≡◌, ℕ, ◌<◌, ◌≤◌, Bool, true, false, cond, not, eqb, leb, ◌⊎◌, List, [], ◌∷◌, ◌++◌, sym, refl, ap, ◌∙◌, subst, inl, inr, ⊎_elim, arith}
use Rattle.std.proofs.lemmas.Bool.{false≢true, eqb-true, eqb-false, eq-eqb, ne_eqb, not-true, le-leb, lt-leb}
use Rattle.rules.specs.Runs.{History, Event, life, lived}
use Rattle.rules.specs.Law.{stamp_of, place_name, sorted_names, commits_in}
use Rattle.serial.specs.Lists.{In, All, Each, keep, change}
use Rattle.serial.specs.Machine.{Game, Transaction, committed, pending, resolved}
use Rattle.serial.proofs.Lists.{All_at}
use Rattle.serial.proofs.Orders.{In_kept, In_changed}
use Rattle.rules.proofs.Relation.{forward}

In_snoc : (x y : ℕ) (ns : List ℕ) → In x (ns ++ (y ∷ [])) → In x ns ⊎ (y ≡ x)
In_snoc x y [] (inl e) = inr e
In_snoc x y [] (inr i) = absurd i
In_snoc x y (n ∷ ns) (inl e) = inl (inl e)
In_snoc x y (n ∷ ns) (inr i) = ⊎_elim (λ j. inl (inr j)) (λ e. inr e) (In_snoc x y ns i)

pub In_forward : (x : ℕ) (ns : List ℕ) → In x (forward ns) → In x ns
In_forward x [] i = i
In_forward x (n ∷ ns) i = ⊎_elim (λ j. inr (In_forward x ns j)) (λ e. inl e) (In_snoc x n (forward ns) i)

module _ (G : Game) where
  abbrev pub done : List (Transaction G) → List ℕ
  done l = change (λ t. t.name) (keep (λ t. not (pending t.stage)) l)

  pub In_done : (x : ℕ) (l : List (Transaction G)) → In x (done l) → (t : Transaction G) × (In t l × ((t.name ≡ x) × (pending t.stage ≡ false)))
  In_done x l i =
      let z = In_changed (λ t. t.name) x (keep (λ t. not (pending t.stage)) l) i in
      let y = In_kept (λ t. not (pending t.stage)) z.0 l z.1.0 in
      (z.0, (y.0, (z.1.1, not-true _ y.1)))

  resolved_other : (n : ℕ) (l : List (Transaction G)) → ((t : Transaction G) → In t l → t.name ≡ n → ⊥) → done (change (resolved G n) l) ≡ done l
  resolved_other n [] d = refl
  resolved_other n (t ∷ l) d =
      ap (λ b. change (λ t. t.name) (cond (not (pending (cond b committed t.stage))) (resolved G n t ∷ keep (λ t. not (pending t.stage)) (change (resolved G n) l)) (keep (λ t. not (pending t.stage)) (change (resolved G n) l)))) (ne_eqb t.name n (d t (inl refl)))
      ∙ go (not (pending t.stage)) (resolved_other n l (λ u i. d u (inr i)))
    where
      go : (b : Bool) → done (change (resolved G n) l) ≡ done l →
          change (λ t. t.name) (cond b (resolved G n t ∷ keep (λ t. not (pending t.stage)) (change (resolved G n) l)) (keep (λ t. not (pending t.stage)) (change (resolved G n) l))) ≡ change (λ t. t.name) (cond b (t ∷ keep (λ t. not (pending t.stage)) l) (keep (λ t. not (pending t.stage)) l))
      go true r = ap (λ z. t.name ∷ z) r
      go false r = r

module _ {K V : Type 0} where
  pub life_other : (h : History K V) (n m : ℕ) (d : Event K V) → (n ≡ m → ⊥) → life ((n, d) ∷ h) m ≡ life h m
  life_other h n m d apart = ap (λ b. cond b (lived (life h m) d) (life h m)) (ne_eqb n m apart)

  pub life_same : (h : History K V) (n m : ℕ) (d : Event K V) → n ≡ m → life ((n, d) ∷ h) m ≡ lived (life h m) d
  life_same h n m d e = ap (λ b. cond b (lived (life h m) d) (life h m)) (eq-eqb n m e)

  In_place : (h : History K V) (n x : ℕ) (ns : List ℕ) → In x (n ∷ ns) → In x (place_name h n ns)
  In_place h n x [] i = i
  In_place h n x (m ∷ ms) i = go (leb (stamp_of h n) (stamp_of h m)) i (In_place h n x ms)
    where
      go : (b : Bool) → In x (n ∷ m ∷ ms) → (In x (n ∷ ms) → In x (place_name h n ms)) → In x (cond b (n ∷ m ∷ ms) (m ∷ place_name h n ms))
      go true i r = i
      go false (inl e) r = inr (r (inl e))
      go false (inr (inl e)) r = inl e
      go false (inr (inr j)) r = inr (r (inr j))

  In_sorted : (h : History K V) (x : ℕ) (ns : List ℕ) → In x ns → In x (sorted_names h ns)
  In_sorted h x [] i = i
  In_sorted h x (n ∷ ns) (inl e) = In_place h n x (sorted_names h ns) (inl e)
  In_sorted h x (n ∷ ns) (inr i) = In_place h n x (sorted_names h ns) (inr (In_sorted h x ns i))

  place_agree : (h h' : History K V) (n : ℕ) (ns : List ℕ) → stamp_of h' n ≡ stamp_of h n → ((m : ℕ) → In m ns → stamp_of h' m ≡ stamp_of h m) → place_name h' n ns ≡ place_name h n ns
  place_agree h h' n [] e f = refl
  place_agree h h' n (m ∷ ms) e f =
      ap (λ x. cond (leb x (stamp_of h' m)) (n ∷ m ∷ ms) (m ∷ place_name h' n ms)) e
      ∙ ap (λ x. cond (leb (stamp_of h n) x) (n ∷ m ∷ ms) (m ∷ place_name h' n ms)) (f m (inl refl))
      ∙ ap (λ x. cond (leb (stamp_of h n) (stamp_of h m)) (n ∷ m ∷ ms) (m ∷ x)) (place_agree h h' n ms e (λ x i. f x (inr i)))

  In_placed : (h : History K V) (n x : ℕ) (ns : List ℕ) → In x (place_name h n ns) → In x (n ∷ ns)
  In_placed h n x [] i = i
  In_placed h n x (m ∷ ms) i = go (leb (stamp_of h n) (stamp_of h m)) i (In_placed h n x ms)
    where
      swap : In x (n ∷ ms) → In x (n ∷ m ∷ ms)
      swap (inl e) = inl e
      swap (inr j) = inr (inr j)

      go : (b : Bool) → In x (cond b (n ∷ m ∷ ms) (m ∷ place_name h n ms)) → (In x (place_name h n ms) → In x (n ∷ ms)) → In x (n ∷ m ∷ ms)
      go true i r = i
      go false (inl e) r = inr (inl e)
      go false (inr j) r = swap (r j)

  In_unsorted : (h : History K V) (x : ℕ) (ns : List ℕ) → In x (sorted_names h ns) → In x ns
  In_unsorted h x [] i = i
  In_unsorted h x (n ∷ ns) i = go (In_placed h n x (sorted_names h ns) i) (In_unsorted h x ns)
    where
      go : In x (n ∷ sorted_names h ns) → (In x (sorted_names h ns) → In x ns) → In x (n ∷ ns)
      go (inl e) r = inl e
      go (inr j) r = inr (r j)

  -- the order by end stamp depends on the stamps of those in it
  pub sorted_agree : (h h' : History K V) (ns : List ℕ) → ((m : ℕ) → In m ns → stamp_of h' m ≡ stamp_of h m) → sorted_names h' ns ≡ sorted_names h ns
  sorted_agree h h' [] f = refl
  sorted_agree h h' (n ∷ ns) f =
      ap (place_name h' n) (sorted_agree h h' ns (λ m i. f m (inr i)))
      ∙ place_agree h h' n (sorted_names h ns) (f n (inl refl)) (λ m i. f m (inr (In_unsorted h m ns i)))

  pub committed_sorted : (h : History K V) (x : ℕ) (ns : List ℕ) → sorted_names h (commits_in h) ≡ forward ns → In x (commits_in h) → In x ns
  committed_sorted h x ns e i = In_forward x ns (subst (In x) e (In_sorted h x (commits_in h) i))

  -- placed before one of a higher stamp, and after all of lower ones
  place_before : (h : History K V) (n x : ℕ) (ns : List ℕ) → stamp_of h n ≤ stamp_of h x → place_name h n (ns ++ (x ∷ [])) ≡ place_name h n ns ++ (x ∷ [])
  place_before h n x [] le = ap (λ b. cond b (n ∷ x ∷ []) (x ∷ n ∷ [])) (le-leb (stamp_of h n) (stamp_of h x) le)
  place_before h n x (m ∷ ms) le = go (leb (stamp_of h n) (stamp_of h m)) (place_before h n x ms le)
    where
      go : (b : Bool) → place_name h n (ms ++ (x ∷ [])) ≡ place_name h n ms ++ (x ∷ []) → cond b (n ∷ m ∷ (ms ++ (x ∷ []))) (m ∷ place_name h n (ms ++ (x ∷ []))) ≡ cond b (n ∷ m ∷ ms) (m ∷ place_name h n ms) ++ (x ∷ [])
      go true r = refl
      go false r = ap (λ z. m ∷ z) r

  place_last : (h : History K V) (n : ℕ) (ns : List ℕ) → ((m : ℕ) → In m ns → stamp_of h m < stamp_of h n) → place_name h n ns ≡ ns ++ (n ∷ [])
  place_last h n [] f = refl
  place_last h n (m ∷ ms) f = ap (λ b. cond b (n ∷ m ∷ ms) (m ∷ place_name h n ms)) (lt-leb (stamp_of h n) (stamp_of h m) (f m (inl refl))) ∙ ap (λ z. m ∷ z) (place_last h n ms (λ x i. f x (inr i)))

  module _ (G : Game) where
    -- a commit puts the name into its place
    pub place_commit : (h : History K V) (n : ℕ) (l : List (Transaction G)) (t : Transaction G) → In t l → t.name ≡ n → pending t.stage ≡ true →
        Each (λ x before. All (λ y. y.end < x.end) before) l → Each (λ x before. All (λ y. y.name ≡ x.name → ⊥) before) l → ((x : Transaction G) → In x l → stamp_of h x.name ≡ x.end) →
        place_name h n (forward (done G l)) ≡ forward (done G (change (resolved G n) l))
    place_commit h n [] t i q p rise apart stamps = absurd i
    place_commit h n (x ∷ l) t (inl e) q p rise apart stamps = go (pending x.stage) refl (eqb x.name n) refl
      where
        xn : x.name ≡ n
        xn = ap (λ v. v.name) e ∙ q

        rest : done G (change (resolved G n) l) ≡ done G l
        rest = resolved_other G n l (λ u i z. All_at (λ y. y.name ≡ x.name → ⊥) u l i apart.0 (z ∙ sym xn))

        low : (m : ℕ) → In m (forward (done G l)) → stamp_of h m < stamp_of h n
        low m i =
            let z = In_done G m l (In_forward m (done G l) i) in
            let a : stamp_of h m ≡ z.0.end = ap (stamp_of h) (sym z.1.1.0) ∙ stamps z.0 (inr z.1.0) in
            let b : stamp_of h n ≡ x.end = ap (stamp_of h) (sym xn) ∙ stamps x (inl refl) in
            let c : z.0.end < x.end = All_at (λ y. y.end < x.end) z.0 l z.1.0 rise.0 in omega arith

        go : (b : Bool) → pending x.stage ≡ b → (c : Bool) → eqb x.name n ≡ c →
            place_name h n (forward (change (λ t. t.name) (cond (not b) (x ∷ keep (λ t. not (pending t.stage)) l) (keep (λ t. not (pending t.stage)) l)))) ≡
            forward (change (λ t. t.name) (cond (not (pending (cond c committed x.stage))) (resolved G n x ∷ keep (λ t. not (pending t.stage)) (change (resolved G n) l)) (keep (λ t. not (pending t.stage)) (change (resolved G n) l))))
        go b z false y = absurd (eqb-false x.name n y xn)
        go false z true y = absurd (false≢true (sym z ∙ ap (λ v. pending v.stage) e ∙ p))
        go true z true y = place_last h n (forward (done G l)) low ∙ ap (λ m. forward (done G l) ++ (m ∷ [])) (sym xn) ∙ ap (λ d. forward d ++ (x.name ∷ [])) (sym rest)
    place_commit h n (x ∷ l) t (inr i) q p rise apart stamps = go (pending x.stage) (eqb x.name n) refl (place_commit h n l t i q p rise.1 apart.1 (λ y j. stamps y (inr j)))
      where
        xn : x.name ≡ n → ⊥
        xn e = All_at (λ y. y.name ≡ x.name → ⊥) t l i apart.0 (q ∙ sym e)

        early : stamp_of h n ≤ stamp_of h x.name
        early =
            let a : stamp_of h n ≡ t.end = ap (stamp_of h) (sym q) ∙ stamps t (inr i) in
            let b : stamp_of h x.name ≡ x.end = stamps x (inl refl) in
            let c : t.end < x.end = All_at (λ y. y.end < x.end) t l i rise.0 in omega arith

        go : (b c : Bool) → eqb x.name n ≡ c → place_name h n (forward (done G l)) ≡ forward (done G (change (resolved G n) l)) →
            place_name h n (forward (change (λ t. t.name) (cond (not (pending x.stage)) (x ∷ keep (λ t. not (pending t.stage)) l) (keep (λ t. not (pending t.stage)) l)))) ≡
            forward (change (λ t. t.name) (cond (not (pending (cond c committed x.stage))) (resolved G n x ∷ keep (λ t. not (pending t.stage)) (change (resolved G n) l)) (keep (λ t. not (pending t.stage)) (change (resolved G n) l))))
        go b true y r = absurd (xn (eqb-true x.name n y))
        go b false y r = at (not (pending x.stage))
          where
            at : (a : Bool) →
                place_name h n (forward (change (λ t. t.name) (cond a (x ∷ keep (λ t. not (pending t.stage)) l) (keep (λ t. not (pending t.stage)) l)))) ≡
                forward (change (λ t. t.name) (cond a (resolved G n x ∷ keep (λ t. not (pending t.stage)) (change (resolved G n) l)) (keep (λ t. not (pending t.stage)) (change (resolved G n) l))))
            at true = place_before h n x.name (forward (done G l)) early ∙ ap (λ z. z ++ (x.name ∷ [])) r
            at false = r
