-- Some die: their marks lose their times. Assumes nothing.
use Rattle.std.proofs.Common.{◌≡◌, ℕ, ◌-◌, ◌<◌, ◌≤◌, Bool, true, false, cond, not, ◌&&◌, ltb, leb, ◌⊎◌, List, [], ◌∷◌, Some, None, Option, sym, refl, ap, ◌∙◌, subst, inl, inr, ⊎_elim, arith}
use Rattle.std.proofs.lemmas.Bool.{false≢true, true≢false, cases_Bool, cases_eq, cases_lt, both_ways, and_parts, and_from, and_left, and_right, not-true, not_from_false, le-leb, lt-leb, leb-true, lt-ltb}
use Rattle.seeing.specs.declared.Begin.{Begin}
use Rattle.seeing.specs.declared.Begin.TheVariants as begin
use Rattle.seeing.specs.declared.End.{End}
use Rattle.seeing.specs.declared.End.TheVariants as end
use Rattle.seeing.specs.Seeing.{as_end}
use Rattle.serial.specs.Lists.{In, All, Each, keep}
use Rattle.serial.specs.Machine.{Game, Transaction, State, committed, pending, touched, covered, Spared, Reached}
use Rattle.serial.proofs.Lists.{All_at, Each_to, Each_both, In_keep}
use Rattle.serial.proofs.Waits.{leads_alive}
use Rattle.serial.proofs.Fits.{pending_unless}
use Rattle.serial.proofs.Steps.{sound, Seen}
use Rattle.serial.proofs.Orders.{ordered, In_kept, All_unkept, Each_in, touched_covered, Turns}
use Rattle.rules.proofs.Times.{come, stamped, Ver, ending, time, shown, last, latest, upto, Here, BegunBy}
use Rattle.rules.proofs.Relation.{SettledAt, Begins, Ends, Late, At, Shows, Shelf}
use Rattle.rules.proofs.Slots.{some_injective, some_none}
use Rattle.rules.proofs.Lines.{latest_untouched, ending_keep, ending_some}
use Rattle.rules.specs.declared.Entry.{Entry}

module _ {A : Type 0} where
  keep_and : (p q : A → Bool) (l : List A) → keep p (keep q l) ≡ keep (λ x. q x && p x) l
  keep_and p q [] = refl
  keep_and p q (x ∷ l) = go (q x) (keep_and p q l)
    where
      go : (b : Bool) → keep p (keep q l) ≡ keep (λ x. q x && p x) l → keep p (cond b (x ∷ keep q l) (keep q l)) ≡ cond (b && p x) (x ∷ keep (λ x. q x && p x) l) (keep (λ x. q x && p x) l)
      go true r = ap (λ z. cond (p x) (x ∷ z) z) r
      go false r = r

  -- whatever holds of each and those behind it, at one of the list
  pub Each_at : (P : A → List A → Type 0) (x : A) (l : List A) → In x l → Each P l → (before : List A) × P x before
  Each_at P x [] i h = absurd i
  Each_at P x (y ∷ l) (inl e) h = (l, subst (λ z. P z l) e h.0)
  Each_at P x (y ∷ l) (inr i) h = Each_at P x l i h.1

module _ (G : Game) where
  latest_agree : (p q : Transaction G → Bool) (l : List (Transaction G)) (k : G.Key) → ((t : Transaction G) → In t l → touched G t.moves k ≡ true → p t ≡ q t) → latest G (keep p l) k ≡ latest G (keep q l) k
  latest_agree p q [] k h = refl
  latest_agree p q (t ∷ l) k h = go (cases_Bool (touched G t.moves k)) (latest_agree p q l k (λ u i. h u (inr i)))
    where
      drop : (f : Transaction G → Bool) → touched G t.moves k ≡ false → (b : Bool) → latest G (cond b (t ∷ keep f l) (keep f l)) k ≡ latest G (keep f l) k
      drop f e true = latest_untouched G t (keep f l) k e
      drop f e false = refl

      go : (touched G t.moves k ≡ true) ⊎ (touched G t.moves k ≡ false) → latest G (keep p l) k ≡ latest G (keep q l) k → latest G (keep p (t ∷ l)) k ≡ latest G (keep q (t ∷ l)) k
      go (inl e) r = ap (λ b. latest G (cond b (t ∷ keep p l) (keep p l)) k) (h t (inl refl) e) ∙ both (q t)
        where
          both : (b : Bool) → latest G (cond b (t ∷ keep p l) (keep p l)) k ≡ latest G (cond b (t ∷ keep q l) (keep q l)) k
          both true = ap (stamped t.end (last G t.moves k)) r
          both false = r
      go (inr e) r = drop p e (p t) ∙ r ∙ sym (drop q e (q t))

  abbrev Rises : List (Transaction G) → Type 0
  Rises l = Each (λ t before. All (λ u. u.end < t.end) before) l

  -- all of a lower end stamp stand behind
  pub lower_behind : (l : List (Transaction G)) → Rises l → Each (λ t before. (x : Transaction G) → In x l → x.end < t.end → In x before) l
  lower_behind [] r = tt
  lower_behind (t ∷ l) r = (λ x i lt. first x i lt, rest (lower_behind l r.1))
    where
      first : (x : Transaction G) → In x (t ∷ l) → x.end < t.end → In x l
      first x (inl e) lt = absurd (let q : t.end ≡ x.end = ap (λ v. v.end) e in omega arith)
      first x (inr i) lt = i

      rest : Each (λ u before. (x : Transaction G) → In x l → x.end < u.end → In x before) l → Each (λ u before. (x : Transaction G) → In x (t ∷ l) → x.end < u.end → In x before) l
      rest h = Each_to _ _ (λ u before both x. later u before both.0.0 both.1 x) l (Each_both _ _ l (Each_in l l (λ x i. i)) h)
        where
          later : (u : Transaction G) (before : List (Transaction G)) → In u l → ((x : Transaction G) → In x l → x.end < u.end → In x before) → (x : Transaction G) → In x (t ∷ l) → x.end < u.end → In x before
          later u before j f x (inl e) lt = absurd (let q : t.end ≡ x.end = ap (λ v. v.end) e in let z : u.end < t.end = All_at (λ u. u.end < t.end) u l j r.0 in omega arith)
          later u before j f x (inr i) lt = f x i lt

  pub same_end : (l : List (Transaction G)) (x y : Transaction G) → Rises l → In x l → In y l → x.end ≡ y.end → x ≡ y
  same_end [] x y r i j e = absurd i
  same_end (t ∷ l) x y r (inl p) (inl q) e = sym p ∙ q
  same_end (t ∷ l) x y r (inl p) (inr j) e = absurd (let z : y.end < t.end = All_at (λ u. u.end < t.end) y l j r.0 in let w : t.end ≡ x.end = ap (λ v. v.end) p in omega arith)
  same_end (t ∷ l) x y r (inr i) (inl q) e = absurd (let z : x.end < t.end = All_at (λ u. u.end < t.end) x l i r.0 in let w : t.end ≡ y.end = ap (λ v. v.end) q in omega arith)
  same_end (t ∷ l) x y r (inr i) (inr j) e = same_end l x y r.1 i j e

  -- the lowest that passes the test, or none does
  lowest : (f : Transaction G → Bool) (l : List (Transaction G)) → Rises l →
      ((y : Transaction G) → In y l → f y ≡ false) ⊎ ((x : Transaction G) × (In x l × ((f x ≡ true) × ((y : Transaction G) → In y l → f y ≡ true → x.end ≤ y.end))))
  lowest f [] r = inl (λ y i. absurd i)
  lowest f (t ∷ l) r = go (lowest f l r.1) (f t) refl
    where
      go : ((y : Transaction G) → In y l → f y ≡ false) ⊎ ((x : Transaction G) × (In x l × ((f x ≡ true) × ((y : Transaction G) → In y l → f y ≡ true → x.end ≤ y.end)))) → (b : Bool) → f t ≡ b →
          ((y : Transaction G) → In y (t ∷ l) → f y ≡ false) ⊎ ((x : Transaction G) × (In x (t ∷ l) × ((f x ≡ true) × ((y : Transaction G) → In y (t ∷ l) → f y ≡ true → x.end ≤ y.end))))
      go (inl none) true e = inr (t, (inl refl, (e, first)))
        where
          first : (y : Transaction G) → In y (t ∷ l) → f y ≡ true → t.end ≤ y.end
          first y (inl q) p = let z : t.end ≡ y.end = ap (λ v. v.end) q in omega arith
          first y (inr j) p = absurd (true≢false (sym p ∙ none y j))
      go (inl none) false e = inl all
        where
          all : (y : Transaction G) → In y (t ∷ l) → f y ≡ false
          all y (inl q) = ap f (sym q) ∙ e
          all y (inr j) = none y j
      go (inr z) b e = inr (z.0, (inr z.1.0, (z.1.1.0, low)))
        where
          low : (y : Transaction G) → In y (t ∷ l) → f y ≡ true → z.0.end ≤ y.end
          low y (inl q) p = let a : z.0.end < t.end = All_at (λ u. u.end < t.end) z.0 l z.1.0 r.0 in let c : t.end ≡ y.end = ap (λ v. v.end) q in omega arith
          low y (inr j) p = z.1.1.1 y j p

module _ (G : Game) (vs : List (Entry (Ver G))) (there : ℕ → Bool) (s : State G) (way : Reached G s) (h : Shelf G vs there s) (alive : ℕ → Bool)
    (lasts : All (λ t. t.stage ≡ committed → alive t.name ≡ true) s.line) (spared : All (Spared G alive) s.active) (spared' : All (Spared G alive) s.line) where
  abbrev pub left : State G
  left = record { clock = s.clock; active = keep (λ t. alive t.name) s.active; line = keep (λ t. alive t.name) s.line }

  -- one alive leads to none that is dead
  minded : (t x : Transaction G) (k : G.Key) → Here G s t → alive t.name ≡ true → covered G t.moves k ≡ true → In x s.line → x.end < t.name → touched G x.moves k ≡ true → alive x.name ≡ true
  minded t x k here life cov i lt touch = ⊎_elim (λ e. e) (λ dead. absurd (both_ways (alive x.name) dead (saved dead))) (cases_Bool (alive x.name))
    where
      seen : Here G s t → Seen G s.line t
      seen (inl j) = All_at (Seen G s.line) t s.line j (sound G s way).sees'
      seen (inr j) = All_at (Seen G s.line) t s.active j (sound G s way).sees

      spare : Here G s t → Spared G alive t
      spare (inl j) = All_at (Spared G alive) t s.line j spared'
      spare (inr j) = All_at (Spared G alive) t s.active j spared

      saved : alive x.name ≡ false → alive x.name ≡ true
      saved dead =
          let open' : pending x.stage ≡ true = pending_unless x.stage (λ st. both_ways (alive x.name) dead (All_at _ x s.line i lasts st)) in
          let led = All_at _ x s.line i (All_unkept _ (λ x. ltb x.end t.name) s.line (seen here).1) (lt-ltb x.end t.name lt) open' k cov touch in
          (leads_alive G alive s.line spared' t.waits x.name (spare here life) led).0

  -- what an alive one that has changed the key finds before it is alive
  before_alive : (t x : Transaction G) (k : G.Key) → In t s.line → alive t.name ≡ true → touched G t.moves k ≡ true → In x s.line → x.end < t.end → touched G x.moves k ≡ true → alive x.name ≡ true
  before_alive t x k i life touch j lt touch' = ⊎_elim (λ e. e) (λ dead. saved dead) (cases_Bool (alive x.name))
    where
      saved : alive x.name ≡ false → alive x.name ≡ true
      saved dead =
          let open' : pending x.stage ≡ true = pending_unless x.stage (λ st. both_ways (alive x.name) dead (All_at _ x s.line j lasts st)) in
          let r = Each_at _ t s.line i (Each_both _ _ s.line (ordered G s way).turns' (lower_behind G s.line (ordered G s way).rising)) in
          let early : x.end < t.name = All_at _ x r.0 (r.1.1 x j lt) (r.1.0 k touch).early open' touch' in
          minded t x k (inl i) life (touched_covered G t.moves k touch) j early touch'

  active_alive : (t x : Transaction G) (k : G.Key) → In t s.active → alive t.name ≡ true → touched G t.moves k ≡ true → In x s.line → touched G x.moves k ≡ true → alive x.name ≡ true
  active_alive t x k i life touch j touch' = ⊎_elim (λ e. e) (λ dead. saved dead) (cases_Bool (alive x.name))
    where
      saved : alive x.name ≡ false → alive x.name ≡ true
      saved dead =
          let open' : pending x.stage ≡ true = pending_unless x.stage (λ st. both_ways (alive x.name) dead (All_at _ x s.line j lasts st)) in
          let early : x.end < t.name = All_at _ x s.line j (All_at (λ t. Turns G t s.line) t s.active i (ordered G s way).turns k touch).early open' touch' in
          minded t x k (inr i) life (touched_covered G t.moves k touch) j early touch'

  -- what is alive of the key by R is what there is of it by R₀
  abbrev pub Cut : G.Key → ℕ → ℕ → Type 0
  Cut k R R₀ = (y : Transaction G) → In y s.line → touched G y.moves k ≡ true → (alive y.name && leb y.end R) ≡ leb y.end R₀

  no_cut : (k : G.Key) (R : ℕ) → ((y : Transaction G) → In y s.line → touched G y.moves k ≡ true → alive y.name ≡ true) → Cut k R R
  no_cut k R all y i e = ap (λ b. b && leb y.end R) (all y i e)

  time_less : (m : End) (b : ℕ) → time G left.line m ≡ Some b → time G s.line m ≡ Some b
  time_less (end.Stamp c) b e = e
  time_less (end.Owner m) b e = go (alive m) (sym (ending_keep G alive s.line m) ∙ e)
    where
      go : (c : Bool) → cond c (ending G s.line m) None ≡ Some b → ending G s.line m ≡ Some b
      go true q = q
      go false q = absurd (some_none (sym q))
  time_less end.Open b e = e

  -- a mark of a version of the key
  come_owner : (k : G.Key) (R R₀ m : ℕ) → Cut k R R₀ → ((t : Transaction G) → Here G s t → t.name ≡ m → touched G t.moves k ≡ true) → come R (time G left.line (end.Owner m)) ≡ come R₀ (time G s.line (end.Owner m))
  come_owner k R R₀ m cut touch = ap (come R) (ending_keep G alive s.line m) ∙ go (ending G s.line m) refl
    where
      go : (o : Option ℕ) → ending G s.line m ≡ o → come R (cond (alive m) o None) ≡ come R₀ o
      go None e = at (alive m)
        where
          at : (c : Bool) → come R (cond c None None) ≡ false
          at true = refl
          at false = refl
      go (Some b) e =
          let z = ending_some G s.line m b e in
          at (alive m) ∙ sym (ap (λ n. alive n && leb b R) z.1.1.0) ∙ sym (ap (λ n. alive z.0.name && leb n R) z.1.1.1) ∙ cut z.0 z.1.0 (touch z.0 (inl z.1.0) z.1.1.0) ∙ ap (λ n. leb n R₀) z.1.1.1
        where
          at : (c : Bool) → come R (cond c (Some b) None) ≡ (c && leb b R)
          at true = refl
          at false = refl

  come_stamp : (k : G.Key) (R R₀ b : ℕ) → Cut k R R₀ → SettledAt G s b k → leb b R ≡ leb b R₀
  come_stamp k R R₀ b cut z =
      sym (ap (λ n. leb n R) z.1.1.1.0) ∙ sym (ap (λ c. c && leb z.0.end R) (All_at _ z.0 s.line z.1.0 lasts z.1.1.0)) ∙ cut z.0 z.1.0 z.1.1.1.1 ∙ ap (λ n. leb n R₀) z.1.1.1.0

  same_stamps : (v : Ver G) (b R : ℕ) (l : List (Transaction G)) → v.begin ≡ begin.Stamp b → v.end ≡ end.Stamp b → shown G l R v ≡ false
  same_stamps v b R l e f = ap (λ x. come R (time G l (as_end x)) && not (come R (time G l v.end))) e ∙ ap (λ x. leb b R && not (come R (time G l x))) f ∙ never (leb b R)
    where
      never : (c : Bool) → (c && not c) ≡ false
      never true = refl
      never false = refl

  -- the version shows what it showed at R₀
  pub shown_cut : (R R₀ p : ℕ) (v : Ver G) → At G vs p v → Cut v.key R R₀ → shown G left.line R v ≡ shown G s.line R₀ v
  shown_cut R R₀ p v a cut = go v.begin v.end refl refl (h.begins p v a) (h.ends p v a)
    where
      both : (come R (time G left.line (as_end v.begin)) ≡ come R₀ (time G s.line (as_end v.begin))) → (come R (time G left.line v.end) ≡ come R₀ (time G s.line v.end)) → shown G left.line R v ≡ shown G s.line R₀ v
      both e f = ap (λ b. b && not (come R (time G left.line v.end))) e ∙ ap (λ b. come R₀ (time G s.line (as_end v.begin)) && not b) f

      begin_owner : (m : ℕ) → v.begin ≡ begin.Owner m → come R (time G left.line (as_end v.begin)) ≡ come R₀ (time G s.line (as_end v.begin))
      begin_owner m e = ap (λ x. come R (time G left.line (as_end x))) e ∙ come_owner v.key R R₀ m cut (subst (Begins G s there v) e (h.begins p v a)).1 ∙ sym (ap (λ x. come R₀ (time G s.line (as_end x))) e)

      end_owner : (m : ℕ) → v.end ≡ end.Owner m → come R (time G left.line v.end) ≡ come R₀ (time G s.line v.end)
      end_owner m e = ap (λ x. come R (time G left.line x)) e ∙ come_owner v.key R R₀ m cut (λ t i q. ((subst (Ends G s there v) e (h.ends p v a)).1 t i q).0) ∙ sym (ap (λ x. come R₀ (time G s.line x)) e)

      equal : (b : ℕ) → v.begin ≡ begin.Stamp b → v.end ≡ end.Stamp b → shown G left.line R v ≡ shown G s.line R₀ v
      equal b e f = same_stamps v b R left.line e f ∙ sym (same_stamps v b R₀ s.line e f)

      begin_stamp : (b : ℕ) → v.begin ≡ begin.Stamp b → SettledAt G s b v.key → come R (time G left.line (as_end v.begin)) ≡ come R₀ (time G s.line (as_end v.begin))
      begin_stamp b e z = ap (λ x. come R (time G left.line (as_end x))) e ∙ come_stamp v.key R R₀ b cut z ∙ sym (ap (λ x. come R₀ (time G s.line (as_end x))) e)

      end_stamp : (b : ℕ) → v.end ≡ end.Stamp b → SettledAt G s b v.key → come R (time G left.line v.end) ≡ come R₀ (time G s.line v.end)
      end_stamp b e z = ap (λ x. come R (time G left.line x)) e ∙ come_stamp v.key R R₀ b cut z ∙ sym (ap (λ x. come R₀ (time G s.line x)) e)

      end_open : v.end ≡ end.Open → come R (time G left.line v.end) ≡ come R₀ (time G s.line v.end)
      end_open e = ap (λ x. come R (time G left.line x)) e ∙ sym (ap (λ x. come R₀ (time G s.line x)) e)

      go : (x : Begin) (y : End) → v.begin ≡ x → v.end ≡ y → Begins G s there v x → Ends G s there v y → shown G left.line R v ≡ shown G s.line R₀ v
      go (begin.Owner m) (end.Owner n) e f q r = both (begin_owner m e) (end_owner n f)
      go (begin.Owner m) end.Open e f q r = both (begin_owner m e) (end_open f)
      go (begin.Owner m) (end.Stamp c) e f q r =
          ⊎_elim (λ z. absurd (let w : ◌≡◌ {A = Begin} (begin.Owner m) (begin.Stamp c) = sym e ∙ z in let o : ◌≡◌ {A = ℕ} 0 1 = cc in omega arith))
          (λ z. both (begin_owner m e) (end_stamp c f (z.0, (z.1.0, (z.1.1.0, (z.1.1.1.0, z.1.1.1.1.0)))))) r.1
      go (begin.Stamp b) (end.Owner n) e f q r =
          ⊎_elim (λ z. absurd (let w : ◌≡◌ {A = End} (end.Owner n) (end.Stamp b) = sym f ∙ z in let o : ◌≡◌ {A = ℕ} 0 1 = cc in omega arith))
          (λ z. both (begin_stamp b e z) (end_owner n f)) q.1
      go (begin.Stamp b) end.Open e f q r =
          ⊎_elim (λ z. absurd (let w : ◌≡◌ {A = End} end.Open (end.Stamp b) = sym f ∙ z in let o : ◌≡◌ {A = ℕ} 0 1 = cc in omega arith))
          (λ z. both (begin_stamp b e z) (end_open f)) q.1
      go (begin.Stamp b) (end.Stamp c) e f q r =
          ⊎_elim (λ z. equal b e z)
          (λ z. ⊎_elim (λ w. equal c w f) (λ w. both (begin_stamp b e z) (end_stamp c f (w.0, (w.1.0, (w.1.1.0, (w.1.1.1.0, w.1.1.1.1.0)))))) r.1) q.1

  latest_cut : (k : G.Key) (R R₀ : ℕ) → Cut k R R₀ → latest G (upto G R left.line) k ≡ latest G (upto G R₀ s.line) k
  latest_cut k R R₀ cut = ap (λ l. latest G l k) (keep_and (λ t. leb t.end R) (λ t. alive t.name) s.line) ∙ latest_agree G _ _ s.line k cut

  -- of a key that an alive one covers nobody died that had ended before it began
  pub cut_begin : (t : Transaction G) → Here G s t → alive t.name ≡ true → (k : G.Key) → covered G t.moves k ≡ true → Cut k t.name t.name
  cut_begin t here life k cov y i touch = go (leb y.end t.name) refl
    where
      apart : Here G s t → y.end ≡ t.name → ⊥
      apart (inl j) = All_at (λ x. x.end ≡ t.name → ⊥) y s.line i (All_at _ t s.line j (ordered G s way).once')
      apart (inr j) = All_at (λ x. x.end ≡ t.name → ⊥) y s.line i (All_at _ t s.active j (ordered G s way).once)

      go : (b : Bool) → leb y.end t.name ≡ b → (alive y.name && b) ≡ b
      go true e = and_from _ _ (minded t y k here life cov i (let a = leb-true y.end t.name e in let d = apart here in omega arith) touch) refl
      go false e = and_right _ _ refl

  module _ (seated : (x : Transaction G) → In x s.line → pending x.stage ≡ true → there x.name ≡ true) where
    cut_at : (k : G.Key) (R : ℕ) → Late G s there R → (R₀ : ℕ) × (Cut k R R₀ × Late G s there R₀)
    cut_at k R late = go (lowest G (λ y. not (alive y.name) && touched G y.moves k) s.line (ordered G s way).rising)
      where
        go : ((y : Transaction G) → In y s.line → (not (alive y.name) && touched G y.moves k) ≡ false) ⊎
            ((x : Transaction G) × (In x s.line × (((not (alive x.name) && touched G x.moves k) ≡ true) × ((y : Transaction G) → In y s.line → (not (alive y.name) && touched G y.moves k) ≡ true → x.end ≤ y.end)))) →
            (R₀ : ℕ) × (Cut k R R₀ × Late G s there R₀)
        go (inl none) = (R, (no_cut k R all, late))
          where
            all : (y : Transaction G) → In y s.line → touched G y.moves k ≡ true → alive y.name ≡ true
            all y i e = ⊎_elim (λ q. q) (λ q. absurd (true≢false (sym (and_from _ _ (not_from_false _ q) e) ∙ none y i))) (cases_Bool (alive y.name))
        go (inr z) = ⊎_elim (λ lt. (R, (early lt, late))) (λ ge. (x.end - 1, (late_cut ge, inl (x.name, (seated x z.1.0 open', omega (arith, longer)))))) (cases_lt R x.end)
          where
            x : Transaction G
            x = z.0

            dead : alive z.0.name ≡ false
            dead = not-true (alive z.0.name) (and_parts (not (alive z.0.name)) (touched G z.0.moves k) z.1.1.0).0

            touch : touched G z.0.moves k ≡ true
            touch = (and_parts (not (alive z.0.name)) (touched G z.0.moves k) z.1.1.0).1

            open' : pending z.0.stage ≡ true
            open' = pending_unless z.0.stage (λ st. both_ways (alive z.0.name) dead (All_at _ z.0 s.line z.1.0 lasts st))

            longer : z.0.name < z.0.end
            longer = All_at (λ t. t.name < t.end) z.0 s.line z.1.0 (ordered G s way).longer

            low : (y : Transaction G) → In y s.line → touched G y.moves k ≡ true → y.end < z.0.end → alive y.name ≡ true
            low y i e lt = ⊎_elim (λ q. q) (λ q. absurd (let le = z.1.1.1 y i (and_from _ _ (not_from_false _ q) e) in omega arith)) (cases_Bool (alive y.name))

            high : (y : Transaction G) → In y s.line → touched G y.moves k ≡ true → z.0.end ≤ y.end → alive y.name ≡ false
            high y i e le = ⊎_elim (λ q. absurd (both_ways (alive z.0.name) dead (saved q))) (λ q. q) (cases_Bool (alive y.name))
              where
                saved : alive y.name ≡ true → alive z.0.name ≡ true
                saved q = ⊎_elim (λ d. ap (λ t. alive t.name) (same_end G s.line z.0 y (ordered G s way).rising z.1.0 i d) ∙ q) (λ d. before_alive y z.0 k i q e z.1.0 (omega arith) touch) (cases_eq z.0.end y.end)

            early : R < z.0.end → Cut k R R
            early lt y i e = ⊎_elim (λ le. ap (λ b. b && leb y.end R) (low y i e (omega arith))) (λ gt. and_right _ _ (lt-leb y.end R gt) ∙ sym (lt-leb y.end R gt)) (order y.end R)
              where
                order : (a b : ℕ) → (a ≤ b) ⊎ (b < a)
                order a b = ⊎_elim (λ q. inr q) (λ q. inl q) (cases_lt b a)

            late_cut : z.0.end ≤ R → Cut k R (z.0.end - 1)
            late_cut ge y i e = ⊎_elim
                (λ lt. and_from _ _ (low y i e lt) (le-leb y.end R (omega arith)) ∙ sym (le-leb y.end (z.0.end - 1) (omega (arith, longer))))
                (λ le. and_left _ _ (high y i e le) ∙ sym (lt-leb y.end (z.0.end - 1) (omega (arith, longer)))) (cases_lt y.end z.0.end)

    come_some : (R : ℕ) (o : Option ℕ) → come R o ≡ true → (b : ℕ) × (o ≡ Some b)
    come_some R None e = absurd (false≢true e)
    come_some R (Some b) e = (b, refl)

    shows_kill : (R : ℕ) → Late G s there R → Shows G vs left.line R
    shows_kill R late = record {
      sound = λ p v a e.
          let c = cut_at v.key R late in
          let r = (h.shows c.0 c.1.1).sound p v a (sym (shown_cut R c.0 p v a c.1.0) ∙ e) in
          let b = come_some R _ (and_parts _ _ e).0 in
          let same : b.0 ≡ r.0 = some_injective (sym (time_less (as_end v.begin) b.0 b.1) ∙ r.1.0) in
          (r.0, (b.1 ∙ ap Some same, latest_cut v.key R c.0 c.1.0 ∙ r.1.1));
      unique = λ p q v u a b k e f.
          let c = cut_at v.key R late in
          (h.shows c.0 c.1.1).unique p q v u a b k (sym (shown_cut R c.0 p v a c.1.0) ∙ e) (sym (shown_cut R c.0 q u b (subst (λ x. Cut x R c.0) k c.1.0)) ∙ f);
      complete = λ k b x e.
          let c = cut_at k R late in
          let r = (h.shows c.0 c.1.1).complete k b x (sym (latest_cut k R c.0 c.1.0) ∙ e) in
          (r.0, (r.1.0, (r.1.1.0, (r.1.1.1.0, shown_cut R c.0 r.0 r.1.0 r.1.1.0 (subst (λ x. Cut x R c.0) (sym r.1.1.1.0) c.1.0) ∙ r.1.1.1.1))));
    }

    lives : Transaction G → Bool
    lives t = alive t.name

    was_here : (t : Transaction G) → Here G left t → Here G s t × (alive t.name ≡ true)
    was_here t (inl i) = let k = In_kept (λ t. alive t.name) t s.line i in (inl k.0, k.1)
    was_here t (inr i) = let k = In_kept (λ t. alive t.name) t s.active i in (inr k.0, k.1)

    settled_kill : (b : ℕ) (k : G.Key) → SettledAt G s b k → SettledAt G left b k
    settled_kill b k z = (z.0, (In_keep (λ t. alive t.name) z.0 s.line (All_at _ z.0 s.line z.1.0 lasts z.1.1.0) z.1.0, z.1.1))

    begins_kill : (v : Ver G) (x : Begin) → Begins G s there v x → Begins G left there v x
    begins_kill v (begin.Owner m) q = (q.0, λ t i e. q.1 t (was_here t i).0 e)
    begins_kill v (begin.Stamp b) q = (q.0, ⊎_elim (λ e. inl e) (λ z. inr (settled_kill b v.key z)) q.1)

    -- what one alive has ended had begun by one alive
    begun_kill : (p : ℕ) (v : Ver G) (t : Transaction G) → At G vs p v → Here G s t → alive t.name ≡ true → touched G t.moves v.key ≡ true → BegunBy G s.line t.name v → BegunBy G left.line t.name v
    begun_kill p v t a here life touch z = go v.begin refl z.1.0
      where
        apart : Here G s t → (x : Transaction G) → In x s.line → x.end ≡ t.name → ⊥
        apart (inl i) x j = All_at (λ x. x.end ≡ t.name → ⊥) x s.line j (All_at _ t s.line i (ordered G s way).once')
        apart (inr i) x j = All_at (λ x. x.end ≡ t.name → ⊥) x s.line j (All_at _ t s.active i (ordered G s way).once)

        go : (x : Begin) → v.begin ≡ x → time G s.line (as_end x) ≡ Some z.0 → BegunBy G left.line t.name v
        go (begin.Stamp b) e q = (z.0, (ap (λ x. time G left.line (as_end x)) e ∙ q, z.1.1))
        go (begin.Owner m) e q =
            let y = ending_some G s.line m z.0 q in
            let le : y.0.end ≤ t.name = subst (λ b. b ≤ t.name) (sym y.1.1.1) z.1.1 in
            let d : y.0.end ≡ t.name → ⊥ = apart here y.0 y.1.0 in
            let saved : alive y.0.name ≡ true = minded t y.0 v.key here life (touched_covered G t.moves v.key touch) y.1.0 (omega arith)
            ((subst (Begins G s there v) e (h.begins p v a)).1 y.0 (inl y.1.0) y.1.1.0) in
            (z.0, (ap (λ x. time G left.line (as_end x)) e ∙ ending_keep G alive s.line m ∙ ap (λ c. cond c (ending G s.line m) None) (sym (ap alive y.1.1.0) ∙ saved) ∙ q, z.1.1))

    ends_kill : (p : ℕ) (v : Ver G) (x : End) → At G vs p v → Ends G s there v x → Ends G left there v x
    ends_kill p v (end.Owner m) a q = (
      q.0,
      λ t i e.
          let w = was_here t i in let r = q.1 t w.0 e in
          (r.0, ⊎_elim (λ e. inl e) (λ z. inr (subst (λ n. BegunBy G left.line n v) e (begun_kill p v t a w.0 w.1 r.0 (subst (λ n. BegunBy G s.line n v) (sym e) z)))) r.1),
    )
    ends_kill p v (end.Stamp b) a q = (q.0, ⊎_elim (λ e. inl e) (λ z. inr (on z)) q.1)
      where
        on : (t : Transaction G) × (In t s.line × ((t.stage ≡ committed) × ((t.end ≡ b) × ((touched G t.moves v.key ≡ true) × BegunBy G s.line t.name v)))) →
            (t : Transaction G) × (In t left.line × ((t.stage ≡ committed) × ((t.end ≡ b) × ((touched G t.moves v.key ≡ true) × BegunBy G left.line t.name v))))
        on z =
            let life : alive z.0.name ≡ true = All_at _ z.0 s.line z.1.0 lasts z.1.1.0 in
            (z.0, (In_keep (λ t. alive t.name) z.0 s.line life z.1.0, (z.1.1.0, (z.1.1.1.0, (z.1.1.1.1.0, begun_kill p v z.0 a (inl z.1.0) life z.1.1.1.1.0 z.1.1.1.1.1)))))
    ends_kill p v end.Open a q = tt

    pub shelf_kill : Shelf G vs there left
    shelf_kill = record {
      begins = λ p v a. begins_kill v v.begin (h.begins p v a);
      ends = λ p v a. ends_kill p v v.end a (h.ends p v a);
      shows = λ R late. shows_kill R late;
      ended = λ t i R p v le a touch e.
          let k = In_kept (λ t. alive t.name) t s.active i in
          h.ended t k.0 R p v le a touch (sym (shown_cut R R p v a (no_cut v.key R (λ y j q. active_alive t y v.key k.0 k.1 touch j q))) ∙ e);
      own = λ t i. h.own t (In_kept (λ t. alive t.name) t s.active i).0;
      marked = λ t i. h.marked t (In_kept (λ t. alive t.name) t s.active i).0;
      marked' = λ t i p. h.marked' t (In_kept (λ t. alive t.name) t s.line i).0 p;
    }
