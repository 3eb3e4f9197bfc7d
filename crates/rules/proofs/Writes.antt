-- One at work changes a key: versions are added, ended or given a value under its name. Assumes nothing.
use Rattle.std.proofs.Common.{◌≡◌, ℕ, ◌≤◌, Bool, true, false, cond, not, ◌&&◌, eqb, ◌⊎◌, List, ◌∷◌, ◌++◌, Some, None, Option, sym, refl, ap, ◌∙◌, subst, inl, inr, ⊎_elim}
use Rattle.std.proofs.lemmas.Bool.{false≢true, true≢false, cases_eq, eq-eqb, ne_eqb, and_parts, or_left, or_right, or_cases}
use Rattle.seeing.specs.declared.Begin.{Begin}
use Rattle.seeing.specs.declared.Begin.TheVariants as since
use Rattle.seeing.specs.declared.End.{End}
use Rattle.seeing.specs.declared.End.TheVariants as till
use Rattle.seeing.specs.Seeing.{as_end}
use Rattle.serial.specs.Lists.{In, change}
use Rattle.serial.specs.Machine.{Game, Transaction, State, touched, given, moved, Reached}
use Rattle.serial.proofs.Lists.{All_at}
use Rattle.serial.proofs.Names.{Apart, distinct}
use Rattle.serial.proofs.Kill.{unique}
use Rattle.serial.proofs.Orders.{In_changed}
use Rattle.rules.proofs.Times.{come, Ver, ending, time, shown, last, latest, upto, Here, Names, BegunBy}
use Rattle.rules.proofs.Relation.{SettledAt, Begins, Ends, At, Shows, Own, Ended, Marked, Shelf}
use Rattle.rules.proofs.Slots.{some_none}
use Rattle.rules.specs.declared.Entry.{Entry}
use Rattle.rules.proofs.Lines.{ending_none}

pub begin_owner : (a b : ℕ) → since.Owner a ≡ since.Owner b → a ≡ b
begin_owner a b e = cc

pub end_owner : (a b : ℕ) → till.Owner a ≡ till.Owner b → a ≡ b
end_owner a b e = cc

module _ (G : Game) where
  -- v' stands where v stood: n may have ended it, or given its own a value
  pub record Changed (s : State G) (n : ℕ) (k : G.Key) (v v' : Ver G) : Type 0 where
    pub key : v'.key ≡ v.key
    pub begin : v'.begin ≡ v.begin
    pub end : (v'.end ≡ v.end) ⊎ ((v'.end ≡ till.Owner n) × ((v.key ≡ k) × ((time G s.line v.end ≡ None) × (((u : Transaction G) → Here G s u → v.end ≡ till.Owner u.name → ⊥) × ((v.begin ≡ since.Owner n) ⊎ BegunBy G s.line n v)))))
    pub value : (v'.value ≡ v.value) ⊎ ((v.begin ≡ since.Owner n) × (v.key ≡ k))

  pub record Fresh (n : ℕ) (k : G.Key) (v' : Ver G) : Type 0 where
    pub key : v'.key ≡ k
    pub begin : v'.begin ≡ since.Owner n
    pub end : v'.end ≡ till.Open

  -- the table vs' after a change of the key by n
  pub record Image (s : State G) (n : ℕ) (k : G.Key) (vs vs' : List (Entry (Ver G))) : Type 0 where
    pub back : (p : ℕ) (v' : Ver G) → At G vs' p v' → Fresh n k v' ⊎ ((v : Ver G) × (At G vs p v × Changed s n k v v'))
    pub on : (p : ℕ) (v : Ver G) → At G vs p v → (v' : Ver G) × (At G vs' p v' × Changed s n k v v')

  pub changed_self : (s : State G) (n : ℕ) (k : G.Key) (v : Ver G) → Changed s n k v v
  changed_self s n k v = record { key = refl; begin = refl; end = inl refl; value = inl refl }

  module _ (vs vs' : List (Entry (Ver G))) (there : ℕ → Bool) (s : State G) (way : Reached G s) (h : Shelf G vs there s)
      (n : ℕ) (k : G.Key) (m : G.Move) (W : List ℕ) (o : Option G.Value) (hit : G.effect m k ≡ Some o)
      (t : Transaction G) (i : In t s.active) (named : t.name ≡ n) (image : Image s n k vs vs') where
    abbrev pub wrote : State G
    wrote = record { clock = s.clock; active = change (moved G n m W) s.active; line = s.line }

    -- one at work has no end stamp
    no_time : (u : Transaction G) → In u s.active → ending G s.line u.name ≡ None
    no_time u j = ending_none G s.line u.name (λ x l e. All_at (λ v. v.name ≡ u.name → ⊥) x s.line l (All_at (λ a. Apart G a s.line) u s.active j (distinct G s way).across) e)

    n_time : ending G s.line n ≡ None
    n_time = subst (λ x. ending G s.line x ≡ None) named (no_time t i)

    pub own_hidden : (R : ℕ) (v : Ver G) → v.begin ≡ since.Owner n → shown G s.line R v ≡ true → ⊥
    own_hidden R v e q = false≢true (sym (ap (come R) (ap (λ x. time G s.line (as_end x)) e ∙ n_time)) ∙ (and_parts _ _ q).0)

    pub shown_changed : (R : ℕ) (v v' : Ver G) → Changed s n k v v' → shown G s.line R v' ≡ shown G s.line R v
    shown_changed R v v' c = ap (λ x. come R (time G s.line (as_end x)) && not (come R (time G s.line v'.end))) c.begin ∙ ap (λ x. come R (time G s.line (as_end v.begin)) && not (come R x)) (same c.end)
      where
        same : (v'.end ≡ v.end) ⊎ ((v'.end ≡ till.Owner n) × ((v.key ≡ k) × ((time G s.line v.end ≡ None) × (((u : Transaction G) → Here G s u → v.end ≡ till.Owner u.name → ⊥) × ((v.begin ≡ since.Owner n) ⊎ BegunBy G s.line n v))))) →
            time G s.line v'.end ≡ time G s.line v.end
        same (inl e) = ap (time G s.line) e
        same (inr z) = ap (time G s.line) z.0 ∙ n_time ∙ sym z.1.1.0

    -- whoever is here was here, and has changed what it had
    was : (u' : Transaction G) → Here G wrote u' → (u : Transaction G) × (Here G s u × ((u.name ≡ u'.name) × ((j : G.Key) → touched G u.moves j ≡ true → touched G u'.moves j ≡ true)))
    was u' (inl j) = (u', (inl j, (refl, λ j e. e)))
    was u' (inr j) = let r = In_changed (moved G n m W) u' s.active j in
        (r.0, (inr r.1.0, (ap (λ v. v.name) r.1.1, λ x e. subst (λ v. touched G v.moves x ≡ true) r.1.1 (more r.0 x e))))
      where
        more : (u : Transaction G) (x : G.Key) → touched G u.moves x ≡ true → touched G (moved G n m W u).moves x ≡ true
        more u x e = go (eqb u.name n)
          where
            go : (b : Bool) → touched G (cond b (m ∷ u.moves) u.moves) x ≡ true
            go true = or_right (given (G.effect m x)) (touched G u.moves x) e
            go false = e

    mover_touched : (u' : Transaction G) → Here G wrote u' → u'.name ≡ n → touched G u'.moves k ≡ true
    mover_touched u' (inl j) e = absurd (All_at (λ v. v.name ≡ t.name → ⊥) u' s.line j (All_at (λ a. Apart G a s.line) t s.active i (distinct G s way).across) (e ∙ sym named))
    mover_touched u' (inr j) e =
        let r = In_changed (moved G n m W) u' s.active j in
        subst (λ v. touched G v.moves k ≡ true) r.1.1 (ap (λ b. touched G (cond b (m ∷ r.0.moves) r.0.moves) k) (eq-eqb r.0.name n (ap (λ v. v.name) r.1.1 ∙ e)) ∙ or_left _ _ (ap given hit))

    begins_write : (v v' : Ver G) → Changed s n k v v' → (x : Begin) → Begins G s there v x → v.begin ≡ x → Begins G wrote there v' x
    begins_write v v' c (since.Owner q) b e = (b.0, λ u' j z. let w = was u' j in ap (touched G u'.moves) c.key ∙ w.1.1.1 v.key (b.1 w.0 w.1.0 (w.1.1.0 ∙ z)))
    begins_write v v' c (since.Stamp q) b e = (b.0, ⊎_elim (λ z. inl (same z c.end)) (λ z. inr (subst (SettledAt G s q) (sym c.key) z)) b.1)
      where
        same : v.end ≡ till.Stamp q → (v'.end ≡ v.end) ⊎ ((v'.end ≡ till.Owner n) × ((v.key ≡ k) × ((time G s.line v.end ≡ None) × (((u : Transaction G) → Here G s u → v.end ≡ till.Owner u.name → ⊥) × ((v.begin ≡ since.Owner n) ⊎ BegunBy G s.line n v))))) → v'.end ≡ till.Stamp q
        same z (inl y) = y ∙ z
        same z (inr y) = absurd (some_none (sym (ap (time G s.line) z) ∙ y.1.1.0))

    begun_write : (x : ℕ) (v v' : Ver G) → Changed s n k v v' → BegunBy G s.line x v → BegunBy G s.line x v'
    begun_write x v v' c z = (z.0, (ap (λ y. time G s.line (as_end y)) c.begin ∙ z.1.0, z.1.1))

    ends_write : (v v' : Ver G) → Changed s n k v v' → (x : End) → Ends G s there v x → Ends G wrote there v' x
    ends_write v v' c (till.Owner q) b = (
      b.0,
      λ u' j z. let w = was u' j in let r = b.1 w.0 w.1.0 (w.1.1.0 ∙ z) in
          (ap (touched G u'.moves) c.key ∙ w.1.1.1 v.key r.0, ⊎_elim (λ y. inl (c.begin ∙ y)) (λ y. inr (begun_write q v v' c y)) r.1),
    )
    ends_write v v' c (till.Stamp q) b = (b.0, ⊎_elim (λ z. inl (c.begin ∙ z)) (λ z. inr (z.0, (z.1.0, (z.1.1.0, (z.1.1.1.0, (ap (touched G z.0.moves) c.key ∙ z.1.1.1.1.0, begun_write z.0.name v v' c z.1.1.1.1.1)))))) b.1)
    ends_write v v' c till.Open b = tt

    -- others are as they were
    other : (u' : Transaction G) → In u' wrote.active → (u'.name ≡ n → ⊥) → In u' s.active
    other u' j d =
        let r = In_changed (moved G n m W) u' s.active j in
        subst (λ v. In v s.active) (same r.0 (λ e. d (ap (λ v. v.name) (sym r.1.1) ∙ e)) ∙ r.1.1) r.1.0
      where
        same : (u : Transaction G) → (u.name ≡ n → ⊥) → u ≡ moved G n m W u
        same u d = λ i. record { name = u.name; ser = u.ser; end = u.end; stage = u.stage; moves = (sym (ap (λ b. cond b (m ∷ u.moves) u.moves) (ne_eqb u.name n d))) i; waits = (sym (ap (λ b. cond b (W ++ u.waits) u.waits) (ne_eqb u.name n d))) i }

    mover : (u' : Transaction G) → In u' wrote.active → u'.name ≡ n → (u' ≡ moved G n m W t) × ((moved G n m W t).moves ≡ (m ∷ t.moves))
    mover u' j e =
        let r = In_changed (moved G n m W) u' s.active j in
        (sym r.1.1 ∙ ap (moved G n m W) (unique G r.0 t s.active (distinct G s way).active_apart r.1.0 i (ap (λ v. v.name) r.1.1 ∙ e ∙ sym named)), ap (λ b. cond b (m ∷ t.moves) t.moves) (eq-eqb t.name n named))

    module _ (there_n : there n ≡ true) (alone : (u : Transaction G) → In u s.active → touched G u.moves k ≡ true → u.name ≡ n)
        (closing : (R p : ℕ) (v' : Ver G) → n ≤ R → At G vs' p v' → v'.key ≡ k → shown G s.line R v' ≡ true → v'.end ≡ till.Owner n)
        (mine : Own G vs' (moved G n m W t)) (mark : (p : ℕ) × ((v : Ver G) × (At G vs' p v × ((v.key ≡ k) × Names G n v))))
        (miss : (j : G.Key) → (j ≡ k → ⊥) → G.effect m j ≡ None) (dec : (a b : G.Key) → (a ≡ b) ⊎ (a ≡ b → ⊥)) where
      begins' : (p : ℕ) (v' : Ver G) → At G vs' p v' → Begins G wrote there v' v'.begin
      begins' p v' a = go (image.back p v' a)
        where
          go : Fresh n k v' ⊎ ((v : Ver G) × (At G vs p v × Changed s n k v v')) → Begins G wrote there v' v'.begin
          go (inl f) = subst (Begins G wrote there v') (sym f.begin) (there_n, λ u' j e. ap (touched G u'.moves) f.key ∙ mover_touched u' j e)
          go (inr z) = subst (Begins G wrote there v') (sym z.1.1.begin) (begins_write z.0 v' z.1.1 z.0.begin (h.begins p z.0 z.1.0) refl)

      ends' : (p : ℕ) (v' : Ver G) → At G vs' p v' → Ends G wrote there v' v'.end
      ends' p v' a = go (image.back p v' a)
        where
          go : Fresh n k v' ⊎ ((v : Ver G) × (At G vs p v × Changed s n k v v')) → Ends G wrote there v' v'.end
          go (inl f) = subst (Ends G wrote there v') (sym f.end) tt
          go (inr z) = ⊎_elim (λ e. subst (Ends G wrote there v') (sym e) (ends_write z.0 v' z.1.1 z.0.end (h.ends p z.0 z.1.0)))
              (λ y. subst (Ends G wrote there v') (sym y.0) (
                there_n,
                λ u' j e. (
                  ap (touched G u'.moves) (z.1.1.key ∙ y.1.0) ∙ mover_touched u' j e,
                  ⊎_elim (λ b. inl (z.1.1.begin ∙ b)) (λ b. inr (begun_write n z.0 v' z.1.1 b)) y.1.1.1.1,
                ),
              )) z.1.1.end

      shows' : (R : ℕ) → Shows G vs s.line R → Shows G vs' s.line R
      shows' R r = record { sound = sound'; unique = unique'; complete = complete' }
        where
          old : (p : ℕ) (v' : Ver G) → At G vs' p v' → shown G s.line R v' ≡ true → (v : Ver G) × (At G vs p v × (Changed s n k v v' × (shown G s.line R v ≡ true)))
          old p v' a e = go (image.back p v' a)
            where
              go : Fresh n k v' ⊎ ((v : Ver G) × (At G vs p v × Changed s n k v v')) → (v : Ver G) × (At G vs p v × (Changed s n k v v' × (shown G s.line R v ≡ true)))
              go (inl f) = absurd (own_hidden R v' f.begin e)
              go (inr z) = (z.0, (z.1.0, (z.1.1, sym (shown_changed R z.0 v' z.1.1) ∙ e)))

          sound' : (p : ℕ) (v : Ver G) → At G vs' p v → shown G s.line R v ≡ true → (b : ℕ) × ((time G s.line (as_end v.begin) ≡ Some b) × (latest G (upto G R s.line) v.key ≡ Some (b, Some v.value)))
          sound' p v' a e =
              let z = old p v' a e in let q = r.sound p z.0 z.1.0 z.1.1.1 in
              let val : v'.value ≡ z.0.value = ⊎_elim (λ y. y) (λ y. absurd (own_hidden R z.0 y.0 z.1.1.1)) z.1.1.0.value in
              (q.0, (ap (λ x. time G s.line (as_end x)) z.1.1.0.begin ∙ q.1.0, ap (latest G (upto G R s.line)) z.1.1.0.key ∙ q.1.1 ∙ ap (λ x. Some (q.0, Some x)) (sym val)))

          unique' : (p q : ℕ) (v u : Ver G) → At G vs' p v → At G vs' q u → v.key ≡ u.key → shown G s.line R v ≡ true → shown G s.line R u ≡ true → p ≡ q
          unique' p q v u a b c e f =
              let z = old p v a e in let y = old q u b f in
              r.unique p q z.0 y.0 z.1.0 y.1.0 (sym z.1.1.0.key ∙ c ∙ y.1.1.0.key) z.1.1.1 y.1.1.1

          complete' : (j : G.Key) (b : ℕ) (x : G.Value) → latest G (upto G R s.line) j ≡ Some (b, Some x) → (p : ℕ) × ((v : Ver G) × (At G vs' p v × ((v.key ≡ j) × (shown G s.line R v ≡ true))))
          complete' j b x e =
              let z = r.complete j b x e in let y = image.on z.0 z.1.0 z.1.1.0 in
              (z.0, (y.0, (y.1.0, (y.1.1.key ∙ z.1.1.1.0, shown_changed R z.1.0 y.0 y.1.1 ∙ z.1.1.1.1))))

      ended' : (u' : Transaction G) → In u' wrote.active → Ended G vs' s.line u'
      ended' u' j R p v' le a touch e = who (cases_eq u'.name n)
        where
          from : Fresh n k v' ⊎ ((v : Ver G) × (At G vs p v × Changed s n k v v')) → (v : Ver G) × (At G vs p v × (Changed s n k v v' × (shown G s.line R v ≡ true)))
          from (inl f) = absurd (own_hidden R v' f.begin e)
          from (inr z) = (z.0, (z.1.0, (z.1.1, sym (shown_changed R z.0 v' z.1.1) ∙ e)))

          who : (u'.name ≡ n) ⊎ (u'.name ≡ n → ⊥) → v'.end ≡ till.Owner u'.name
          who (inr d) =
              let l = other u' j d in let z = from (image.back p v' a) in
              let q = h.ended u' l R p z.0 le z.1.0 (ap (touched G u'.moves) (sym z.1.1.0.key) ∙ touch) z.1.1.1 in
              ⊎_elim (λ y. y ∙ q) (λ y. absurd (y.1.1.1.0 u' (inr l) q)) z.1.1.0.end
          who (inl d) = key (dec v'.key k)
            where
              key : (v'.key ≡ k) ⊎ (v'.key ≡ k → ⊥) → v'.end ≡ till.Owner u'.name
              key (inl c) = closing R p v' (subst (λ x. x ≤ R) d le) a c e ∙ ap till.Owner (sym d)
              key (inr c) =
                  let z = from (image.back p v' a) in
                  let mv = mover u' j d in
                  let old : touched G t.moves z.0.key ≡ true = ⊎_elim (λ g. absurd (true≢false (sym g ∙ ap given (miss v'.key c)))) (λ g. ap (touched G t.moves) (sym z.1.1.0.key) ∙ g)
                  (or_cases (given (G.effect m v'.key)) (touched G t.moves v'.key) (ap (λ ms. touched G ms v'.key) (sym (ap (λ v. v.moves) mv.0 ∙ mv.1)) ∙ touch)) in
                  let q = h.ended t i R p z.0 (subst (λ x. x ≤ R) (d ∙ sym named) le) z.1.0 old z.1.1.1 in
                  ⊎_elim (λ y. y ∙ q ∙ ap till.Owner (named ∙ sym d)) (λ y. y.0 ∙ ap till.Owner (sym d)) z.1.1.0.end

      own_other : (u : Transaction G) → In u s.active → (u.name ≡ n → ⊥) → Own G vs' u
      own_other u l d = record {
        sound = λ p v' a e. fine p v' e (image.back p v' a);
        unique = λ p q v u' a b c e f x y. uniq p q v u' c e f x y (image.back p v a) (image.back q u' b);
        complete = λ j x e. let z = r.complete j x e in let y = image.on z.0 z.1.0 z.1.1.0 in
            (z.0, (y.0, (y.1.0, (y.1.1.key ∙ z.1.1.1.0, (y.1.1.begin ∙ z.1.1.1.1.0, unended z.1.0 y.0 z.1.1.1.1.0 y.1.1 ∙ z.1.1.1.1.1)))));
      }
        where
          r : Own G vs u
          r = h.own u l

          unended : (v v' : Ver G) → v.begin ≡ since.Owner u.name → Changed s n k v v' → v'.end ≡ v.end
          unended v v' e c = ⊎_elim (λ y. y) (λ y. absurd (⊎_elim (λ b. d (begin_owner u.name n (sym e ∙ b))) (λ b. some_none (sym b.1.0 ∙ ap (λ x. time G s.line (as_end x)) e ∙ no_time u l)) y.1.1.1.1)) c.end

          valued : (v v' : Ver G) → v.begin ≡ since.Owner u.name → Changed s n k v v' → v'.value ≡ v.value
          valued v v' e c = ⊎_elim (λ y. y) (λ y. absurd (d (begin_owner u.name n (sym e ∙ y.0)))) c.value

          fine : (p : ℕ) (v' : Ver G) → v'.begin ≡ since.Owner u.name → Fresh n k v' ⊎ ((v : Ver G) × (At G vs p v × Changed s n k v v')) → (v'.end ≡ till.Owner u.name) ⊎ ((v'.end ≡ till.Open) × (last G u.moves v'.key ≡ Some (Some v'.value)))
          fine p v' e (inl f) = absurd (d (begin_owner u.name n (sym e ∙ f.begin)))
          fine p v' e (inr z) =
              let b : z.0.begin ≡ since.Owner u.name = sym z.1.1.begin ∙ e in
              ⊎_elim (λ y. inl (unended z.0 v' b z.1.1 ∙ y))
              (λ y. inr (unended z.0 v' b z.1.1 ∙ y.0, ap (last G u.moves) z.1.1.key ∙ y.1 ∙ ap (λ x. Some (Some x)) (sym (valued z.0 v' b z.1.1)))) (r.sound p z.0 z.1.0 b)

          uniq : (p q : ℕ) (v w : Ver G) → v.key ≡ w.key → v.begin ≡ since.Owner u.name → w.begin ≡ since.Owner u.name → v.end ≡ till.Open → w.end ≡ till.Open →
              Fresh n k v ⊎ ((x : Ver G) × (At G vs p x × Changed s n k x v)) → Fresh n k w ⊎ ((x : Ver G) × (At G vs q x × Changed s n k x w)) → p ≡ q
          uniq p q v w c e f x y (inl z) b = absurd (d (begin_owner u.name n (sym e ∙ z.begin)))
          uniq p q v w c e f x y (inr a) (inl z) = absurd (d (begin_owner u.name n (sym f ∙ z.begin)))
          uniq p q v w c e f x y (inr a) (inr b) =
              let e' : a.0.begin ≡ since.Owner u.name = sym a.1.1.begin ∙ e in let f' : b.0.begin ≡ since.Owner u.name = sym b.1.1.begin ∙ f in
              r.unique p q a.0 b.0 a.1.0 b.1.0 (sym a.1.1.key ∙ c ∙ b.1.1.key) e' f' (sym (unended a.0 v e' a.1.1) ∙ x) (sym (unended b.0 w f' b.1.1) ∙ y)

      -- a mark by anyone else alive stays
      marked_other : (u : Transaction G) → Here G s u → Marked G vs u → Marked G vs' u
      marked_other u l r j e =
          let z = r j e in let y = image.on z.0 z.1.0 z.1.1.0 in
          (z.0, (y.0, (y.1.0, (y.1.1.key ∙ z.1.1.1.0, ⊎_elim (λ b. inl (y.1.1.begin ∙ b)) (λ b. inr (⊎_elim (λ q. q ∙ b) (λ q. absurd (q.1.1.1.0 u l b)) y.1.1.end)) z.1.1.1.1))))

      marked_mine : Marked G vs' (moved G n m W t)
      marked_mine j e = go (dec j k)
        where
          go : (j ≡ k) ⊎ (j ≡ k → ⊥) → (p : ℕ) × ((v : Ver G) × (At G vs' p v × ((v.key ≡ j) × Names G t.name v)))
          go (inl c) = (mark.0, (mark.1.0, (mark.1.1.0, (mark.1.1.1.0 ∙ sym c, subst (λ x. Names G x mark.1.0) (sym named) mark.1.1.1.1))))
          go (inr c) = marked_other t (inr i) (h.marked t i) j
              (⊎_elim (λ g. absurd (true≢false (sym g ∙ ap given (miss j c)))) (λ g. g) (or_cases (given (G.effect m j)) (touched G t.moves j) (ap (λ ms. touched G ms j) (sym (ap (λ b. cond b (m ∷ t.moves) t.moves) (eq-eqb t.name n named))) ∙ e)))

      pub shelf_write : Shelf G vs' there wrote
      shelf_write = record {
        begins = begins';
        ends = ends';
        shows = λ R late. shows' R (h.shows R late);
        ended = ended';
        own = λ u' j. ⊎_elim (λ d. subst (Own G vs') (sym (mover u' j d).0) mine) (λ d. own_other u' (other u' j d) d) (cases_eq u'.name n);
        marked = λ u' j. ⊎_elim (λ d. subst (Marked G vs') (sym (mover u' j d).0) marked_mine) (λ d. marked_other u' (inr (other u' j d)) (h.marked u' (other u' j d))) (cases_eq u'.name n);
        marked' = λ u j p. marked_other u (inl j) (h.marked' u j p);
      }
