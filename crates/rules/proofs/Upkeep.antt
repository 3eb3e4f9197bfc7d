-- Begin, finish and sweep: no time of a mark changes that anyone can tell. Assumes nothing.
use Rattle.std.proofs.Common.{◌≡◌, ℕ, ◌+◌, ◌≤◌, Bool, true, false, cond, eqb, ◌⊎◌, List, ◌∷◌, Some, sym, refl, ap, ◌∙◌, subst, inl, inr, ⊎_elim, arith}
use Rattle.std.proofs.lemmas.Bool.{false≢true, true≢false, eqb-true, ne_eqb}
use Rattle.seeing.specs.declared.Begin.{Begin}
use Rattle.seeing.specs.declared.Begin.TheVariants as begin
use Rattle.seeing.specs.declared.End.{End}
use Rattle.seeing.specs.declared.End.TheVariants as end
use Rattle.seeing.specs.Changing.{settle_begin, settle_end}
use Rattle.seeing.specs.Seeing.{as_end}
use Rattle.serial.specs.Lists.{In}
use Rattle.serial.specs.Machine.{Game, Transaction, State, committed, pending, touched, newborn, Reached}
use Rattle.serial.proofs.Lists.{All_at}
use Rattle.serial.proofs.Names.{Apart, distinct}
use Rattle.rules.proofs.Times.{Ver, ending, time, shown, last, latest, upto, Here, Names}
use Rattle.rules.proofs.Relation.{Begins, Ends, Late, At, Shows, Own, Ended, Marked, Shelf}
use Rattle.rules.proofs.Slots.{some_none}
use Rattle.rules.specs.declared.Entry.{Entry}
use Rattle.rules.proofs.Lines.{ending_in}

module _ (G : Game) (vs : List (Entry (Ver G))) (there there' : ℕ → Bool) (s : State G) (h : Shelf G vs there s) where
  -- one begins
  pub shelf_begin : (ser : Bool) → ((m : ℕ) → there m ≡ true → there' m ≡ true) → ((m : ℕ) → there' m ≡ true → (there m ≡ true) ⊎ (m ≡ s.clock + 1)) → ((m : ℕ) → there m ≡ true → m ≤ s.clock) →
      Shelf G vs there' (record { clock = s.clock + 1; active = newborn G (s.clock + 1) ser ∷ s.active; line = s.line })
  shelf_begin ser grow back old = record {
    begins = λ p v a. begins' v v.begin (h.begins p v a);
    ends = λ p v a. ends' v v.end (h.ends p v a);
    shows = λ R late. h.shows R (late' R late);
    ended = λ t i. ended' t i;
    own = λ t i. own' t i;
    marked = λ t i. marked' t i;
    marked' = h.marked';
  }
    where
      s' : State G
      s' = record { clock = s.clock + 1; active = newborn G (s.clock + 1) ser ∷ s.active; line = s.line }

      was : (t : Transaction G) → Here G s' t → Here G s t ⊎ (newborn G (s.clock + 1) ser ≡ t)
      was t (inl i) = inl (inl i)
      was t (inr (inl e)) = inr e
      was t (inr (inr i)) = inl (inr i)

      unknown : (m : ℕ) (t : Transaction G) → there m ≡ true → newborn G (s.clock + 1) ser ≡ t → t.name ≡ m → ⊥
      unknown m t e q z = let w : s.clock + 1 ≡ m = ap (λ v. v.name) q ∙ z in let y = old m e in omega arith

      begins' : (v : Ver G) (x : Begin) → Begins G s there v x → Begins G s' there' v x
      begins' v (begin.Owner m) q = (grow m q.0, λ t i e. ⊎_elim (λ j. q.1 t j e) (λ j. absurd (unknown m t q.0 j e)) (was t i))
      begins' v (begin.Stamp b) q = (let le = q.0 in omega arith, q.1)

      ends' : (v : Ver G) (x : End) → Ends G s there v x → Ends G s' there' v x
      ends' v (end.Owner m) q = (grow m q.0, λ t i e. ⊎_elim (λ j. q.1 t j e) (λ j. absurd (unknown m t q.0 j e)) (was t i))
      ends' v (end.Stamp b) q = (let le = q.0 in omega arith, q.1)
      ends' v end.Open q = tt

      late' : (R : ℕ) → Late G s' there' R → Late G s there R
      late' R (inl z) = ⊎_elim (λ e. inl (z.0, (e, z.1.1))) (λ e. inr (let le = z.1.1 in omega arith)) (back z.0 z.1.0)
      late' R (inr z) = inr (omega arith)

      ended' : (t : Transaction G) → In t s'.active → Ended G vs s.line t
      ended' t (inl e) R p v le a touch q = absurd (false≢true (ap (λ x. touched G x.moves v.key) e ∙ touch))
      ended' t (inr i) R p v le a touch q = h.ended t i R p v le a touch q

      fresh : (p : ℕ) (v : Ver G) → At G vs p v → v.begin ≡ begin.Owner (s.clock + 1) → ⊥
      fresh p v a e = let q = old (s.clock + 1) (subst (Begins G s there v) e (h.begins p v a)).0 in omega arith

      own' : (t : Transaction G) → In t s'.active → Own G vs t
      own' t (inl e) = subst (Own G vs) e (record {
        sound = λ p v a b. absurd (fresh p v a b);
        unique = λ p q v u a b c x y. absurd (fresh p v a x);
        complete = λ k x q. absurd (some_none (sym q));
      })
      own' t (inr i) = h.own t i

      marked' : (t : Transaction G) → In t s'.active → Marked G vs t
      marked' t (inl e) k q = absurd (false≢true (ap (λ x. touched G x.moves k) e ∙ q))
      marked' t (inr i) k q = h.marked t i k q

-- at work, or in the line and pending
module _ (G : Game) where
  abbrev pub Open : State G → Transaction G → Type 0
  Open s u = In u s.active ⊎ (In u s.line × (pending u.stage ≡ true))

  -- v' in the place of v says the same
  pub record Refit (s : State G) (v v' : Ver G) : Type 0 where
    pub key : v'.key ≡ v.key
    pub value : v'.value ≡ v.value
    pub shows : (R : ℕ) → shown G s.line R v' ≡ shown G s.line R v
    pub since : (R : ℕ) → shown G s.line R v ≡ true → time G s.line (as_end v'.begin) ≡ time G s.line (as_end v.begin)
    pub begin_back : (u : Transaction G) → Open s u → v'.begin ≡ begin.Owner u.name → v.begin ≡ begin.Owner u.name
    pub begin_on : (u : Transaction G) → Open s u → v.begin ≡ begin.Owner u.name → v'.begin ≡ begin.Owner u.name
    pub own_end : (u : Transaction G) → In u s.active → v.begin ≡ begin.Owner u.name → v'.end ≡ v.end
    pub end_on : (u : Transaction G) → Open s u → v.end ≡ end.Owner u.name → v'.end ≡ end.Owner u.name

  pub refit_self : (s : State G) (v : Ver G) → Refit s v v
  refit_self s v = record { key = refl; value = refl; shows = λ R. refl; since = λ R e. refl; begin_back = λ u i e. e; begin_on = λ u i e. e; own_end = λ u i e. refl; end_on = λ u i e. e }

  module _ (vs vs' : List (Entry (Ver G))) (there there' : ℕ → Bool) (s : State G) (way : Reached G s) (h : Shelf G vs there s)
      (fewer : (m : ℕ) → there' m ≡ true → there m ≡ true)
      (begins' : (p : ℕ) (v : Ver G) → At G vs' p v → Begins G s there' v v.begin) (ends' : (p : ℕ) (v : Ver G) → At G vs' p v → Ends G s there' v v.end)
      (back : (p : ℕ) (v' : Ver G) → At G vs' p v' → (v : Ver G) × (At G vs p v × Refit s v v'))
      (on : (p : ℕ) (v : Ver G) → At G vs p v → ((v' : Ver G) × (At G vs' p v' × Refit s v v')) ⊎ (((R : ℕ) → Late G s there R → shown G s.line R v ≡ false) × (((v.end ≡ end.Open) → ⊥) × ((u : Transaction G) → Open s u → Names G u.name v → ⊥)))) where
    late' : (R : ℕ) → Late G s there' R → Late G s there R
    late' R (inl z) = inl (z.0, (fewer z.0 z.1.0, z.1.1))
    late' R (inr z) = inr z

    shows' : (R : ℕ) → Late G s there' R → Shows G vs' s.line R
    shows' R late'' =
        let late = late' R late'' in let r = h.shows R late in
        record {
          sound = λ p v' a e. let z = back p v' a in let e' = sym (z.1.1.shows R) ∙ e in let q = r.sound p z.0 z.1.0 e' in
              (q.0, (z.1.1.since R e' ∙ q.1.0, ap (latest G (upto G R s.line)) z.1.1.key ∙ q.1.1 ∙ ap (λ x. Some (q.0, Some x)) (sym z.1.1.value)));
          unique = λ p q v u a b k e f. let z = back p v a in let y = back q u b in
              r.unique p q z.0 y.0 z.1.0 y.1.0 (sym z.1.1.key ∙ k ∙ y.1.1.key) (sym (z.1.1.shows R) ∙ e) (sym (y.1.1.shows R) ∙ f);
          complete = λ k b x e. let z = r.complete k b x e in
              ⊎_elim (λ y. (z.0, (y.0, (y.1.0, (y.1.1.key ∙ z.1.1.1.0, y.1.1.shows R ∙ z.1.1.1.1)))))
              (λ y. absurd (true≢false (sym z.1.1.1.1 ∙ y.0 R late))) (on z.0 z.1.0 z.1.1.0);
        }

    marked_open : (u : Transaction G) → Open s u → Marked G vs u → Marked G vs' u
    marked_open u i r k e =
        let z = r k e in
        ⊎_elim (λ y. (z.0, (y.0, (y.1.0, (y.1.1.key ∙ z.1.1.1.0, ⊎_elim (λ b. inl (y.1.1.begin_on u i b)) (λ b. inr (y.1.1.end_on u i b)) z.1.1.1.1)))))
        (λ y. absurd (y.1.1 u i z.1.1.1.1)) (on z.0 z.1.0 z.1.1.0)

    pub shelf_refit : Shelf G vs' there' s
    shelf_refit = record {
      begins = begins';
      ends = ends';
      shows = shows';
      ended = λ t i R p v' le a touch e. let z = back p v' a in
          z.1.1.end_on t (inl i) (h.ended t i R p z.0 le z.1.0 (ap (touched G t.moves) (sym z.1.1.key) ∙ touch) (sym (z.1.1.shows R) ∙ e));
      own = λ t i. let r = h.own t i in record {
        sound = λ p v' a e. let z = back p v' a in let b = z.1.1.begin_back t (inl i) e in let c = z.1.1.own_end t i b in
            ⊎_elim (λ y. inl (c ∙ y)) (λ y. inr (c ∙ y.0, ap (last G t.moves) z.1.1.key ∙ y.1 ∙ ap (λ x. Some (Some x)) (sym z.1.1.value))) (r.sound p z.0 z.1.0 b);
        unique = λ p q v u a b k e f x y. let z = back p v a in let w = back q u b in
            let c = z.1.1.begin_back t (inl i) e in let d = w.1.1.begin_back t (inl i) f in
            r.unique p q z.0 w.0 z.1.0 w.1.0 (sym z.1.1.key ∙ k ∙ w.1.1.key) c d (sym (z.1.1.own_end t i c) ∙ x) (sym (w.1.1.own_end t i d) ∙ y);
        complete = λ k x e. let z = r.complete k x e in
            ⊎_elim (λ y. let b = y.1.1.begin_on t (inl i) z.1.1.1.1.0 in (z.0, (y.0, (y.1.0, (y.1.1.key ∙ z.1.1.1.0, (b, y.1.1.own_end t i z.1.1.1.1.0 ∙ z.1.1.1.1.1))))))
            (λ y. absurd (y.1.0 z.1.1.1.1.1)) (on z.0 z.1.0 z.1.1.0);
      };
      marked = λ t i. marked_open t (inl i) (h.marked t i);
      marked' = λ t i p. marked_open t (inr (i, p)) (h.marked' t i p);
    }

-- a committed one finishes: its name becomes its end stamp
module _ (G : Game) (s : State G) (way : Reached G s) where
  stamp_owner : (a b : ℕ) → begin.Stamp a ≡ begin.Owner b → ⊥
  stamp_owner a b e = let z : ◌≡◌ {A = ℕ} 0 1 = cc in omega arith

  module _ (t : Transaction G) (i : In t s.line) (st : t.stage ≡ committed) where
    n : ℕ
    n = t.name

    -- no open one has the name
    pub apart : (u : Transaction G) → Open G s u → u.name ≡ t.name → ⊥
    apart u (inl j) e = All_at (λ v. v.name ≡ u.name → ⊥) t s.line i (All_at (λ a. Apart G a s.line) u s.active j (distinct G s way).across) (sym e)
    apart u (inr j) e = false≢true (sym (ap (λ v. pending v.stage) (Rattle.serial.proofs.Kill.unique G u t s.line (distinct G s way).line_apart j.0 i e) ∙ ap pending st) ∙ j.1)

    t_time : ending G s.line t.name ≡ Some t.end
    t_time = ending_in G s.line t (distinct G s way).line_apart i

    pub begin_time : (x : Begin) → time G s.line (as_end (settle_begin t.name t.end x)) ≡ time G s.line (as_end x)
    begin_time (begin.Stamp b) = refl
    begin_time (begin.Owner m) = go (eqb m t.name) refl
      where
        go : (b : Bool) → eqb m t.name ≡ b → time G s.line (as_end (cond b (begin.Stamp t.end) (begin.Owner m))) ≡ ending G s.line m
        go true e = sym t_time ∙ ap (ending G s.line) (sym (eqb-true m t.name e))
        go false e = refl

    pub end_time : (x : End) → time G s.line (settle_end t.name (end.Stamp t.end) x) ≡ time G s.line x
    end_time (end.Stamp b) = refl
    end_time (end.Owner m) = go (eqb m t.name) refl
      where
        go : (b : Bool) → eqb m t.name ≡ b → time G s.line (cond b (end.Stamp t.end) (end.Owner m)) ≡ ending G s.line m
        go true e = sym t_time ∙ ap (ending G s.line) (sym (eqb-true m t.name e))
        go false e = refl
    end_time end.Open = refl

    pub begin_other : (x : Begin) (m : ℕ) → (m ≡ t.name → ⊥) → x ≡ begin.Owner m → settle_begin t.name t.end x ≡ begin.Owner m
    begin_other x m d e = ap (settle_begin t.name t.end) e ∙ ap (λ b. cond b (begin.Stamp t.end) (begin.Owner m)) (ne_eqb m t.name d)

    pub begin_was : (x : Begin) (m : ℕ) → settle_begin t.name t.end x ≡ begin.Owner m → x ≡ begin.Owner m
    begin_was (begin.Stamp b) m e = absurd (stamp_owner b m e)
    begin_was (begin.Owner q) m e = go (eqb q t.name) e
      where
        go : (b : Bool) → cond b (begin.Stamp t.end) (begin.Owner q) ≡ begin.Owner m → begin.Owner q ≡ begin.Owner m
        go true e = absurd (stamp_owner t.end m e)
        go false e = e

    pub end_other : (x : End) (m : ℕ) → (m ≡ t.name → ⊥) → x ≡ end.Owner m → settle_end t.name (end.Stamp t.end) x ≡ end.Owner m
    end_other x m d e = ap (settle_end t.name (end.Stamp t.end)) e ∙ ap (λ b. cond b (end.Stamp t.end) (end.Owner m)) (ne_eqb m t.name d)
