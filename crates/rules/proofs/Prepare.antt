-- One at work takes its end stamp: its marks get a time. Assumes nothing.
use Rattle.std.proofs.Common.{◌≡◌, ℕ, ◌+◌, ◌<◌, ◌≤◌, Bool, true, false, cond, not, ◌&&◌, ◌||◌, eqb, ◌⊎◌, List, ◌∷◌, Some, None, Option, sym, refl, ap, ◌∙◌, subst, inl, inr, ⊎_elim, arith}
use Rattle.std.proofs.lemmas.Bool.{false≢true, true≢false, cases_Bool, cases_eq, cases_lt, eqb-true, eqb-false, eq-eqb, ne_eqb, and_parts, and_from, not-true, not_from_false, le-leb, lt-leb}
use Rattle.seeing.specs.declared.Begin.{Begin}
use Rattle.seeing.specs.declared.Begin.TheVariants as begin
use Rattle.seeing.specs.declared.End.{End}
use Rattle.seeing.specs.declared.End.TheVariants as end
use Rattle.seeing.specs.Seeing.{as_end}
use Rattle.seeing.specs.Changing.{names}
use Rattle.serial.specs.Lists.{In, keep}
use Rattle.serial.specs.Machine.{Game, Transaction, State, active, pending, touched, prepared, Reached}
use Rattle.serial.proofs.Lists.{All_at, All_to}
use Rattle.serial.proofs.Steps.{sound}
use Rattle.serial.proofs.Names.{Apart, distinct}
use Rattle.serial.proofs.Orders.{ordered, In_kept}
use Rattle.rules.proofs.Times.{come, stamped, Ver, ending, time, shown, last, latest, upto, Here, Names, BegunBy}
use Rattle.rules.proofs.Relation.{Begins, Ends, Late, At, Shows, Ended, Marked, Shelf}
use Rattle.rules.proofs.Slots.{some_injective, some_none}
use Rattle.rules.specs.declared.Entry.{Entry}
use Rattle.rules.proofs.Lines.{some_touched, latest_untouched, upto_all, upto_new, ending_none, ending_some}

pub eqb_sym : (a b : ℕ) → eqb a b ≡ eqb b a
eqb_sym a b = ⊎_elim (λ e. eq-eqb a b e ∙ sym (eq-eqb b a (sym e))) (λ d. ne_eqb a b d ∙ sym (ne_eqb b a (λ e. d (sym e)))) (cases_eq a b)

pub names_begin : (n : ℕ) (b : Begin) → names n (as_end b) ≡ true → b ≡ begin.Owner n
names_begin n (begin.Stamp c) e = absurd (false≢true e)
names_begin n (begin.Owner m) e = ap begin.Owner (eqb-true m n e)

pub names_end : (n : ℕ) (b : End) → names n b ≡ true → b ≡ end.Owner n
names_end n (end.Stamp c) e = absurd (false≢true e)
names_end n (end.Owner m) e = ap end.Owner (eqb-true m n e)
names_end n end.Open e = absurd (false≢true e)

pub names_owner : (n : ℕ) → names n (end.Owner n) ≡ true
names_owner n = eq-eqb n n refl

-- a time that came by the clock has come by any later time
pub come_later : (c R : ℕ) (o : Option ℕ) → ((b : ℕ) → o ≡ Some b → b ≤ c) → c ≤ R → come R o ≡ come c o
come_later c R None h le = refl
come_later c R (Some b) h le = let q = h b refl in le-leb b R (omega arith) ∙ sym (le-leb b c q)

module _ (G : Game) (vs : List (Entry (Ver G))) (there : ℕ → Bool) (s : State G) (way : Reached G s) (h : Shelf G vs there s) where
  -- every time that a version's mark has was given out
  pub begin_old : (p : ℕ) (v : Ver G) → At G vs p v → (b : ℕ) → time G s.line (as_end v.begin) ≡ Some b → b ≤ s.clock
  begin_old p v a = go v.begin (h.begins p v a)
    where
      go : (x : Begin) → Begins G s there v x → (b : ℕ) → time G s.line (as_end x) ≡ Some b → b ≤ s.clock
      go (begin.Stamp c) q b e = subst (λ x. x ≤ s.clock) (some_injective e) q.0
      go (begin.Owner m) q b e = let z = ending_some G s.line m b e in subst (λ x. x ≤ s.clock) z.1.1.1 (All_at (λ t. t.end ≤ s.clock) z.0 s.line z.1.0 (ordered G s way).given_out)

  pub end_old : (p : ℕ) (v : Ver G) → At G vs p v → (b : ℕ) → time G s.line v.end ≡ Some b → b ≤ s.clock
  end_old p v a = go v.end (h.ends p v a)
    where
      go : (x : End) → Ends G s there v x → (b : ℕ) → time G s.line x ≡ Some b → b ≤ s.clock
      go (end.Stamp c) q b e = subst (λ x. x ≤ s.clock) (some_injective e) q.0
      go (end.Owner m) q b e = let z = ending_some G s.line m b e in subst (λ x. x ≤ s.clock) z.1.1.1 (All_at (λ t. t.end ≤ s.clock) z.0 s.line z.1.0 (ordered G s way).given_out)
      go end.Open q b e = absurd (some_none (sym e))

  -- a version that names one alive is of a key that it has changed
  pub begin_touched : (p : ℕ) (v : Ver G) (t : Transaction G) → At G vs p v → Here G s t → v.begin ≡ begin.Owner t.name → touched G t.moves v.key ≡ true
  begin_touched p v t a i e = go v.begin e (h.begins p v a)
    where
      go : (x : Begin) → x ≡ begin.Owner t.name → Begins G s there v x → touched G t.moves v.key ≡ true
      go x e q = (subst (Begins G s there v) e q).1 t i refl

  pub end_touched : (p : ℕ) (v : Ver G) (t : Transaction G) → At G vs p v → Here G s t → v.end ≡ end.Owner t.name → (touched G t.moves v.key ≡ true) × ((v.begin ≡ begin.Owner t.name) ⊎ BegunBy G s.line t.name v)
  end_touched p v t a i e = (subst (Ends G s there v) e (h.ends p v a)).1 t i refl

  module _ (t : Transaction G) (i : In t s.active) where
    abbrev pub after : State G
    after = record { clock = s.clock + 1; active = keep (λ u. not (eqb u.name t.name)) s.active; line = prepared G (s.clock + 1) t ∷ s.line }

    not_lined : ending G s.line t.name ≡ None
    not_lined = ending_none G s.line t.name (λ u j e. All_at (λ v. v.name ≡ t.name → ⊥) u s.line j (All_at (λ a. Apart G a s.line) t s.active i (distinct G s way).across) e)

    time_new : (m : End) → time G after.line m ≡ cond (names t.name m) (Some (s.clock + 1)) (time G s.line m)
    time_new (end.Stamp b) = refl
    time_new (end.Owner m) = ap (λ b. cond b (Some (s.clock + 1)) (ending G s.line m)) (eqb_sym t.name m)
    time_new end.Open = refl

    named_none : (m : End) → names t.name m ≡ true → time G s.line m ≡ None
    named_none m e = ap (time G s.line) (names_end t.name m e) ∙ not_lined

    time_keeps : (m : End) (b : ℕ) → time G s.line m ≡ Some b → time G after.line m ≡ Some b
    time_keeps m b e = time_new m ∙ go (names t.name m) refl
      where
        go : (c : Bool) → names t.name m ≡ c → cond c (Some (s.clock + 1)) (time G s.line m) ≡ Some b
        go true q = absurd (some_none (sym e ∙ named_none m q))
        go false q = e

    -- before the new stamp nothing is other than it was
    come_old : (R : ℕ) (m : End) → R ≤ s.clock → come R (time G after.line m) ≡ come R (time G s.line m)
    come_old R m le = ap (come R) (time_new m) ∙ go (names t.name m) refl
      where
        go : (c : Bool) → names t.name m ≡ c → come R (cond c (Some (s.clock + 1)) (time G s.line m)) ≡ come R (time G s.line m)
        go true q = lt-leb (s.clock + 1) R (omega arith) ∙ sym (ap (come R) (named_none m q))
        go false q = refl

    pub shown_old : (R : ℕ) (v : Ver G) → R ≤ s.clock → shown G after.line R v ≡ shown G s.line R v
    shown_old R v le = ap (λ b. b && not (come R (time G after.line v.end))) (come_old R (as_end v.begin) le) ∙ ap (λ b. come R (time G s.line (as_end v.begin)) && not b) (come_old R v.end le)

    -- from it on
    come_new : (R : ℕ) (m : End) → s.clock + 1 ≤ R → ((b : ℕ) → time G s.line m ≡ Some b → b ≤ s.clock) → come R (time G after.line m) ≡ (names t.name m || come s.clock (time G s.line m))
    come_new R m le old = ap (come R) (time_new m) ∙ go (names t.name m) refl
      where
        go : (c : Bool) → names t.name m ≡ c → come R (cond c (Some (s.clock + 1)) (time G s.line m)) ≡ (c || come s.clock (time G s.line m))
        go true q = le-leb (s.clock + 1) R le
        go false q = come_later s.clock R (time G s.line m) old (omega arith)

    -- a version that is shown from then on is t's own and not ended, or was shown and is not ended by t
    abbrev Either : Ver G → Type 0
    Either v = ((v.begin ≡ begin.Owner t.name) × ((v.end ≡ end.Open) × (last G t.moves v.key ≡ Some (Some v.value)))) ⊎ ((shown G s.line s.clock v ≡ true) × (touched G t.moves v.key ≡ false))

    split : (R p : ℕ) (v : Ver G) → s.clock + 1 ≤ R → At G vs p v → shown G after.line R v ≡ true → Either v
    split R p v le a e = go (names t.name (as_end v.begin)) (names t.name v.end) refl refl
        (sym (come_new R (as_end v.begin) le (begin_old p v a)) ∙ (and_parts _ _ e).0)
        (sym (come_new R v.end le (end_old p v a)) ∙ not-true _ (and_parts _ _ e).1)
      where
        go : (x y : Bool) → names t.name (as_end v.begin) ≡ x → names t.name v.end ≡ y →
            (x || come s.clock (time G s.line (as_end v.begin))) ≡ true → (y || come s.clock (time G s.line v.end)) ≡ false → Either v
        go x true p q c d = absurd (true≢false d)
        go true false nb ne c d = ⊎_elim (λ z. absurd (true≢false (sym (ap (names t.name) z ∙ names_owner t.name) ∙ ne))) (λ z. inl (names_begin t.name v.begin nb, z)) ((h.own t i).sound p v a (names_begin t.name v.begin nb))
        go false false nb ne c d =
            let q : shown G s.line s.clock v ≡ true = and_from _ _ c (not_from_false _ d) in
            inr (q, ⊎_elim (λ z. absurd (true≢false (sym (ap (names t.name) (h.ended t i s.clock p v (All_at (λ t. t.name ≤ s.clock) t s.active i (sound G s way).begun) a z q) ∙ names_owner t.name) ∙ ne))) (λ z. z) (cases_Bool (touched G t.moves v.key)))

    whole : (R : ℕ) → s.clock + 1 ≤ R → upto G R after.line ≡ after.line
    whole R le = upto_all G R after.line (omega arith, All_to _ _ (λ u e. omega arith) s.line (ordered G s way).given_out)

    whole_old : upto G s.clock s.line ≡ s.line
    whole_old = upto_all G s.clock s.line (ordered G s way).given_out

    now : Shows G vs s.line s.clock
    now = h.shows s.clock (inr (omega arith))

    shown_own : (R : ℕ) (v : Ver G) → s.clock + 1 ≤ R → v.begin ≡ begin.Owner t.name → v.end ≡ end.Open → shown G after.line R v ≡ true
    shown_own R v le b e =
        and_from _ _ (ap (λ m. come R (time G after.line (as_end m))) b ∙ ap (come R) (time_new (end.Owner t.name)) ∙ ap (λ c. come R (cond c (Some (s.clock + 1)) (ending G s.line t.name))) (names_owner t.name) ∙ le-leb (s.clock + 1) R le)
        (ap (λ m. not (come R (time G after.line m))) e)

    -- one that was shown, of a key that t has not changed
    shown_still : (R p : ℕ) (v : Ver G) → s.clock + 1 ≤ R → At G vs p v → touched G t.moves v.key ≡ false → shown G s.line s.clock v ≡ true → shown G after.line R v ≡ true
    shown_still R p v le a free e =
        let parts = and_parts _ _ e in
        and_from _ _ (come_new R (as_end v.begin) le (begin_old p v a) ∙ Rattle.std.proofs.lemmas.Bool.or_right _ _ parts.0)
        (not_from_false _ (come_new R v.end le (end_old p v a) ∙ Rattle.std.proofs.lemmas.Bool.or_from _ _ unnamed (not-true _ parts.1)))
      where
        unnamed : names t.name v.end ≡ false
        unnamed = ⊎_elim (λ z. absurd (true≢false (sym (end_touched p v t a (inr i) (names_end t.name v.end z)).0 ∙ free))) (λ z. z) (cases_Bool (names t.name v.end))

    shows_new : (R : ℕ) → s.clock + 1 ≤ R → Shows G vs after.line R
    shows_new R le = record { sound = sound_new; unique = unique_new; complete = complete_new }
      where
        sound_new : (p : ℕ) (v : Ver G) → At G vs p v → shown G after.line R v ≡ true → (b : ℕ) × ((time G after.line (as_end v.begin) ≡ Some b) × (latest G (upto G R after.line) v.key ≡ Some (b, Some v.value)))
        sound_new p v a e = go (split R p v le a e)
          where
            go : Either v → (b : ℕ) × ((time G after.line (as_end v.begin) ≡ Some b) × (latest G (upto G R after.line) v.key ≡ Some (b, Some v.value)))
            go (inl z) = (
              s.clock + 1,
              (
                ap (λ m. time G after.line (as_end m)) z.0 ∙ time_new (end.Owner t.name) ∙ ap (λ c. cond c (Some (s.clock + 1)) (ending G s.line t.name)) (names_owner t.name),
                ap (λ l. latest G l v.key) (whole R le) ∙ ap (λ o. stamped (s.clock + 1) o (latest G s.line v.key)) z.1.1,
              ),
            )
            go (inr z) =
                let r = now.sound p v a z.0 in (
                  r.0,
                  (
                    time_keeps (as_end v.begin) r.0 r.1.0,
                    ap (λ l. latest G l v.key) (whole R le) ∙ latest_untouched G (prepared G (s.clock + 1) t) s.line v.key z.1 ∙ sym (ap (λ l. latest G l v.key) whole_old) ∙ r.1.1,
                  ),
                )

        unique_new : (p q : ℕ) (v u : Ver G) → At G vs p v → At G vs q u → v.key ≡ u.key → shown G after.line R v ≡ true → shown G after.line R u ≡ true → p ≡ q
        unique_new p q v u a b k e f = go (split R p v le a e) (split R q u le b f)
          where
            go : Either v → Either u → p ≡ q
            go (inl z) (inl y) = (h.own t i).unique p q v u a b k z.0 y.0 z.1.0 y.1.0
            go (inl z) (inr y) = absurd (true≢false (sym (some_touched G t.moves u.key (Some v.value) (ap (last G t.moves) (sym k) ∙ z.1.1)) ∙ y.1))
            go (inr z) (inl y) = absurd (true≢false (sym (some_touched G t.moves v.key (Some u.value) (ap (last G t.moves) k ∙ y.1.1)) ∙ z.1))
            go (inr z) (inr y) = now.unique p q v u a b k z.0 y.0

        complete_new : (k : G.Key) (b : ℕ) (x : G.Value) → latest G (upto G R after.line) k ≡ Some (b, Some x) → (p : ℕ) × ((v : Ver G) × (At G vs p v × ((v.key ≡ k) × (shown G after.line R v ≡ true))))
        complete_new k b x e = go (last G t.moves k) refl (sym (ap (λ l. latest G l k) (whole R le)) ∙ e)
          where
            go : (o : Option (Option G.Value)) → last G t.moves k ≡ o → stamped (s.clock + 1) o (latest G s.line k) ≡ Some (b, Some x) → (p : ℕ) × ((v : Ver G) × (At G vs p v × ((v.key ≡ k) × (shown G after.line R v ≡ true))))
            go None q e =
                let r = now.complete k b x (ap (λ l. latest G l k) whole_old ∙ e) in
                (r.0, (r.1.0, (r.1.1.0, (r.1.1.1.0, shown_still R r.0 r.1.0 le r.1.1.0 (sym (Rattle.rules.proofs.Lines.given_last G t.moves r.1.0.key) ∙ ap (λ z. Rattle.serial.specs.Machine.given (last G t.moves z)) r.1.1.1.0 ∙ ap Rattle.serial.specs.Machine.given q) r.1.1.1.1))))
            go (Some None) q e = let z : ◌≡◌ {A = ℕ × Option G.Value} (s.clock + 1, None) (b, Some x) = some_injective e in absurd (some_none (sym (ap (λ (y : ℕ × Option G.Value). y.1) z)))
            go (Some (Some y)) q e =
                let r = (h.own t i).complete k y q in
                (r.0, (r.1.0, (r.1.1.0, (r.1.1.1.0, shown_own R r.1.0 le r.1.1.1.1.0 r.1.1.1.1.1))))

    shows_prepare : (R : ℕ) → Late G after there R → Shows G vs after.line R
    shows_prepare R late = ⊎_elim (λ lt. old (omega arith) (before late lt)) (λ le. shows_new R (omega arith)) (cases_lt R (s.clock + 1))
      where
        before : Late G after there R → R < s.clock + 1 → Late G s there R
        before (inl z) lt = inl z
        before (inr z) lt = inr (omega arith)

        old : R ≤ s.clock → Late G s there R → Shows G vs after.line R
        old le q =
            let r = h.shows R q in
            let same : (k : G.Key) → latest G (upto G R after.line) k ≡ latest G (upto G R s.line) k = λ k. ap (λ l. latest G l k) (upto_new G R (prepared G (s.clock + 1) t) s.line (omega arith)) in
            record {
              sound = λ p v a e. let z = r.sound p v a (sym (shown_old R v le) ∙ e) in (z.0, (time_keeps (as_end v.begin) z.0 z.1.0, same v.key ∙ z.1.1));
              unique = λ p q v u a b k e f. r.unique p q v u a b k (sym (shown_old R v le) ∙ e) (sym (shown_old R u le) ∙ f);
              complete = λ k b x e. let z = r.complete k b x (sym (same k) ∙ e) in (z.0, (z.1.0, (z.1.1.0, (z.1.1.1.0, shown_old R z.1.0 le ∙ z.1.1.1.1))));
            }

    -- whoever is here was here
    was : (u : Transaction G) → Here G after u → (x : Transaction G) × (Here G s x × ((x.name ≡ u.name) × ((k : G.Key) → touched G x.moves k ≡ touched G u.moves k)))
    was u (inl (inl e)) = (t, (inr i, (ap (λ v. v.name) e, λ k. ap (λ v. touched G v.moves k) e)))
    was u (inl (inr j)) = (u, (inl j, (refl, λ k. refl)))
    was u (inr j) = (u, (inr (In_kept (λ u. not (eqb u.name t.name)) u s.active j).0, (refl, λ k. refl)))

    begins_prepare : (v : Ver G) (x : Begin) → Begins G s there v x → Begins G after there v x
    begins_prepare v (begin.Owner m) q = (q.0, λ u j e. let z = was u j in sym (z.1.1.1 v.key) ∙ q.1 z.0 z.1.0 (z.1.1.0 ∙ e))
    begins_prepare v (begin.Stamp b) q = (let le = q.0 in omega arith, ⊎_elim (λ e. inl e) (λ z. inr (z.0, (inr z.1.0, z.1.1))) q.1)

    begun_prepare : (n : ℕ) (v : Ver G) → BegunBy G s.line n v → BegunBy G after.line n v
    begun_prepare n v z = (z.0, (time_keeps (as_end v.begin) z.0 z.1.0, z.1.1))

    ends_prepare : (v : Ver G) (x : End) → Ends G s there v x → Ends G after there v x
    ends_prepare v (end.Owner m) q = (
      q.0,
      λ u j e. let z = was u j in let r = q.1 z.0 z.1.0 (z.1.1.0 ∙ e) in
          (sym (z.1.1.1 v.key) ∙ r.0, ⊎_elim (λ e. inl e) (λ y. inr (begun_prepare m v y)) r.1),
    )
    ends_prepare v (end.Stamp b) q = (let le = q.0 in omega arith, ⊎_elim (λ e. inl e) (λ z. inr (z.0, (inr z.1.0, (z.1.1.0, (z.1.1.1.0, (z.1.1.1.1.0, begun_prepare z.0.name v z.1.1.1.1.1)))))) q.1)
    ends_prepare v end.Open q = tt

    ended_prepare : (u : Transaction G) → In u after.active → Ended G vs after.line u
    ended_prepare u j R p v le a touch e =
        let k = In_kept (λ u. not (eqb u.name t.name)) u s.active j in
        let old : u.name ≤ s.clock = All_at (λ t. t.name ≤ s.clock) u s.active k.0 (sound G s way).begun in
        let free : touched G t.moves v.key ≡ false = ⊎_elim (λ q. absurd (eqb-false u.name t.name (not-true _ k.1) ((ordered G s way).alone v.key u t k.0 i touch q))) (λ q. q) (cases_Bool (touched G t.moves v.key)) in
        ⊎_elim (λ lt. h.ended u k.0 R p v le a touch (sym (shown_old R v (omega arith)) ∙ e))
        (λ ge. ⊎_elim (λ z. absurd (true≢false (sym (begin_touched p v t a (inr i) z.0) ∙ free))) (λ z. h.ended u k.0 s.clock p v old a touch z.0) (split R p v (omega arith) a e))
        (cases_lt R (s.clock + 1))

    pub shelf_prepare : Shelf G vs there after
    shelf_prepare = record {
      begins = λ p v a. begins_prepare v v.begin (h.begins p v a);
      ends = λ p v a. ends_prepare v v.end (h.ends p v a);
      shows = shows_prepare;
      ended = ended_prepare;
      own = λ u j. h.own u (In_kept (λ u. not (eqb u.name t.name)) u s.active j).0;
      marked = λ u j. h.marked u (In_kept (λ u. not (eqb u.name t.name)) u s.active j).0;
      marked' = λ u j p. marks u j p;
    }
      where
        marks : (u : Transaction G) → In u after.line → pending u.stage ≡ true → Marked G vs u
        marks u (inl e) p k q =
            let z = h.marked t i k (ap (λ v. touched G v.moves k) e ∙ q) in
            (z.0, (z.1.0, (z.1.1.0, (z.1.1.1.0, subst (λ n. Names G n z.1.0) (ap (λ v. v.name) e) z.1.1.1.1))))
        marks u (inr j) p k q = h.marked' u j p k q
