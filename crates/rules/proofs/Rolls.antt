-- The slots and the machine's state stay together. Assumes nothing.
use Rattle.std.proofs.Common.{◌≡◌, ℕ, ◌+◌, ◌≤◌, Bool, true, false, cond, not, eqb, ◌⊎◌, List, [], ◌∷◌, ◌++◌, replicate, is_some, Some, None, Option, sym, refl, ap, ◌∙◌, subst, inl, inr, ⊎_elim, arith}
use Rattle.std.proofs.lemmas.Bool.{false≢true, true≢false, cases_eq, eqb-true, eqb-false, eq-eqb, ne_eqb, and_parts, and_from, or_cases, or_left, or_right, not-true, not_from_false}
use Rattle.seeing.specs.declared.Level.{Level}
use Rattle.seeing.specs.declared.Phase.TheVariants.{Preparing, Validated}
use Rattle.seeing.specs.declared.Transaction.{Transaction as Sitter}
use Rattle.rules.specs.Lists.{all}
use Rattle.seeing.specs.Phases.{is_serializable}
use Rattle.seeing.specs.Slots.{Slots, find}
use Rattle.rules.specs.Slots.{with_waits, with_phase, fresh, seat, answered}
use Rattle.rules.specs.Slots as slots
use Rattle.serial.specs.Lists.{In, All, keep, change}
use Rattle.serial.specs.Machine.{Game, Transaction, State, Stage, active, preparing, validated, committed, pending, Pending, moved, prepared, passed, newborn, Reached}
use Rattle.serial.proofs.Lists.{All_at, In_right, In_keep, In_change}
use Rattle.serial.proofs.Steps.{sound}
use Rattle.serial.proofs.Kill.{Any_in}
use Rattle.serial.proofs.Orders.{In_changed, In_kept}
use Rattle.rules.proofs.Times.{Here}
use Rattle.rules.proofs.Relation.{mark_at, Tidy, stored, phase_of, Suits, Seated, Fallen, Roll}
use Rattle.rules.proofs.Slots.{some_injective, Alike, single_alike, length_alike, stored_found, stored_some, stored_alike, alike_change, find_change_other, find_change_same, find_seat_other, find_seat_same, length_seat, single_seat}
use Rattle.rules.proofs.Marks.{mark_alike, tidy_alike, mark_seat, tidy_seat, mark_marked_too, tidy_marked_too, mark_nobody, tidy_nobody, member, marked_too}
use Rattle.rules.proofs.Sight.{across, same_line}
use Rattle.rules.proofs.Lines.{In_left, In_either}

module _ (G : Game) where
  -- the marks say the same over slots that are alike
  pub suits_alike : (ts us : Slots) (t : Transaction G) (u : Sitter) → Alike ts us → Suits G ts t u → Suits G us t u
  suits_alike ts us t u a h = record {
    not_doomed = h.not_doomed;
    level = h.level;
    phase = h.phase;
    waits = λ m. (λ e. (h.waits m).0 (mark_alike ts us u.waits m a ∙ e), λ i. sym (mark_alike ts us u.waits m a) ∙ (h.waits m).1 i);
  }

  pub fallen_alike : (ts us : Slots) (u : Sitter) → Alike ts us → Fallen G ts u → Fallen G us u
  fallen_alike ts us u a f = (f.0, λ m. sym (mark_alike ts us u.waits m a) ∙ f.1 m)

  -- the slots alike; who sits there is told over the old slots
  pub roll_alike : (ts us : Slots) (s s' : State G) → Roll G ts s → Alike ts us → s.clock ≤ s'.clock →
      ((m : ℕ) (u : Sitter) → find us m ≡ Some u → Tidy ts u.waits) →
      ((t : Transaction G) → In t s'.active → (t.stage ≡ active) × ((u : Sitter) × ((find us t.name ≡ Some u) × Suits G ts t u))) →
      ((t : Transaction G) → In t s'.line → pending t.stage ≡ true → (u : Sitter) × ((find us t.name ≡ Some u) × Suits G ts t u)) →
      ((t : Transaction G) → In t s'.line → t.stage ≡ active → ⊥) →
      ((t : Transaction G) (u : Sitter) → In t s'.line → find us t.name ≡ Some u → Suits G ts t u) →
      ((m : ℕ) (u : Sitter) → find us m ≡ Some u → Fallen G ts u ⊎ ((t : Transaction G) × (Here G s' t × (t.name ≡ m)))) → Roll G us s'
  roll_alike ts us s s' r a le tidy work wait lined done known = record {
    full = length_alike ts us a ∙ r.full;
    single = single_alike ts us a r.single;
    old = λ m u e. let z = stored_found ts m (sym (stored_alike ts us m a) ∙ stored_some us m u e) in let q = r.old m z.0 z.1 in omega arith;
    tidy = λ m u e. tidy_alike ts us u.waits a (tidy m u e);
    at_work = λ t i. let z = work t i in (z.0, (z.1.0, (z.1.1.0, suits_alike ts us t z.1.0 a z.1.1.1)));
    waiting = λ t i p. let z = wait t i p in (z.0, (z.1.0, suits_alike ts us t z.0 a z.1.1));
    lined = lined;
    done = λ t u i e. suits_alike ts us t u a (done t u i e);
    known = λ m u e. ⊎_elim (λ f. inl (fallen_alike ts us u a f)) (λ z. inr z) (known m u e);
  }

  -- one alone changes
  module _ (ts : Slots) (s s' : State G) (r : Roll G ts s) (n : ℕ) (f : Sitter → Sitter) (named : (u : Sitter) → (f u).name ≡ u.name) (u : Sitter) (found : find ts n ≡ Some u) where
    pub roll_one : s.clock ≤ s'.clock → Tidy ts (f u).waits →
        ((t : Transaction G) → In t s'.active → ((t.name ≡ n) × ((t.stage ≡ active) × Suits G ts t (f u))) ⊎ ((t.name ≡ n → ⊥) × In t s.active)) →
        ((t : Transaction G) → In t s'.line → ((t.name ≡ n) × ((t.stage ≡ active → ⊥) × Suits G ts t (f u))) ⊎ ((t.name ≡ n → ⊥) × In t s.line)) →
        ((t : Transaction G) → Here G s t → (t.name ≡ n → ⊥) → Here G s' t) →
        Fallen G ts (f u) ⊎ ((t : Transaction G) × (Here G s' t × (t.name ≡ n))) → Roll G (slots.change n f ts) s'
    roll_one le tidy work line stay here =
        roll_alike ts (slots.change n f ts) s s' r (alike_change n f named ts) le tidy'
        (λ t i. work' t (work t i)) (λ t i p. wait' t i p (line t i)) (λ t i. lined' t (line t i)) (λ t v i e. done' t v e (line t i)) known'
      where
        at_n : find (slots.change n f ts) n ≡ Some (f u)
        at_n = find_change_same n f named ts u found

        other : (m : ℕ) → (m ≡ n → ⊥) → find (slots.change n f ts) m ≡ find ts m
        other m d = find_change_other n f named ts m d

        tidy' : (m : ℕ) (v : Sitter) → find (slots.change n f ts) m ≡ Some v → Tidy ts v.waits
        tidy' m v e = ⊎_elim (λ q. subst (λ x. Tidy ts x.waits) (some_injective (sym at_n ∙ ap (find (slots.change n f ts)) (sym q) ∙ e)) tidy) (λ d. r.tidy m v (sym (other m d) ∙ e)) (cases_eq m n)

        work' : (t : Transaction G) → ((t.name ≡ n) × ((t.stage ≡ active) × Suits G ts t (f u))) ⊎ ((t.name ≡ n → ⊥) × In t s.active) → (t.stage ≡ active) × ((v : Sitter) × ((find (slots.change n f ts) t.name ≡ Some v) × Suits G ts t v))
        work' t (inl z) = (z.1.0, (f u, (ap (find (slots.change n f ts)) z.0 ∙ at_n, z.1.1)))
        work' t (inr z) = let q = r.at_work t z.1 in (q.0, (q.1.0, (other t.name z.0 ∙ q.1.1.0, q.1.1.1)))

        wait' : (t : Transaction G) → In t s'.line → pending t.stage ≡ true → ((t.name ≡ n) × ((t.stage ≡ active → ⊥) × Suits G ts t (f u))) ⊎ ((t.name ≡ n → ⊥) × In t s.line) → (v : Sitter) × ((find (slots.change n f ts) t.name ≡ Some v) × Suits G ts t v)
        wait' t i p (inl z) = (f u, (ap (find (slots.change n f ts)) z.0 ∙ at_n, z.1.1))
        wait' t i p (inr z) = let q = r.waiting t z.1 p in (q.0, (other t.name z.0 ∙ q.1.0, q.1.1))

        lined' : (t : Transaction G) → ((t.name ≡ n) × ((t.stage ≡ active → ⊥) × Suits G ts t (f u))) ⊎ ((t.name ≡ n → ⊥) × In t s.line) → t.stage ≡ active → ⊥
        lined' t (inl z) = z.1.0
        lined' t (inr z) = r.lined t z.1

        done' : (t : Transaction G) (v : Sitter) → find (slots.change n f ts) t.name ≡ Some v → ((t.name ≡ n) × ((t.stage ≡ active → ⊥) × Suits G ts t (f u))) ⊎ ((t.name ≡ n → ⊥) × In t s.line) → Suits G ts t v
        done' t v e (inl z) = subst (Suits G ts t) (some_injective (sym at_n ∙ ap (find (slots.change n f ts)) (sym z.0) ∙ e)) z.1.1
        done' t v e (inr z) = r.done t v z.1 (sym (other t.name z.0) ∙ e)

        known' : (m : ℕ) (v : Sitter) → find (slots.change n f ts) m ≡ Some v → Fallen G ts v ⊎ ((t : Transaction G) × (Here G s' t × (t.name ≡ m)))
        known' m v e = ⊎_elim (λ q. at q here) (λ d. ⊎_elim (λ z. inl z) (λ z. inr (z.0, (stay z.0 z.1.0 (λ y. d (sym z.1.1 ∙ y)), z.1.1))) (r.known m v (sym (other m d) ∙ e))) (cases_eq m n)
          where
            at : m ≡ n → Fallen G ts (f u) ⊎ ((t : Transaction G) × (Here G s' t × (t.name ≡ n))) → Fallen G ts v ⊎ ((t : Transaction G) × (Here G s' t × (t.name ≡ m)))
            at q (inl z) = inl (subst (Fallen G ts) (some_injective (sym at_n ∙ ap (find (slots.change n f ts)) (sym q) ∙ e)) z)
            at q (inr z) = inr (z.0, (z.1.0, z.1.1 ∙ sym q))

  module _ (ts : Slots) (s : State G) (way : Reached G s) (r : Roll G ts s) where
    -- the waits that W calls for are entered
    in_member : (m : ℕ) (W : List ℕ) → In m W → member m W ≡ true
    in_member m [] i = absurd i
    in_member m (x ∷ W) (inl e) = or_left _ _ (eq-eqb m x (sym e))
    in_member m (x ∷ W) (inr i) = or_right (eqb m x) _ (in_member m W i)

    member_in : (m : ℕ) (W : List ℕ) → member m W ≡ true → In m W
    member_in m [] e = absurd (false≢true e)
    member_in m (x ∷ W) e = ⊎_elim (λ q. inl (sym (eqb-true m x q))) (λ q. inr (member_in m W q)) (or_cases (eqb m x) (member m W) e)

    pub enter_waits : (W ws : List ℕ) (bs : List Bool) → Tidy ts bs → All (Pending G s.line) W → ((m : ℕ) → (mark_at ts bs m ≡ true → In m ws) × (In m ws → mark_at ts bs m ≡ true)) →
        (m : ℕ) → (mark_at ts (marked_too ts W bs) m ≡ true → In m (W ++ ws)) × (In m (W ++ ws) → mark_at ts (marked_too ts W bs) m ≡ true)
    enter_waits W ws bs d pend h m = (
      λ e. ⊎_elim (λ q. In_right m W ws ((h m).0 q)) (λ q. In_left m W ws (member_in m W (and_parts (stored ts m) (member m W) q).1)) (or_cases _ _ (sym (mark_marked_too ts W bs m d) ∙ e)),
      λ i. mark_marked_too ts W bs m d ∙ ⊎_elim (λ j. or_right (mark_at ts bs m) _ (and_from _ _ (there j) (in_member m W j))) (λ j. or_left _ _ ((h m).1 j)) (In_either m W ws i),
    )
      where
        there : In m W → stored ts m ≡ true
        there j =
            let z = Any_in (λ t. (t.name ≡ m) × (pending t.stage ≡ true)) s.line (All_at (Pending G s.line) m W j pend) in
            let y = r.waiting z.0 z.1.0 z.1.1.1 in
            stored_some ts m y.0 (ap (find ts) (sym z.1.1.0) ∙ y.1.0)

    -- a move: the waits of the mover grow, and it may make a note
    pub roll_move : (n made : ℕ) (m : G.Move) (W : List ℕ) (ws : List Bool) (t : Transaction G) (u : Sitter) → find ts n ≡ Some u → In t s.active → t.name ≡ n → All (Pending G s.line) W → ws ≡ marked_too ts W u.waits →
        Roll G (slots.change n (answered made ws) ts) (record { clock = s.clock; active = change (moved G n m W) s.active; line = s.line })
    roll_move n made m W ws t u e i q pend is =
        roll_one ts s _ r n (answered made ws) (λ v. refl) u e (omega arith) (subst (Tidy ts) (sym is) (tidy_marked_too ts W u.waits (r.tidy n u e)))
        (λ x' j. let z = In_changed (moved G n m W) x' s.active j in work x' z.0 z.1.0 z.1.1 (cases_eq x'.name n))
        (λ x j. inr (λ y. across G ts s way r x t j i (y ∙ sym q), j))
        (λ x j d. stay x j d) (inr (moved G n m W t, (inr (In_change (moved G n m W) t s.active i), q)))
      where
        same : (x : Transaction G) → (x.name ≡ n → ⊥) → x ≡ moved G n m W x
        same x d = λ i. record { name = x.name; ser = x.ser; end = x.end; stage = x.stage; moves = (sym (ap (λ b. cond b (m ∷ x.moves) x.moves) (ne_eqb x.name n d))) i; waits = (sym (ap (λ b. cond b (W ++ x.waits) x.waits) (ne_eqb x.name n d))) i }

        suits : (x : Transaction G) → x.name ≡ n → Suits G ts x u → Suits G ts (moved G n m W x) (answered made ws u)
        suits x y h = record {
          not_doomed = h.not_doomed;
          level = h.level;
          phase = h.phase;
          waits = λ w. subst (λ (bs : List Bool). (mark_at ts bs w ≡ true → In w (moved G n m W x).waits) × (In w (moved G n m W x).waits → mark_at ts bs w ≡ true)) (sym is)
              (subst (λ vs. (mark_at ts (marked_too ts W u.waits) w ≡ true → In w vs) × (In w vs → mark_at ts (marked_too ts W u.waits) w ≡ true)) (sym (ap (λ b. cond b (W ++ x.waits) x.waits) (eq-eqb x.name n y)))
              (enter_waits W x.waits u.waits (r.tidy n u e) pend h.waits w));
        }

        work : (x' x : Transaction G) → In x s.active → moved G n m W x ≡ x' → (x'.name ≡ n) ⊎ (x'.name ≡ n → ⊥) →
            ((x'.name ≡ n) × ((x'.stage ≡ active) × Suits G ts x' (answered made ws u))) ⊎ ((x'.name ≡ n → ⊥) × In x' s.active)
        work x' x j z (inl y) =
            let a = r.at_work x j in let xn : x.name ≡ n = ap (λ v. v.name) z ∙ y in
            inl (y, (ap (λ v. v.stage) (sym z) ∙ a.0, subst (λ v. Suits G ts v (answered made ws u)) z (suits x xn (subst (Suits G ts x) (some_injective (sym a.1.1.0 ∙ ap (find ts) xn ∙ e)) a.1.1.1))))
        work x' x j z (inr d) = inr (d, subst (λ v. In v s.active) (same x (λ y. d (ap (λ v. v.name) (sym z) ∙ y)) ∙ z) j)

        stay : (x : Transaction G) → Here G s x → (x.name ≡ n → ⊥) → Here G (record { clock = s.clock; active = change (moved G n m W) s.active; line = s.line }) x
        stay x (inl j) d = inl j
        stay x (inr j) d = inr (subst (λ v. In v (change (moved G n m W) s.active)) (sym (same x d)) (In_change (moved G n m W) x s.active j))

    -- one takes its end stamp
    pub roll_prepare : (n : ℕ) (t : Transaction G) (u : Sitter) → find ts n ≡ Some u → In t s.active → t.name ≡ n →
        Roll G (slots.change n (with_phase (Preparing (s.clock + 1))) ts) (record { clock = s.clock + 1; active = keep (λ x. not (eqb x.name t.name)) s.active; line = prepared G (s.clock + 1) t ∷ s.line })
    roll_prepare n t u e i q =
        roll_one ts s _ r n (with_phase (Preparing (s.clock + 1))) (λ v. refl) u e (omega arith) (r.tidy n u e)
        (λ x j. let z = In_kept others x s.active j in inr (λ y. eqb-false x.name t.name (not-true _ z.1) (y ∙ sym q), z.0))
        line (λ x j d. stay x j d) (inr (prepared G (s.clock + 1) t, (inl (inl refl), q)))
      where
        others : Transaction G → Bool
        others x = not (eqb x.name t.name)

        suits : Suits G ts (prepared G (s.clock + 1) t) (with_phase (Preparing (s.clock + 1)) u)
        suits = let a = r.at_work t i in let h = subst (Suits G ts t) (some_injective (sym a.1.1.0 ∙ ap (find ts) q ∙ e)) a.1.1.1 in
            record { not_doomed = h.not_doomed; level = h.level; phase = refl; waits = h.waits }

        line : (x : Transaction G) → In x (prepared G (s.clock + 1) t ∷ s.line) → ((x.name ≡ n) × ((x.stage ≡ active → ⊥) × Suits G ts x (with_phase (Preparing (s.clock + 1)) u))) ⊎ ((x.name ≡ n → ⊥) × In x s.line)
        line x (inl z) = inl (ap (λ v. v.name) (sym z) ∙ q, ((λ y. false≢true (sym (ap is_active (ap (λ v. v.stage) z ∙ y)))), subst (λ v. Suits G ts v (with_phase (Preparing (s.clock + 1)) u)) z suits))
          where
            is_active : Stage → Bool
            is_active active = false
            is_active preparing = true
            is_active validated = true
            is_active committed = true
        line x (inr j) = inr (λ y. across G ts s way r x t j i (y ∙ sym q), j)

        stay : (x : Transaction G) → Here G s x → (x.name ≡ n → ⊥) → Here G (record { clock = s.clock + 1; active = keep (λ x. not (eqb x.name t.name)) s.active; line = prepared G (s.clock + 1) t ∷ s.line }) x
        stay x (inl j) d = inl (inr j)
        stay x (inr j) d = inr (In_keep others x s.active (not_from_false _ (ne_eqb x.name t.name (λ y. d (y ∙ q)))) j)

    -- one is validated, and its waits grow
    pub roll_pass : (n : ℕ) (W : List ℕ) (t : Transaction G) (u : Sitter) (e : ℕ) → find ts n ≡ Some u → In t s.line → t.name ≡ n → t.end ≡ e → t.stage ≡ preparing → All (Pending G s.line) W →
        Roll G (slots.change n (λ v. with_waits (marked_too ts W v.waits) (with_phase (Validated e) v)) ts) (record { clock = s.clock; active = s.active; line = change (passed G n W) s.line })
    roll_pass n W t u e found i q ends st pend =
        roll_one ts s _ r n (λ v. with_waits (marked_too ts W v.waits) (with_phase (Validated e) v)) (λ v. refl) u found (omega arith) (tidy_marked_too ts W u.waits (r.tidy n u found))
        (λ x j. inr (λ y. across G ts s way r t x i j (q ∙ sym y), j))
        (λ x' j. let z = In_changed (passed G n W) x' s.line j in line x' z.0 z.1.0 z.1.1 (cases_eq x'.name n))
        (λ x j d. stay x j d) (inr (passed G n W t, (inl (In_change (passed G n W) t s.line i), q)))
      where
        same : (x : Transaction G) → (x.name ≡ n → ⊥) → x ≡ passed G n W x
        same x d = λ i. record { name = x.name; ser = x.ser; end = x.end; moves = x.moves; stage = (sym (ap (λ b. cond b validated x.stage) (ne_eqb x.name n d))) i; waits = (sym (ap (λ b. cond b (W ++ x.waits) x.waits) (ne_eqb x.name n d))) i }

        suits : Suits G ts t u → Suits G ts (passed G n W t) (with_waits (marked_too ts W u.waits) (with_phase (Validated e) u))
        suits h = record {
          not_doomed = h.not_doomed;
          level = h.level;
          phase = ap Validated (sym ends) ∙ ap (λ b. phase_of (cond b validated t.stage) t.end) (sym (eq-eqb t.name n q));
          waits = λ w. subst (λ ws. (mark_at ts (marked_too ts W u.waits) w ≡ true → In w ws) × (In w ws → mark_at ts (marked_too ts W u.waits) w ≡ true)) (sym (ap (λ b. cond b (W ++ t.waits) t.waits) (eq-eqb t.name n q)))
              (enter_waits W t.waits u.waits (r.tidy n u found) pend h.waits w);
        }

        line : (x' x : Transaction G) → In x s.line → passed G n W x ≡ x' → (x'.name ≡ n) ⊎ (x'.name ≡ n → ⊥) →
            ((x'.name ≡ n) × ((x'.stage ≡ active → ⊥) × Suits G ts x' (with_waits (marked_too ts W u.waits) (with_phase (Validated e) u)))) ⊎ ((x'.name ≡ n → ⊥) × In x' s.line)
        line x' x j z (inl y) =
            let one : x ≡ t = same_line G ts s way r x t j i (ap (λ v. v.name) z ∙ y ∙ sym q) in
            let two : passed G n W t ≡ x' = ap (passed G n W) (sym one) ∙ z in
            inl (
              y,
              (
                (λ a. false≢true (sym (ap late (ap (λ b. cond b validated t.stage) (sym (eq-eqb t.name n q)) ∙ ap (λ v. v.stage) two ∙ a)))),
                subst (λ v. Suits G ts v (with_waits (marked_too ts W u.waits) (with_phase (Validated e) u))) two (suits (r.done t u i (ap (find ts) q ∙ found))),
              ),
            )
          where
            late : Stage → Bool
            late active = false
            late preparing = true
            late validated = true
            late committed = true
        line x' x j z (inr d) = inr (d, subst (λ v. In v s.line) (same x (λ y. d (ap (λ v. v.name) (sym z) ∙ y)) ∙ z) j)

        stay : (x : Transaction G) → Here G s x → (x.name ≡ n → ⊥) → Here G (record { clock = s.clock; active = s.active; line = change (passed G n W) s.line }) x
        stay x (inl j) d = inl (subst (λ v. In v (change (passed G n W) s.line)) (sym (same x d)) (In_change (passed G n W) x s.line j))
        stay x (inr j) d = inr j

    -- one begins
    pub roll_begin : (l : Level) → all is_some ts ≡ false → Roll G (seat (fresh (s.clock + 1) l) ts) (record { clock = s.clock + 1; active = newborn G (s.clock + 1) (is_serializable l) ∷ s.active; line = s.line })
    roll_begin l free = record {
      full = length_seat new ts ∙ r.full;
      single = single_seat new ts unknown r.single;
      old = λ m u e. ⊎_elim (λ q. omega arith) (λ d. let z = r.old m u (sym (find_seat_other new ts m d) ∙ e) in omega arith) (cases_eq m (s.clock + 1));
      tidy = λ m u e. tidy_seat new ts u.waits (⊎_elim (λ q. subst (λ v. Tidy ts v.waits) (some_injective (sym at_n ∙ ap (find (seat new ts)) (sym q) ∙ e)) (subst (λ k. Tidy ts (replicate k false)) r.full (tidy_nobody ts)))
          (λ d. r.tidy m u (sym (find_seat_other new ts m d) ∙ e)) (cases_eq m (s.clock + 1)));
      at_work = λ t i. work t i;
      waiting = λ t i p. let z = r.waiting t i p in (z.0, (kept t.name z.0 z.1.0, suits t z.0 z.1.0 z.1.1));
      lined = r.lined;
      done = λ t u i e. ⊎_elim (λ q. absurd (let le = All_at (λ t. t.name ≤ s.clock) t s.line i (sound G s way).begun' in omega arith)) (λ d. let e' = sym (find_seat_other new ts t.name d) ∙ e in suits t u e' (r.done t u i e')) (cases_eq t.name (s.clock + 1));
      known = λ m u e. ⊎_elim (λ q. inr (newborn G (s.clock + 1) (is_serializable l), (inr (inl refl), sym q)))
          (λ d. let e' = sym (find_seat_other new ts m d) ∙ e in ⊎_elim (λ f. inl (f.0, λ x. mark_seat new ts u.waits x unknown (r.tidy m u e') ∙ f.1 x)) (λ z. inr (z.0, (more z.0 z.1.0, z.1.1))) (r.known m u e')) (cases_eq m (s.clock + 1));
    }
      where
        new : Sitter
        new = fresh (s.clock + 1) l

        unknown : find ts (s.clock + 1) ≡ None
        unknown = go (find ts (s.clock + 1)) refl
          where
            go : (o : Option Sitter) → find ts (s.clock + 1) ≡ o → find ts (s.clock + 1) ≡ None
            go None e = e
            go (Some u) e = absurd (let z = r.old (s.clock + 1) u e in omega arith)

        at_n : find (seat (fresh (s.clock + 1) l) ts) (s.clock + 1) ≡ Some (fresh (s.clock + 1) l)
        at_n = find_seat_same (fresh (s.clock + 1) l) ts free unknown

        kept : (m : ℕ) (u : Sitter) → find ts m ≡ Some u → find (seat new ts) m ≡ Some u
        kept m u e = find_seat_other new ts m (λ q. let z = r.old m u e in omega arith) ∙ e

        suits : (t : Transaction G) (u : Sitter) → find ts t.name ≡ Some u → Suits G ts t u → Suits G (seat new ts) t u
        suits t u e h = record {
          not_doomed = h.not_doomed;
          level = h.level;
          phase = h.phase;
          waits = λ m. let q = mark_seat new ts u.waits m unknown (r.tidy t.name u e) in (λ x. (h.waits m).0 (sym q ∙ x), λ i. q ∙ (h.waits m).1 i);
        }

        more : (t : Transaction G) → Here G s t → Here G (record { clock = s.clock + 1; active = newborn G (s.clock + 1) (is_serializable l) ∷ s.active; line = s.line }) t
        more t (inl i) = inl i
        more t (inr i) = inr (inr i)

        work : (t : Transaction G) → In t (newborn G (s.clock + 1) (is_serializable l) ∷ s.active) → (t.stage ≡ active) × Seated G (seat new ts) t
        work t (inl e) = subst (λ v. (v.stage ≡ active) × Seated G (seat new ts) v) e (
          refl,
          (
            new,
            (
              at_n,
              record {
                not_doomed = refl;
                level = refl;
                phase = refl;
                waits = λ m. (λ x. absurd (true≢false (sym x ∙ mark_nobody (seat new ts) 64 m)), λ i. absurd i);
              },
            ),
          ),
        )
        work t (inr i) = let z = r.at_work t i in (z.0, (z.1.0, (kept t.name z.1.0 z.1.1.0, suits t z.1.0 z.1.1.0 z.1.1.1)))
