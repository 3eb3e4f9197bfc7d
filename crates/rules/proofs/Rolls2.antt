-- The slots and the machine's state at a commit, at deaths and at a finish. Assumes nothing.
use Rattle.std.proofs.Common.{◌≡◌, ℕ, Bool, true, false, cond, not, ◌&&◌, eqb, ◌⊎◌, List, [], ◌∷◌, map, length, replicate, Some, None, Option, sym, refl, ap, ◌∙◌, subst, inl, inr, ⊎_elim, arith}
use Rattle.std.proofs.lemmas.Bool.{false≢true, true≢false, cases_Bool, cases_eq, eqb-false, eq-eqb, ne_eqb, both_ways, and_parts, and_from, and_left, not-true, not_from_false}
use Rattle.seeing.specs.declared.Phase.TheVariants.{Committed, Aborted}
use Rattle.seeing.specs.declared.Transaction.{Transaction as Sitter}
use Rattle.std.specs.Option.{option_map}
use Rattle.seeing.specs.Phases.{is_over, phase_to_others}
use Rattle.seeing.specs.Slots.{Slots, find}
use Rattle.rules.specs.Slots.{with_waits, with_phase, nobody, unseat, release}
use Rattle.rules.specs.Aborting.{doom, doom_marked}
use Rattle.rules.specs.Slots as slots
use Rattle.serial.specs.Lists.{In, All, keep, change, without}
use Rattle.serial.specs.Machine.{Game, Transaction, State, Stage, active, preparing, validated, committed, pending, resolved, freed, Spared, Reached}
use Rattle.serial.proofs.Lists.{All_at, In_keep, In_change, In_without}
use Rattle.serial.proofs.Steps.{sound}
use Rattle.serial.proofs.Kill.{All_in}
use Rattle.serial.proofs.Orders.{In_changed, In_kept}
use Rattle.rules.proofs.Times.{Here}
use Rattle.rules.proofs.Relation.{mark_at, Tidy, phase_of, Suits, Fallen, Roll}
use Rattle.rules.proofs.Slots.{some_injective, some_none, Alike, alike_change, find_change_other, find_change_same, alike_map, find_map, length_unseat, find_unseat_other, find_unseat_same, single_unseat}
use Rattle.rules.proofs.Marks.{mark_alike, tidy_alike, mark_unknown, mark_unseat, tidy_unseat, mark_unmarked, tidy_unmarked, mark_nobody, tidy_nobody, release_map, unmarked}
use Rattle.rules.proofs.Drag.{alike_doom, find_doom_same, find_doom_other}
use Rattle.rules.proofs.Sight.{across, same_line}
use Rattle.rules.proofs.Rolls.{roll_alike}
use Rattle.rules.proofs.Lines.{settled_stage}

pub alike_trans : (a b c : Slots) → Alike a b → Alike b c → Alike a c
alike_trans [] [] [] p q = tt
alike_trans [] [] (z ∷ c) p q = absurd q
alike_trans [] (y ∷ b) c p q = absurd p
alike_trans (x ∷ a) [] c p q = absurd p
alike_trans (None ∷ a) (None ∷ b) [] p q = absurd q
alike_trans (None ∷ a) (None ∷ b) (None ∷ c) p q = alike_trans a b c p q
alike_trans (None ∷ a) (None ∷ b) (Some z ∷ c) p q = absurd q
alike_trans (None ∷ a) (Some y ∷ b) c p q = absurd p
alike_trans (Some x ∷ a) (None ∷ b) c p q = absurd p
alike_trans (Some x ∷ a) (Some y ∷ b) [] p q = absurd q
alike_trans (Some x ∷ a) (Some y ∷ b) (None ∷ c) p q = absurd q
alike_trans (Some x ∷ a) (Some y ∷ b) (Some z ∷ c) p q = (p.0 ∙ q.0, alike_trans a b c p.1 q.1)

was_some : (f : Sitter → Sitter) (o : Option Sitter) (u' : Sitter) → option_map f o ≡ Some u' → (u : Sitter) × ((o ≡ Some u) × (f u ≡ u'))
was_some f None u' e = absurd (some_none (sym e))
was_some f (Some u) u' e = (u, (refl, some_injective e))

abbrev late : Stage → Bool
late active = false
late preparing = true
late validated = true
late committed = true

module _ (G : Game) (ts : Slots) (s : State G) (way : Reached G s) (r : Roll G ts s) where
  -- In without n
  In_less : (n m : ℕ) (ws : List ℕ) → In m (without n ws) → In m ws × (m ≡ n → ⊥)
  In_less n m ws i = let z = In_kept (λ x. not (eqb x n)) m ws i in (z.0, eqb-false m n (not-true _ z.1))

  module _ (n e : ℕ) (t : Transaction G) (u : Sitter) (found : find ts n ≡ Some u) (i : In t s.line) (q : t.name ≡ n) (ends : t.end ≡ e) (st : t.stage ≡ validated) where
    abbrev pub slots₁ : Slots
    slots₁ = slots.change n (with_phase (Committed e)) ts

    abbrev pub let_go : Sitter → Sitter
    let_go v = with_waits (unmarked (slots.change n (with_phase (Committed e)) ts) n v.waits) v

    abbrev pub resolves : State G
    resolves = record { clock = s.clock; active = change (freed G n) s.active; line = change (resolved G n) s.line }

    alike₁ : Alike ts slots₁
    alike₁ = alike_change n (with_phase (Committed e)) (λ v. refl) ts

    pub alike₂ : Alike ts (release n slots₁)
    alike₂ = subst (Alike ts) (sym (release_map n slots₁)) (alike_trans ts slots₁ (map (option_map let_go) slots₁) alike₁ (alike_map let_go (λ v. refl) slots₁))

    found₂ : (m : ℕ) → find (release n slots₁) m ≡ option_map let_go (find slots₁ m)
    found₂ m = ap (λ x. find x m) (release_map n slots₁) ∙ find_map let_go (λ v. refl) slots₁ m

    at_other : (m : ℕ) (v : Sitter) → (m ≡ n → ⊥) → find ts m ≡ Some v → find (release n slots₁) m ≡ Some (let_go v)
    at_other m v d f = found₂ m ∙ ap (option_map let_go) (find_change_other n (with_phase (Committed e)) (λ v. refl) ts m d ∙ f)

    at_n : find (release n slots₁) n ≡ Some (let_go (with_phase (Committed e) u))
    at_n = found₂ n ∙ ap (option_map let_go) (find_change_same n (with_phase (Committed e)) (λ v. refl) ts u found)

    pub from : (m : ℕ) (v' : Sitter) → find (release n slots₁) m ≡ Some v' → ((m ≡ n) × (let_go (with_phase (Committed e) u) ≡ v')) ⊎ ((m ≡ n → ⊥) × ((v : Sitter) × ((find ts m ≡ Some v) × (let_go v ≡ v'))))
    from m v' f = ⊎_elim (λ y. inl (y, some_injective (sym at_n ∙ ap (find (release n slots₁)) (sym y) ∙ f)))
        (λ d. inr (d, was_some let_go (find ts m) v' (ap (option_map let_go) (sym (find_change_other n (with_phase (Committed e)) (λ v. refl) ts m d)) ∙ sym (found₂ m) ∙ f))) (cases_eq m n)

    marks : (bs : List Bool) (m : ℕ) → mark_at ts (unmarked slots₁ n bs) m ≡ (mark_at ts bs m && not (eqb m n))
    marks bs m = mark_alike ts slots₁ (unmarked slots₁ n bs) m alike₁ ∙ mark_unmarked slots₁ n bs m ∙ ap (λ b. b && not (eqb m n)) (sym (mark_alike ts slots₁ bs m alike₁))

    less : (ws : List ℕ) (bs : List Bool) → ((m : ℕ) → (mark_at ts bs m ≡ true → In m ws) × (In m ws → mark_at ts bs m ≡ true)) →
        (m : ℕ) → (mark_at ts (unmarked slots₁ n bs) m ≡ true → In m (without n ws)) × (In m (without n ws) → mark_at ts (unmarked slots₁ n bs) m ≡ true)
    less ws bs h m = (
      λ y. let z = and_parts _ _ (sym (marks bs m) ∙ y) in In_without n m ws (eqb-false m n (not-true _ z.1)) ((h m).0 z.0),
      λ j. let z = In_less n m ws j in marks bs m ∙ and_from _ _ ((h m).1 z.0) (not_from_false _ (ne_eqb m n z.1)),
    )

    suits_freed : (x : Transaction G) (v : Sitter) → Suits G ts x v → Suits G ts (freed G n x) (let_go v)
    suits_freed x v h = record { not_doomed = h.not_doomed; level = h.level; phase = h.phase; waits = less x.waits v.waits h.waits }

    suits_resolved : (x : Transaction G) (v : Sitter) → (x.name ≡ n → ⊥) → Suits G ts x v → Suits G ts (resolved G n x) (let_go v)
    suits_resolved x v d h = record { not_doomed = h.not_doomed; level = h.level; phase = h.phase ∙ ap (λ b. phase_of (cond b committed x.stage) x.end) (sym (ne_eqb x.name n d)); waits = less x.waits v.waits h.waits }

    suits_n : Suits G ts t u → Suits G ts (resolved G n t) (let_go (with_phase (Committed e) u))
    suits_n h = record { not_doomed = h.not_doomed; level = h.level; phase = ap Committed (sym ends) ∙ ap (λ b. phase_of (cond b committed t.stage) t.end) (sym (eq-eqb t.name n q)); waits = less t.waits u.waits h.waits }

    line_suits : (x' : Transaction G) (v' : Sitter) → In x' resolves.line → find (release n slots₁) x'.name ≡ Some v' → Suits G ts x' v'
    line_suits x' v' j f = let z = In_changed (resolved G n) x' s.line j in go z.0 z.1.0 z.1.1 (from x'.name v' f)
      where
        go : (x : Transaction G) → In x s.line → resolved G n x ≡ x' → ((x'.name ≡ n) × (let_go (with_phase (Committed e) u) ≡ v')) ⊎ ((x'.name ≡ n → ⊥) × ((v : Sitter) × ((find ts x'.name ≡ Some v) × (let_go v ≡ v')))) → Suits G ts x' v'
        go x k y (inl a) =
            let one : x ≡ t = same_line G ts s way r x t k i (ap (λ v. v.name) y ∙ a.0 ∙ sym q) in
            subst (λ b. Suits G ts x' b) a.1 (subst (λ b. Suits G ts b (let_go (with_phase (Committed e) u))) (ap (resolved G n) (sym one) ∙ y) (suits_n (r.done t u i (ap (find ts) q ∙ found))))
        go x k y (inr a) =
            let xn : x.name ≡ x'.name = ap (λ v. v.name) y in
            subst (λ b. Suits G ts x' b) a.1.1.1 (subst (λ b. Suits G ts b (let_go a.1.0)) y (suits_resolved x a.1.0 (λ z. a.0 (sym xn ∙ z)) (r.done x a.1.0 k (ap (find ts) xn ∙ a.1.1.0))))

    here_on : (x : Transaction G) → Here G s x → (x' : Transaction G) × (Here G resolves x' × (x'.name ≡ x.name))
    here_on x (inl j) = (resolved G n x, (inl (In_change (resolved G n) x s.line j), refl))
    here_on x (inr j) = (freed G n x, (inr (In_change (freed G n) x s.active j), refl))

    not_active : (x : Transaction G) → In x s.active → x.name ≡ n → ⊥
    not_active x j y = across G ts s way r t x i j (q ∙ sym y)

    pub roll_commit : Roll G (release n slots₁) resolves
    roll_commit = roll_alike G ts (release n slots₁) s resolves r alike₂ (omega arith)
        (λ m v' f. ⊎_elim (λ a. subst (λ b. Tidy ts b.waits) a.1 (tidied u.waits (r.tidy n u found))) (λ a. subst (λ b. Tidy ts b.waits) a.1.1.1 (tidied a.1.0.waits (r.tidy m a.1.0 a.1.1.0))) (from m v' f))
        (λ x' j. let z = In_changed (freed G n) x' s.active j in let w = r.at_work z.0 z.1.0 in
        subst (λ b. (b.stage ≡ active) × ((v : Sitter) × ((find (release n slots₁) b.name ≡ Some v) × Suits G ts b v))) z.1.1
        (w.0, (let_go w.1.0, (at_other z.0.name w.1.0 (not_active z.0 z.1.0) w.1.1.0, suits_freed z.0 w.1.0 w.1.1.1))))
        (λ x' j p. let z = In_changed (resolved G n) x' s.line j in seat x' j z.0 z.1.0 z.1.1 p)
        (λ x' j a. let z = In_changed (resolved G n) x' s.line j in r.lined z.0 z.1.0 (back z.0 (eqb z.0.name n) (ap (λ v. v.stage) z.1.1 ∙ a)))
        line_suits
        (λ m v' f. known m v' (from m v' f))
      where
        tidied : (bs : List Bool) → Tidy ts bs → Tidy ts (unmarked slots₁ n bs)
        tidied bs d = tidy_alike slots₁ ts (unmarked slots₁ n bs) (flip ts slots₁ alike₁) (tidy_unmarked slots₁ n bs (tidy_alike ts slots₁ bs alike₁ d))
          where
            flip : (a b : Slots) → Alike a b → Alike b a
            flip [] [] h = tt
            flip [] (y ∷ b) h = absurd h
            flip (x ∷ a) [] h = absurd h
            flip (None ∷ a) (None ∷ b) h = flip a b h
            flip (None ∷ a) (Some y ∷ b) h = absurd h
            flip (Some x ∷ a) (None ∷ b) h = absurd h
            flip (Some x ∷ a) (Some y ∷ b) h = (sym h.0, flip a b h.1)

        back : (x : Transaction G) (b : Bool) → cond b committed x.stage ≡ active → x.stage ≡ active
        back x true a = absurd (false≢true (sym (ap late a)))
        back x false a = a

        seat : (x' : Transaction G) → In x' resolves.line → (x : Transaction G) → In x s.line → resolved G n x ≡ x' → pending x'.stage ≡ true → (v : Sitter) × ((find (release n slots₁) x'.name ≡ Some v) × Suits G ts x' v)
        seat x' j x k y p = go (cases_eq x.name n)
          where
            go : (x.name ≡ n) ⊎ (x.name ≡ n → ⊥) → (v : Sitter) × ((find (release n slots₁) x'.name ≡ Some v) × Suits G ts x' v)
            go (inl a) = absurd (false≢true (sym (ap (λ b. pending (cond b committed x.stage)) (eq-eqb x.name n a)) ∙ ap (λ v. pending v.stage) y ∙ p))
            go (inr d) =
                let w = r.waiting x k (ap (λ b. pending (cond b committed x.stage)) (sym (ne_eqb x.name n d)) ∙ ap (λ v. pending v.stage) y ∙ p) in
                subst (λ b. (v : Sitter) × ((find (release n slots₁) b.name ≡ Some v) × Suits G ts b v)) y (let_go w.0, (at_other x.name w.0 d w.1.0, suits_resolved x w.0 d w.1.1))

        known : (m : ℕ) (v' : Sitter) → ((m ≡ n) × (let_go (with_phase (Committed e) u) ≡ v')) ⊎ ((m ≡ n → ⊥) × ((v : Sitter) × ((find ts m ≡ Some v) × (let_go v ≡ v')))) → Fallen G ts v' ⊎ ((x : Transaction G) × (Here G resolves x × (x.name ≡ m)))
        known m v' (inl a) = inr (resolved G n t, (inl (In_change (resolved G n) t s.line i), q ∙ sym a.0))
        known m v' (inr a) = ⊎_elim (λ f. inl (subst (Fallen G ts) a.1.1.1 (f.0, λ x. marks a.1.0.waits x ∙ and_left _ _ (f.1 x))))
            (λ z. let w = here_on z.0 z.1.0 in inr (w.0, (w.1.0, w.1.1 ∙ z.1.1))) (r.known m a.1.0 a.1.1.0)

  -- deaths
  module _ (n : ℕ) (u : Sitter) (found : find ts n ≡ Some u) (not_over : is_over u.phase ≡ false)
      (marks : List Bool) (len : length marks ≡ length ts) (self : mark_at ts marks n ≡ true)
      (closed : (m x : ℕ) (v : Sitter) → find ts m ≡ Some v → mark_at ts v.waits x ≡ true → mark_at ts marks x ≡ true → mark_at ts marks m ≡ true)
      (only : (m : ℕ) (v : Sitter) → find ts m ≡ Some v → ((x : ℕ) → mark_at ts v.waits x ≡ false) → (m ≡ n → ⊥) → mark_at ts marks m ≡ false) where
    abbrev pub alive : ℕ → Bool
    alive m = not (mark_at ts marks m)

    abbrev pub survive : State G
    survive = record { clock = s.clock; active = keep (λ t. alive t.name) s.active; line = keep (λ t. alive t.name) s.line }

    dead_n : alive n ≡ false
    dead_n = ap not self

    not_n : (m : ℕ) → alive m ≡ true → m ≡ n → ⊥
    not_n m a e = both_ways (alive n) dead_n (subst (λ x. alive x ≡ true) e a)

    not_in : (x : ℕ) (ws : List ℕ) → ws ≡ [] → In x ws → ⊥
    not_in x ws e j = subst (In x) e j

    no_marks : (t : Transaction G) (v : Sitter) → t.waits ≡ [] → Suits G ts t v → (m : ℕ) → mark_at ts v.waits m ≡ false
    no_marks t v e h m = ⊎_elim (λ y. absurd (not_in m t.waits e ((h.waits m).0 y))) (λ y. y) (cases_Bool (mark_at ts v.waits m))

    settled_alive : (t : Transaction G) → In t s.line → t.stage ≡ committed → alive t.name ≡ true
    settled_alive t i st = go (find ts t.name) refl
      where
        go : (o : Option Sitter) → find ts t.name ≡ o → alive t.name ≡ true
        go None e = not_from_false _ (mark_unknown ts marks t.name e)
        go (Some v) e =
            let h = r.done t v i e in
            not_from_false _ (only t.name v e (no_marks t v (All_at _ t s.line i (sound G s way).free st) h)
            (λ y. true≢false (sym (ap is_over (ap (λ x. x.phase) (some_injective (sym found ∙ ap (find ts) (sym y) ∙ e)) ∙ h.phase ∙ ap (λ x. phase_of x t.end) st)) ∙ not_over)))

    spare : (t : Transaction G) (v : Sitter) → find ts t.name ≡ Some v → Suits G ts t v → Spared G alive t
    spare t v e h life = All_in _ t.waits (λ w j. not_from_false _ (⊎_elim (λ y. absurd (both_ways _ (ap not (closed t.name w v e ((h.waits w).1 j) y)) life)) (λ y. y) (cases_Bool (mark_at ts marks w))))

    pub lasts : All (λ t. t.stage ≡ committed → alive t.name ≡ true) s.line
    lasts = All_in _ s.line settled_alive

    pub spared : All (Spared G alive) s.active
    spared = All_in _ s.active (λ t i. let z = r.at_work t i in spare t z.1.0 z.1.1.0 z.1.1.1)

    pub spared' : All (Spared G alive) s.line
    spared' = All_in _ s.line (λ t i. go t i (cases_Bool (pending t.stage)))
      where
        go : (t : Transaction G) → In t s.line → (pending t.stage ≡ true) ⊎ (pending t.stage ≡ false) → Spared G alive t
        go t i (inl p) life = let z = r.waiting t i p in spare t z.0 z.1.0 z.1.1 life
        go t i (inr p) life = subst (All (λ w. alive w ≡ true)) (sym (All_at _ t s.line i (sound G s way).free (settled_stage t.stage p))) tt

    abbrev pub fallen_slots : Slots
    fallen_slots = doom_marked n ts marks

    kept : (m : ℕ) (v : Sitter) → alive m ≡ true → find ts m ≡ Some v → find fallen_slots m ≡ Some v
    kept m v a e = find_doom_other n ts marks r.full len m (not_n m a) ∙ ap (option_map (λ t. cond (mark_at ts marks m) (doom t) t)) e ∙ ap (λ b. Some (cond b (doom v) v)) (not-true _ a)

    was : (m : ℕ) (v : Sitter) → alive m ≡ true → find fallen_slots m ≡ Some v → find ts m ≡ Some v
    was m v a e =
        let z = was_some (λ t. cond (mark_at ts marks m) (doom t) t) (find ts m) v (sym (find_doom_other n ts marks r.full len m (not_n m a)) ∙ e) in
        z.1.0 ∙ ap Some (ap (λ b. cond b (doom z.0) z.0) (sym (not-true _ a)) ∙ z.1.1)

    -- whom one finds then: n, another that is dragged along, or one alive
    who : (m : ℕ) (v : Sitter) → find fallen_slots m ≡ Some v → (with_phase Aborted (with_waits nobody u) ≡ v) ⊎ (((w : Sitter) × (doom w ≡ v)) ⊎ (alive m ≡ true))
    who m v e = ⊎_elim (λ y. inl (some_injective (sym (find_doom_same n ts marks r.full len u found) ∙ ap (find fallen_slots) (sym y) ∙ e)))
        (λ d. inr (go d (cases_Bool (mark_at ts marks m)))) (cases_eq m n)
      where
        go : (m ≡ n → ⊥) → (mark_at ts marks m ≡ true) ⊎ (mark_at ts marks m ≡ false) → ((w : Sitter) × (doom w ≡ v)) ⊎ (alive m ≡ true)
        go d (inl y) = let z = was_some (λ t. cond (mark_at ts marks m) (doom t) t) (find ts m) v (sym (find_doom_other n ts marks r.full len m d) ∙ e) in inl (z.0, ap (λ b. cond b (doom z.0) z.0) (sym y) ∙ z.1.1)
        go d (inr y) = inr (ap not y)

    pub roll_kill : Roll G fallen_slots survive
    roll_kill = roll_alike G ts fallen_slots s survive r (alike_doom n ts marks r.full len) (omega arith)
        (λ m v e. tidied m v e (who m v e))
        (λ t j. let z = In_kept (λ t. alive t.name) t s.active j in let w = r.at_work t z.0 in (w.0, (w.1.0, (kept t.name w.1.0 z.1 w.1.1.0, w.1.1.1))))
        (λ t j p. let z = In_kept (λ t. alive t.name) t s.line j in let w = r.waiting t z.0 p in (w.0, (kept t.name w.0 z.1 w.1.0, w.1.1)))
        (λ t j. r.lined t (In_kept (λ t. alive t.name) t s.line j).0)
        (λ t v j e. let z = In_kept (λ t. alive t.name) t s.line j in r.done t v z.0 (was t.name v z.1 e))
        (λ m v e. known m v e (who m v e))
      where
        none : Tidy ts nobody
        none = subst (λ k. Tidy ts (replicate k false)) r.full (tidy_nobody ts)

        down : (b : Bool) → phase_to_others b Aborted ≡ Aborted
        down true = refl
        down false = refl

        tidied : (m : ℕ) (v : Sitter) → find fallen_slots m ≡ Some v → (with_phase Aborted (with_waits nobody u) ≡ v) ⊎ (((w : Sitter) × (doom w ≡ v)) ⊎ (alive m ≡ true)) → Tidy ts v.waits
        tidied m v e (inl y) = subst (λ b. Tidy ts b.waits) y none
        tidied m v e (inr (inl y)) = subst (λ b. Tidy ts b.waits) y.1 none
        tidied m v e (inr (inr a)) = r.tidy m v (was m v a e)

        stay : (t : Transaction G) → alive t.name ≡ true → Here G s t → Here G survive t
        stay t a (inl j) = inl (In_keep (λ t. alive t.name) t s.line a j)
        stay t a (inr j) = inr (In_keep (λ t. alive t.name) t s.active a j)

        known : (m : ℕ) (v : Sitter) → find fallen_slots m ≡ Some v → (with_phase Aborted (with_waits nobody u) ≡ v) ⊎ (((w : Sitter) × (doom w ≡ v)) ⊎ (alive m ≡ true)) → Fallen G ts v ⊎ ((t : Transaction G) × (Here G survive t × (t.name ≡ m)))
        known m v e (inl y) = inl (subst (Fallen G ts) y (down u.doomed, λ x. mark_nobody ts 64 x))
        known m v e (inr (inl y)) = inl (subst (Fallen G ts) y.1 (refl, λ x. mark_nobody ts 64 x))
        known m v e (inr (inr a)) = here (r.known m v (was m v a e))
          where
            here : Fallen G ts v ⊎ ((t : Transaction G) × (Here G s t × (t.name ≡ m))) → Fallen G ts v ⊎ ((t : Transaction G) × (Here G survive t × (t.name ≡ m)))
            here (inl f) = inl f
            here (inr z) = inr (z.0, (stay z.0 (ap alive z.1.1 ∙ a) z.1.0, z.1.1))

  -- one is gone from the slots, which nobody waits on
  pub roll_finish : (n : ℕ) → ((t : Transaction G) → In t s.active → t.name ≡ n → ⊥) → ((t : Transaction G) → In t s.line → pending t.stage ≡ true → t.name ≡ n → ⊥) →
      ((m : ℕ) (u : Sitter) → find ts m ≡ Some u → mark_at ts u.waits n ≡ false) → Roll G (unseat n ts) s
  roll_finish n work line free = record {
    full = length_unseat n ts ∙ r.full;
    single = single_unseat n ts r.single;
    old = λ m u e. r.old m u (found m u e);
    tidy = λ m u e. tidy_unseat n ts u.waits (free m u (found m u e)) (r.tidy m u (found m u e));
    at_work = λ t i. let z = r.at_work t i in (z.0, (z.1.0, (find_unseat_other n ts t.name (work t i) ∙ z.1.1.0, suits t z.1.0 z.1.1.0 z.1.1.1)));
    waiting = λ t i p. let z = r.waiting t i p in (z.0, (find_unseat_other n ts t.name (line t i p) ∙ z.1.0, suits t z.0 z.1.0 z.1.1));
    lined = r.lined;
    done = λ t u i e. suits t u (found t.name u e) (r.done t u i (found t.name u e));
    known = λ m u e. ⊎_elim (λ f. inl (f.0, λ x. mark_unseat n ts u.waits x r.single (free m u (found m u e)) ∙ f.1 x)) (λ z. inr z) (r.known m u (found m u e));
  }
    where
      found : (m : ℕ) (u : Sitter) → find (unseat n ts) m ≡ Some u → find ts m ≡ Some u
      found m u e = ⊎_elim (λ y. absurd (some_none (sym e ∙ ap (find (unseat n ts)) y ∙ find_unseat_same n ts r.single))) (λ d. sym (find_unseat_other n ts m d) ∙ e) (cases_eq m n)

      suits : (t : Transaction G) (u : Sitter) → find ts t.name ≡ Some u → Suits G ts t u → Suits G (unseat n ts) t u
      suits t u e h = record {
        not_doomed = h.not_doomed;
        level = h.level;
        phase = h.phase;
        waits = λ m. let q = mark_unseat n ts u.waits m r.single (free t.name u e) in (λ x. (h.waits m).0 (sym q ∙ x), λ i. q ∙ (h.waits m).1 i);
      }
