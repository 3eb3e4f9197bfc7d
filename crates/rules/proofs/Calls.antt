-- Begin, prepare and tally leave a position good. Assumes nothing.
use Rattle.std.proofs.Common.{◌≡◌, ℕ, ◌+◌, ◌≤◌, true, false, not, eqb, ◌⊎◌, [], ◌∷◌, is_some, Some, None, Option, Ordering, sym, refl, ap, ◌∙◌, subst, inl, inr, ⊎_elim, arith}
use Rattle.std.proofs.lemmas.Bool.{false≢true, cases_eq, eqb-false, not-true}
use Rattle.seeing.specs.declared.Level.{Level}
use Rattle.seeing.specs.declared.Level.TheVariants.{Serializable, Snapshot}
use Rattle.seeing.specs.declared.Phase.{Phase}
use Rattle.seeing.specs.declared.Phase.TheVariants.{Active, Preparing, Validated, Committed, Aborted}
use Rattle.seeing.specs.declared.Transaction.{Transaction as Sitter}
use Rattle.rules.specs.declared.Answer.{Answer}
use Rattle.rules.specs.declared.Call.{Call}
use Rattle.rules.specs.declared.Call.TheVariants as call
use Rattle.keys.specs.Laws.{TotalOrder}
use Rattle.rules.specs.Lists.{all}
use Rattle.seeing.specs.Slots.{Slots, find}
use Rattle.seeing.specs.Phases.{phase_to_others, is_active, is_serializable}
use Rattle.rules.specs.Worlds.{World, with_store}
use Rattle.rules.specs.Slots.{fresh, seat, with_phase}
use Rattle.rules.specs.Slots as slots
use Rattle.rules.specs.Checks.{Checked}
use Rattle.rules.specs.TransactionRules.{begin_rule, prepare_rule, tally_rule}
use Rattle.rules.specs.Runs as runs
use Rattle.rules.specs.Runs.{life, lived, told, Position}
use Rattle.rules.specs.Law.{is_doomed}
use Rattle.serial.specs.Lists.{In, keep}
use Rattle.serial.specs.Machine.{Game, Transaction, State, Stage, active, preparing, validated, committed, pending, newborn, prepared, begin, prepare, Reached, next}
use Rattle.serial.proofs.Lists.{All_at}
use Rattle.serial.proofs.Steps.{sound}
use Rattle.serial.proofs.Orders.{In_kept}
use Rattle.rules.proofs.Game.{game}
use Rattle.rules.proofs.Times.{Here}
use Rattle.rules.proofs.Relation.{stored, level_of, life_of, phase_of, Fallen, Roll, Shelf, Tale, Inv, Good}
use Rattle.rules.proofs.Slots.{some_injective, some_none, stored_found, stored_alike, find_seat_other, find_seat_same, find_change_other, find_change_same, alike_change}
use Rattle.rules.proofs.Sight.{across}
use Rattle.rules.proofs.Checks.{Comes, comes, bind, unless, is_sound}
use Rattle.rules.proofs.Upkeep.{shelf_begin}
use Rattle.rules.proofs.Prepare.{shelf_prepare}
use Rattle.rules.proofs.Rolls.{roll_begin, roll_prepare}
use Rattle.rules.proofs.Guards.{guards_begin, guards_prepare}
use Rattle.rules.proofs.Tales2.{tale_deed, serial_quiet, committed_in}

-- the sitter's phase says where the machine has it
active_phase : (ph : Phase) → is_active ph ≡ true → ph ≡ Active
active_phase Active e = refl
active_phase (Preparing x) e = absurd (false≢true e)
active_phase (Validated x) e = absurd (false≢true e)
active_phase (Committed x) e = absurd (false≢true e)
active_phase Aborted e = absurd (false≢true e)

stage_active : (st : Stage) (e : ℕ) → phase_of st e ≡ Active → st ≡ active
stage_active active e q = refl
stage_active preparing e q = absurd (let z : ◌≡◌ {A = ℕ} 0 1 = cc in omega arith)
stage_active validated e q = absurd (let z : ◌≡◌ {A = ℕ} 0 1 = cc in omega arith)
stage_active committed e q = absurd (let z : ◌≡◌ {A = ℕ} 0 1 = cc in omega arith)

module _ (G : Game) (ts : Slots) (s : State G) (way : Reached G s) (r : Roll G ts s) where
  -- an active sitter that is not doomed is one at work
  pub worker : (n : ℕ) (u : Sitter) → find ts n ≡ Some u → is_active u.phase ≡ true → u.doomed ≡ false → (t : Transaction G) × (In t s.active × (t.name ≡ n))
  worker n u e a d = go (r.known n u e)
    where
      go : Fallen G ts u ⊎ ((t : Transaction G) × (Here G s t × (t.name ≡ n))) → (t : Transaction G) × (In t s.active × (t.name ≡ n))
      go (inl f) = absurd (let q : ◌≡◌ {A = Phase} Active Aborted = sym (ap (λ b. phase_to_others b u.phase) d ∙ ap (phase_to_others false) (active_phase u.phase a)) ∙ f.0 in let z : ◌≡◌ {A = ℕ} 0 1 = cc in omega arith)
      go (inr z) = here z.1.0
        where
          here : Here G s z.0 → (t : Transaction G) × (In t s.active × (t.name ≡ n))
          here (inr i) = (z.0, (i, z.1.1))
          here (inl i) = absurd (r.lined z.0 i (stage_active z.0.stage z.0.end (sym (r.done z.0 u i (ap (find ts) z.1.1 ∙ e)).phase ∙ active_phase u.phase a)))

module _ {K : Type 0} (V : Type 0) (order : K → K → Ordering) (total : TotalOrder order) where
  -- the position after a call that came to r
  abbrev pub after : Position K V → Call K V → World K V × Checked (Answer V) → Position K V
  after p a r = record { world = r.0; history = told a r.1 r.0.rows p.history }

  module _ (p : Position K V) (s : State (game V order total)) (inv : Inv V order total p s) where
    abbrev Tx : Type 0
    Tx = Transaction (game V order total)

    abbrev ts : Slots
    ts = p.world.store.slots

    pub tally_keeps : Comes (λ r. Good V order total (after p call.Tally r)) (tally_rule p.world)
    tally_keeps = unless _ _ refl (λ _. comes (s, inv))

    level_is : (l : Level) → level_of (is_serializable l) ≡ l
    level_is Serializable = refl
    level_is Snapshot = refl

    pub begin_keeps : (l : Level) → Comes (λ r. Good V order total (after p (call.Begin l) r)) (begin_rule p.world l)
    begin_keeps l = unless _ _ refl (λ _. unless _ _ refl (λ free. unless _ _ refl (λ _. comes (s', inv' free))))
      where
        s' : State (game V order total)
        s' = record { clock = s.clock + 1; active = newborn (game V order total) (s.clock + 1) (is_serializable l) ∷ s.active; line = s.line }

        new : Slots
        new = seat (fresh (s.clock + 1) l) ts

        unknown : find ts (s.clock + 1) ≡ None
        unknown = go (find ts (s.clock + 1)) refl
          where
            go : (o : Option Sitter) → find ts (s.clock + 1) ≡ o → find ts (s.clock + 1) ≡ None
            go None e = e
            go (Some u) e = absurd (let z = inv.roll.old (s.clock + 1) u e in omega arith)

        old : (m : ℕ) → stored ts m ≡ true → m ≤ s.clock
        old m e = let z = stored_found ts m e in inv.roll.old m z.0 z.1

        other : (m : ℕ) → (m ≡ s.clock + 1 → ⊥) → find new m ≡ find ts m
        other m d = find_seat_other (fresh (s.clock + 1) l) ts m d

        tale' : all is_some ts ≡ false → Tale V order total ((s.clock + 1, runs.Began l) ∷ p.history) new s'
        tale' free = tale_deed V order total p.history ts new s s' inv.tale (s.clock + 1) (runs.Began l)
            (λ t i e. lives t i e) (λ t i d. (t, (was t i d, (refl, refl))))
            (λ e. absurd (false≢true e)) (λ t i d c. (t, (i, (refl, c)))) (λ e a b c. absurd (some_none (sym a)))
            (λ m d e. ap is_doomed (sym (other m d)) ∙ e) (λ t i d e. (t, (i, refl)))
            (λ u e. let q = some_injective (sym (find_seat_same (fresh (s.clock + 1) l) ts free unknown) ∙ e) in (λ a. absurd (never (ap (λ v. v.phase) q ∙ a)), λ x a. absurd (never' x (ap (λ v. v.phase) q ∙ a))))
            (λ m u d e. (u, (sym (other m d) ∙ e, refl)))
            (serial_quiet V order total p.history ts new s s' inv.tale (s.clock + 1) (runs.Began l) refl
            (λ m i e. absurd (let z = committed_in V order total p.history ts new s s' inv.tale m i in let le = All_at (λ t. t.name ≤ s.clock) z.0 s.line z.1.0 (sound (game V order total) s inv.way).begun' in let q = z.1.1.0 in omega arith)) refl)
          where
            never : ◌≡◌ {A = Phase} Active Aborted → ⊥
            never e = let z : ◌≡◌ {A = ℕ} 0 1 = cc in omega arith

            never' : (x : ℕ) → ◌≡◌ {A = Phase} Active (Committed x) → ⊥
            never' x e = let z : ◌≡◌ {A = ℕ} 0 1 = cc in omega arith

            lives : (t : Tx) → Here (game V order total) s' t → t.name ≡ s.clock + 1 → lived (life p.history (s.clock + 1)) (runs.Began l) ≡ life_of V order total t
            lives t (inr (inl e)) q = (λ i. record { level = sym (level_is l) i; transcript = []; stamp = None; validated = false; committed = false; aborted = false }) ∙ ap (life_of V order total) e
            lives t (inr (inr i)) q = absurd (let le = All_at (λ t. t.name ≤ s.clock) t s.active i (sound (game V order total) s inv.way).begun in omega arith)
            lives t (inl i) q = absurd (let le = All_at (λ t. t.name ≤ s.clock) t s.line i (sound (game V order total) s inv.way).begun' in omega arith)

            was : (t : Tx) → Here (game V order total) s' t → (t.name ≡ s.clock + 1 → ⊥) → Here (game V order total) s t
            was t (inl i) d = inl i
            was t (inr (inl e)) d = absurd (d (ap (λ v. v.name) (sym e)))
            was t (inr (inr i)) d = inr i

        world_at : ℕ → World K V
        world_at x = with_store p.world (record { opened = p.world.store.opened; last = x + 1; commits = p.world.store.commits; aborts = p.world.store.aborts; slots = seat (fresh (x + 1) l) ts })

        inv' : all is_some ts ≡ false → Inv V order total (record { world = world_at p.world.store.last; history = (p.world.store.last + 1, runs.Began l) ∷ p.history }) s'
        inv' free = subst (λ x. Inv V order total (record { world = world_at x; history = (x + 1, runs.Began l) ∷ p.history }) s') (sym inv.clock) (record {
          way = next inv.way (begin (is_serializable l));
          fit = inv.fit;
          clock = refl;
          roll = roll_begin (game V order total) ts s inv.way inv.roll l free;
          shelf = shelf_begin (game V order total) p.world.versions (stored ts) (stored new) s inv.shelf (is_serializable l)
              (λ m e. ap (λ o. is_some o) (other m (λ q. let le = old m e in omega arith)) ∙ e)
              (λ m e. ⊎_elim (λ q. inr q) (λ d. inl (ap (λ o. is_some o) (sym (other m d)) ∙ e)) (cases_eq m (s.clock + 1))) old;
          listed = inv.listed;
          guards = guards_begin V order total p.world.notes p.world.versions s inv.guards (s.clock + 1) (is_serializable l);
          tale = tale' free;
        })

    pub prepare_keeps : (n : ℕ) → Comes (λ r. Good V order total (after p (call.Prepare n) r)) (prepare_rule p.world n)
    prepare_keeps n = bind (is_sound p.world n is_active) (λ u q. unless _ _ refl (λ _.
        let z = worker (game V order total) ts s inv.way inv.roll n u q.0 q.1.0 q.1.1 in
        comes (state z.0, good u q.0 z.0 z.1.0 z.1.1)))
      where
        state : Tx → State (game V order total)
        state t = record { clock = s.clock + 1; active = keep (λ u. not (eqb u.name t.name)) s.active; line = prepared (game V order total) (s.clock + 1) t ∷ s.line }

        world_at : ℕ → World K V
        world_at x = with_store p.world (record { opened = p.world.store.opened; last = x + 1; commits = p.world.store.commits; aborts = p.world.store.aborts; slots = slots.change n (with_phase (Preparing (x + 1))) ts })

        good : (u : Sitter) → find ts n ≡ Some u → (t : Tx) → In t s.active → t.name ≡ n →
            Inv V order total (record { world = world_at p.world.store.last; history = (n, runs.Prepared (p.world.store.last + 1)) ∷ p.history }) (state t)
        good u found t i q = subst (λ x. Inv V order total (record { world = world_at x; history = (n, runs.Prepared (x + 1)) ∷ p.history }) (state t)) (sym inv.clock) (record {
          way = next inv.way (prepare t i);
          fit = inv.fit;
          clock = refl;
          roll = roll_prepare (game V order total) ts s inv.way inv.roll n t u found i q;
          shelf = same_there (shelf_prepare (game V order total) p.world.versions (stored ts) s inv.way inv.shelf t i);
          listed = inv.listed;
          guards = guards_prepare V order total p.world.notes p.world.versions s inv.guards (stored ts) inv.way inv.shelf t i;
          tale = tale_deed V order total p.history ts new s (state t) inv.tale n (runs.Prepared (s.clock + 1)) lives was
              (λ e. absurd (not_committed e)) (λ x j d c. (x, (inr j, (refl, c)))) (λ e a b c. (prepared (game V order total) (s.clock + 1) t, (inl refl, q)))
              (λ m d e. ap is_doomed (sym (other m d)) ∙ e) (λ x j d e. (x, (inr j, refl)))
              (λ v e. let y = some_injective (sym (find_change_same n (with_phase (Preparing (s.clock + 1))) (λ v. refl) ts u found) ∙ e) in (λ a. absurd (never (ap (λ v. v.phase) y ∙ a)), λ x a. absurd (never' x (ap (λ v. v.phase) y ∙ a))))
              (λ m v d e. (v, (sym (other m d) ∙ e, refl)))
              (serial_quiet V order total p.history ts new s (state t) inv.tale n (runs.Prepared (s.clock + 1)) refl
              (λ m j e. absurd (let z = committed_in V order total p.history ts new s (state t) inv.tale m j in across (game V order total) ts s inv.way inv.roll z.0 t z.1.0 i (z.1.1.0 ∙ e ∙ sym q))) refl);
        })
          where
            new : Slots
            new = slots.change n (with_phase (Preparing (s.clock + 1))) ts

            other : (m : ℕ) → (m ≡ n → ⊥) → find new m ≡ find ts m
            other m d = find_change_other n (with_phase (Preparing (s.clock + 1))) (λ v. refl) ts m d

            same_there : Shelf (game V order total) p.world.versions (stored ts) (state t) → Shelf (game V order total) p.world.versions (stored new) (state t)
            same_there h = subst (λ f. Shelf (game V order total) p.world.versions f (state t)) (λ i m. sym (stored_alike ts new m (alike_change n (with_phase (Preparing (s.clock + 1))) (λ v. refl) ts)) i) h

            t_life : life p.history n ≡ life_of V order total t
            t_life = ap (life p.history) (sym q) ∙ inv.tale.lives t (inr i)

            work : t.stage ≡ active
            work = (inv.roll.at_work t i).0

            not_committed : (life p.history n).committed ≡ true → ⊥
            not_committed e = false≢true (sym (ap (λ l. l.committed) t_life ∙ ap (λ st. not (pending st)) work) ∙ e)

            never : ◌≡◌ {A = Phase} (Preparing (s.clock + 1)) Aborted → ⊥
            never e = let z : ◌≡◌ {A = ℕ} 0 1 = cc in omega arith

            never' : (x : ℕ) → ◌≡◌ {A = Phase} (Preparing (s.clock + 1)) (Committed x) → ⊥
            never' x e = let z : ◌≡◌ {A = ℕ} 0 1 = cc in omega arith

            mine : lived (life p.history n) (runs.Prepared (s.clock + 1)) ≡ life_of V order total (prepared (game V order total) (s.clock + 1) t)
            mine = ap (λ l. lived l (runs.Prepared (s.clock + 1))) t_life ∙ ap (λ st. lived (life_of V order total (record { name = t.name; ser = t.ser; end = t.end; stage = st; moves = t.moves; waits = t.waits })) (runs.Prepared (s.clock + 1))) work

            lives : (x : Tx) → Here (game V order total) (state t) x → x.name ≡ n → lived (life p.history n) (runs.Prepared (s.clock + 1)) ≡ life_of V order total x
            lives x (inl (inl e)) y = mine ∙ ap (life_of V order total) e
            lives x (inl (inr j)) y = absurd (across (game V order total) ts s inv.way inv.roll x t j i (y ∙ sym q))
            lives x (inr j) y = absurd (eqb-false x.name t.name (not-true _ (In_kept (λ u. not (eqb u.name t.name)) x s.active j).1) (y ∙ sym q))

            was : (x : Tx) → Here (game V order total) (state t) x → (x.name ≡ n → ⊥) → (y : Tx) × (Here (game V order total) s y × ((y.name ≡ x.name) × (life_of V order total y ≡ life_of V order total x)))
            was x (inl (inl e)) d = absurd (d (ap (λ v. v.name) (sym e) ∙ q))
            was x (inl (inr j)) d = (x, (inl j, (refl, refl)))
            was x (inr j) d = (x, (inr (In_kept (λ u. not (eqb u.name t.name)) x s.active j).0, (refl, refl)))
