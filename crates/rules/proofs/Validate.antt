-- The call validate: what it leaves is good. Assumes nothing.
use Rattle.std.proofs.Common.{◌≡◌, ℕ, Bool, true, false, cond, not, ◌&&◌, eqb, ◌⊎◌, List, [], ◌∷◌, ◌++◌, Some, Ordering, sym, refl, ap, ◌∙◌, subst, inl, inr, arith}
use Rattle.std.proofs.lemmas.Bool.{false≢true, cases_eq, eq-eqb, ne_eqb}
use Rattle.seeing.specs.declared.End.{End}
use Rattle.seeing.specs.declared.End.TheVariants as end
use Rattle.seeing.specs.declared.Phase.{Phase}
use Rattle.seeing.specs.declared.Phase.TheVariants.{Active, Preparing, Validated, Committed, Aborted}
use Rattle.seeing.specs.declared.Transaction.{Transaction as Sitter}
use Rattle.keys.specs.Laws.{TotalOrder}
use Rattle.seeing.specs.Slots.{Slots, find}
use Rattle.seeing.specs.Seeing.{as_end}
use Rattle.rules.specs.Worlds.{World, with_store, with_slots}
use Rattle.rules.specs.Slots as slots
use Rattle.rules.specs.Slots.{with_phase, with_waits}
use Rattle.seeing.specs.Phases.{phase_to_others, is_serializable, if_preparing}
use Rattle.rules.specs.Validating.{tests_for, validated as validated_with}
use Rattle.rules.specs.Runs as runs
use Rattle.rules.specs.Runs.{Life, life, lived, Position}
use Rattle.rules.specs.Law.{is_doomed}
use Rattle.serial.specs.Lists.{In, keep, change}
use Rattle.serial.specs.Machine.{Game, Transaction, State, Stage, active, preparing, validated, committed, pending, Pending, touched, covered, passed, next}
use Rattle.serial.proofs.Lists.{In_change}
use Rattle.serial.proofs.Kill.{All_in}
use Rattle.serial.proofs.Orders.{In_changed}
use Rattle.rules.proofs.Game.{game}
use Rattle.rules.proofs.Times.{come, Ver, time, shown, latest, upto, Here}
use Rattle.rules.proofs.Relation.{stored, phase_of, Fallen, Shelf, Guarded, Guards, level_of, prepared_at, is_checked, life_of, forward, Tale, Inv, Good}
use Rattle.rules.proofs.Slots.{some_injective, some_none, Alike, alike_change, stored_alike, find_change_other, find_change_same, change_found}
use Rattle.rules.proofs.Lines.{latest_retag, upto_retag, ending_retag}
use Rattle.rules.proofs.Sight.{across, same_line}
use Rattle.rules.proofs.Alike.{Twin, Like, shelf_like}
use Rattle.rules.proofs.Rolls.{roll_pass}
use Rattle.rules.proofs.Tales.{done}
use Rattle.rules.proofs.Tales2.{serial_quiet, tale_deed}
use Rattle.rules.proofs.Trial.{Tried}
use Rattle.rules.proofs.Validation.{known_line, validate_step}
use Rattle.rules.proofs.Marks.{marked_too}

-- the one named n is validated, and waits for W too
abbrev pub passes_on : Slots → ℕ → List ℕ → Sitter → Sitter
passes_on ts e W u = with_waits (marked_too ts W u.waits) (with_phase (Validated e) u)

is_preparing_stage : (st : Stage) (e f : ℕ) → phase_of st e ≡ Preparing f → (st ≡ preparing) × (e ≡ f)
is_preparing_stage active e f q = absurd (let z : ◌≡◌ {A = ℕ} 0 1 = cc in omega arith)
is_preparing_stage preparing e f q = (refl, cc)
is_preparing_stage validated e f q = absurd (let z : ◌≡◌ {A = ℕ} 0 1 = cc in omega arith)
is_preparing_stage committed e f q = absurd (let z : ◌≡◌ {A = ℕ} 0 1 = cc in omega arith)

pub preparing_phase : (ph : Phase) (e : ℕ) → if_preparing ph ≡ Some e → ph ≡ Preparing e
preparing_phase Active e q = absurd (some_none (sym q))
preparing_phase (Preparing f) e q = ap Preparing (some_injective q)
preparing_phase (Validated f) e q = absurd (some_none (sym q))
preparing_phase (Committed f) e q = absurd (some_none (sym q))
preparing_phase Aborted e q = absurd (some_none (sym q))

differ : (st : Stage) → st ≡ committed → st ≡ preparing → ⊥
differ st p q = let z : ◌≡◌ {A = ℕ} 0 1 = cc in omega arith

module _ (G : Game) (s : State G) (n : ℕ) (W : List ℕ) where
  abbrev pub passed_on : State G
  passed_on = record { clock = s.clock; active = s.active; line = change (passed G n W) s.line }

  passed_time : (m : End) → time G passed_on.line m ≡ time G s.line m
  passed_time (end.Stamp b) = refl
  passed_time (end.Owner m) = ending_retag G (λ t. cond (eqb t.name n) validated t.stage) (λ t. cond (eqb t.name n) (W ++ t.waits) t.waits) s.line m
  passed_time end.Open = refl

  pub passed_shown : (R : ℕ) (v : Ver G) → shown G passed_on.line R v ≡ shown G s.line R v
  passed_shown R v =
      ap (λ o. come R o && not (come R (time G passed_on.line v.end))) (passed_time (as_end v.begin))
      ∙ ap (λ o. come R (time G s.line (as_end v.begin)) && not (come R o)) (passed_time v.end)

  passed_twin : (t : Transaction G) → Twin G t (passed G n W t)
  passed_twin t = record { name = refl; end = refl; put = λ k. refl }

  pub passed_other : (t : Transaction G) → (t.name ≡ n → ⊥) → (passed G n W t).stage ≡ t.stage
  passed_other t d = ap (λ b. cond b validated t.stage) (ne_eqb t.name n d)

  pub passed_self : (t : Transaction G) → t.name ≡ n → (passed G n W t).stage ≡ validated
  passed_self t e = ap (λ b. cond b validated t.stage) (eq-eqb t.name n e)

  -- only one that was preparing is named n
  module _ (was : (t : Transaction G) → In t s.line → t.name ≡ n → t.stage ≡ preparing) where
    pub passed_like : Like G s passed_on
    passed_like = record {
      clock = refl;
      ends = λ m. passed_time (end.Owner m);
      puts = λ R k. ap (λ l. latest G l k) (upto_retag G (λ t. cond (eqb t.name n) validated t.stage) (λ t. cond (eqb t.name n) (W ++ t.waits) t.waits) R s.line)
          ∙ latest_retag G (λ t. cond (eqb t.name n) validated t.stage) (λ t. cond (eqb t.name n) (W ++ t.waits) t.waits) (upto G R s.line) k;
      back = λ t' i. let r = In_changed (passed G n W) t' s.line i in
          (r.0, (r.1.0, (subst (Twin G r.0) r.1.1 (passed_twin r.0), λ p. still r.0 r.1.0 (ap (λ v. pending v.stage) r.1.1 ∙ p) (cases_eq r.0.name n))));
      on = λ t i c. (passed G n W t, (In_change (passed G n W) t s.line i, (passed_twin t, passed_other t (λ e. differ t.stage c (was t i e)) ∙ c)));
      back' = λ t i. (t, (i, record { name = refl; end = refl; put = λ k. refl }));
    }
      where
        still : (t : Transaction G) → In t s.line → pending (passed G n W t).stage ≡ true → (t.name ≡ n) ⊎ (t.name ≡ n → ⊥) → pending t.stage ≡ true
        still t i p (inl e) = ap pending (was t i e)
        still t i p (inr d) = ap pending (sym (passed_other t d)) ∙ p

    pub passed_done : done G (change (passed G n W) s.line) ≡ done G s.line
    passed_done = go s.line was
      where
        go : (l : List (Transaction G)) → ((t : Transaction G) → In t l → t.name ≡ n → t.stage ≡ preparing) → done G (change (passed G n W) l) ≡ done G l
        go [] was = refl
        go (t ∷ l) was = at (cases_eq t.name n) (go l (λ u i. was u (inr i)))
          where
            same : (t.name ≡ n) ⊎ (t.name ≡ n → ⊥) → pending (passed G n W t).stage ≡ pending t.stage
            same (inl e) = ap pending (passed_self t e) ∙ sym (ap pending (was t (inl refl) e))
            same (inr d) = ap pending (passed_other t d)

            at : (t.name ≡ n) ⊎ (t.name ≡ n → ⊥) → done G (change (passed G n W) l) ≡ done G l → done G (change (passed G n W) (t ∷ l)) ≡ done G (t ∷ l)
            at c r =
                ap (λ b. change (λ t. t.name) (cond (not b) (passed G n W t ∷ keep (λ t. not (pending t.stage)) (change (passed G n W) l)) (keep (λ t. not (pending t.stage)) (change (passed G n W) l)))) (same c)
                ∙ which (not (pending t.stage))
              where
                which : (b : Bool) → change (λ t. t.name) (cond b (passed G n W t ∷ keep (λ t. not (pending t.stage)) (change (passed G n W) l)) (keep (λ t. not (pending t.stage)) (change (passed G n W) l)))
                    ≡ change (λ t. t.name) (cond b (t ∷ keep (λ t. not (pending t.stage)) l) (keep (λ t. not (pending t.stage)) l))
                which true = ap (λ z. t.name ∷ z) r
                which false = r

module _ {K : Type 0} (V : Type 0) (order : K → K → Ordering) (total : TotalOrder order) (p : Position K V) (s : State (game V order total)) (inv : Inv V order total p s) where
  abbrev G : Game
  G = game V order total

  abbrev w : World K V
  w = p.world

  abbrev ts : Slots
  ts = p.world.store.slots

  -- whoever is found preparing and not doomed stands in the line, preparing
  pub found_preparing : (n e : ℕ) (u : Sitter) → find ts n ≡ Some u → u.doomed ≡ false → u.phase ≡ Preparing e →
      (t : Transaction G) × (In t s.line × ((t.name ≡ n) × ((t.end ≡ e) × ((t.stage ≡ preparing) × (is_serializable u.level ≡ t.ser)))))
  found_preparing n e u found live ph = go (inv.roll.known n u found)
    where
      go : Fallen G ts u ⊎ ((t : Transaction G) × (Here G s t × (t.name ≡ n))) → (t : Transaction G) × (In t s.line × ((t.name ≡ n) × ((t.end ≡ e) × ((t.stage ≡ preparing) × (is_serializable u.level ≡ t.ser)))))
      go (inl f) = absurd (let q : ◌≡◌ {A = Phase} (Preparing e) Aborted = sym (ap (λ d. phase_to_others d u.phase) live ∙ ap (phase_to_others false) ph) ∙ f.0 in let z : ◌≡◌ {A = ℕ} 0 1 = cc in omega arith)
      go (inr (t, (inl i, q))) =
          let h = inv.roll.done t u i (ap (find ts) q ∙ found) in
          let z = is_preparing_stage t.stage t.end e (sym h.phase ∙ ph) in
          (t, (i, (q, (z.1, (z.0, h.level)))))
      go (inr (t, (inr i, q))) =
          let a = inv.roll.at_work t i in
          let same : a.1.0 ≡ u = some_injective (sym a.1.1.0 ∙ ap (find ts) q ∙ found) in
          let x : ◌≡◌ {A = Phase} Active (Preparing e) = sym (ap (λ st. phase_of st t.end) a.0) ∙ sym a.1.1.1.phase ∙ ap (λ v. v.phase) same ∙ ph in
          absurd (let z : ◌≡◌ {A = ℕ} 0 1 = cc in omega arith)

  module _ (t : Transaction G) (i : In t s.line) (prep : t.stage ≡ preparing) (u : Sitter) (found : find ts t.name ≡ Some u) (W : List ℕ)
      (tested : t.ser ≡ true → Tried order total w t.name t.end (tests_for order w.index t.name w.notes) W)
      (untested : t.ser ≡ false → W ≡ []) where
    abbrev n : ℕ
    n = t.name

    abbrev ts' : Slots
    ts' = slots.change n (passes_on ts t.end W) ts

    abbrev s' : State G
    s' = passed_on G s n W

    the_one : (x : Transaction G) → In x s.line → x.name ≡ n → x ≡ t
    the_one x j e = same_line G ts s inv.way inv.roll x t j i e

    was : (x : Transaction G) → In x s.line → x.name ≡ n → x.stage ≡ preparing
    was x j e = ap (λ v. v.stage) (the_one x j e) ∙ prep

    alike : Alike ts ts'
    alike = alike_change n (passes_on ts t.end W) (λ v. refl) ts

    found' : find ts' n ≡ Some (passes_on ts t.end W u)
    found' = find_change_same n (passes_on ts t.end W) (λ v. refl) ts u found

    other : (m : ℕ) → (m ≡ n → ⊥) → find ts' m ≡ find ts m
    other m d = find_change_other n (passes_on ts t.end W) (λ v. refl) ts m d

    shelf' : Shelf G w.versions (stored ts') s'
    shelf' = subst (λ there. Shelf G w.versions there s') (λ i m. sym (stored_alike ts ts' m alike) i) (shelf_like G w.versions (stored ts) s s' (passed_like G s n W was) inv.shelf)

    guarded' : (m : ℕ) (k : K) → Guarded V order total w.notes w.versions s.line m k → Guarded V order total w.notes w.versions s'.line m k
    guarded' m k (inl h) = inl h
    guarded' m k (inr (q, (v, (note, (at, (key, sh)))))) = inr (q, (v, (note, (at, (key, passed_shown G s n W m v ∙ sh)))))

    guards' : Guards V order total w.notes w.versions s'
    guards' = record {
      at_work = λ x j ser k cov free. guarded' x.name k (inv.guards.at_work x j ser k cov free);
      preparing = λ x j st ser k cov free. let z = In_changed (passed G n W) x s.line j in line x z.0 z.1.0 z.1.1 st ser k cov free (cases_eq z.0.name n);
    }
      where
        line : (x y : Transaction G) → In y s.line → passed G n W y ≡ x → x.stage ≡ preparing → x.ser ≡ true → (k : K) → covered G x.moves k ≡ true → touched G x.moves k ≡ false →
            (y.name ≡ n) ⊎ (y.name ≡ n → ⊥) → Guarded V order total w.notes w.versions s'.line x.name k
        line x y j e st ser k cov free (inl same) = absurd (let q : ◌≡◌ {A = Stage} validated preparing = sym (passed_self G s n W y same) ∙ ap (λ v. v.stage) e ∙ st in let z : ◌≡◌ {A = ℕ} 0 1 = cc in omega arith)
        line x y j e st ser k cov free (inr d) =
            subst (λ m. Guarded V order total w.notes w.versions s'.line m k) (ap (λ v. v.name) e)
            (guarded' y.name k (inv.guards.preparing y j (sym (passed_other G s n W y d) ∙ ap (λ v. v.stage) e ∙ st) (ap (λ v. v.ser) e ∙ ser) k
            (ap (λ v. covered G v.moves k) e ∙ cov) (ap (λ v. touched G v.moves k) e ∙ free)))

    life_t : life p.history n ≡ life_of V order total t
    life_t = inv.tale.lives t (inl i)

    life_passed : (st : Stage) → st ≡ preparing → (now : Stage) → now ≡ validated → (lv : runs.Life K V) → lv ≡ record { level = level_of t.ser; transcript = forward t.moves; stamp = prepared_at st t.end; validated = is_checked st; committed = not (pending st); aborted = false } →
        lived lv runs.Validated ≡ record { level = level_of t.ser; transcript = forward t.moves; stamp = prepared_at now t.end; validated = is_checked now; committed = not (pending now); aborted = false }
    life_passed st a now b lv q =
        ap (λ l. lived l runs.Validated) q
        ∙ ap (λ (x : Stage). lived (record { level = level_of t.ser; transcript = forward t.moves; stamp = prepared_at x t.end; validated = is_checked x; committed = not (pending x); aborted = false }) runs.Validated) a
        ∙ ap (λ (x : Stage). record { level = level_of t.ser; transcript = forward t.moves; stamp = prepared_at x t.end; validated = is_checked x; committed = not (pending x); aborted = false }) (sym b)

    life_n : lived (life p.history n) runs.Validated ≡ life_of V order total (passed G n W t)
    life_n = life_passed t.stage prep (passed G n W t).stage (passed_self G s n W t refl) (life p.history n) life_t

    tale' : Tale V order total ((n, runs.Validated) ∷ p.history) ts' s'
    tale' = tale_deed V order total p.history ts ts' s s' inv.tale n runs.Validated lives_n lives_o com_n com_o prep_n doomed prep_o phase_n phase_o
        (serial_quiet V order total p.history ts ts' s s' inv.tale n runs.Validated refl (λ m j e. refl) (passed_done G s n W was))
      where
        lives_n : (x : Transaction G) → Here G s' x → x.name ≡ n → lived (life p.history n) runs.Validated ≡ life_of V order total x
        lives_n x (inr j) e = absurd (across G ts s inv.way inv.roll t x i j (sym e))
        lives_n x (inl j) e = let z = In_changed (passed G n W) x s.line j in
            life_n ∙ ap (life_of V order total) (ap (passed G n W) (sym (the_one z.0 z.1.0 (ap (λ v. v.name) z.1.1 ∙ e))) ∙ z.1.1)

        lives_o : (x : Transaction G) → Here G s' x → (x.name ≡ n → ⊥) → (y : Transaction G) × (Here G s y × ((y.name ≡ x.name) × (life_of V order total y ≡ life_of V order total x)))
        lives_o x (inr j) d = (x, (inr j, (refl, refl)))
        lives_o x (inl j) d = let z = In_changed (passed G n W) x s.line j in (
          z.0,
          (
            inl z.1.0,
            (
              ap (λ v. v.name) z.1.1,
              ap (λ (st : Stage). record { level = level_of z.0.ser; transcript = forward z.0.moves; stamp = prepared_at st z.0.end; validated = is_checked st; committed = not (pending st); aborted = false }) (sym (passed_other G s n W z.0 (λ e. d (ap (λ v. v.name) (sym z.1.1) ∙ e))))
                  ∙ ap (life_of V order total) z.1.1,
            ),
          ),
        )

        com_n : (lived (life p.history n) runs.Validated).committed ≡ true → (x : Transaction G) × (In x s'.line × ((x.name ≡ n) × (x.stage ≡ committed)))
        com_n e = absurd (false≢true (sym (ap (λ (l : runs.Life K V). l.committed) life_t ∙ ap (λ st. not (pending st)) prep) ∙ e))

        com_o : (x : Transaction G) → In x s.line → (x.name ≡ n → ⊥) → x.stage ≡ committed → (y : Transaction G) × (In y s'.line × ((y.name ≡ x.name) × (y.stage ≡ committed)))
        com_o x j d c = (passed G n W x, (In_change (passed G n W) x s.line j, (refl, passed_other G s n W x d ∙ c)))

        prep_n : (e : ℕ) → (lived (life p.history n) runs.Validated).stamp ≡ Some e → (lived (life p.history n) runs.Validated).aborted ≡ false → is_doomed (find ts' n) ≡ false → (x : Transaction G) × (In x s'.line × (x.name ≡ n))
        prep_n e a b c = (passed G n W t, (In_change (passed G n W) t s.line i, refl))

        doomed : (m : ℕ) → (m ≡ n → ⊥) → is_doomed (find ts' m) ≡ false → is_doomed (find ts m) ≡ false
        doomed m d e = ap is_doomed (sym (other m d)) ∙ e

        prep_o : (x : Transaction G) → In x s.line → (x.name ≡ n → ⊥) → is_doomed (find ts' x.name) ≡ false → (y : Transaction G) × (In y s'.line × (y.name ≡ x.name))
        prep_o x j d e = (passed G n W x, (In_change (passed G n W) x s.line j, refl))

        phase_n : (v : Sitter) → find ts' n ≡ Some v → (v.phase ≡ Aborted → (lived (life p.history n) runs.Validated).aborted ≡ true) × ((e : ℕ) → v.phase ≡ Committed e → (lived (life p.history n) runs.Validated).committed ≡ true)
        phase_n v e = let same : Validated t.end ≡ v.phase = ap (λ x. x.phase) (some_injective (sym found' ∙ e)) in (
          λ q. absurd (let x : ◌≡◌ {A = Phase} (Validated t.end) Aborted = same ∙ q in let z : ◌≡◌ {A = ℕ} 0 1 = cc in omega arith),
          λ f q. absurd (let x : ◌≡◌ {A = Phase} (Validated t.end) (Committed f) = same ∙ q in let z : ◌≡◌ {A = ℕ} 0 1 = cc in omega arith),
        )

        phase_o : (m : ℕ) (v : Sitter) → (m ≡ n → ⊥) → find ts' m ≡ Some v → (y : Sitter) × ((find ts m ≡ Some y) × (y.phase ≡ v.phase))
        phase_o m v d e = (v, (sym (other m d) ∙ e, refl))

    abbrev pub validated_at : Position K V
    validated_at = record { world = with_store w (with_slots w.store ts'); history = (n, runs.Validated) ∷ p.history }

    pub inv_validated : Inv V order total validated_at s'
    inv_validated = record {
      way = next inv.way (validate_step V order total p s inv t i prep W tested untested);
      fit = inv.fit;
      clock = inv.clock;
      roll = roll_pass G ts s inv.way inv.roll n W t u t.end found i refl refl prep (All_in (Pending G s.line) W (known_line V order total p s inv t i prep W tested untested));
      shelf = shelf';
      listed = inv.listed;
      guards = guards';
      tale = tale';
    }

    -- as the rule writes it
    pub good_validated : (ws : List Bool) → ws ≡ marked_too ts W u.waits → Good V order total (record { world = with_store w (with_slots w.store (slots.change n (validated_with t.end ws) ts)); history = (n, runs.Validated) ∷ p.history })
    good_validated ws e = (
      s',
      subst (λ us. Inv V order total (record { world = with_store w (with_slots w.store us); history = (n, runs.Validated) ∷ p.history }) s')
          (change_found n (passes_on ts t.end W) (validated_with t.end ws) ts u found (ap (λ ws. validated_with t.end ws u) (sym e))) inv_validated,
    )
