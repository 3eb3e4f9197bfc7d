-- A commit leaves a position good. Assumes nothing.
use Rattle.std.proofs.Common.{◌≡◌, ℕ, Bool, true, false, cond, eqb, ◌⊎◌, List, [], ◌∷◌, is_some, Some, None, Option, Ordering, sym, refl, ap, ◌∙◌, subst, inl, inr, ⊎_elim, arith}
use Rattle.std.proofs.lemmas.Bool.{false≢true, true≢false, cases_eq, eq-eqb, ne_eqb, ltb-false}
use Rattle.seeing.specs.declared.Phase.{Phase}
use Rattle.seeing.specs.declared.Phase.TheVariants.{Active, Preparing, Validated, Committed, Aborted}
use Rattle.seeing.specs.declared.Transaction.{Transaction as Sitter}
use Rattle.rules.specs.declared.Call.TheVariants as call
use Rattle.keys.specs.Laws.{TotalOrder}
use Rattle.rules.specs.Lists.{count}
use Rattle.seeing.specs.Slots.{Slots, find}
use Rattle.seeing.specs.Phases.{phase_to_others, if_validated}
use Rattle.rules.specs.Worlds.{with_store, with_slots}
use Rattle.rules.specs.Slots.{with_phase, one_more_commit, release}
use Rattle.rules.specs.Slots as slots
use Rattle.rules.specs.TransactionRules.{commit_rule}
use Rattle.rules.specs.Runs as runs
use Rattle.rules.specs.Runs.{History, life, lived, Position}
use Rattle.rules.specs.Law.{is_doomed, stamp_of, commits_in, serial_order, place_name, end_stamp}
use Rattle.serial.specs.Lists.{In, All, change, without}
use Rattle.serial.specs.Machine.{Transaction, State, Stage, active, preparing, validated, committed, pending, resolved, freed, commit, next}
use Rattle.serial.proofs.Lists.{In_change}
use Rattle.serial.proofs.Kill.{All_in}
use Rattle.serial.proofs.Names.{distinct}
use Rattle.serial.proofs.Orders.{ordered, In_changed}
use Rattle.rules.proofs.Game.{game}
use Rattle.rules.proofs.Times.{Here}
use Rattle.rules.proofs.Relation.{stored, phase_of, life_of, forward, prepared_at, Suits, Fallen, Shelf, Tale, Inv, Good}
use Rattle.rules.proofs.Slots.{some_injective, some_none, stored_alike}
use Rattle.rules.proofs.Marks.{count_none}
use Rattle.rules.proofs.Sight.{across, same_line}
use Rattle.rules.proofs.Checks.{Comes, comes, bind, some_bind, unless, is_sound}
use Rattle.rules.proofs.Alike.{shelf_like, like_retag}
use Rattle.rules.proofs.Rolls2 as rolls
use Rattle.rules.proofs.Guards.{guards_retag}
use Rattle.rules.proofs.Tales.{done, place_commit, life_same, life_other, sorted_agree}
use Rattle.rules.proofs.Tales2.{tale_deed}
use Rattle.rules.proofs.Calls.{after}

validated_phase : (ph : Phase) (e : ℕ) → if_validated ph ≡ Some e → ph ≡ Validated e
validated_phase Active e q = absurd (some_none (sym q))
validated_phase (Preparing x) e q = absurd (some_none (sym q))
validated_phase (Validated x) e q = ap Validated (some_injective q)
validated_phase (Committed x) e q = absurd (some_none (sym q))
validated_phase Aborted e q = absurd (some_none (sym q))

stage_validated : (st : Stage) (x e : ℕ) → phase_of st x ≡ Validated e → (st ≡ validated) × (x ≡ e)
stage_validated active x e q = absurd (let z : ◌≡◌ {A = ℕ} 0 1 = cc in omega arith)
stage_validated preparing x e q = absurd (let z : ◌≡◌ {A = ℕ} 0 1 = cc in omega arith)
stage_validated validated x e q = (refl, cc)
stage_validated committed x e q = absurd (let z : ◌≡◌ {A = ℕ} 0 1 = cc in omega arith)

empty : (ws : List ℕ) → ((m : ℕ) → In m ws → ⊥) → ws ≡ []
empty [] h = refl
empty (x ∷ ws) h = absurd (h x (inl refl))

module _ {K : Type 0} (V : Type 0) (order : K → K → Ordering) (total : TotalOrder order) (p : Position K V) (s : State (game V order total)) (inv : Inv V order total p s) where
  abbrev Tx : Type 0
  Tx = Transaction (game V order total)

  abbrev ts : Slots
  ts = p.world.store.slots

  -- a validated sitter that is not doomed is one of the line
  pub passer : (n e : ℕ) (u : Sitter) → find ts n ≡ Some u → u.phase ≡ Validated e → u.doomed ≡ false → (t : Tx) × (In t s.line × ((t.name ≡ n) × ((t.end ≡ e) × (t.stage ≡ validated))))
  passer n e u f ph d = go (inv.roll.known n u f)
    where
      go : Fallen (game V order total) ts u ⊎ ((t : Tx) × (Here (game V order total) s t × (t.name ≡ n))) → (t : Tx) × (In t s.line × ((t.name ≡ n) × ((t.end ≡ e) × (t.stage ≡ validated))))
      go (inl x) = absurd (let q : ◌≡◌ {A = Phase} (Preparing e) Aborted = sym (ap (λ b. phase_to_others b u.phase) d ∙ ap (phase_to_others false) ph) ∙ x.0 in let z : ◌≡◌ {A = ℕ} 0 1 = cc in omega arith)
      go (inr z) = here z.1.0
        where
          here : Here (game V order total) s z.0 → (t : Tx) × (In t s.line × ((t.name ≡ n) × ((t.end ≡ e) × (t.stage ≡ validated))))
          here (inl i) = let q = stage_validated z.0.stage z.0.end e (sym (inv.roll.done z.0 u i (ap (find ts) z.1.1 ∙ f)).phase ∙ ph) in (z.0, (i, (z.1.1, (q.1, q.0))))
          here (inr i) =
              let w = inv.roll.at_work z.0 i in
              let q = stage_validated z.0.stage z.0.end e (sym (subst (Suits (game V order total) ts z.0) (some_injective (sym w.1.1.0 ∙ ap (find ts) z.1.1 ∙ f)) w.1.1.1).phase ∙ ph) in
              absurd (let o : ◌≡◌ {A = Stage} active validated = sym w.0 ∙ q.0 in let o' : ◌≡◌ {A = ℕ} 0 1 = cc in omega arith)

  module _ (n e : ℕ) (u : Sitter) (found : find ts n ≡ Some u) (none : count (λ b. b) u.waits ≡ 0) (t : Tx) (i : In t s.line) (q : t.name ≡ n) (ends : t.end ≡ e) (st : t.stage ≡ validated) where
    abbrev s' : State (game V order total)
    s' = record { clock = s.clock; active = change (freed (game V order total) n) s.active; line = change (resolved (game V order total) n) s.line }

    abbrev new : Slots
    new = release n (slots.change n (with_phase (Committed e)) ts)

    waits_none : t.waits ≡ []
    waits_none = empty t.waits (λ m j. true≢false (sym (((inv.roll.done t u i (ap (find ts) q ∙ found)).waits m).1 j) ∙ count_none ts u.waits m none))

    the_one : (x : Tx) → In x s.line → x.name ≡ n → x ≡ t
    the_one x j y = same_line (game V order total) ts s inv.way inv.roll x t j i (y ∙ sym q)

    may : All (λ x. x.name ≡ n → (x.stage ≡ validated) × (x.waits ≡ [])) s.line
    may = All_in _ s.line (λ x j y. subst (λ v. (v.stage ≡ validated) × (v.waits ≡ [])) (sym (the_one x j y)) (st, waits_none))

    back : (b : Bool) (x : Stage) → pending (cond b committed x) ≡ true → pending x ≡ true
    back true x o = absurd (false≢true o)
    back false x o = o

    on : (b : Bool) (x : Stage) → x ≡ committed → cond b committed x ≡ committed
    on true x o = refl
    on false x o = o

    still : (b : Bool) (x : Stage) → cond b committed x ≡ preparing → x ≡ preparing
    still true x o = absurd (let z : ◌≡◌ {A = ℕ} 0 1 = cc in omega arith)
    still false x o = o

    from : (m : ℕ) (v' : Sitter) → find new m ≡ Some v' → ((m ≡ n) × (rolls.let_go (game V order total) ts s inv.way inv.roll n e t u found i q ends st (with_phase (Committed e) u) ≡ v')) ⊎ ((m ≡ n → ⊥) × ((v : Sitter) × ((find ts m ≡ Some v) × (rolls.let_go (game V order total) ts s inv.way inv.roll n e t u found i q ends st v ≡ v'))))
    from = rolls.from (game V order total) ts s inv.way inv.roll n e t u found i q ends st

    t_life : life p.history n ≡ life_of V order total t
    t_life = ap (life p.history) (sym q) ∙ inv.tale.lives t (inl i)

    staged : Tx → Stage → Tx
    staged x y = record { name = x.name; ser = x.ser; end = x.end; stage = y; moves = x.moves; waits = without n x.waits }

    mine : lived (life p.history n) runs.Committed ≡ life_of V order total (resolved (game V order total) n t)
    unfolding staged
    mine = ap (λ l. lived l runs.Committed) t_life ∙ ap (λ x. lived (life_of V order total (staged t x)) runs.Committed) st ∙ ap (λ b. life_of V order total (staged t (cond b committed t.stage))) (sym (eq-eqb t.name n q))

    theirs : (x : Tx) → (x.name ≡ n → ⊥) → life_of V order total x ≡ life_of V order total (resolved (game V order total) n x)
    unfolding staged
    theirs x d = ap (λ b. life_of V order total (staged x (cond b committed x.stage))) (sym (ne_eqb x.name n d))

    lives : (x : Tx) → Here (game V order total) s' x → x.name ≡ n → lived (life p.history n) runs.Committed ≡ life_of V order total x
    lives x (inl j) y = let z = In_changed (resolved (game V order total) n) x s.line j in mine ∙ ap (λ v. life_of V order total (resolved (game V order total) n v)) (sym (the_one z.0 z.1.0 (ap (λ v. v.name) z.1.1 ∙ y))) ∙ ap (life_of V order total) z.1.1
    lives x (inr j) y = let z = In_changed (freed (game V order total) n) x s.active j in absurd (across (game V order total) ts s inv.way inv.roll t z.0 i z.1.0 (q ∙ sym (ap (λ v. v.name) z.1.1 ∙ y)))

    others : (x : Tx) → Here (game V order total) s' x → (x.name ≡ n → ⊥) → (y : Tx) × (Here (game V order total) s y × ((y.name ≡ x.name) × (life_of V order total y ≡ life_of V order total x)))
    others x (inl j) d = let z = In_changed (resolved (game V order total) n) x s.line j in let nm : z.0.name ≡ x.name = ap (λ v. v.name) z.1.1 in
        (z.0, (inl z.1.0, (nm, theirs z.0 (λ y. d (sym nm ∙ y)) ∙ ap (life_of V order total) z.1.1)))
    others x (inr j) d = let z = In_changed (freed (game V order total) n) x s.active j in (z.0, (inr z.1.0, (ap (λ v. v.name) z.1.1, ap (life_of V order total) z.1.1)))

    h' : History K V
    h' = (n, runs.Committed) ∷ p.history

    stamps : (x : Tx) → In x s.line → stamp_of h' x.name ≡ x.end
    unfolding h'
    stamps x j = ⊎_elim (λ y. ap (λ l. end_stamp l.stamp) (life_same p.history n x.name runs.Committed (sym y))) (λ d. ap (λ l. end_stamp l.stamp) (life_other p.history n x.name runs.Committed (λ y. d (sym y)))) (cases_eq x.name n)
        ∙ ap (λ l. end_stamp l.stamp) (inv.tale.lives x (inl j)) ∙ at x.stage (inv.roll.lined x j)
      where
        at : (y : Stage) → (y ≡ active → ⊥) → end_stamp (prepared_at y x.end) ≡ x.end
        at active d = absurd (d refl)
        at preparing d = refl
        at validated d = refl
        at committed d = refl

    serial' : serial_order h' ≡ forward (done (game V order total) s'.line)
    unfolding h'
    serial' = ap (place_name h' n) (sorted_agree p.history h' (commits_in p.history) (λ m j. same m) ∙ inv.tale.serial)
        ∙ place_commit (game V order total) h' n s.line t i q (ap pending st) (ordered (game V order total) s inv.way).rising (distinct (game V order total) s inv.way).line_apart stamps
      where
        same : (m : ℕ) → stamp_of ((n, runs.Committed) ∷ p.history) m ≡ stamp_of p.history m
        same m = go (eqb n m)
          where
            go : (b : Bool) → end_stamp (cond b (lived (life p.history m) runs.Committed) (life p.history m)).stamp ≡ stamp_of p.history m
            go true = refl
            go false = refl

    tale' : Tale V order total ((n, runs.Committed) ∷ p.history) new s'
    unfolding h'
    tale' = tale_deed V order total p.history ts new s s' inv.tale n runs.Committed lives others
        (λ _. (resolved (game V order total) n t, (In_change (resolved (game V order total) n) t s.line i, (q, ap (λ b. cond b committed t.stage) (eq-eqb t.name n q)))))
        (λ x j d c. (resolved (game V order total) n x, (In_change (resolved (game V order total) n) x s.line j, (refl, on (eqb x.name n) x.stage c))))
        (λ _ _ _ _. (resolved (game V order total) n t, (In_change (resolved (game V order total) n) t s.line i, q)))
        (λ m d e. undoomed m d (find new m) refl e) (λ x j d e. (resolved (game V order total) n x, (In_change (resolved (game V order total) n) x s.line j, refl)))
        (λ v f. (λ a. absurd (never v f a), λ _ _. refl)) (λ m v d f. sat m v d (from m v f)) serial'
      where
        sat : (m : ℕ) (v' : Sitter) → (m ≡ n → ⊥) → ((m ≡ n) × (rolls.let_go (game V order total) ts s inv.way inv.roll n e t u found i q ends st (with_phase (Committed e) u) ≡ v')) ⊎ ((m ≡ n → ⊥) × ((v : Sitter) × ((find ts m ≡ Some v) × (rolls.let_go (game V order total) ts s inv.way inv.roll n e t u found i q ends st v ≡ v')))) → (v : Sitter) × ((find ts m ≡ Some v) × (v.phase ≡ v'.phase))
        sat m v' d (inl a) = absurd (d a.0)
        sat m v' d (inr a) = (a.1.0, (a.1.1.0, ap (λ x. x.phase) a.1.1.1))

        never : (v : Sitter) → find new n ≡ Some v → v.phase ≡ Aborted → ⊥
        never v f a = ⊎_elim (λ z. let o : ◌≡◌ {A = Phase} (Committed e) Aborted = ap (λ x. x.phase) z.1 ∙ a in let o' : ◌≡◌ {A = ℕ} 0 1 = cc in omega arith) (λ z. z.0 refl) (from n v f)

        undoomed : (m : ℕ) → (m ≡ n → ⊥) → (o : Option Sitter) → find new m ≡ o → is_doomed o ≡ false → is_doomed (find ts m) ≡ false
        undoomed m d None f y = at (find ts m) refl
          where
            at : (o : Option Sitter) → find ts m ≡ o → is_doomed o ≡ false
            at None g = refl
            at (Some v) g = absurd (true≢false (sym (ap (λ o. is_some o) g) ∙ sym (stored_alike ts new m (rolls.alike₂ (game V order total) ts s inv.way inv.roll n e t u found i q ends st)) ∙ ap (λ o. is_some o) f))
        undoomed m d (Some v) f y = ⊎_elim (λ a. absurd (d a.0)) (λ a. ap is_doomed a.1.1.0 ∙ ap (λ x. x.doomed) a.1.1.1 ∙ y) (from m v f)

    pub commit_good : Inv V order total (record { world = with_store p.world (one_more_commit (with_slots p.world.store new)); history = (n, runs.Committed) ∷ p.history }) s'
    commit_good = record {
      way = next inv.way (commit n may);
      fit = inv.fit;
      clock = inv.clock;
      roll = rolls.roll_commit (game V order total) ts s inv.way inv.roll n e t u found i q ends st;
      shelf = subst (λ f. Shelf (game V order total) p.world.versions f s') (λ j m. sym (stored_alike ts new m (rolls.alike₂ (game V order total) ts s inv.way inv.roll n e t u found i q ends st)) j)
          (shelf_like (game V order total) p.world.versions (stored ts) s s' (like_retag (game V order total) s (λ x. cond (eqb x.name n) committed x.stage) (λ x. without n x.waits) (λ x. without n x.waits) (λ x j. back (eqb x.name n) x.stage) (λ x j. on (eqb x.name n) x.stage)) inv.shelf);
      listed = inv.listed;
      guards = guards_retag V order total p.world.notes p.world.versions s inv.guards (λ x. cond (eqb x.name n) committed x.stage) (λ x. without n x.waits) (λ x. without n x.waits) (λ x j. still (eqb x.name n) x.stage);
      tale = tale';
    }

  pub commit_keeps : (n : ℕ) → Comes (λ r. Good V order total (after V order total p (call.Commit n) r)) (commit_rule p.world n)
  commit_keeps n = bind (is_sound p.world n (λ ph. is_some (if_validated ph))) (λ u h. some_bind _ _ refl (λ e f. unless _ _ refl (λ z.
      let w = passer n e u h.0 (validated_phase u.phase e f) h.1.1 in
      comes (_, commit_good n e u h.0 (let le = ltb-false 0 (count (λ b. b) u.waits) z in omega arith) w.0 w.1.0 w.1.1.0 w.1.1.1.0 w.1.1.1.1))))
