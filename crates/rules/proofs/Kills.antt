-- An abort, and each refusal that aborts, leaves a position good. Assumes nothing.
use Rattle.std.proofs.Common.{◌≡◌, ℕ, Bool, true, false, cond, not, ◌⊎◌, List, [], ◌∷◌, length, Some, None, Option, Ordering, sym, refl, ap, ◌∙◌, subst, inl, inr, ⊎_elim, arith}
use Rattle.std.proofs.lemmas.Bool.{true≢false, cases_Bool, both_ways, not-true}
use Rattle.seeing.specs.declared.Phase.{Phase}
use Rattle.seeing.specs.declared.Phase.TheVariants.{Committed, Aborted}
use Rattle.seeing.specs.declared.Transaction.{Transaction as Sitter}
use Rattle.rules.specs.declared.Call.TheVariants as call
use Rattle.keys.specs.Laws.{TotalOrder}
use Rattle.std.specs.Option.{option_map}
use Rattle.seeing.specs.Slots.{Slots, find}
use Rattle.rules.specs.Worlds.{with_store, with_slots}
use Rattle.rules.specs.Slots.{one_more_abort}
use Rattle.rules.specs.Aborting.{dragged, doom, doom_marked}
use Rattle.seeing.specs.Phases.{is_over}
use Rattle.rules.specs.BookRules.{aborted}
use Rattle.rules.specs.TransactionRules.{abort_rule}
use Rattle.rules.specs.Runs as runs
use Rattle.rules.specs.Runs.{life, Position}
use Rattle.rules.specs.Law.{is_doomed}
use Rattle.serial.specs.Lists.{In, All, keep, change}
use Rattle.serial.specs.Machine.{Game, Transaction, State, committed, pending, kill, next, Spared}
use Rattle.serial.proofs.Lists.{All_at, In_keep}
use Rattle.serial.proofs.Orders.{In_kept}
use Rattle.rules.proofs.Game.{game}
use Rattle.rules.proofs.Times.{Here}
use Rattle.rules.proofs.Relation.{mark_at, stored, phase_of, Shelf, Tale, Inv, Good}
use Rattle.rules.proofs.Slots.{some_injective, some_none, stored_some, stored_alike}
use Rattle.rules.proofs.Marks.{mark_unknown}
use Rattle.rules.proofs.Drag.{length_dragged, dragged_closed, dragged_self, dragged_only, alike_doom, find_doom_same, find_doom_other}
use Rattle.rules.proofs.Checks.{Comes, comes, bind, is_named}
use Rattle.rules.proofs.Death.{shelf_kill}
use Rattle.rules.proofs.Rolls2 as rolls
use Rattle.rules.proofs.Guards.{guards_kill}
use Rattle.rules.proofs.Tales.{done}
use Rattle.rules.proofs.Tales2.{tale_deed, serial_quiet}
use Rattle.rules.proofs.Calls.{after}
use Rattle.rules.proofs.Lines.{settled_stage}

-- to leave out such as are not settled leaves the settled
done_keep : (G : Game) (alive : Transaction G → Bool) (l : List (Transaction G)) → All (λ t. t.stage ≡ committed → alive t ≡ true) l → done G (keep alive l) ≡ done G l
done_keep G alive [] h = refl
done_keep G alive (t ∷ l) h = go (alive t) refl (done_keep G alive l h.1)
  where
    settled : Transaction G → Bool
    settled t = not (pending t.stage)

    go : (b : Bool) → alive t ≡ b → done G (keep alive l) ≡ done G l → done G (cond b (t ∷ keep alive l) (keep alive l)) ≡ done G (t ∷ l)
    go true e r = at (not (pending t.stage))
      where
        at : (c : Bool) → change (λ t. t.name) (cond c (t ∷ keep settled (keep alive l)) (keep settled (keep alive l))) ≡ change (λ t. t.name) (cond c (t ∷ keep settled l) (keep settled l))
        at true = ap (λ z. t.name ∷ z) r
        at false = r
    go false e r = r ∙ ap (λ c. change (λ t. t.name) (cond c (t ∷ keep settled l) (keep settled l))) (sym (⊎_elim (λ q. absurd (both_ways (alive t) e (h.0 (settled_stage t.stage (not-true _ q))))) (λ q. q) (cases_Bool (not (pending t.stage)))))

module _ {K : Type 0} (V : Type 0) (order : K → K → Ordering) (total : TotalOrder order) (p : Position K V) (s : State (game V order total)) (inv : Inv V order total p s) where
  abbrev Tx : Type 0
  Tx = Transaction (game V order total)

  abbrev ts : Slots
  ts = p.world.store.slots

  module _ (n : ℕ) (u : Sitter) (found : find ts n ≡ Some u) (not_over : is_over u.phase ≡ false)
      (marks : List Bool) (len : length marks ≡ length ts) (self : mark_at ts marks n ≡ true)
      (closed : (m x : ℕ) (v : Sitter) → find ts m ≡ Some v → mark_at ts v.waits x ≡ true → mark_at ts marks x ≡ true → mark_at ts marks m ≡ true)
      (only : (m : ℕ) (v : Sitter) → find ts m ≡ Some v → ((x : ℕ) → mark_at ts v.waits x ≡ false) → (m ≡ n → ⊥) → mark_at ts marks m ≡ false) where
    alive : ℕ → Bool
    alive m = not (mark_at ts marks m)

    s' : State (game V order total)
    s' = record { clock = s.clock; active = keep (λ t. not (mark_at ts marks t.name)) s.active; line = keep (λ t. not (mark_at ts marks t.name)) s.line }

    new : Slots
    new = doom_marked n ts marks

    lasts : All (λ t. t.stage ≡ committed → not (mark_at ts marks t.name) ≡ true) s.line
    lasts = rolls.lasts (game V order total) ts s inv.way inv.roll n u found not_over marks len self closed only

    spared : All (Spared (game V order total) (λ m. not (mark_at ts marks m))) s.active
    spared = rolls.spared (game V order total) ts s inv.way inv.roll n u found not_over marks len self closed only

    spared' : All (Spared (game V order total) (λ m. not (mark_at ts marks m))) s.line
    spared' = rolls.spared' (game V order total) ts s inv.way inv.roll n u found not_over marks len self closed only

    seated : (x : Tx) → In x s.line → pending x.stage ≡ true → stored ts x.name ≡ true
    seated x i o = let z = inv.roll.waiting x i o in stored_some ts x.name z.0 z.1.0

    same_there : Shelf (game V order total) p.world.versions (stored ts) s' → Shelf (game V order total) p.world.versions (stored new) s'
    unfolding new
    same_there h = subst (λ f. Shelf (game V order total) p.world.versions f s') (λ i m. sym (stored_alike ts (doom_marked n ts marks) m (alike_doom n ts marks inv.roll.full len)) i) h

    -- who is found then
    then_found : (m : ℕ) (v' : Sitter) → (m ≡ n → ⊥) → find new m ≡ Some v' → (v : Sitter) × ((find ts m ≡ Some v) × (cond (mark_at ts marks m) (doom v) v ≡ v'))
    unfolding new
    then_found m v' d e = go (find ts m) refl (sym (find_doom_other n ts marks inv.roll.full len m d) ∙ e)
      where
        go : (o : Option Sitter) → find ts m ≡ o → option_map (λ t. cond (mark_at ts marks m) (doom t) t) o ≡ Some v' → (v : Sitter) × ((find ts m ≡ Some v) × (cond (mark_at ts marks m) (doom v) v ≡ v'))
        go None q e = absurd (some_none (sym e))
        go (Some v) q e = (v, (q, some_injective e))

    kept_phase : (b : Bool) (v : Sitter) → v.phase ≡ (cond b (doom v) v).phase
    kept_phase true v = refl
    kept_phase false v = refl

    undoomed : (m : ℕ) → (m ≡ n → ⊥) → is_doomed (find new m) ≡ false → (is_doomed (find ts m) ≡ false) × (mark_at ts marks m ≡ false)
    unfolding new
    undoomed m d e = go (find ts m) refl (cases_Bool (mark_at ts marks m)) (ap is_doomed (sym (find_doom_other n ts marks inv.roll.full len m d)) ∙ e)
      where
        go : (o : Option Sitter) → find ts m ≡ o → (mark_at ts marks m ≡ true) ⊎ (mark_at ts marks m ≡ false) → is_doomed (option_map (λ t. cond (mark_at ts marks m) (doom t) t) o) ≡ false → (is_doomed o ≡ false) × (mark_at ts marks m ≡ false)
        go None q (inl b) e = absurd (both_ways (mark_at ts marks m) (mark_unknown ts marks m q) b)
        go None q (inr b) e = (refl, b)
        go (Some v) q (inl b) e = absurd (true≢false (ap (λ c. (cond c (doom v) v).doomed) (sym b) ∙ e))
        go (Some v) q (inr b) e = (ap (λ c. (cond c (doom v) v).doomed) (sym b) ∙ e, b)

    tale' : Tale V order total ((n, runs.Aborted) ∷ p.history) new s'
    unfolding new s'
    tale' = tale_deed V order total p.history ts (doom_marked n ts marks) s s' inv.tale n runs.Aborted
        (λ t i e. absurd (dead t i e)) (λ t i d. (t, (was t i, (refl, refl))))
        (λ e. absurd (unsettled e)) (λ t i d c. (t, (In_keep (λ t. not (mark_at ts marks t.name)) t s.line (All_at _ t s.line i lasts c) i, (refl, c))))
        (λ e a b c. absurd (true≢false b)) (λ m d e. (undoomed m d e).0)
        (λ t i d e. (t, (In_keep (λ t. not (mark_at ts marks t.name)) t s.line (ap not (undoomed t.name d e).1) i, refl)))
        (λ v e. (λ _. refl, λ x a. absurd (over v x e a)))
        (λ m v d e. let z = then_found m v d e in (z.0, (z.1.0, kept_phase (mark_at ts marks m) z.0 ∙ ap (λ x. x.phase) z.1.1)))
        (serial_quiet V order total p.history ts (doom_marked n ts marks) s s' inv.tale n runs.Aborted refl (λ m i e. refl) (done_keep (game V order total) (λ t. not (mark_at ts marks t.name)) s.line lasts))
      where
        was : (t : Tx) → Here (game V order total) s' t → Here (game V order total) s t
        was t (inl i) = inl (In_kept (λ t. not (mark_at ts marks t.name)) t s.line i).0
        was t (inr i) = inr (In_kept (λ t. not (mark_at ts marks t.name)) t s.active i).0

        life' : (t : Tx) → Here (game V order total) s' t → not (mark_at ts marks t.name) ≡ true
        life' t (inl i) = (In_kept (λ t. not (mark_at ts marks t.name)) t s.line i).1
        life' t (inr i) = (In_kept (λ t. not (mark_at ts marks t.name)) t s.active i).1

        dead : (t : Tx) → Here (game V order total) s' t → t.name ≡ n → ⊥
        dead t i e = both_ways (mark_at ts marks n) (not-true (mark_at ts marks n) (subst (λ x. not (mark_at ts marks x) ≡ true) e (life' t i))) self

        unsettled : (life p.history n).committed ≡ true → ⊥
        unsettled e =
            let z = inv.tale.committed n e in
            true≢false (sym (ap is_over ((inv.roll.done z.0 u z.1.0 (ap (find ts) z.1.1.0 ∙ found)).phase ∙ ap (λ st. phase_of st z.0.end) z.1.1.1)) ∙ not_over)

        over : (v : Sitter) (x : ℕ) → find (doom_marked n ts marks) n ≡ Some v → v.phase ≡ Committed x → ⊥
        over v x e a =
            let q : ◌≡◌ {A = Phase} Aborted (Committed x) = ap (λ y. y.phase) (some_injective (sym (find_doom_same n ts marks inv.roll.full len u found) ∙ e)) ∙ a in
            let z : ◌≡◌ {A = ℕ} 0 1 = cc in omega arith

    pub kill_good : Inv V order total (record { world = with_store p.world (one_more_abort (with_slots p.world.store (doom_marked n ts marks))); history = (n, runs.Aborted) ∷ p.history }) (record { clock = s.clock; active = keep (λ t. not (mark_at ts marks t.name)) s.active; line = keep (λ t. not (mark_at ts marks t.name)) s.line })
    unfolding new s'
    kill_good = record {
      way = next inv.way (kill (λ m. not (mark_at ts marks m)) lasts spared spared');
      fit = inv.fit;
      clock = inv.clock;
      roll = rolls.roll_kill (game V order total) ts s inv.way inv.roll n u found not_over marks len self closed only;
      shelf = same_there (shelf_kill (game V order total) p.world.versions (stored ts) s inv.way inv.shelf (λ m. not (mark_at ts marks m)) lasts spared spared' seated);
      listed = inv.listed;
      guards = guards_kill V order total p.world.notes p.world.versions s inv.guards (stored ts) inv.way inv.shelf (λ m. not (mark_at ts marks m)) lasts spared spared';
      tale = tale';
    }

  -- the one named and all that it drags along die
  pub kill_keeps : (n : ℕ) (u : Sitter) → find ts n ≡ Some u → is_over u.phase ≡ false → Good V order total (record { world = aborted p.world n; history = (n, runs.Aborted) ∷ p.history })
  kill_keeps n u found not_over = (
    _,
    kill_good n u found not_over (dragged ts n) (length_dragged ts n inv.roll.full) (dragged_self ts n u inv.roll.full found)
        (λ m x v e w q. dragged_closed ts n m x v inv.roll.full e w q) (λ m v e z d. dragged_only ts n m v inv.roll.full inv.roll.single e (inv.roll.tidy m v e) z d),
  )

  pub abort_keeps : (n : ℕ) → Comes (λ r. Good V order total (after V order total p (call.Abort n) r)) (abort_rule p.world n)
  abort_keeps n = bind (is_named p.world n (λ ph. not (is_over ph))) (λ u q. comes (kill_keeps n u q.0 (not-true _ q.1)))
