-- A book call that is answered is a move of the machine. Assumes nothing.
use Rattle.std.proofs.Common.{◌≡◌, ℕ, Bool, true, false, cond, not, List, ◌∷◌, length, Some, Ordering, sym, refl, ap, ◌∙◌, subst, inl, inr, arith}
use Rattle.std.proofs.lemmas.Bool.{false≢true, eq-eqb, ne_eqb}
use Rattle.rules.specs.declared.Entry.{Entry}
use Rattle.seeing.specs.declared.Phase.{Phase}
use Rattle.seeing.specs.declared.Phase.TheVariants.{Active, Committed, Aborted}
use Rattle.seeing.specs.declared.Transaction.{Transaction as Sitter}
use Rattle.seeing.specs.declared.Version.{Version}
use Rattle.keys.specs.Laws.{TotalOrder}
use Rattle.rules.specs.Index.{Index}
use Rattle.seeing.specs.Slots.{Slots, find}
use Rattle.rules.specs.Worlds.{with_slots}
use Rattle.rules.specs.Slots.{answered}
use Rattle.rules.specs.Slots as worlds
use Rattle.rules.specs.Checks.{still_allowed}
use Rattle.rules.specs.Book.{Exchange}
use Rattle.rules.specs.Runs as runs
use Rattle.rules.specs.Runs.{life, lived, Position}
use Rattle.rules.specs.Law.{is_doomed}
use Rattle.serial.specs.Lists.{In, change}
use Rattle.serial.specs.Machine.{Transaction, State, active, pending, moved, MayMove, move, Reached, next}
use Rattle.serial.proofs.Kill.{All_in}
use Rattle.serial.proofs.Orders.{In_changed}
use Rattle.rules.proofs.Game.{game}
use Rattle.rules.proofs.Times.{Here}
use Rattle.rules.proofs.Relation.{stored, forward, level_of, life_of, phase_of, prepared_at, Shelf, Listed, Guards, Tale, Inv}
use Rattle.rules.proofs.Slots.{some_injective, some_none, stored_alike, alike_change, find_change_same, find_change_other}
use Rattle.rules.proofs.Sight.{across, same_active}
use Rattle.rules.proofs.Rolls.{roll_move}
use Rattle.rules.proofs.Tales2.{tale_deed, serial_quiet}
use Rattle.rules.specs.declared.Note.{Note}
use Rattle.rules.specs.declared.Row.{Row}
use Rattle.rules.proofs.Marks.{marked_too}

module _ {K : Type 0} (V : Type 0) (order : K → K → Ordering) (total : TotalOrder order) (p : Position K V) (s : State (game V order total)) (inv : Inv V order total p s)
    (n : ℕ) (x₀ : Exchange K V) (W : List ℕ) (made : ℕ) (ws : List Bool) where
  -- the state after the move, and the slots: the mover has made so many notes and waits on those marked
  abbrev pub state_moved : State (game V order total)
  state_moved = record { clock = s.clock; active = change (moved (game V order total) n x₀ W) s.active; line = s.line }

  abbrev pub slots_moved : Slots
  slots_moved = worlds.change n (answered made ws) p.world.store.slots

  abbrev pub position_moved : List (Entry (Version K V)) → List (Entry (Note K)) → List (Row K V) → Index K → Position K V
  position_moved vs ns rows i = record { world = record { store = with_slots p.world.store slots_moved; versions = vs; notes = ns; rows = rows; index = i }; history = (n, runs.Exchanged x₀) ∷ p.history }

  module _ (t : Transaction (game V order total)) (i : In t s.active) (named : t.name ≡ n) (u : Sitter) (found : find p.world.store.slots n ≡ Some u)
      (is : ws ≡ marked_too p.world.store.slots W u.waits) (may : MayMove (game V order total) s.active s.line x₀ W t) where
    way_moved : Reached (game V order total) state_moved
    way_moved = next inv.way (move n x₀ W (All_in _ s.active (λ x j e.
        subst (MayMove (game V order total) s.active s.line x₀ W) (same_active (game V order total) p.world.store.slots s inv.way inv.roll t x i j (named ∙ sym e)) may)))

    work : t.stage ≡ active
    work = (inv.roll.at_work t i).0

    t_life : life p.history n ≡ life_of V order total t
    t_life = ap (life p.history) (sym named) ∙ inv.tale.lives t (inr i)

    mine : lived (life p.history n) (runs.Exchanged x₀) ≡ life_of V order total (moved (game V order total) n x₀ W t)
    mine = ap (λ l. lived l (runs.Exchanged x₀)) t_life
        ∙ (λ j. record { level = level_of t.ser; transcript = forward (sym (ap (λ c. cond c (x₀ ∷ t.moves) t.moves) (eq-eqb t.name n named)) j); stamp = (life_of V order total t).stamp; validated = (life_of V order total t).validated; committed = (life_of V order total t).committed; aborted = false })

    other_life : (x : Transaction (game V order total)) → (x.name ≡ n → ⊥) → life_of V order total x ≡ life_of V order total (moved (game V order total) n x₀ W x)
    other_life x d = λ j. record { level = level_of x.ser; transcript = forward (sym (ap (λ c. cond c (x₀ ∷ x.moves) x.moves) (ne_eqb x.name n d)) j); stamp = (life_of V order total x).stamp; validated = (life_of V order total x).validated; committed = (life_of V order total x).committed; aborted = false }

    lives : (x : Transaction (game V order total)) → Here (game V order total) state_moved x → x.name ≡ n → lived (life p.history n) (runs.Exchanged x₀) ≡ life_of V order total x
    lives x (inl j) y = absurd (across (game V order total) p.world.store.slots s inv.way inv.roll x t j i (y ∙ sym named))
    lives x (inr j) y =
        let z = In_changed (moved (game V order total) n x₀ W) x s.active j in
        mine ∙ ap (λ v. life_of V order total (moved (game V order total) n x₀ W v)) (same_active (game V order total) p.world.store.slots s inv.way inv.roll t z.0 i z.1.0 (named ∙ sym y ∙ ap (λ v. v.name) (sym z.1.1)))
        ∙ ap (life_of V order total) z.1.1

    was : (x : Transaction (game V order total)) → Here (game V order total) state_moved x → (x.name ≡ n → ⊥) →
        (y : Transaction (game V order total)) × (Here (game V order total) s y × ((y.name ≡ x.name) × (life_of V order total y ≡ life_of V order total x)))
    was x (inl j) d = (x, (inl j, (refl, refl)))
    was x (inr j) d =
        let z = In_changed (moved (game V order total) n x₀ W) x s.active j in
        (z.0, (inr z.1.0, (ap (λ v. v.name) z.1.1, other_life z.0 (λ e. d (ap (λ v. v.name) (sym z.1.1) ∙ e)) ∙ ap (life_of V order total) z.1.1)))

    other : (m : ℕ) → (m ≡ n → ⊥) → find slots_moved m ≡ find p.world.store.slots m
    other m d = find_change_other n (answered made ws) (λ v. refl) p.world.store.slots m d

    phase_now : (v : Sitter) → find slots_moved n ≡ Some v → v.phase ≡ Active
    phase_now v e =
        let a = inv.roll.at_work t i in
        ap (λ x. x.phase) (some_injective (sym e ∙ find_change_same n (answered made ws) (λ v. refl) p.world.store.slots u found))
        ∙ ap (λ x. x.phase) (some_injective (sym found ∙ ap (find p.world.store.slots) (sym named) ∙ a.1.1.0)) ∙ a.1.1.1.phase ∙ ap (λ st. phase_of st t.end) a.0

    not_committed : (life p.history n).committed ≡ true → ⊥
    not_committed e = false≢true (sym (ap (λ l. l.committed) t_life ∙ ap (λ st. not (pending st)) work) ∙ e)

    no_stamp : (e : ℕ) → (life p.history n).stamp ≡ Some e → ⊥
    no_stamp e q = some_none (sym q ∙ ap (λ l. l.stamp) t_life ∙ ap (λ st. prepared_at st t.end) work)

    tale_moved : Tale V order total ((n, runs.Exchanged x₀) ∷ p.history) slots_moved state_moved
    tale_moved = tale_deed V order total p.history p.world.store.slots slots_moved s state_moved inv.tale n (runs.Exchanged x₀) lives was
        (λ e. absurd (not_committed e)) (λ x j d c. (x, (j, (refl, c)))) (λ e a _ _. absurd (no_stamp e a))
        (λ m d e. ap is_doomed (sym (other m d)) ∙ e) (λ x j d e. (x, (j, refl)))
        (λ v e. (λ q. absurd (never (sym (phase_now v e) ∙ q)), λ x q. absurd (never' x (sym (phase_now v e) ∙ q))))
        (λ m v d e. (v, (sym (other m d) ∙ e, refl)))
        (serial_quiet V order total p.history p.world.store.slots slots_moved s state_moved inv.tale n (runs.Exchanged x₀) refl (λ m j e. refl) refl)
      where
        never : ◌≡◌ {A = Phase} Active Aborted → ⊥
        never e = let z : ◌≡◌ {A = ℕ} 0 1 = cc in omega arith

        never' : (x : ℕ) → ◌≡◌ {A = Phase} Active (Committed x) → ⊥
        never' x e = let z : ◌≡◌ {A = ℕ} 0 1 = cc in omega arith

    pub moved_good : (vs : List (Entry (Version K V))) (ns : List (Entry (Note K))) (rows : List (Row K V)) (ix : Index K) →
        length vs ≡ length p.world.versions → length ns ≡ length p.world.notes → ix.capacity ≡ p.world.index.capacity →
        Shelf (game V order total) vs (stored p.world.store.slots) state_moved → Listed order vs ix.pairs → Guards V order total ns vs state_moved →
        Inv V order total (position_moved vs ns rows ix) state_moved
    moved_good vs ns rows ix long many room shelf listed guards = record {
      way = way_moved;
      fit = ap (λ l. still_allowed p.world.store.opened l (length ns) ix.capacity) long ∙ ap (λ l. still_allowed p.world.store.opened (length p.world.versions) l ix.capacity) many
          ∙ ap (λ c. still_allowed p.world.store.opened (length p.world.versions) (length p.world.notes) c) room ∙ inv.fit;
      clock = inv.clock;
      roll = roll_move (game V order total) p.world.store.slots s inv.way inv.roll n made x₀ W ws t u found i named may.known is;
      shelf = subst (λ f. Shelf (game V order total) vs f state_moved) (λ j m. sym (stored_alike p.world.store.slots slots_moved m (alike_change n (answered made ws) (λ v. refl) p.world.store.slots)) j) shelf;
      listed = listed;
      guards = guards;
      tale = tale_moved;
    }
