-- A finish leaves a position good. Assumes nothing.
use Rattle.std.proofs.Common.{◌≡◌, ℕ, zero, suc, true, false, cond, ◌⊎◌, List, [], ◌∷◌, map, length, Some, None, Option, Ordering, sym, refl, ap, ◌∙◌, subst, inl, inr, ⊎_elim}
use lib.ListN.{length-map}
use Rattle.std.proofs.lemmas.Bool.{cases_Bool, cases_eq, ne_eqb}
use Rattle.rules.specs.declared.Entry.{Entry}
use Rattle.rules.specs.declared.Noted.{Noted}
use Rattle.rules.specs.declared.Note.{Note}
use Rattle.seeing.specs.declared.Version.{Version}
use Rattle.seeing.specs.declared.Transaction.{Transaction as Sitter}
use Rattle.keys.specs.Laws.{TotalOrder}
use Rattle.rules.specs.Tables.{entry}
use Rattle.std.specs.Option.{option_map}
use Rattle.seeing.specs.Slots.{Slots, find}
use Rattle.rules.specs.Worlds.{with_slots}
use Rattle.rules.specs.Slots.{unseat}
use Rattle.rules.specs.TableRules.{not_of, without_note}
use Rattle.rules.specs.Checks.{still_allowed}
use Rattle.rules.specs.Runs.{Position, life}
use Rattle.serial.specs.Lists.{In, All}
use Rattle.serial.specs.Machine.{Transaction, State, pending, Pending}
use Rattle.serial.proofs.Lists.{All_at}
use Rattle.serial.proofs.Kill.{Any_in, waiting_line}
use Rattle.serial.proofs.Steps.{sound, Waiting}
use Rattle.rules.proofs.Game.{game}
use Rattle.rules.proofs.Times.{Here}
use Rattle.rules.proofs.Relation.{mark_at, stored, Begins, Ends, HasNote, Guarded, Suits, Fallen, Inv}
use Rattle.rules.proofs.Slots.{some_injective, some_none, find_unseat_other, find_unseat_same}
use Rattle.rules.proofs.Upkeep.{Open, Refit, shelf_refit}
use Rattle.rules.proofs.Rolls2.{roll_finish}
use Rattle.rules.proofs.Tales2.{tale_same}

module _ {A : Type 0} where
  -- an entry with its item turned
  abbrev pub turned : (A → A) → Entry A → Entry A
  turned f x = record { held = option_map f x.held }

  pub map_at : (f : A → A) (xs : List (Entry A)) (p : ℕ) → entry (map (turned f) xs) p ≡ option_map f (entry xs p)
  map_at f [] p = refl
  map_at f (x ∷ xs) zero = refl
  map_at f (x ∷ xs) (suc p) = map_at f xs p

  pub map_from : (f : A → A) (xs : List (Entry A)) (p : ℕ) (v' : A) → entry (map (turned f) xs) p ≡ Some v' → (v : A) × ((entry xs p ≡ Some v) × (f v ≡ v'))
  map_from f xs p v' e = go (entry xs p) refl (sym (map_at f xs p) ∙ e)
    where
      go : (o : Option A) → entry xs p ≡ o → option_map f o ≡ Some v' → (v : A) × ((entry xs p ≡ Some v) × (f v ≡ v'))
      go None q e = absurd (some_none (sym e))
      go (Some v) q e = (v, (q, some_injective e))

module _ {K : Type 0} where
  notes_at : (n : ℕ) (ns : List (Entry (Note K))) (q : ℕ) → entry (map (without_note n) ns) q ≡ not_of n (entry ns q)
  notes_at n [] q = refl
  notes_at n (x ∷ ns) zero = refl
  notes_at n (x ∷ ns) (suc q) = notes_at n ns q

  note_kept : (n m : ℕ) (ns : List (Entry (Note K))) (x : Noted K) → (m ≡ n → ⊥) → HasNote ns m x → HasNote (map (without_note n) ns) m x
  note_kept n m ns x d h = (h.0, (h.1.0, notes_at n ns h.0 ∙ ap (not_of n) h.1.1 ∙ ap (λ b. cond b None (Some (record { owner = m; number = h.1.0; noted = x }))) (ne_eqb m n d)))

-- what the finish of n leaves, where each version is refitted by f
module _ {K : Type 0} (V : Type 0) (order : K → K → Ordering) (total : TotalOrder order) (p : Position K V) (s : State (game V order total)) (inv : Inv V order total p s) (n : ℕ)
    (apart : (t : Transaction (game V order total)) → Open (game V order total) s t → t.name ≡ n → ⊥) (f : Version K V → Version K V)
    (refit : (q : ℕ) (v : Version K V) → entry p.world.versions q ≡ Some v → Refit (game V order total) s v (f v))
    (begins : (q : ℕ) (v : Version K V) → entry p.world.versions q ≡ Some v → Begins (game V order total) s (stored (unseat n p.world.store.slots)) (f v) (f v).begin)
    (ends : (q : ℕ) (v : Version K V) → entry p.world.versions q ≡ Some v → Ends (game V order total) s (stored (unseat n p.world.store.slots)) (f v) (f v).end)
    (lined : (life p.history n).aborted ≡ false → (t : Transaction (game V order total)) × (In t s.line × (t.name ≡ n))) where
  abbrev Tx : Type 0
  Tx = Transaction (game V order total)

  abbrev ts : Slots
  ts = p.world.store.slots

  abbrev vs : List (Entry (Version K V))
  vs = p.world.versions

  found : (m : ℕ) (u : Sitter) → find (unseat n ts) m ≡ Some u → (find ts m ≡ Some u) × (m ≡ n → ⊥)
  found m u e = ⊎_elim (λ y. absurd (some_none (sym e ∙ ap (find (unseat n ts)) y ∙ find_unseat_same n ts inv.roll.single))) (λ d. (sym (find_unseat_other n ts m d) ∙ e, d)) (cases_eq m n)

  -- nobody waits on it
  free : (m : ℕ) (u : Sitter) → find ts m ≡ Some u → mark_at ts u.waits n ≡ false
  free m u e = go (inv.roll.known m u e)
    where
      never : (t : Tx) → All (Pending (game V order total) s.line) t.waits → Suits (game V order total) ts t u → mark_at ts u.waits n ≡ false
      never t w h = ⊎_elim (λ y. absurd (let z = Any_in (λ x. (x.name ≡ n) × (pending x.stage ≡ true)) s.line (All_at _ n t.waits ((h.waits n).0 y) w) in apart z.0 (inr (z.1.0, z.1.1.1)) z.1.1.0)) (λ y. y) (cases_Bool (mark_at ts u.waits n))

      go : Fallen (game V order total) ts u ⊎ ((t : Tx) × (Here (game V order total) s t × (t.name ≡ m))) → mark_at ts u.waits n ≡ false
      go (inl x) = x.1 n
      go (inr z) = here z.1.0
        where
          here : Here (game V order total) s z.0 → mark_at ts u.waits n ≡ false
          here (inl i) = never z.0 (All_at (λ t. Waiting (game V order total) t s.line) z.0 s.line i (waiting_line (game V order total) s.line (sound (game V order total) s inv.way).waiting')) (inv.roll.done z.0 u i (ap (find ts) z.1.1 ∙ e))
          here (inr i) = let w = inv.roll.at_work z.0 i in never z.0 (All_at (λ t. Waiting (game V order total) t s.line) z.0 s.active i (sound (game V order total) s inv.way).waiting) (subst (Suits (game V order total) ts z.0) (some_injective (sym w.1.1.0 ∙ ap (find ts) z.1.1 ∙ e)) w.1.1.1)

  guarded' : (m : ℕ) (k : K) → (m ≡ n → ⊥) → Guarded V order total p.world.notes vs s.line m k → Guarded V order total (map (without_note n) p.world.notes) (map (turned f) vs) s.line m k
  guarded' m k d (inl g) = inl (g.0, (g.1.0, (g.1.1.0, note_kept n m p.world.notes _ d g.1.1.1)))
  guarded' m k d (inr g) = let r = refit g.0 g.1.0 g.1.1.1.0 in
      inr (g.0, (f g.1.0, (note_kept n m p.world.notes _ d g.1.1.0, (map_at f vs g.0 ∙ ap (option_map f) g.1.1.1.0, (r.key ∙ g.1.1.1.1.0, r.shows m ∙ g.1.1.1.1.1)))))

  pub finish_good : Inv V order total (record { world = record { store = with_slots p.world.store (unseat n ts); versions = map (turned f) vs; notes = map (without_note n) p.world.notes; rows = p.world.rows; index = p.world.index }; history = p.history }) s
  finish_good = record {
    way = inv.way;
    fit = ap (λ l. still_allowed p.world.store.opened l (length (map (without_note n) p.world.notes)) p.world.index.capacity) (length-map vs (turned f))
        ∙ ap (λ l. still_allowed p.world.store.opened (length vs) l p.world.index.capacity) (length-map p.world.notes (without_note n)) ∙ inv.fit;
    clock = inv.clock;
    roll = roll_finish (game V order total) ts s inv.way inv.roll n (λ t i e. apart t (inl i) e) (λ t i o e. apart t (inr (i, o)) e) free;
    shelf = shelf_refit (game V order total) vs (map (turned f) vs) (stored ts) (stored (unseat n ts)) s inv.way inv.shelf
        (λ m e. let z = Rattle.rules.proofs.Slots.stored_found (unseat n ts) m e in Rattle.rules.proofs.Slots.stored_some ts m z.0 (found m z.0 z.1).0)
        (λ q v a. let z = map_from f vs q v a in subst (λ v. Begins (game V order total) s (stored (unseat n ts)) v v.begin) z.1.1 (begins q z.0 z.1.0))
        (λ q v a. let z = map_from f vs q v a in subst (λ v. Ends (game V order total) s (stored (unseat n ts)) v v.end) z.1.1 (ends q z.0 z.1.0))
        (λ q v a. let z = map_from f vs q v a in (z.0, (z.1.0, subst (Refit (game V order total) s z.0) z.1.1 (refit q z.0 z.1.0))))
        (λ q v a. inl (f v, (map_at f vs q ∙ ap (option_map f) a, refit q v a)));
    listed = record {
      into = λ q v a. let z = map_from f vs q v a in subst (λ k. In (k, q) p.world.index.pairs) (sym (refit q z.0 z.1.0).key ∙ ap (λ v. v.key) z.1.1) (inv.listed.into q z.0 z.1.0);
      from = λ k q i. let z = inv.listed.from k q i in (f z.0, (map_at f vs q ∙ ap (option_map f) z.1.0, (refit q z.0 z.1.0).key ∙ z.1.1));
      climbing = inv.listed.climbing;
    };
    guards = record {
      at_work = λ t i ser k c g. guarded' t.name k (apart t (inl i)) (inv.guards.at_work t i ser k c g);
      preparing = λ t i st ser k c g. guarded' t.name k (apart t (inr (i, ap pending st))) (inv.guards.preparing t i st ser k c g);
    };
    tale = tale_same V order total p.history ts (unseat n ts) s s inv.tale (λ t i. (t, (i, (refl, refl)))) refl
        (λ m e a b c. ⊎_elim (λ y. inr (let z = lined (ap (λ x. (life p.history x).aborted) (sym y) ∙ b) in (z.0, (z.1.0, z.1.1 ∙ sym y)))) (λ d. inl (ap Rattle.rules.specs.Law.is_doomed (sym (find_unseat_other n ts m d)) ∙ c)) (cases_eq m n))
        (λ m u e. (u, ((found m u e).0, refl)));
  }
