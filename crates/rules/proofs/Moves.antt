-- A book call that was tested by the rules is a move of the machine. Assumes nothing.
use Rattle.std.proofs.Common.{◌≡◌, ℕ, Bool, true, false, cond, ltb, ◌⊎◌, List, [], ◌∷◌, ◌++◌, length, Some, None, Ordering, sym, refl, ap, ◌∙◌, subst, inl, inr, ⊎_elim, arith}
use Rattle.std.proofs.lemmas.Bool.{false≢true, cases_eq, eq-eqb, ne_eqb, ltb-true, or_cases, cases_Bool}
use Rattle.std.specs.Option.{option_to_list}
use Rattle.seeing.specs.declared.Transaction.{Transaction as Sitter}
use Rattle.seeing.specs.declared.Version.{Version}
use Rattle.rules.specs.declared.Entry.{Entry}
use Rattle.rules.specs.declared.Note.{Note}
use Rattle.rules.specs.declared.Row.{Row}
use Rattle.keys.specs.Laws.{TotalOrder}
use Rattle.seeing.specs.Slots.{Slots, find}
use Rattle.seeing.specs.Seeing.{as_end, preparing_other, begun, ended, waits_for}
use Rattle.rules.specs.Book.{Exchange}
use Rattle.rules.specs.Runs.{Position}
use Rattle.serial.specs.Lists.{In, All}
use Rattle.serial.specs.Machine.{Game, Transaction, State, pending, Pending, Leads, direct, through, Minds, MayMove, touched, covered, view, below, play, given, moved, Reached}
use Rattle.serial.proofs.Lists.{All_at, In_right}
use Rattle.serial.proofs.Waits.{leads_more}
use Rattle.serial.proofs.Kill.{All_in}
use Rattle.serial.proofs.Steps.{sound, Seen}
use Rattle.serial.proofs.Orders.{All_unkept, In_kept, In_changed, touched_covered}
use Rattle.rules.proofs.Game.{game}
use Rattle.rules.proofs.Times.{Ver, Names}
use Rattle.rules.proofs.Relation.{stored, At, Shelf, Roll, Guarded, Guards, Inv}
use Rattle.rules.proofs.Sight.{waits_on, across, same_active}
use Rattle.rules.proofs.Looks.{unnamed, wait_of}
use Rattle.rules.proofs.Alike.{shelf_like, like_move}
use Rattle.rules.proofs.Lines.{In_left}
use Rattle.rules.proofs.Moved.{state_moved, position_moved, moved_good}
use Rattle.rules.proofs.Marks.{marked_too}

module _ (G : Game) (ts : Slots) (s : State G) (way : Reached G s) (roll : Roll G ts s) (vs : List (Entry (Ver G))) (h : Shelf G vs (stored ts) s) where
  -- whoever a test calls for is pending
  pub called_pending : (n R y : ℕ) (v : Ver G) → In y (option_to_list (waits_for ts n R v)) → Pending G s.line y
  called_pending n R y v i = go (begun ts n R v) i
    where
      go : (b : Bool) → In y (option_to_list (cond b (preparing_other ts n (cond (ended ts n R v) v.end (as_end v.begin))) None)) → Pending G s.line y
      go true i = (waits_on G ts s way roll n y (cond (ended ts n R v) v.end (as_end v.begin)) i).1.1
      go false i = absurd i

  module _ (t : Transaction G) (i : In t s.active) (W : List ℕ) where
    -- once all versions of a key are tested at its begin, t leads to every pending one that changed the key before
    pub look_minds : (k : G.Key) → ((p : ℕ) (v : Ver G) → At G vs p v → v.key ≡ k → (y : ℕ) → In y (option_to_list (waits_for ts t.name t.name v)) → In y W) →
        (x : Transaction G) → In x (below G t.name s.line) → pending x.stage ≡ true → touched G x.moves k ≡ true → Leads G s.line (W ++ t.waits) x.name
    look_minds k tests x j p touch = mark (h.marked' x z.0 p k touch)
      where
        z : In x s.line × (ltb x.end t.name ≡ true)
        z = In_kept (λ x. ltb x.end t.name) x s.line j

        apart : x.name ≡ t.name → ⊥
        apart = across G ts s way roll x t z.0 i

        -- what t has changed before it minded then
        before : (v : Ver G) → v.key ≡ k → touched G t.moves v.key ≡ true → Leads G s.line (W ++ t.waits) x.name
        before v e f = leads_more G s.line s.line (λ u. u) (λ u j. j) (λ u. refl) (λ u y j. j) t.waits (W ++ t.waits) (λ y j. In_right y W t.waits j) x.name
            (All_at _ x s.line z.0 (All_unkept _ (λ x. ltb x.end t.name) s.line (All_at (Seen G s.line) t s.active i (sound G s way).sees).1) z.1 p k
            (touched_covered G t.moves k (ap (touched G t.moves) (sym e) ∙ f)) touch)

        mark : (q : ℕ) × ((v : Ver G) × (At G vs q v × ((v.key ≡ k) × Names G x.name v))) → Leads G s.line (W ++ t.waits) x.name
        mark (q, (v, (a, (e, named)))) = by (cases_Bool (touched G t.moves v.key))
          where
            by : (touched G t.moves v.key ≡ true) ⊎ (touched G t.moves v.key ≡ false) → Leads G s.line (W ++ t.waits) x.name
            by (inl f) = before v e f
            by (inr f) =
                let u = unnamed G ts s way roll vs h t q v (inr i) a f in
                let y = wait_of G ts s way roll vs h t.name t.name q v a u.0 u.1 x z.0 p (let lt = ltb-true x.end t.name z.1 in omega arith) apart (ap (touched G x.moves) e ∙ touch) named in
                let l : In y.0.name (W ++ t.waits) = In_left y.0.name W t.waits (tests q v a e y.0.name y.1.1.1.1.0) in
                ⊎_elim (λ same. direct (subst (λ m. In m (W ++ t.waits)) same l)) (λ r. through y.0 y.1.0 l r) y.1.1.1.1.1

    module _ (m : G.Move)
        (tests : (k : G.Key) → G.covers m k ≡ true → (p : ℕ) (v : Ver G) → At G vs p v → v.key ≡ k → (y : ℕ) → In y (option_to_list (waits_for ts t.name t.name v)) → In y W)
        (calls : (y : ℕ) → In y W → (v : Ver G) × In y (option_to_list (waits_for ts t.name t.name v))) where
      pub known_waits : All (Pending G s.line) W
      known_waits = All_in _ W (λ y j. let z = calls y j in called_pending t.name t.name y z.0 z.1)

      pub minded_waits : Minds G s.line (below G t.name s.line) (m ∷ []) (W ++ t.waits)
      minded_waits = All_in _ (below G t.name s.line) (λ x j p k c touch. look_minds k (tests k (⊎_elim (λ e. e) (λ e. absurd (false≢true e)) (or_cases (G.covers m k) false c))) x j p touch)

module _ {K : Type 0} (V : Type 0) (order : K → K → Ordering) (total : TotalOrder order) (p : Position K V) (s : State (game V order total)) (inv : Inv V order total p s) where
  abbrev Tx : Type 0
  Tx = Transaction (game V order total)

  abbrev ts : Slots
  ts = p.world.store.slots

  abbrev vs : List (Entry (Version K V))
  vs = p.world.versions

  -- a call that changes nothing; the notes ns₁ have its note, if it makes one
  module _ (ns₁ : List (Entry (Note K))) (made : ℕ) (ws : List Bool) (n : ℕ) (u : Sitter) (found : find ts n ≡ Some u) (t : Tx) (i : In t s.active) (q : t.name ≡ n)
      (x : Exchange K V) (none : (k : K) → (game V order total).effect x k ≡ None) (W : List ℕ) (is : ws ≡ marked_too ts W u.waits)
      (tests : (k : K) → (game V order total).covers x k ≡ true → (p : ℕ) (v : Version K V) → At (game V order total) vs p v → v.key ≡ k → (y : ℕ) → In y (option_to_list (waits_for ts t.name t.name v)) → In y W)
      (calls : (y : ℕ) → In y W → (v : Version K V) × In y (option_to_list (waits_for ts t.name t.name v)))
      (right : (game V order total).right x (play (game V order total) (view (game V order total) (below (game V order total) t.name s.line)) t.moves))
      (guards₁ : Guards V order total ns₁ vs s)
      (guard : t.ser ≡ true → (k : K) → (game V order total).covers x k ≡ true → touched (game V order total) t.moves k ≡ false → Guarded V order total ns₁ vs s.line t.name k) where
    may : MayMove (game V order total) s.active s.line x W t
    may = record {
      turn = λ k g. absurd (false≢true (sym (ap given (none k)) ∙ g));
      alone = λ k g. absurd (false≢true (sym (ap given (none k)) ∙ g));
      answer = right;
      known = known_waits (game V order total) ts s inv.way inv.roll vs inv.shelf t i W x tests calls;
      minds = minded_waits (game V order total) ts s inv.way inv.roll vs inv.shelf t i W x tests calls;
    }

    same : (y : Tx) → (y.name ≡ n → ⊥) → y ≡ moved (game V order total) n x W y
    same y d = λ i. record { name = y.name; ser = y.ser; end = y.end; stage = y.stage; moves = (sym (ap (λ b. cond b (x ∷ y.moves) y.moves) (ne_eqb y.name n d))) i; waits = (sym (ap (λ b. cond b (W ++ y.waits) y.waits) (ne_eqb y.name n d))) i }

    -- one of the active is the mover, or is as it was
    who : (y' : Tx) → In y' (state_moved V order total p s inv n x W made ws).active → ((y'.name ≡ n) × (moved (game V order total) n x W t ≡ y')) ⊎ ((y'.name ≡ n → ⊥) × In y' s.active)
    who y' j = let z = In_changed (moved (game V order total) n x W) y' s.active j in let nm : z.0.name ≡ y'.name = ap (λ v. v.name) z.1.1 in
        ⊎_elim (λ e. inl (e, ap (moved (game V order total) n x W) (sym (same_active (game V order total) ts s inv.way inv.roll z.0 t z.1.0 i (nm ∙ e ∙ sym q))) ∙ z.1.1))
        (λ d. inr (d, subst (λ v. In v s.active) (same z.0 (λ e. d (sym nm ∙ e)) ∙ z.1.1) z.1.0)) (cases_eq y'.name n)

    longer : (moved (game V order total) n x W t).moves ≡ (x ∷ t.moves)
    longer = ap (λ b. cond b (x ∷ t.moves) t.moves) (eq-eqb t.name n q)

    guards' : Guards V order total ns₁ vs (state_moved V order total p s inv n x W made ws)
    guards' = record { at_work = λ y' j ser k c f. work y' ser k c f (who y' j); preparing = guards₁.preparing }
      where
        work : (y' : Tx) → y'.ser ≡ true → (k : K) → covered (game V order total) y'.moves k ≡ true → touched (game V order total) y'.moves k ≡ false → ((y'.name ≡ n) × (moved (game V order total) n x W t ≡ y')) ⊎ ((y'.name ≡ n → ⊥) × In y' s.active) → Guarded V order total ns₁ vs s.line y'.name k
        work y' ser k c f (inr z) = guards₁.at_work y' z.1 ser k c f
        work y' ser k c f (inl z) =
            let ms : y'.moves ≡ (x ∷ t.moves) = ap (λ v. v.moves) (sym z.1) ∙ longer in
            let ser' : t.ser ≡ true = ap (λ v. v.ser) z.1 ∙ ser in
            let free : touched (game V order total) t.moves k ≡ false = (Rattle.std.proofs.lemmas.Bool.or_parts _ _ (ap (λ l. touched (game V order total) l k) (sym ms) ∙ f)).1 in
            subst (λ m. Guarded V order total ns₁ vs s.line m k) (q ∙ sym z.0)
            (⊎_elim (λ a. guard ser' k a free) (λ a. guards₁.at_work t i ser' k a free) (or_cases ((game V order total).covers x k) (covered (game V order total) t.moves k) (ap (λ l. covered (game V order total) l k) (sym ms) ∙ c)))

    pub look_good : (rows : List (Row K V)) → length ns₁ ≡ length p.world.notes → Inv V order total (position_moved V order total p s inv n x W made ws vs ns₁ rows p.world.index) (state_moved V order total p s inv n x W made ws)
    look_good rows many = moved_good V order total p s inv n x W made ws t i q u found is may vs ns₁ rows p.world.index refl many refl
        (shelf_like (game V order total) vs (stored ts) s (state_moved V order total p s inv n x W made ws) (like_move (game V order total) s n x W none) inv.shelf) inv.listed guards'
