-- A finish, of a committed one and of an aborted one. Assumes nothing.
use Rattle.std.proofs.Common.{◌≡◌, ℕ, ◌≤◌, Bool, true, false, cond, not, ◌&&◌, eqb, leb, map, is_some, Some, None, Ordering, sym, refl, ap, ◌∙◌, subst, inl, inr, ⊎_elim, arith}
use Rattle.std.proofs.lemmas.Bool.{false≢true, true≢false, eqb-true, ne_eqb}
use Rattle.seeing.specs.declared.Begin.{Begin}
use Rattle.seeing.specs.declared.Begin.TheVariants as begin
use Rattle.seeing.specs.declared.End.{End}
use Rattle.seeing.specs.declared.End.TheVariants as end
use Rattle.seeing.specs.declared.Version.{Version}
use Rattle.seeing.specs.declared.Transaction.{Transaction as Sitter}
use Rattle.keys.specs.Laws.{TotalOrder}
use Rattle.rules.specs.Tables.{entry}
use Rattle.seeing.specs.Slots.{Slots, find}
use Rattle.rules.specs.Worlds.{World, with_slots}
use Rattle.rules.specs.Slots.{unseat}
use Rattle.rules.specs.Runs.{Position}
use Rattle.serial.specs.Lists.{In}
use Rattle.serial.specs.Machine.{Transaction, State, Stage, active, preparing, validated, committed}
use Rattle.serial.proofs.Lists.{All_at}
use Rattle.rules.proofs.Game.{game}
use Rattle.rules.proofs.Times.{Here, come, time, shown, BegunBy}
use Rattle.rules.proofs.Relation.{stored, Begins, Ends, Suits, Inv, Good, phase_of}
use Rattle.rules.proofs.Slots.{some_injective, some_none, find_unseat_other}
use Rattle.rules.proofs.Upkeep.{Open, Refit, begin_time, end_time, begin_other, begin_was, end_other}
use Rattle.seeing.specs.declared.Phase.{Phase}
use Rattle.seeing.specs.declared.Phase.TheVariants.{Active, Preparing, Validated, Committed, Aborted}
use Rattle.rules.specs.declared.Call.TheVariants as call
use Rattle.seeing.specs.Seeing.{as_end}
use Rattle.seeing.specs.Changing.{settle, settle_begin, settle_end, made_by, names}
use Rattle.seeing.specs.Phases.{is_over}
use Rattle.rules.specs.TableRules.{finish_rule, settle_entry, without_note}
use Rattle.serial.proofs.Orders.{ordered}
use Rattle.rules.proofs.Upkeep as upkeep
use Rattle.rules.proofs.Checks.{Comes, comes, bind, is_named}
use Rattle.rules.proofs.Calls.{after}
use Rattle.rules.proofs.Finish.{finish_good}

module _ {K : Type 0} (V : Type 0) (order : K → K → Ordering) (total : TotalOrder order) (p : Position K V) (s : State (game V order total)) (inv : Inv V order total p s) where
  abbrev Tx : Type 0
  Tx = Transaction (game V order total)

  abbrev ts : Slots
  ts = p.world.store.slots

  abbrev world_at : ℕ → Phase → World K V
  world_at n ph = record { store = with_slots p.world.store (unseat n ts); versions = map (settle_entry p.world.store.last n ph) p.world.versions; notes = map (without_note n) p.world.notes; rows = p.world.rows; index = p.world.index }

  still : (n m : ℕ) → (m ≡ n → ⊥) → stored ts m ≡ true → stored (unseat n ts) m ≡ true
  still n m d e = ap (λ o. is_some o) (find_unseat_other n ts m d) ∙ e

  module _ (t : Tx) (i : In t s.line) (st : t.stage ≡ committed) where
    abbrev f : Version K V → Version K V
    f = settle p.world.store.last t.name (Committed t.end)

    apart : (u : Tx) → Open (game V order total) s u → u.name ≡ t.name → ⊥
    apart = upkeep.apart (game V order total) s inv.way t i st

    begin' : (x : Begin) → time (game V order total) s.line (as_end (settle_begin t.name t.end x)) ≡ time (game V order total) s.line (as_end x)
    begin' = begin_time (game V order total) s inv.way t i st

    end' : (x : End) → time (game V order total) s.line (settle_end t.name (end.Stamp t.end) x) ≡ time (game V order total) s.line x
    end' = end_time (game V order total) s inv.way t i st

    refit : (q : ℕ) (v : Version K V) → entry p.world.versions q ≡ Some v → Refit (game V order total) s v (f v)
    refit q v a = record {
      key = refl;
      value = refl;
      shows = λ R. ap (λ o. come R o && not (come R (time (game V order total) s.line (settle_end t.name (end.Stamp t.end) v.end)))) (begin' v.begin) ∙ ap (λ o. come R (time (game V order total) s.line (as_end v.begin)) && not (come R o)) (end' v.end);
      since = λ R e. begin' v.begin;
      begin_back = λ u o e. begin_was (game V order total) s inv.way t i st v.begin u.name e;
      begin_on = λ u o e. begin_other (game V order total) s inv.way t i st v.begin u.name (apart u o) e;
      own_end = λ u j e. ⊎_elim (λ y. end_other (game V order total) s inv.way t i st v.end u.name (apart u (inl j)) y ∙ sym y) (λ y. ap (settle_end t.name (end.Stamp t.end)) y.0 ∙ sym y.0) ((inv.shelf.own u j).sound q v a e);
      end_on = λ u o e. end_other (game V order total) s inv.way t i st v.end u.name (apart u o) e;
    }

    given_out : t.end ≤ s.clock
    given_out = All_at (λ t. t.end ≤ s.clock) t s.line i (ordered (game V order total) s inv.way).given_out

    begins : (q : ℕ) (v : Version K V) → entry p.world.versions q ≡ Some v → Begins (game V order total) s (stored (unseat t.name ts)) (f v) (f v).begin
    begins q v a = go v.begin (inv.shelf.begins q v a)
      where
        go : (x : Begin) → Begins (game V order total) s (stored ts) v x → Begins (game V order total) s (stored (unseat t.name ts)) (f v) (settle_begin t.name t.end x)
        go (begin.Stamp b) h = (h.0, ⊎_elim (λ z. inl (ap (settle_end t.name (end.Stamp t.end)) z)) (λ z. inr z) h.1)
        go (begin.Owner m) h = at (eqb m t.name) refl
          where
            at : (b : Bool) → eqb m t.name ≡ b → Begins (game V order total) s (stored (unseat t.name ts)) (f v) (cond b (begin.Stamp t.end) (begin.Owner m))
            at true e = (given_out, inr (t, (i, (st, (refl, h.1 t (inl i) (sym (eqb-true m t.name e)))))))
            at false e = (still t.name m (Rattle.std.proofs.lemmas.Bool.eqb-false m t.name e) h.0, h.1)

    begun' : (m : ℕ) (v : Version K V) → BegunBy (game V order total) s.line m v → BegunBy (game V order total) s.line m (f v)
    begun' m v z = (z.0, (begin' v.begin ∙ z.1.0, z.1.1))

    ends : (q : ℕ) (v : Version K V) → entry p.world.versions q ≡ Some v → Ends (game V order total) s (stored (unseat t.name ts)) (f v) (f v).end
    ends q v a = go v.end (inv.shelf.ends q v a)
      where
        go : (x : End) → Ends (game V order total) s (stored ts) v x → Ends (game V order total) s (stored (unseat t.name ts)) (f v) (settle_end t.name (end.Stamp t.end) x)
        go end.Open h = tt
        go (end.Stamp b) h = (h.0, ⊎_elim (λ z. inl (ap (settle_begin t.name t.end) z)) (λ z. inr (z.0, (z.1.0, (z.1.1.0, (z.1.1.1.0, (z.1.1.1.1.0, begun' z.0.name v z.1.1.1.1.1)))))) h.1)
        go (end.Owner m) h = at (eqb m t.name) refl
          where
            at : (b : Bool) → eqb m t.name ≡ b → Ends (game V order total) s (stored (unseat t.name ts)) (f v) (cond b (end.Stamp t.end) (end.Owner m))
            at true e =
                let mt = eqb-true m t.name e in let r = h.1 t (inl i) (sym mt) in
                (given_out, ⊎_elim (λ z. inl (ap (settle_begin t.name t.end) z ∙ ap (λ b. cond b (begin.Stamp t.end) (begin.Owner m)) e)) (λ z. inr (t, (i, (st, (refl, (r.0, begun' t.name v (subst (λ x. BegunBy (game V order total) s.line x v) mt z))))))) r.1)
            at false e =
                let d = Rattle.std.proofs.lemmas.Bool.eqb-false m t.name e in
                (still t.name m d h.0, λ u o z. let r = h.1 u o z in (r.0, ⊎_elim (λ y. inl (begin_other (game V order total) s inv.way t i st v.begin m d y)) (λ y. inr (begun' m v y)) r.1))

    pub committed_good : Good V order total (record { world = world_at t.name (Committed t.end); history = p.history })
    committed_good = (s, finish_good V order total p s inv t.name apart f refit begins ends (λ _. (t, (i, refl))))

  stage_end : (x : Stage) (y e : ℕ) → x ≡ committed → phase_of x y ≡ Committed e → y ≡ e
  stage_end active y e q h = absurd (let z : ◌≡◌ {A = ℕ} 0 1 = cc in omega arith)
  stage_end preparing y e q h = absurd (let z : ◌≡◌ {A = ℕ} 0 1 = cc in omega arith)
  stage_end validated y e q h = absurd (let z : ◌≡◌ {A = ℕ} 0 1 = cc in omega arith)
  stage_end committed y e q h = cc

  pub finish_committed : (n e : ℕ) (u : Sitter) → find ts n ≡ Some u → u.phase ≡ Committed e → Good V order total (record { world = world_at n (Committed e); history = p.history })
  finish_committed n e u found ph =
      let z = inv.tale.committed n (inv.tale.settled n e u found ph) in
      let ee : z.0.end ≡ e = stage_end z.0.stage z.0.end e z.1.1.1 (sym (inv.roll.done z.0 u z.1.0 (ap (find ts) z.1.1.0 ∙ found)).phase ∙ ph) in
      subst (λ m. Good V order total (record { world = world_at m (Committed e); history = p.history })) z.1.1.0
      (subst (λ x. Good V order total (record { world = world_at z.0.name (Committed x); history = p.history })) ee (committed_good z.0 z.1.0 z.1.1.1))

  module _ (n : ℕ) (u : Sitter) (found : find ts n ≡ Some u) (ph : u.phase ≡ Aborted) where
    abbrev g : Version K V → Version K V
    g = settle p.world.store.last n Aborted

    never : (x : Stage) (y : ℕ) → phase_of x y ≡ Aborted → ⊥
    never active y h = let z : ◌≡◌ {A = ℕ} 0 1 = cc in omega arith
    never preparing y h = let z : ◌≡◌ {A = ℕ} 0 1 = cc in omega arith
    never validated y h = let z : ◌≡◌ {A = ℕ} 0 1 = cc in omega arith
    never committed y h = let z : ◌≡◌ {A = ℕ} 0 1 = cc in omega arith

    dead : (t : Tx) → Here (game V order total) s t → t.name ≡ n → ⊥
    dead t (inl i) q = never t.stage t.end (sym (inv.roll.done t u i (ap (find ts) q ∙ found)).phase ∙ ph)
    dead t (inr i) q = let w = inv.roll.at_work t i in never t.stage t.end (sym (subst (Suits (game V order total) ts t) (some_injective (sym w.1.1.0 ∙ ap (find ts) q ∙ found)) w.1.1.1).phase ∙ ph)

    here : (t : Tx) → Open (game V order total) s t → Here (game V order total) s t
    here t (inl j) = inr j
    here t (inr j) = inl j.0

    n_time : Rattle.rules.proofs.Times.ending (game V order total) s.line n ≡ None
    n_time = Rattle.rules.proofs.Lines.ending_none (game V order total) s.line n (λ t i e. dead t (inl i) e)

    last_old : p.world.store.last ≤ s.clock
    last_old = let e = inv.clock in omega arith

    not_shown : (R : ℕ) (v : Version K V) → v.begin ≡ begin.Owner n → shown (game V order total) s.line R v ≡ false
    not_shown R v e = ap (λ o. come R o && not (come R (time (game V order total) s.line v.end))) (ap (λ x. time (game V order total) s.line (as_end x)) e ∙ n_time)

    never_both : (c : Bool) → (c && not c) ≡ false
    never_both true = refl
    never_both false = refl

    end_same : (x : End) → time (game V order total) s.line (settle_end n end.Open x) ≡ time (game V order total) s.line x
    end_same (end.Stamp b) = refl
    end_same end.Open = refl
    end_same (end.Owner m) = go (eqb m n) refl
      where
        go : (b : Bool) → eqb m n ≡ b → time (game V order total) s.line (cond b end.Open (end.Owner m)) ≡ Rattle.rules.proofs.Times.ending (game V order total) s.line m
        go true e = sym (ap (Rattle.rules.proofs.Times.ending (game V order total) s.line) (eqb-true m n e) ∙ n_time)
        go false e = refl

    end_stays : (x : End) (m : ℕ) → (m ≡ n → ⊥) → x ≡ end.Owner m → settle_end n end.Open x ≡ end.Owner m
    end_stays x m d e = ap (settle_end n end.Open) e ∙ ap (λ b. cond b end.Open (end.Owner m)) (ne_eqb m n d)

    refit_dead : (q : ℕ) (v : Version K V) → entry p.world.versions q ≡ Some v → Refit (game V order total) s v (g v)
    refit_dead q v a = go (made_by n v) refl
      where
        gone : Version K V
        gone = record { key = v.key; value = v.value; begin = begin.Stamp p.world.store.last; end = end.Stamp p.world.store.last }

        go : (b : Bool) → made_by n v ≡ b → Refit (game V order total) s v (cond b (record { key = v.key; value = v.value; begin = begin.Stamp p.world.store.last; end = end.Stamp p.world.store.last }) (record { key = v.key; value = v.value; begin = v.begin; end = settle_end n end.Open v.end }))
        go true m = record {
          key = refl;
          value = refl;
          shows = λ R. never_both (leb p.world.store.last R) ∙ sym (not_shown R v mine);
          since = λ R e. absurd (true≢false (sym e ∙ not_shown R v mine));
          begin_back = λ w o e. absurd (let z : ◌≡◌ {A = ℕ} 0 1 = cc in omega arith);
          begin_on = λ w o e. absurd (dead w (here w o) (Rattle.rules.proofs.Writes.begin_owner w.name n (sym e ∙ mine)));
          own_end = λ w j e. absurd (dead w (inr j) (Rattle.rules.proofs.Writes.begin_owner w.name n (sym e ∙ mine)));
          end_on = λ w o e. absurd (⊎_elim (λ y. dead w (here w o) (Rattle.rules.proofs.Writes.begin_owner w.name n (sym y ∙ mine))) (λ y. some_none (sym y.1.0 ∙ ap (λ x. time (game V order total) s.line (as_end x)) mine ∙ n_time)) ((subst (Ends (game V order total) s (stored ts) v) e (inv.shelf.ends q v a)).1 w (here w o) refl).1);
        }
          where
            mine : v.begin ≡ begin.Owner n
            mine = Rattle.rules.proofs.Prepare.names_begin n v.begin m
        go false m = record {
          key = refl;
          value = refl;
          shows = λ R. ap (λ o. come R (time (game V order total) s.line (as_end v.begin)) && not (come R o)) (end_same v.end);
          since = λ R e. refl;
          begin_back = λ w o e. e;
          begin_on = λ w o e. e;
          own_end = λ w j e. ⊎_elim (λ y. end_stays v.end w.name (dead w (inr j)) y ∙ sym y) (λ y. ap (settle_end n end.Open) y.0 ∙ sym y.0) ((inv.shelf.own w j).sound q v a e);
          end_on = λ w o e. end_stays v.end w.name (dead w (here w o)) e;
        }

    begins_dead : (q : ℕ) (v : Version K V) → entry p.world.versions q ≡ Some v → Begins (game V order total) s (stored (unseat n ts)) (g v) (g v).begin
    begins_dead q v a = go (made_by n v) refl
      where
        at : (x : Begin) → names n (as_end x) ≡ false → Begins (game V order total) s (stored ts) v x → Begins (game V order total) s (stored (unseat n ts)) (record { key = v.key; value = v.value; begin = v.begin; end = settle_end n end.Open v.end }) x
        at (begin.Stamp b) m h = (h.0, ⊎_elim (λ z. inl (ap (settle_end n end.Open) z)) (λ z. inr z) h.1)
        at (begin.Owner k) m h = (still n k (Rattle.std.proofs.lemmas.Bool.eqb-false k n m) h.0, h.1)

        go : (b : Bool) → made_by n v ≡ b → let w : Version K V = cond b (record { key = v.key; value = v.value; begin = begin.Stamp p.world.store.last; end = end.Stamp p.world.store.last }) (record { key = v.key; value = v.value; begin = v.begin; end = settle_end n end.Open v.end }) in Begins (game V order total) s (stored (unseat n ts)) w w.begin
        go true m = (last_old, inl refl)
        go false m = at v.begin m (inv.shelf.begins q v a)

    ends_dead : (q : ℕ) (v : Version K V) → entry p.world.versions q ≡ Some v → Ends (game V order total) s (stored (unseat n ts)) (g v) (g v).end
    ends_dead q v a = go (made_by n v) refl
      where
        at : (x : End) → Ends (game V order total) s (stored ts) v x → Ends (game V order total) s (stored (unseat n ts)) (record { key = v.key; value = v.value; begin = v.begin; end = settle_end n end.Open v.end }) (settle_end n end.Open x)
        at end.Open h = tt
        at (end.Stamp b) h = h
        at (end.Owner k) h = by (eqb k n) refl
          where
            by : (b : Bool) → eqb k n ≡ b → Ends (game V order total) s (stored (unseat n ts)) (record { key = v.key; value = v.value; begin = v.begin; end = settle_end n end.Open v.end }) (cond b end.Open (end.Owner k))
            by true e = tt
            by false e = (still n k (Rattle.std.proofs.lemmas.Bool.eqb-false k n e) h.0, h.1)

        go : (b : Bool) → made_by n v ≡ b → let w : Version K V = cond b (record { key = v.key; value = v.value; begin = begin.Stamp p.world.store.last; end = end.Stamp p.world.store.last }) (record { key = v.key; value = v.value; begin = v.begin; end = settle_end n end.Open v.end }) in Ends (game V order total) s (stored (unseat n ts)) w w.end
        go true m = (last_old, inl refl)
        go false m = at v.end (inv.shelf.ends q v a)

    pub finish_aborted : Good V order total (record { world = world_at n Aborted; history = p.history })
    finish_aborted = (s, finish_good V order total p s inv n (λ t o e. dead t (here t o) e) g refit_dead begins_dead ends_dead (λ e. absurd (true≢false (sym (inv.tale.aborted n u found ph) ∙ e))))

  pub finish_keeps : (n : ℕ) → Comes (λ r. Good V order total (after V order total p (call.Finish n) r)) (finish_rule p.world n)
  finish_keeps n = bind (is_named p.world n is_over) (λ u h. comes (go u h.0 u.phase refl h.1))
    where
      go : (u : Sitter) → find ts n ≡ Some u → (ph : Phase) → u.phase ≡ ph → is_over ph ≡ true → Good V order total (record { world = world_at n ph; history = p.history })
      go u f Active e o = absurd (false≢true o)
      go u f (Preparing x) e o = absurd (false≢true o)
      go u f (Validated x) e o = absurd (false≢true o)
      go u f (Committed x) e o = finish_committed n x u f e
      go u f Aborted e o = finish_aborted n u f e
