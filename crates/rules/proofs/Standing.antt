-- The rows standing are those of the book of the committed. Assumes nothing.
use Rattle.std.proofs.Common.{◌≡◌, ℕ, zero, suc, ◌≤◌, Bool, true, false, cond, not, ◌&&◌, List, [], ◌∷◌, map, is_some, Some, None, Option, Ordering, sym, refl, ap, ◌∙◌, subst, inl, inr, ⊎_elim, arith}
use Rattle.std.proofs.lemmas.Bool.{false≢true, cases_Bool, both_ways, le-leb, not-true}
use Rattle.seeing.specs.declared.Begin.{Begin}
use Rattle.seeing.specs.declared.Begin.TheVariants as begin
use Rattle.seeing.specs.declared.End.{End}
use Rattle.seeing.specs.declared.End.TheVariants as end
use Rattle.seeing.specs.declared.Phase.{Phase}
use Rattle.seeing.specs.declared.Phase.TheVariants.{Active, Preparing, Validated, Committed, Aborted}
use Rattle.seeing.specs.declared.Transaction.{Transaction as Sitter}
use Rattle.seeing.specs.declared.Version.{Version}
use Rattle.rules.specs.declared.Entry.{Entry}
use Rattle.rules.specs.declared.Row.{Row}
use Rattle.keys.specs.Laws.{TotalOrder}
use Rattle.rules.specs.Tables.{entry, items}
use Rattle.rules.specs.Lists.{used}
use Rattle.index.specs.Listed as lists
use Rattle.seeing.specs.Slots.{Slots, find}
use Rattle.seeing.specs.Seeing.{as_end}
use Rattle.rules.specs.Runs.{Position}
use Rattle.rules.specs.Law.{is_committed, settled, stands, sorted_rows, standing, book_of, serial_order}
use Rattle.serial.specs.Lists.{In, All, Each, keep, change}
use Rattle.serial.specs.Machine.{Transaction, State, Stage, active, preparing, validated, committed, pending, view, Spared}
use Rattle.serial.proofs.Lists.{All_at, In_keep}
use Rattle.serial.proofs.Kill.{All_in}
use Rattle.serial.proofs.Steps.{sound}
use Rattle.serial.proofs.Names.{distinct}
use Rattle.serial.proofs.Orders.{ordered, In_kept}
use Rattle.rules.proofs.Game.{game, Rising}
use Rattle.rules.proofs.Times.{come, ending, time, shown, latest, upto}
use Rattle.rules.proofs.Relation.{stored, forward, phase_of, Begins, Ends, Shows, Inv}
use Rattle.rules.proofs.Slots.{some_injective, some_none, stored_found, stored_some}
use Rattle.rules.proofs.Lines.{content, view_latest, upto_all, ending_in, ending_some, settled_stage}
use Rattle.rules.proofs.Sight.{across, same_line}
use Rattle.rules.proofs.Death.{shelf_kill}
use Rattle.rules.proofs.Reach.{In_keep', In_kept', items_at, at_items}
use Rattle.rules.proofs.Books.{Holds, rising_same, rising_place, In_place, In_placed}
use Rattle.rules.proofs.Answers.{book_holds}

module _ {A : Type 0} where
  keep_same : (p q : A → Bool) (l : List A) → ((x : A) → In x l → p x ≡ q x) → keep p l ≡ keep q l
  keep_same p q [] h = refl
  keep_same p q (x ∷ l) h = ap (λ b. cond b (x ∷ keep p l) (keep p l)) (h x (inl refl)) ∙ ap (λ z. cond (q x) (x ∷ z) z) (keep_same p q l (λ y i. h y (inr i)))

module _ {K V : Type 0} (order : K → K → Ordering) (total : TotalOrder order) where
  abbrev row : Version K V → Row K V
  row v = record { key = v.key; value = v.value }

  sorted_in : (vs : List (Version K V)) (r : Row K V) → In r (sorted_rows order vs) → (v : Version K V) × (In v vs × (row v ≡ r))
  sorted_in [] r i = absurd i
  sorted_in (v ∷ vs) r i = ⊎_elim (λ e. (v, (inl refl, e))) (λ j. let z = sorted_in vs r j in (z.0, (inr z.1.0, z.1.1))) (In_placed order total (row v) r (sorted_rows order vs) i)

  in_sorted : (vs : List (Version K V)) (v : Version K V) → In v vs → In (row v) (sorted_rows order vs)
  in_sorted [] v i = i
  in_sorted (u ∷ vs) v (inl e) = In_place order total (row u) (row v) (sorted_rows order vs) (inl (ap row e))
  in_sorted (u ∷ vs) v (inr i) = In_place order total (row u) (row v) (sorted_rows order vs) (inr (in_sorted vs v i))

  sorted_rising : (vs : List (Version K V)) → Each (λ v rest. All (λ u. v.key ≡ u.key → ⊥) rest) vs → Rising order (sorted_rows order vs)
  sorted_rising [] h = tt
  sorted_rising (v ∷ vs) h = rising_place order total (row v) (sorted_rows order vs) (sorted_rising vs h.1) (λ r i e. let z = sorted_in vs r i in All_at (λ u. v.key ≡ u.key → ⊥) z.0 vs z.1.0 h.0 (e ∙ ap (λ x. x.key) (sym z.1.1)))

  -- of one key one version passes the test, so the keys of those that pass are apart
  keys_apart : (f : Version K V → Bool) (xs : List (Entry (Version K V))) → ((p q : ℕ) (v u : Version K V) → entry xs p ≡ Some v → entry xs q ≡ Some u → v.key ≡ u.key → f v ≡ true → f u ≡ true → p ≡ q) →
      Each (λ v rest. All (λ u. v.key ≡ u.key → ⊥) rest) (lists.keep f (items xs))
  keys_apart f [] h = tt
  keys_apart f (y ∷ xs) h = at y.held refl (keys_apart f xs (λ p q v u a b k e g. let z = h (suc p) (suc q) v u a b k e g in omega arith))
    where
      at : (o : Option (Version K V)) → y.held ≡ o → Each (λ v rest. All (λ u. v.key ≡ u.key → ⊥) rest) (lists.keep f (items xs)) →
          Each (λ v rest. All (λ u. v.key ≡ u.key → ⊥) rest) (lists.keep f (used (o ∷ map (λ y. y.held) xs)))
      at None q r = r
      at (Some x) q r = go (f x) refl
        where
          go : (c : Bool) → f x ≡ c → Each (λ v rest. All (λ u. v.key ≡ u.key → ⊥) rest) (cond c (x ∷ lists.keep f (items xs)) (lists.keep f (items xs)))
          go true e = (All_in _ (lists.keep f (items xs)) (λ u i k. let y = In_kept' f u (items xs) i in let a = items_at xs u y.0 in let z = h zero (suc a.0) x u q a.1 k e y.1 in absurd (omega arith)), r)
          go false e = r

module _ {K : Type 0} (V : Type 0) (order : K → K → Ordering) (total : TotalOrder order) (p : Position K V) (s : State (game V order total)) (inv : Inv V order total p s) where
  abbrev Tx : Type 0
  Tx = Transaction (game V order total)

  abbrev ts : Slots
  ts = p.world.store.slots

  abbrev settled_line : List Tx
  settled_line = keep (λ t. not (pending t.stage)) s.line

  -- the settled ones alone: those of the others' names are as if dead
  alive : ℕ → Bool
  alive m = is_some (ending (game V order total) settled_line m)

  alive_in : (m : ℕ) → alive m ≡ true → (t : Tx) × (In t s.line × ((t.name ≡ m) × (t.stage ≡ committed)))
  unfolding alive
  alive_in m e = go (ending (game V order total) settled_line m) refl e
    where
      go : (o : Option ℕ) → ending (game V order total) settled_line m ≡ o → is_some o ≡ true → (t : Tx) × (In t s.line × ((t.name ≡ m) × (t.stage ≡ committed)))
      go None q e = absurd (false≢true e)
      go (Some b) q e = let z = ending_some (game V order total) settled_line m b q in let y = In_kept (λ t. not (pending t.stage)) z.0 s.line z.1.0 in (z.0, (y.0, (z.1.1.0, settled_stage z.0.stage (not-true _ y.1))))

  settled_apart : Each (Rattle.serial.proofs.Names.Apart (game V order total)) settled_line
  settled_apart = Rattle.serial.proofs.Lists.Each_keep _ _ (λ t. not (pending t.stage)) (λ t l e a. Rattle.serial.proofs.Lists.All_keep _ _ (λ t. not (pending t.stage)) (λ u z y. y) l a) s.line (distinct (game V order total) s inv.way).line_apart

  in_alive : (t : Tx) → In t s.line → t.stage ≡ committed → alive t.name ≡ true
  unfolding alive
  in_alive t i e = ap (λ o. is_some o) (ending_in (game V order total) settled_line t settled_apart (In_keep (λ t. not (pending t.stage)) t s.line (ap (λ st. not (pending st)) e) i))

  lasts : All (λ t. t.stage ≡ committed → alive t.name ≡ true) s.line
  lasts = All_in _ s.line in_alive

  spared : All (Spared (game V order total) alive) s.active
  spared = All_in _ s.active (λ t i e. let z = alive_in t.name e in absurd (across (game V order total) ts s inv.way inv.roll z.0 t z.1.0 i z.1.1.0))

  same_one : (t : Tx) → In t s.line → alive t.name ≡ true → t.stage ≡ committed
  same_one t i e = let z = alive_in t.name e in ap (λ v. v.stage) (same_line (game V order total) ts s inv.way inv.roll t z.0 i z.1.0 (sym z.1.1.0)) ∙ z.1.1.1

  spared' : All (Spared (game V order total) alive) s.line
  spared' = All_in _ s.line (λ t i e. subst (All (λ m. alive m ≡ true)) (sym (All_at _ t s.line i (sound (game V order total) s inv.way).free (same_one t i e))) tt)

  kept_line : keep (λ t. alive t.name) s.line ≡ settled_line
  kept_line = keep_same (λ t. alive t.name) (λ t. not (pending t.stage)) s.line (λ t i. ⊎_elim
      (λ e. e ∙ sym (ap (λ st. not (pending st)) (same_one t i e)))
      (λ e. e ∙ sym (⊎_elim (λ o. absurd (both_ways (alive t.name) e (in_alive t i (settled_stage t.stage (not-true _ o))))) (λ o. o) (cases_Bool (not (pending t.stage))))) (cases_Bool (alive t.name)))

  now : Shows (game V order total) p.world.versions settled_line s.clock
  now = subst (λ l. Shows (game V order total) p.world.versions l s.clock) kept_line
      ((shelf_kill (game V order total) p.world.versions (stored ts) s inv.way inv.shelf alive lasts spared spared' (λ x i o. let z = inv.roll.waiting x i o in stored_some ts x.name z.0 z.1.0)).shows s.clock (inr (omega arith)))

  -- a mark is settled if its time has come in the settled line
  settled_owner : (m : ℕ) → stored ts m ≡ true → is_committed (find ts m) ≡ come s.clock (ending (game V order total) settled_line m)
  settled_owner m e = let z = stored_found ts m e in go z.0 z.1 (ending (game V order total) settled_line m) refl
    where
      of_stage : (st : Stage) (x : ℕ) (u : Sitter) → u.phase ≡ phase_of st x → is_committed (Some u) ≡ not (pending st)
      of_stage active x u q = ap (λ ph. is_committed (Some (record { name = u.name; level = u.level; phase = ph; doomed = u.doomed; made = u.made; waits = u.waits }))) q
      of_stage preparing x u q = ap (λ ph. is_committed (Some (record { name = u.name; level = u.level; phase = ph; doomed = u.doomed; made = u.made; waits = u.waits }))) q
      of_stage validated x u q = ap (λ ph. is_committed (Some (record { name = u.name; level = u.level; phase = ph; doomed = u.doomed; made = u.made; waits = u.waits }))) q
      of_stage committed x u q = ap (λ ph. is_committed (Some (record { name = u.name; level = u.level; phase = ph; doomed = u.doomed; made = u.made; waits = u.waits }))) q

      go : (u : Sitter) → find ts m ≡ Some u → (o : Option ℕ) → ending (game V order total) settled_line m ≡ o → is_committed (find ts m) ≡ come s.clock o
      go u f (Some b) q =
          let y = ending_some (game V order total) settled_line m b q in let k = In_kept (λ t. not (pending t.stage)) y.0 s.line y.1.0 in
          ap is_committed f ∙ of_stage y.0.stage y.0.end u (inv.roll.done y.0 u k.0 (ap (find ts) y.1.1.0 ∙ f)).phase ∙ k.1
          ∙ sym (le-leb b s.clock (subst (λ x. x ≤ s.clock) y.1.1.1 (All_at (λ t. t.end ≤ s.clock) y.0 s.line k.0 (ordered (game V order total) s inv.way).given_out)))
      go u f None q = ⊎_elim (λ c. absurd (none u.phase refl (sym (ap is_committed f) ∙ c))) (λ c. c) (cases_Bool (is_committed (find ts m)))
        where
          none : (ph : Phase) → u.phase ≡ ph → is_committed (Some u) ≡ true → ⊥
          none ph w c = by ph w (sym (ap (λ ph. is_committed (Some (record { name = u.name; level = u.level; phase = ph; doomed = u.doomed; made = u.made; waits = u.waits }))) w) ∙ c)
            where
              by : (ph : Phase) → u.phase ≡ ph → is_committed (Some (record { name = u.name; level = u.level; phase = ph; doomed = u.doomed; made = u.made; waits = u.waits })) ≡ true → ⊥
              by Active w c = false≢true c
              by (Preparing x) w c = false≢true c
              by (Validated x) w c = false≢true c
              by (Committed x) w c = let y = inv.tale.committed m (inv.tale.settled m x u f w) in
                  some_none (sym (ending_in (game V order total) settled_line y.0 settled_apart (In_keep (λ t. not (pending t.stage)) y.0 s.line (ap (λ st. not (pending st)) y.1.1.1) y.1.0)) ∙ ap (ending (game V order total) settled_line) y.1.1.0 ∙ q)
              by Aborted w c = false≢true c

  stands_shown : (q : ℕ) (v : Version K V) → entry p.world.versions q ≡ Some v → stands ts v ≡ shown (game V order total) settled_line s.clock v
  stands_shown q v a = ap (λ b. b && not (settled ts v.end)) (at_begin v.begin (inv.shelf.begins q v a)) ∙ ap (λ b. come s.clock (time (game V order total) settled_line (as_end v.begin)) && not b) (at_end v.end (inv.shelf.ends q v a))
    where
      at_begin : (x : Begin) → Begins (game V order total) s (stored ts) v x → settled ts (as_end x) ≡ come s.clock (time (game V order total) settled_line (as_end x))
      at_begin (begin.Owner m) h = settled_owner m h.0
      at_begin (begin.Stamp b) h = sym (le-leb b s.clock h.0)

      at_end : (x : End) → Ends (game V order total) s (stored ts) v x → settled ts x ≡ come s.clock (time (game V order total) settled_line x)
      at_end (end.Owner m) h = settled_owner m h.0
      at_end (end.Stamp b) h = sym (le-leb b s.clock h.0)
      at_end end.Open h = refl

  view_now : (k : K) → view (game V order total) settled_line k ≡ content (latest (game V order total) (upto (game V order total) s.clock settled_line) k)
  view_now k = view_latest (game V order total) settled_line k ∙ ap (λ l. content (latest (game V order total) l k)) (sym (upto_all (game V order total) s.clock settled_line (Rattle.serial.proofs.Lists.All_keep _ _ (λ t. not (pending t.stage)) (λ t e h. h) s.line (ordered (game V order total) s inv.way).given_out)))

  standing_holds : Holds order total (standing order p.world) (view (game V order total) settled_line)
  standing_holds = record {
    rising = sorted_rising order total (lists.keep (stands ts) (items p.world.versions)) (keys_apart order total (stands ts) p.world.versions (λ a b v u x y k e f. now.unique a b v u x y k (sym (stands_shown a v x) ∙ e) (sym (stands_shown b u y) ∙ f)));
    each = All_in _ (standing order p.world) (λ r i.
        let z = sorted_in order total (lists.keep (stands ts) (items p.world.versions)) r i in let y = In_kept' (stands ts) z.0 (items p.world.versions) z.1.0 in let a = items_at p.world.versions z.0 y.0 in
        let w = now.sound a.0 z.0 a.1 (sym (stands_shown a.0 z.0 a.1) ∙ y.1) in
        subst (λ x. view (game V order total) settled_line x.key ≡ Some x.value) z.1.1 (view_now z.0.key ∙ ap content w.1.1));
    every = λ k x e. from k x (latest (game V order total) (upto (game V order total) s.clock settled_line) k) refl (sym (view_now k) ∙ e);
  }
    where
      from : (k : K) (x : V) (o : Option (ℕ × Option V)) → latest (game V order total) (upto (game V order total) s.clock settled_line) k ≡ o → content o ≡ Some x → In (record { key = k; value = x }) (standing order p.world)
      from k x None q e = absurd (some_none (sym e))
      from k x (Some y) q e =
          let z = now.complete k y.0 x (q ∙ ap (λ c. Some (y.0, c)) e) in let v = z.1.0 in let a = z.1.1.0 in
          let w = now.sound z.0 v a z.1.1.1.1 in
          let val : v.value ≡ x = some_injective (sym (ap content w.1.1) ∙ sym (view_now v.key) ∙ ap (view (game V order total) settled_line) z.1.1.1.0 ∙ view_now k ∙ ap content q ∙ e) in
          subst (λ r. In r (standing order p.world)) (λ j. record { key = z.1.1.1.0 j; value = val j })
          (in_sorted order total (lists.keep (stands ts) (items p.world.versions)) v (In_keep' (stands ts) v (items p.world.versions) (stands_shown z.0 v a ∙ z.1.1.1.1) (at_items p.world.versions z.0 v a)))

  pub standing_is : standing order p.world ≡ book_of order p.history [] (serial_order p.history)
  standing_is =
      let b = book_holds V order total p.history settled_line (λ t i. ap (λ l. l.transcript) (inv.tale.lives t (inl (In_kept (λ t. not (pending t.stage)) t s.line i).0))) in
      rising_same order total (standing order p.world) (book_of order p.history [] (forward (change (λ t. t.name) settled_line))) standing_holds.rising b.rising
      (λ r i. b.every r.key r.value (All_at _ r (standing order p.world) i standing_holds.each)) (λ r i. standing_holds.every r.key r.value (All_at _ r _ i b.each))
      ∙ ap (book_of order p.history []) (sym inv.tale.serial)
