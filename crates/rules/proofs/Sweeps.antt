-- A sweep leaves a position good. Assumes nothing.
use Rattle.std.proofs.Common.{◌≡◌, ℕ, zero, suc, ◌≤◌, Bool, true, false, cond, not, ◌&&◌, eqb, ltb, ◌⊎◌, List, [], ◌∷◌, map, length, Some, None, Option, Ordering, sym, refl, ap, ◌∙◌, subst, inl, inr, ⊎_elim, arith}
use lib.ListN.{length-map}
use Rattle.std.proofs.lemmas.Bool.{false≢true, true≢false, cases_Bool, and_parts, and_right, not-true, not_from_false, ltb-true, le-leb}
use Rattle.seeing.specs.declared.Begin.{Begin}
use Rattle.seeing.specs.declared.Begin.TheVariants as begin
use Rattle.seeing.specs.declared.End.{End}
use Rattle.seeing.specs.declared.End.TheVariants as end
use Rattle.rules.specs.declared.Entry.{Entry}
use Rattle.rules.specs.declared.Call.TheVariants as call
use Rattle.seeing.specs.declared.Version.{Version}
use Rattle.seeing.specs.declared.Transaction.{Transaction as Sitter}
use Rattle.rules.specs.Keys.{same}
use Rattle.keys.specs.Laws.{TotalOrder}
use Rattle.rules.specs.Tables.{entry, emptied}
use Rattle.rules.specs.Lists.{used, all}
use Rattle.index.specs.Listed as lists
use Rattle.seeing.specs.Slots.{Slots, find}
use Rattle.seeing.specs.Seeing.{as_end}
use Rattle.rules.specs.TableRules.{is_past, to_sweep, swept_entry, sweeps_pair, sweep_rule}
use Rattle.rules.specs.Checks.{still_allowed}
use Rattle.rules.specs.Runs.{Position}
use Rattle.serial.specs.Lists.{In}
use Rattle.serial.specs.Machine.{Transaction, State, committed, pending, touched}
use Rattle.serial.proofs.Lists.{All_at}
use Rattle.serial.proofs.Names.{Apart, distinct}
use Rattle.serial.proofs.Orders.{touched_covered}
use Rattle.rules.proofs.Game.{game}
use Rattle.rules.proofs.Times.{come, time, shown, Names}
use Rattle.rules.proofs.Relation.{stored, Late, Ends, Shelf, Listed, Guarded, Inv, Good}
use Rattle.rules.proofs.Slots.{some_injective, some_none, find_name, stored_found, stored_some}
use Rattle.rules.proofs.Lines.{ending_none, ending_in}
use Rattle.rules.proofs.Prepare.{begin_touched}
use Rattle.rules.proofs.Looks.{settled_clear}
use Rattle.rules.proofs.Upkeep.{Open, refit_self, shelf_refit}
use Rattle.rules.proofs.Reach.{In_keep', In_kept'}
use Rattle.rules.proofs.Tables.{climbing_keep}
use Rattle.rules.proofs.Checks.{Comes, comes, unless}
use Rattle.rules.proofs.Calls.{after}

all_found : (f : Sitter → Bool) (ts : Slots) (n : ℕ) (u : Sitter) → all f (used ts) ≡ true → find ts n ≡ Some u → f u ≡ true
all_found f [] n u h e = absurd (some_none (sym e))
all_found f (None ∷ ts) n u h e = all_found f ts n u h e
all_found f (Some t ∷ ts) n u h e = go (eqb t.name n) e (all_found f ts n u (and_parts (f t) (all f (used ts)) h).1)
  where
    go : (b : Bool) → cond b (Some t) (find ts n) ≡ Some u → (find ts n ≡ Some u → f u ≡ true) → f u ≡ true
    go true e r = ap f (sym (some_injective e)) ∙ (and_parts (f t) (all f (used ts)) h).0
    go false e r = r e

past_stamp : (ts : Slots) (x : End) → is_past ts x ≡ true → (e : ℕ) × ((x ≡ end.Stamp e) × (all (λ t. ltb e t.name) (used ts) ≡ true))
past_stamp ts (end.Stamp e) h = (e, (refl, h))
past_stamp ts (end.Owner m) h = absurd (false≢true h)
past_stamp ts end.Open h = absurd (false≢true h)

module _ {K V : Type 0} (ts : Slots) where
  abbrev swept : Option (Version K V) → Option (Version K V)
  swept x = cond (to_sweep ts x) None x

  swept_held : (x : Entry (Version K V)) (b : Bool) → (cond b emptied x).held ≡ cond b None x.held
  swept_held x true = refl
  swept_held x false = refl

  swept_at : (vs : List (Entry (Version K V))) (p : ℕ) → entry (map (swept_entry ts) vs) p ≡ swept (entry vs p)
  swept_at [] p = refl
  swept_at (x ∷ vs) zero = swept_held x (to_sweep ts x.held)
  swept_at (x ∷ vs) (suc p) = swept_at vs p

  swept_from : (vs : List (Entry (Version K V))) (p : ℕ) (v : Version K V) → entry (map (swept_entry ts) vs) p ≡ Some v → (entry vs p ≡ Some v) × (is_past ts v.end ≡ false)
  swept_from vs p v e = go (entry vs p) refl (sym (swept_at vs p) ∙ e)
    where
      go : (o : Option (Version K V)) → entry vs p ≡ o → swept o ≡ Some v → (entry vs p ≡ Some v) × (is_past ts v.end ≡ false)
      go None q e = absurd (some_none (sym e))
      go (Some u) q e = at (is_past ts u.end) refl e
        where
          at : (b : Bool) → is_past ts u.end ≡ b → cond b None (Some u) ≡ Some v → (entry vs p ≡ Some v) × (is_past ts v.end ≡ false)
          at true z e = absurd (some_none (sym e))
          at false z e = (q ∙ e, ap (λ x. is_past ts x.end) (sym (some_injective e)) ∙ z)

  swept_on : (vs : List (Entry (Version K V))) (p : ℕ) (v : Version K V) → entry vs p ≡ Some v → is_past ts v.end ≡ false → entry (map (swept_entry ts) vs) p ≡ Some v
  swept_on vs p v e z = swept_at vs p ∙ ap swept e ∙ ap (λ b. cond b None (Some v)) z

module _ {K : Type 0} (V : Type 0) (order : K → K → Ordering) (total : TotalOrder order) (p : Position K V) (s : State (game V order total)) (inv : Inv V order total p s) where
  abbrev Tx : Type 0
  Tx = Transaction (game V order total)

  abbrev ts : Slots
  ts = p.world.store.slots

  abbrev vs : List (Entry (Version K V))
  vs = p.world.versions

  -- what is swept is shown at no time that matters
  hidden : (q : ℕ) (v : Version K V) → entry vs q ≡ Some v → is_past ts v.end ≡ true → (R : ℕ) → Late (game V order total) s (stored ts) R → shown (game V order total) s.line R v ≡ false
  hidden q v a h R late = and_right _ _ (ap (λ x. not (come R (time (game V order total) s.line x))) z.1.0 ∙ ap not (le-leb z.0 R (by late)))
    where
      z : (e : ℕ) × ((v.end ≡ end.Stamp e) × (all (λ t. ltb e t.name) (used ts) ≡ true))
      z = past_stamp ts v.end h

      by : Late (game V order total) s (stored ts) R → z.0 ≤ R
      by (inl y) = let u = stored_found ts y.0 y.1.0 in let lt = ltb-true z.0 u.0.name (all_found (λ t. ltb z.0 t.name) ts y.0 u.0 z.1.1 u.1) in let nm = find_name ts y.0 u.0 u.1 in let le = y.1.1 in omega arith
      by (inr le) = let o = (subst (Ends (game V order total) s (stored ts) v) z.1.0 (inv.shelf.ends q v a)).0 in omega arith

  gone : (q : ℕ) (v : Version K V) → entry vs q ≡ Some v → is_past ts v.end ≡ true → (u : Tx) → Open (game V order total) s u → Names (game V order total) u.name v → ⊥
  gone q v a h u o (inr e) = let z = past_stamp ts v.end h in let w : ◌≡◌ {A = End} (end.Stamp z.0) (end.Owner u.name) = sym z.1.0 ∙ e in let x : ◌≡◌ {A = ℕ} 0 1 = cc in omega arith
  gone q v a h u o (inl e) = go o (subst (Ends (game V order total) s (stored ts) v) z.1.0 (inv.shelf.ends q v a)).1
    where
      z : (e : ℕ) × ((v.end ≡ end.Stamp e) × (all (λ t. ltb e t.name) (used ts) ≡ true))
      z = past_stamp ts v.end h

      go : Open (game V order total) s u → (v.begin ≡ begin.Stamp z.0) ⊎ ((t : Tx) × (In t s.line × ((t.stage ≡ committed) × ((t.end ≡ z.0) × ((touched (game V order total) t.moves v.key ≡ true) × Rattle.rules.proofs.Times.BegunBy (game V order total) s.line t.name v))))) → ⊥
      go o (inl y) = let w : ◌≡◌ {A = Begin} (begin.Stamp z.0) (begin.Owner u.name) = sym y ∙ e in let x : ◌≡◌ {A = ℕ} 0 1 = cc in omega arith
      go (inl j) (inr y) = some_none (sym y.1.1.1.1.1.1.0 ∙ ap (λ x. time (game V order total) s.line (as_end x)) e ∙ ending_none (game V order total) s.line u.name (λ x l d. All_at (λ v. v.name ≡ u.name → ⊥) x s.line l (All_at (λ a. Apart (game V order total) a s.line) u s.active j (distinct (game V order total) s inv.way).across) d))
      go (inr j) (inr y) =
          let b = y.1.1.1.1.1 in
          let same_end : u.end ≡ b.0 = some_injective (sym (ending_in (game V order total) s.line u (distinct (game V order total) s inv.way).line_apart j.0) ∙ sym (ap (λ x. time (game V order total) s.line (as_end x)) e) ∙ b.1.0) in
          settled_clear (game V order total) ts s inv.way inv.roll vs inv.shelf y.0 u v.key y.1.0 y.1.1.0 (touched_covered (game V order total) y.0.moves v.key y.1.1.1.1.0) j.0 j.1
          (begin_touched (game V order total) vs (stored ts) s inv.way inv.shelf q v u a (inl j.0) e) (let le = b.1.1 in omega arith)

  shelf' : Shelf (game V order total) (map (swept_entry ts) vs) (stored ts) s
  shelf' = shelf_refit (game V order total) vs (map (swept_entry ts) vs) (stored ts) (stored ts) s inv.way inv.shelf (λ m e. e)
      (λ q v a. inv.shelf.begins q v (swept_from ts vs q v a).0) (λ q v a. inv.shelf.ends q v (swept_from ts vs q v a).0)
      (λ q v a. (v, ((swept_from ts vs q v a).0, refit_self (game V order total) s v)))
      (λ q v a. ⊎_elim (λ h. inr (hidden q v a h, ((λ o. let z = past_stamp ts v.end h in let w : ◌≡◌ {A = End} (end.Stamp z.0) end.Open = sym z.1.0 ∙ o in let x : ◌≡◌ {A = ℕ} 0 1 = cc in omega arith), gone q v a h))) (λ h. inl (v, (swept_on ts vs q v a h, refit_self (game V order total) s v))) (cases_Bool (is_past ts v.end)))

  abbrev pairs' : List (K × ℕ)
  pairs' = lists.keep (λ x. not (sweeps_pair order ts vs x)) p.world.index.pairs

  pair_kept : (k : K) (q : ℕ) (v : Version K V) → entry vs q ≡ Some v → v.key ≡ k → sweeps_pair order ts vs (k, q) ≡ is_past ts v.end
  pair_kept k q v a e = ap (λ o. elim o [ None ↦ false | Some v ↦ same order k v.key && is_past ts v.end ]) a ∙ ap (λ b. b && is_past ts v.end) (Rattle.rules.proofs.Game.same_from order total k v.key (sym e))

  listed' : Listed order (map (swept_entry ts) vs) pairs'
  listed' = record {
    into = λ q v a. let z = swept_from ts vs q v a in In_keep' (λ x. not (sweeps_pair order ts vs x)) (v.key, q) p.world.index.pairs (not_from_false _ (pair_kept v.key q v z.0 refl ∙ z.1)) (inv.listed.into q v z.0);
    from = λ k q i. let z = In_kept' (λ x. not (sweeps_pair order ts vs x)) (k, q) p.world.index.pairs i in let y = inv.listed.from k q z.0 in
        (y.0, (swept_on ts vs q y.0 y.1.0 (sym (pair_kept k q y.0 y.1.0 y.1.1) ∙ not-true _ z.1), y.1.1));
    climbing = climbing_keep order (λ x. not (sweeps_pair order ts vs x)) p.world.index.pairs inv.listed.climbing;
  }

  guarded' : (n : ℕ) (k : K) → stored ts n ≡ true → Guarded V order total p.world.notes vs s.line n k → Guarded V order total p.world.notes (map (swept_entry ts) vs) s.line n k
  guarded' n k there (inl g) = inl g
  guarded' n k there (inr g) = inr (
    g.0,
    (
      g.1.0,
      (
        g.1.1.0,
        (
          swept_on ts vs g.0 g.1.0 g.1.1.1.0
              (⊎_elim (λ h. absurd (true≢false (sym g.1.1.1.1.1 ∙ hidden g.0 g.1.0 g.1.1.1.0 h n (inl (n, (there, omega arith)))))) (λ h. h) (cases_Bool (is_past ts g.1.0.end))),
          g.1.1.1.1,
        ),
      ),
    ),
  )

  pub sweep_keeps : Comes (λ r. Good V order total (after V order total p call.Sweep r)) (sweep_rule order p.world)
  sweep_keeps = unless _ _ refl (λ _. comes (
    s,
    record {
      way = inv.way;
      fit = ap (λ l. still_allowed p.world.store.opened l (length p.world.notes) p.world.index.capacity) (length-map vs (swept_entry ts)) ∙ inv.fit;
      clock = inv.clock;
      roll = inv.roll;
      shelf = shelf';
      listed = listed';
      guards = record {
        at_work = λ t i ser k c f. guarded' t.name k (let z = inv.roll.at_work t i in stored_some ts t.name z.1.0 z.1.1.0) (inv.guards.at_work t i ser k c f);
        preparing = λ t i st ser k c f. guarded' t.name k (let z = inv.roll.waiting t i (ap pending st) in stored_some ts t.name z.0 z.1.0) (inv.guards.preparing t i st ser k c f);
      };
      tale = inv.tale;
    },
  ))
