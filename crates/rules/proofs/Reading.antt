-- A read leaves a position good. Assumes nothing.
use Rattle.std.proofs.Common.{◌≡◌, ℕ, Bool, true, false, cond, List, [], ◌∷◌, take, Some, None, Ok, Option, Ordering, sym, refl, ap, ◌∙◌, subst, inl, inr}
use Rattle.std.proofs.lemmas.Bool.{true≢false}
use Rattle.rules.specs.declared.Answer.{Answer}
use Rattle.rules.specs.declared.Answer.TheVariants as answer
use Rattle.rules.specs.declared.BookCall.{BookCall}
use Rattle.rules.specs.declared.BookCall.TheVariants as book
use Rattle.rules.specs.declared.Call.TheVariants as call
use Rattle.seeing.specs.declared.Begin.TheVariants as begin
use Rattle.seeing.specs.declared.Transaction.{Transaction as Sitter}
use Rattle.rules.specs.declared.Noted.{Noted}
use Rattle.rules.specs.declared.Noted.TheVariants as noted
use Rattle.rules.specs.Keys.{same}
use Rattle.keys.specs.Laws.{TotalOrder}
use Rattle.rules.specs.Tables.{entry}
use Rattle.rules.specs.Index.{covering}
use Rattle.seeing.specs.Slots.{Slots, find}
use Rattle.seeing.specs.Seeing.{visible}
use Rattle.rules.specs.Worlds.{World, Choice, Allowed}
use Rattle.rules.specs.Reaching.{Met, first_seen, waits_after}
use Rattle.seeing.specs.Phases.{is_active}
use Rattle.seeing.specs.Changing.{made_by}
use Rattle.rules.specs.BookRules.{read_rule, conclude, note_of, value_of}
use Rattle.rules.specs.Book.{value_or_absent, is_done}
use Rattle.rules.specs.Runs.{Position, number_in}
use Rattle.serial.specs.Lists.{In}
use Rattle.serial.specs.Machine.{Transaction, State, touched, play, view, below}
use Rattle.rules.proofs.Game.{game, same_true, looks, RightCall}
use Rattle.rules.proofs.Times.{shown}
use Rattle.rules.proofs.Relation.{stored, Guarded, Inv, Good}
use Rattle.rules.proofs.Prepare.{names_begin, begin_touched}
use Rattle.rules.proofs.Looks.{visible_shown, unnamed}
use Rattle.rules.proofs.Meeting.{seen_some, seen_none}
use Rattle.rules.proofs.Checks.{Comes, bind, is_sound}
use Rattle.rules.proofs.Concluding.{Noting, concluded}
use Rattle.rules.proofs.Calls.{after, worker}
use Rattle.rules.proofs.Reach.{first_none, first_some, within_one, one_within, Meets, all_reached, met_from}
use Rattle.rules.specs.declared.Entry.{Entry}
use Rattle.rules.specs.declared.Note.{Note}

take_none : {A : Type 0} (xs : List A) → take 0 xs ≡ []
take_none [] = refl
take_none (x ∷ xs) = refl

module _ {K : Type 0} (V : Type 0) (order : K → K → Ordering) (total : TotalOrder order) (p : Position K V) (s : State (game V order total)) (inv : Inv V order total p s) (c : Choice) (ok : Allowed c p.world) where
  abbrev Tx : Type 0
  Tx = Transaction (game V order total)

  abbrev w : World K V
  w = p.world

  abbrev ts : Slots
  ts = p.world.store.slots

  -- a call on the key k by n, which sees the versions met
  module _ (n : ℕ) (k : K) (u : Sitter) (found : find ts n ≡ Some u) (t : Tx) (i : In t s.active) (q : t.name ≡ n) (met : List (Met K V)) (m : Meets order total w.versions (covering order w.index k k) met) where
    -- what t has of the key
    abbrev has : Option V
    has = play (game V order total) (view (game V order total) (below (game V order total) t.name s.line)) t.moves k

    pub none_seen : first_seen w.store.slots n met ≡ None → has ≡ None
    none_seen e = seen_none order total w k k met m inv.listed s inv.way inv.roll inv.shelf t i k (one_within order total k k refl)
        (λ p v j z. subst (λ x. visible ts x x v ≡ false) (sym q) (first_none (λ (x : Met K V). visible ts n n x.1) met e (p, v) j))

    pub one_seen : (x : Met K V) → first_seen w.store.slots n met ≡ Some x → (entry w.versions x.0 ≡ Some x.1) × ((x.1.key ≡ k) × ((visible ts t.name t.name x.1 ≡ true) × (has ≡ Some x.1.value)))
    one_seen x e =
        let z = first_some (λ (x : Met K V). visible ts n n x.1) met x e in
        let f = met_from order total w inv.listed k k met m x z.0 in
        let key : x.1.key ≡ k = sym (within_one order total k x.1.key f.1) in
        let vis : visible ts t.name t.name x.1 ≡ true = subst (λ y. visible ts y y x.1 ≡ true) (sym q) z.1 in
        (f.0, (key, (vis, ap (λ j. play (game V order total) (view (game V order total) (below (game V order total) t.name s.line)) t.moves j) (sym key) ∙ (seen_some order total w k k met m inv.listed s inv.way inv.roll inv.shelf t i x.0 x.1 z.0 vis).1)))

    -- what a call on the key alone is told, with no rows
    abbrev RightOne : BookCall K V → Answer V → Type 0
    RightOne b a = RightCall order b (Ok a) [] (play (game V order total) (view (game V order total) (below (game V order total) t.name s.line)) t.moves)

    one_key : (b : BookCall K V) (a : Answer V) (what : Option (Noted K)) → is_done (Ok a) ≡ false → number_in (Ok a) ≡ 0 → ((j : K) → looks order b j ≡ same order k j) → RightOne b a →
        ((ns : List (Entry (Note K))) → Noting V order total p s inv c ok n u found t i q k k met m what ns → t.ser ≡ true → touched (game V order total) t.moves k ≡ false → Guarded V order total ns w.versions s.line t.name k) →
        Comes (λ r. Good V order total (after V order total p (call.Book n b) r)) (conclude c w n u what (waits_after ts n n met u.waits) a)
    one_key b a what not_done no_rows at right guard = concluded V order total p s inv c ok n u found t i q k k met m b a w.rows what not_done
        (λ j e. one_within order total k j (key j e)) (subst (λ rows. RightCall order b (Ok a) rows (play (game V order total) (view (game V order total) (below (game V order total) t.name s.line)) t.moves)) (sym (ap (λ z. take z w.rows) no_rows ∙ take_none w.rows)) right)
        (λ ns h ser j e f. subst (Guarded V order total ns w.versions s.line t.name) (key j e) (guard ns h ser (ap (touched (game V order total) t.moves) (key j e) ∙ f)))
      where
        key : (j : K) → looks order b j ≡ true → k ≡ j
        key j e = same_true order total k j (sym (at j) ∙ e)

    -- "absent", noted as the range of the one key
    pub absent_keeps : (b : BookCall K V) → ((j : K) → looks order b j ≡ same order k j) → RightOne b answer.Absent →
        Comes (λ r. Good V order total (after V order total p (call.Book n b) r)) (conclude c w n u (Some (noted.Range k k)) (waits_after ts n n met u.waits) answer.Absent)
    absent_keeps b at right = one_key b answer.Absent (Some (noted.Range k k)) refl refl at right (λ ns h ser f. inl (k, (k, (one_within order total k k refl, h.made (noted.Range k k) refl ser))))

    -- a value is seen: its version is noted, unless it is t's own
    pub present_keeps : (b : BookCall K V) (a : Answer V) (x : Met K V) → first_seen w.store.slots n met ≡ Some x → is_done (Ok a) ≡ false → number_in (Ok a) ≡ 0 → ((j : K) → looks order b j ≡ same order k j) → RightOne b a →
        Comes (λ r. Good V order total (after V order total p (call.Book n b) r)) (conclude c w n u (note_of n k (Some x)) (waits_after ts n n met u.waits) a)
    present_keeps b a x seen not_done no_rows at_k right = one_key b a (note_of n k (Some x)) not_done no_rows at_k right (λ ns h ser f. go ns h ser f (made_by n x.1) refl)
      where
        at : (entry w.versions x.0 ≡ Some x.1) × ((x.1.key ≡ k) × ((visible ts t.name t.name x.1 ≡ true) × (has ≡ Some x.1.value)))
        at = one_seen x seen

        shows : touched (game V order total) t.moves k ≡ false → shown (game V order total) s.line t.name x.1 ≡ true
        shows free = let z = unnamed (game V order total) ts s inv.way inv.roll w.versions inv.shelf t x.0 x.1 (inr i) at.0 (ap (touched (game V order total) t.moves) at.1.0 ∙ free) in
            sym (visible_shown (game V order total) ts s inv.way inv.roll w.versions inv.shelf t.name t.name x.0 x.1 at.0 z.0 z.1) ∙ at.1.1.0

        go : (ns : List (Entry (Note K))) → Noting V order total p s inv c ok n u found t i q k k met m (note_of n k (Some x)) ns → t.ser ≡ true → touched (game V order total) t.moves k ≡ false → (own : Bool) → made_by n x.1 ≡ own → Guarded V order total ns w.versions s.line t.name k
        go ns h ser free true own = absurd (true≢false (sym (ap (touched (game V order total) t.moves) (sym at.1.0)
            ∙ begin_touched (game V order total) w.versions (stored ts) s inv.way inv.shelf x.0 x.1 t at.0 (inr i) (names_begin n x.1.begin own ∙ ap begin.Owner (sym q))) ∙ free))
        go ns h ser free false own = inr (x.0, (x.1, (h.made (noted.Version k x.0) (ap (λ b. cond b None (Some (noted.Version x.1.key x.0))) own ∙ ap (λ k. Some (noted.Version k x.0)) at.1.0) ser, (at.0, (at.1.0, shows free)))))

  pub read_keeps : (n : ℕ) (k : K) → Comes (λ r. Good V order total (after V order total p (call.Book n (book.Read k)) r)) (read_rule order c w n k)
  read_keeps n k = bind (is_sound w n is_active) (λ u h. bind (all_reached order total w (covering order w.index k k)) (λ met m.
      let z = worker (game V order total) ts s inv.way inv.roll n u h.0 h.1.0 h.1.1 in
      seen u h.0 z.0 z.1.0 z.1.1 met m (first_seen ts n met) refl))
    where
      seen : (u : Sitter) (found : find ts n ≡ Some u) (t : Tx) (i : In t s.active) (q : t.name ≡ n) (met : List (Met K V)) (m : Meets order total w.versions (covering order w.index k k) met) (o : Option (Met K V)) → first_seen ts n met ≡ o →
          Comes (λ r. Good V order total (after V order total p (call.Book n (book.Read k)) r)) (conclude c w n u (note_of n k o) (waits_after ts n n met u.waits) (value_of o))
      seen u found t i q met m None e = absent_keeps n k u found t i q met m (book.Read k) (λ j. refl) (ap (λ o. Ok (value_or_absent o)) (sym (none_seen n k u found t i q met m e)), refl)
      seen u found t i q met m (Some x) e = present_keeps n k u found t i q met m (book.Read k) (answer.Value x.1.value) x e refl refl (λ j. refl) (ap (λ o. Ok (value_or_absent o)) (sym (one_seen n k u found t i q met m x e).1.1.1), refl)
