-- Insert, update and delete leave a position good, whatever they answer. Assumes nothing.
use Rattle.std.proofs.Common.{◌≡◌, ℕ, Bool, true, false, cond, List, [], set, Some, None, Ok, Option, Ordering, sym, refl, ap, ◌∙◌, subst}
use Rattle.std.proofs.lemmas.Bool.{false≢true, not-false}
use Rattle.seeing.specs.declared.Phase.{Phase}
use Rattle.seeing.specs.declared.Phase.TheVariants.{Active, Preparing, Validated, Committed, Aborted}
use Rattle.seeing.specs.declared.Version.{Version}
use Rattle.rules.specs.declared.BookCall.{BookCall}
use Rattle.rules.specs.declared.Answer.{Answer}
use Rattle.seeing.specs.declared.Transaction.{Transaction as Sitter}
use Rattle.keys.specs.Laws.{TotalOrder}
use Rattle.rules.specs.Tables.{is_free, filled}
use Rattle.rules.specs.Index.{covering, Index, put}
use Rattle.seeing.specs.Slots.{find, Slots}
use Rattle.seeing.specs.Seeing.{visible}
use Rattle.rules.specs.Worlds.{World, Choice, Allowed, with_added, with_versions}
use Rattle.seeing.specs.Changing.{with_end, made_by, not_writable, altered, new_version}
use Rattle.rules.specs.Checks.{Checked, ◌>>=◌, Outcome}
use Rattle.rules.specs.Reaching.{Met, first_seen, waits_after, any_newer}
use Rattle.seeing.specs.Phases.{is_active, is_over}
use Rattle.rules.specs.BookRules.{conflict, insert_rule, alter_rule, conclude, note_of, adding, adding_if}
use Rattle.rules.specs.Runs.{Position}
use Rattle.serial.specs.Lists.{In}
use Rattle.serial.specs.Machine.{Transaction, State}
use Rattle.rules.proofs.Game.{game, looks, RightCall}
use Rattle.rules.proofs.Relation.{Inv, Good}
use Rattle.rules.proofs.Checks.{Comes, comes, refused, bind, either, is_sound, T_true, true_T, unless}
use Rattle.rules.proofs.Reach.{Meets, all_reached, first_some}
use Rattle.rules.proofs.Calls.{after, worker}
use Rattle.rules.proofs.Kills.{kill_keeps}
use Rattle.rules.proofs.Tables.{free_set, free_used}
use Rattle.rules.specs.Keys.{same}
use Rattle.rules.specs.Book.{by_value}
use Rattle.rules.proofs.Reading.{none_seen, one_seen, absent_keeps, present_keeps}
use Rattle.seeing.specs.declared.End.TheVariants as till
use Rattle.rules.specs.declared.BookCall.TheVariants as book
use Rattle.rules.specs.declared.Answer.TheVariants as answer
use Rattle.rules.specs.declared.Call.TheVariants as call
use Rattle.std.proofs.lemmas.List.{set_comm}
use Rattle.rules.specs.declared.Noted.TheVariants as noted
use Rattle.rules.specs.declared.Entry.{Entry}
use Rattle.rules.proofs.WriteCalls.{at_key, done, insert_good, delete_good, update_good, delete_own_good, update_own_good}

not_over : (ph : Phase) → is_active ph ≡ true → is_over ph ≡ false
not_over Active e = refl
not_over (Preparing x) e = absurd (false≢true e)
not_over (Validated x) e = absurd (false≢true e)
not_over (Committed x) e = absurd (false≢true e)
not_over Aborted e = absurd (false≢true e)

-- where it is not refused, the whole may use what the first check says
module _ {A B : Type 0} {P : B → Type 0} where
  via : {Q : A → Type 0} {m : Checked A} (f : A → Checked B) → Comes Q m → ((a : A) → Q a → Comes P (m >>= f)) → Comes P (m >>= f)
  unfolding ◌>>=◌
  via f (comes {a = a} q) h = h a q
  via f (refused r) h = refused r

module _ {K : Type 0} (V : Type 0) (order : K → K → Ordering) (total : TotalOrder order) (p : Position K V) (s : State (game V order total)) (inv : Inv V order total p s) (c : Choice) (ok : Allowed c p.world) where
  abbrev w : World K V
  w = p.world

  abbrev vs : List (Entry (Version K V))
  vs = p.world.versions

  abbrev ts : Slots
  ts = p.world.store.slots

  abbrev Tx : Type 0
  Tx = Transaction (game V order total)

  -- what a call of n comes to is good
  abbrev Fine : ℕ → BookCall K V → World K V × Checked (Answer V) → Type 0
  Fine n b r = Good V order total (after V order total p (call.Book n b) r)

  -- what adding comes to
  adding_comes : (n : ℕ) (k : K) (x : V) → Comes (λ z. (z ≡ (set vs c.version (filled (new_version n k x)), put order w.index k c.version)) × (is_free vs c.version ≡ true)) (adding order c.version n k x (vs, w.index))
  adding_comes n k x = unless _ _ refl (λ e. unless _ _ refl (λ _. comes (refl, T_true _ (ok.version (true_T _ (not-false _ e))))))

  -- the call of t, whose versions of k are met
  module _ (k : K) (t : Tx) (i : In t s.active) (u : Sitter) (found : find ts t.name ≡ Some u) (act : is_active u.phase ≡ true) (met : List (Met K V)) (m : Meets order total vs (covering order w.index k k) met) where
    abbrev waits : List Bool
    waits = waits_after ts t.name t.name met u.waits

    -- "done" makes no note
    finished : (b : BookCall K V) (vs' : List (Entry (Version K V))) (ix : Index K) → Fine t.name b (done V order total p s inv k met m t i u found vs' ix) → Comes (Fine t.name b) (conclude c (with_added w (vs', ix)) t.name u None waits answer.Done)
    unfolding ◌>>=◌
    finished b vs' ix h = comes h

    conflicts : (b : BookCall K V) → Comes (Fine t.name b) (conflict w t.name)
    conflicts b = comes (kill_keeps V order total p s inv t.name u found (not_over u.phase act))

    inserted : (x : V) (o : Option (Met K V)) → first_seen ts t.name met ≡ o → Comes (Fine t.name (book.Insert k x)) (elim o [
      | Some y ↦ conclude c w t.name u (note_of t.name k (Some y)) waits answer.Present
      | None ↦ cond (any_newer ts t.name met) (conflict w t.name)
          (adding order c.version t.name k x (vs, w.index) >>= (λ z. conclude c (with_added w z) t.name u None waits answer.Done))
    ])
    inserted x (Some y) e = present_keeps V order total p s inv c ok t.name k u found t i refl met m (book.Insert k x) answer.Present y e refl refl (λ j. refl)
        (ap (λ o. Ok (by_value answer.Present answer.Done o)) (sym (one_seen V order total p s inv c ok t.name k u found t i refl met m y e).1.1.1), refl)
    inserted x None e = either _ (λ _. conflicts (book.Insert k x)) (λ old. bind (adding_comes t.name k x) (λ z h.
        subst (λ z. Comes (Fine t.name (book.Insert k x)) (conclude c (with_added w z) t.name u None waits answer.Done)) (sym h.0)
        (finished (book.Insert k x) _ _ (insert_good V order total p s inv k met m t i u found x c.version h.1 e old))))

    -- what the rule of update and delete does of what t sees
    abbrev altering : Option V → Option (Met K V) → Outcome K V
    altering new o = elim o [
      | None ↦ conclude c w t.name u (Some (noted.Range k k)) waits answer.Absent
      | Some y ↦ cond (made_by t.name y.1) (conclude c (with_versions w (set vs y.0 (filled (altered t.name new y.1)))) t.name u None waits answer.Done)
          (cond (not_writable ts y.1.end) (conflict w t.name)
          (adding_if order c.version t.name k new (vs, w.index) >>= (λ z. conclude c (with_added w (set z.0 y.0 (filled (with_end (till.Owner t.name) y.1)), z.1)) t.name u None waits answer.Done)))
    ]

    -- update, with a value, and delete, with none: what is left to show is what a change of one's own version makes, and of another's
    module _ (b : BookCall K V) (new : Option V) (at_k : (j : K) → looks order b j ≡ same order k j)
        (right : (f : K → Option V) → f k ≡ None → RightCall order b (Ok answer.Absent) [] f)
        (own : (r : ℕ) (v : Version K V) → In (r, v) met → visible ts t.name t.name v ≡ true → made_by t.name v ≡ true →
        Fine t.name b (done V order total p s inv k met m t i u found (set vs r (filled (altered t.name new v))) w.index))
        (other : (r : ℕ) (v : Version K V) → In (r, v) met → visible ts t.name t.name v ≡ true → made_by t.name v ≡ false → not_writable ts v.end ≡ false →
        Comes (Fine t.name b) (adding_if order c.version t.name k new (vs, w.index) >>= (λ z. conclude c (with_added w (set z.0 r (filled (with_end (till.Owner t.name) v)), z.1)) t.name u None waits answer.Done))) where
      changed : (o : Option (Met K V)) → first_seen ts t.name met ≡ o → Comes (Fine t.name b) (altering new o)
      changed None e = absent_keeps V order total p s inv c ok t.name k u found t i refl met m b at_k (right _ (none_seen V order total p s inv c ok t.name k u found t i refl met m e))
      changed (Some y) e =
          let f = first_some (λ y. visible ts t.name t.name y.1) met y e in
          either _ (λ mine. finished b _ _ (own y.0 y.1 f.0 f.1 mine)) (λ foreign. either _ (λ _. conflicts b) (λ writable. other y.0 y.1 f.0 f.1 foreign writable))

    updated : (x : V) (o : Option (Met K V)) → first_seen ts t.name met ≡ o → Comes (Fine t.name (book.Update k x)) (altering (Some x) o)
    updated x = changed (book.Update k x) (Some x) (λ j. refl) (λ f e. (ap (λ o. Ok (by_value answer.Done answer.Absent o)) (sym e), refl))
        (λ r v j vis mine. update_own_good V order total p s inv k met m t i u found r v j vis mine x)
        (λ r v j vis foreign writable. bind (adding_comes t.name k x) (λ z h.
        let a = (at_key V order total p s inv k met m t i u found r v j).0 in
        let apart = free_used vs r c.version v h.1 a in
        subst (λ z. Comes (Fine t.name (book.Update k x)) (conclude c (with_added w (set z.0 r (filled (with_end (till.Owner t.name) v)), z.1)) t.name u None waits answer.Done)) (sym h.0)
        (finished (book.Update k x) _ _ (subst (λ l. Fine t.name (book.Update k x) (done V order total p s inv k met m t i u found l (put order w.index k c.version))) (sym (set_comm vs c.version r (filled (new_version t.name k x)) (filled (with_end (till.Owner t.name) v)) apart))
        (update_good V order total p s inv k met m t i u found r v j vis foreign writable x c.version (free_set vs r c.version (filled (with_end (till.Owner t.name) v)) apart ∙ h.1))))))

    deleted : (o : Option (Met K V)) → first_seen ts t.name met ≡ o → Comes (Fine t.name (book.Delete k)) (altering None o)
    deleted = changed (book.Delete k) None (λ j. refl) (λ f e. (ap (λ o. Ok (by_value answer.Done answer.Absent o)) (sym e), refl))
        (λ r v j vis mine. delete_own_good V order total p s inv k met m t i u found r v j vis mine)
        (λ r v j vis foreign writable. bind {Q = λ z. z ≡ (vs, w.index)} (comes refl) (λ z h.
        subst (λ z. Comes (Fine t.name (book.Delete k)) (conclude c (with_added w (set z.0 r (filled (with_end (till.Owner t.name) v)), z.1)) t.name u None waits answer.Done)) (sym h)
        (finished (book.Delete k) _ _ (delete_good V order total p s inv k met m t i u found r v j vis foreign writable))))

  pub insert_keeps : (n : ℕ) (k : K) (x : V) → Comes (λ r. Good V order total (after V order total p (call.Book n (book.Insert k x)) r)) (insert_rule order c w n k x)
  insert_keeps n k x = via _ (is_sound w n is_active) (λ u q.
      let z = worker (game V order total) ts s inv.way inv.roll n u q.0 q.1.0 q.1.1 in
      subst (λ y. Comes (Fine y (book.Insert k x)) (insert_rule order c w y k x)) z.1.1
      (bind (is_sound w z.0.name is_active) (λ u q. bind (all_reached order total w (covering order w.index k k)) (λ met m. inserted k z.0 z.1.0 u q.0 q.1.0 met m x (first_seen ts z.0.name met) refl))))

  pub update_keeps : (n : ℕ) (k : K) (x : V) → Comes (λ r. Good V order total (after V order total p (call.Book n (book.Update k x)) r)) (alter_rule order c w n k (Some x))
  update_keeps n k x = via _ (is_sound w n is_active) (λ u q.
      let z = worker (game V order total) ts s inv.way inv.roll n u q.0 q.1.0 q.1.1 in
      subst (λ y. Comes (Fine y (book.Update k x)) (alter_rule order c w y k (Some x))) z.1.1
      (bind (is_sound w z.0.name is_active) (λ u q. bind (all_reached order total w (covering order w.index k k)) (λ met m. updated k z.0 z.1.0 u q.0 q.1.0 met m x (first_seen ts z.0.name met) refl))))

  pub delete_keeps : (n : ℕ) (k : K) → Comes (λ r. Good V order total (after V order total p (call.Book n (book.Delete k)) r)) (alter_rule order c w n k None)
  delete_keeps n k = via _ (is_sound w n is_active) (λ u q.
      let z = worker (game V order total) ts s inv.way inv.roll n u q.0 q.1.0 q.1.1 in
      subst (λ y. Comes (Fine y (book.Delete k)) (alter_rule order c w y k None)) z.1.1
      (bind (is_sound w z.0.name is_active) (λ u q. bind (all_reached order total w (covering order w.index k k)) (λ met m. deleted k z.0 z.1.0 u q.0 q.1.0 met m (first_seen ts z.0.name met) refl))))
