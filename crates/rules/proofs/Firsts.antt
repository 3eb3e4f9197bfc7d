-- The first that is pending, if validated, has its commit accepted. Assumes nothing.
use Rattle.std.proofs.Common.{◌≡◌, ℕ, ◌<◌, Bool, true, false, not, ltb, [], is_some, Some, Ok, Option, Ordering, sym, refl, ap, ◌∙◌, subst, inl, ⊎_elim, arith}
use Rattle.std.proofs.lemmas.Bool.{false≢true, cases_Bool}
use Rattle.seeing.specs.declared.Phase.TheVariants.{Validated, Committed}
use Rattle.rules.specs.declared.Refusal.{Refusal}
use Rattle.rules.specs.declared.Answer.{Answer}
use Rattle.rules.specs.declared.Answer.TheVariants as answer
use Rattle.seeing.specs.declared.Transaction.{Transaction as Sitter}
use Rattle.keys.specs.Laws.{TotalOrder}
use Rattle.rules.specs.Lists.{count}
use Rattle.seeing.specs.Slots.{Slots, find}
use Rattle.rules.specs.Worlds.{World, with_store, with_slots}
use Rattle.rules.specs.Slots.{with_phase, one_more_commit, release}
use Rattle.rules.specs.Slots as worlds
use Rattle.rules.specs.Checks.{Checked, Outcome, ◌>>=◌, ◌>>◌, some_or, refuse_if, or_as_found, named_in, sound_in}
use Rattle.seeing.specs.Phases.{if_validated}
use Rattle.rules.specs.TransactionRules.{commit_rule}
use Rattle.rules.specs.Runs.{life, Position}
use Rattle.rules.specs.Law.{Pending, FirstCommits, is_doomed}
use Rattle.serial.specs.Lists.{In}
use Rattle.serial.specs.Machine.{Transaction, State, Stage, active, preparing, validated, committed, pending}
use Rattle.serial.proofs.Lists.{All_at, Each_both}
use Rattle.serial.proofs.Kill.{All_in}
use Rattle.serial.proofs.Steps.{serial_law}
use Rattle.serial.proofs.Orders.{ordered, Each_in}
use Rattle.rules.proofs.Game.{game}
use Rattle.rules.proofs.Relation.{mark_at, prepared_at, is_checked, phase_of, life_of, Suits, Inv}
use Rattle.rules.proofs.Slots.{some_injective}
use Rattle.rules.proofs.Marks.{none_count}
use Rattle.rules.proofs.Death.{Each_at}
use Rattle.rules.proofs.Checks.{T_true}
use Rattle.rules.proofs.Lines.{settled_stage}

module _ {A B : Type 0} where
  go_on : {m : Checked A} {a : A} (k : A → Checked B) → m ≡ Ok a → (m >>= k) ≡ k a
  unfolding ◌>>=◌
  go_on k e = rw e

module _ {B : Type 0} where
  pass : (b : Bool) (r : Refusal) (n : Checked B) → b ≡ false → (refuse_if b r >> n) ≡ n
  unfolding ◌>>◌ refuse_if
  pass b r n e = rw e

module _ {A : Type 0} where
  have : {o : Option A} {a : A} (r : Refusal) → o ≡ Some a → some_or r o ≡ Ok a
  unfolding some_or
  have r e = rw e

module _ {K V : Type 0} (w : World K V) where
  came_to : {m : Outcome K V} (r : World K V × Checked (Answer V)) → m ≡ Ok r → or_as_found w m ≡ r
  unfolding or_as_found
  came_to r e = rw e

stage_is : (st : Stage) → pending st ≡ true → is_checked st ≡ true → st ≡ validated
stage_is active p c = absurd (false≢true c)
stage_is preparing p c = absurd (false≢true c)
stage_is validated p c = refl
stage_is committed p c = absurd (false≢true p)

pub stamp_is : (st : Stage) (x e : ℕ) → (st ≡ active → ⊥) → prepared_at st x ≡ Some x
stamp_is active x e d = absurd (d refl)
stamp_is preparing x e d = refl
stamp_is validated x e d = refl
stamp_is committed x e d = refl

module _ {K : Type 0} (V : Type 0) (order : K → K → Ordering) (total : TotalOrder order) (p : Position K V) (s : State (game V order total)) (inv : Inv V order total p s) where
  abbrev Tx : Type 0
  Tx = Transaction (game V order total)

  abbrev ts : Slots
  ts = p.world.store.slots

  -- one pending in the line is pending by the history
  line_pending : (x : Tx) → In x s.line → pending x.stage ≡ true → Pending order p x.name x.end
  line_pending x i o = record {
    prepared = ap (λ l. l.stamp) life_x ∙ stamp_is x.stage x.end x.end (inv.roll.lined x i);
    not_committed = ap (λ l. l.committed) life_x ∙ ap not o;
    not_aborted = ap (λ l. l.aborted) life_x;
    not_doomed = let z = inv.roll.waiting x i o in ap is_doomed z.1.0 ∙ z.1.1.not_doomed;
  }
    where
      life_x : life p.history x.name ≡ life_of V order total x
      life_x = inv.tale.lives x (inl i)

  pub first_commits : FirstCommits order p
  first_commits n e pend low val c = ap (λ r. r.1) (came_to p.world (with_store p.world (one_more_commit (with_slots p.world.store (release n (worlds.change n (with_phase (Committed e)) ts)))), Ok answer.Done) accepted)
    where
      z : (t : Tx) × (In t s.line × (t.name ≡ n))
      z = inv.tale.prepared n e pend.prepared pend.not_aborted pend.not_doomed

      t : Tx
      t = (inv.tale.prepared n e pend.prepared pend.not_aborted pend.not_doomed).0

      i : In t s.line
      i = (inv.tale.prepared n e pend.prepared pend.not_aborted pend.not_doomed).1.0

      q : t.name ≡ n
      q = (inv.tale.prepared n e pend.prepared pend.not_aborted pend.not_doomed).1.1

      life_t : life p.history n ≡ life_of V order total t
      life_t = ap (life p.history) (sym q) ∙ inv.tale.lives t (inl i)

      open' : pending t.stage ≡ true
      open' = Rattle.std.proofs.lemmas.Bool.not-false (pending t.stage) (sym (ap (λ l. l.committed) life_t) ∙ pend.not_committed)

      st : t.stage ≡ validated
      st = stage_is t.stage open' (sym (ap (λ l. l.validated) life_t) ∙ T_true _ val)

      ends : t.end ≡ e
      ends = some_injective (sym (stamp_is t.stage t.end e (inv.roll.lined t i)) ∙ sym (ap (λ l. l.stamp) life_t) ∙ pend.prepared)

      waits : t.waits ≡ []
      waits =
          let r = Each_at _ t s.line i (Each_both _ _ s.line (Each_both _ _ s.line (serial_law (game V order total) s inv.way).first_free (ordered (game V order total) s inv.way).rising) (Each_in s.line s.line (λ x j. j))) in
          r.1.0.0 (All_in _ r.0 (λ x j. settled_stage x.stage (⊎_elim (λ o. absurd (let le = low x.name x.end (line_pending x (r.1.1.1 x j) o) in let lt = All_at (λ u. u.end < t.end) x r.0 j r.1.0.1 in let ee = ends in omega arith)) (λ o. o) (cases_Bool (pending x.stage))))) st

      seat : (u : Sitter) × ((find ts t.name ≡ Some u) × Suits (game V order total) ts t u)
      seat = inv.roll.waiting t i open'

      u : Sitter
      u = seat.0

      found : find ts n ≡ Some seat.0
      found = ap (find ts) (sym q) ∙ seat.1.0

      phase : seat.0.phase ≡ Validated e
      phase = seat.1.1.phase ∙ ap (λ x. phase_of x t.end) st ∙ ap Validated ends

      no_waits : count (λ b. b) seat.0.waits ≡ 0
      no_waits = none_count ts seat.0.waits inv.roll.single (inv.roll.tidy n seat.0 found)
          (λ m. ⊎_elim (λ y. absurd (subst (In m) waits ((seat.1.1.waits m).0 y))) (λ y. y) (cases_Bool (mark_at ts seat.0.waits m)))

      is_named : named_in p.world n (λ ph. is_some (if_validated ph)) ≡ Ok seat.0
      is_named = pass _ _ _ (ap not inv.fit) ∙ go_on _ (have _ found) ∙ pass _ _ _ (ap (λ ph. not (is_some (if_validated ph))) phase)

      is_sound : sound_in p.world n (λ ph. is_some (if_validated ph)) ≡ Ok seat.0
      is_sound = go_on _ is_named ∙ pass _ _ _ seat.1.1.not_doomed

      accepted : commit_rule p.world n ≡ Ok (with_store p.world (one_more_commit (with_slots p.world.store (release n (worlds.change n (with_phase (Committed e)) ts)))), Ok answer.Done)
      accepted = go_on _ is_sound ∙ go_on _ (have _ (ap if_validated phase)) ∙ pass _ _ _ (ap (ltb 0) no_waits)
