-- Commit, abort and finish, from check to check. Assumes nothing.
use Rattle.std.proofs.Common.{◌≡◌, ℕ, Bool, true, false, not, ltb, List, map, length, set, is_some, Some, None, Ok, Err, Option, sym, ap, ◌∙◌}
use Rattle.seeing.specs.declared.Phase.{Phase}
use Rattle.seeing.specs.declared.Phase.TheVariants.{Committed}
use Rattle.seeing.specs.declared.Transaction.{Transaction}
use Rattle.seeing.specs.declared.Version.{Version}
use Rattle.seeing.specs.Phases.{if_validated, is_over}
use Rattle.seeing.specs.Slots.{found}
use Rattle.slots.proofs.Found.{change_found, unseat_found}
use Rattle.rules.specs.declared.Entry.{Entry}
use Rattle.rules.specs.declared.Store.{Store}
use Rattle.rules.specs.declared.Note.{Note}
use Rattle.rules.specs.declared.Answer.{Answer}
use Rattle.rules.specs.declared.Answer.TheVariants as answer
use Rattle.rules.specs.declared.Refusal.{Refusal}
use Rattle.rules.specs.declared.Refusal.TheVariants as refusal
use Rattle.rules.specs.Lists.{count}
use Rattle.rules.specs.Index.{Index}
use Rattle.rules.specs.Worlds.{World, with_slots, around}
use Rattle.rules.specs.Checks.{Checked, Outcome, sound, Comes}
use Rattle.rules.specs.Slots.{with_phase, release, one_more_commit}
use Rattle.rules.specs.Aborting.{abort_store}
use Rattle.rules.specs.TransactionRules.{commit_rule, abort_rule}
use Rattle.rules.specs.TableRules.{finish_rule, settle_entry, without_note}
use Rattle.tables.specs.declared.lengths.Sizes.{Sizes}
use Rattle.tables.specs.Naming.{placed, if_sound}
use Rattle.tables.proofs.Steps.{pass, stop, go_on, give_up, have}
use Rattle.tables.proofs.Lookups.{found_name, placed_found, placed_at, unnamed, unsound, named_phase, named_fine, sound_refused, sound_given}
use Rattle.transaction_calls.proofs.Calling.{refused, refused_by, comes}

abbrev validated : Phase → Bool
validated p = is_some (if_validated p)

abbrev unended : Phase → Bool
unended p = not (is_over p)

module _ {K V : Type 0} (s : Store) (vs : List (Entry (Version K V))) (ns : List (Entry (Note K))) (i : Index K) (z : Sizes) (ez : z ≡ record { versions = length vs; notes = length ns; capacity = i.capacity }) (n : ℕ) where
  -- the call by the rule, which leaves all as found, is refused
  abbrev Refused : (World K V → Outcome K V) → Checked (Answer V) → Type 0
  Refused rule r = Comes rule (around s vs ns i) (around s vs ns i) r

  abbrev at : placed s z.versions z.notes z.capacity n ≡ placed s (length vs) (length ns) i.capacity n
  at = placed_at z (length vs) (length ns) i.capacity ez s n

  module _ (e : Refusal) (h : Err e ≡ placed s z.versions z.notes z.capacity n) (r : Checked (Answer V)) (q : r ≡ Err e) where
    pub commit_unnamed : Refused (λ w. commit_rule w n) r
    commit_unnamed = refused_by (λ w. commit_rule w n) _ r e q (λ rows. give_up _ (unsound s (length vs) (length ns) i.capacity n validated e (h ∙ at)))

    pub abort_unnamed : Refused (λ w. abort_rule w n) r
    abort_unnamed = refused_by (λ w. abort_rule w n) _ r e q (λ rows. give_up _ (unnamed s (length vs) (length ns) i.capacity n unended e (h ∙ at)))

    pub finish_unnamed : Refused (λ w. finish_rule w n) r
    finish_unnamed = refused_by (λ w. finish_rule w n) _ r e q (λ rows. give_up _ (unnamed s (length vs) (length ns) i.capacity n is_over e (h ∙ at)))

  module _ (slot : ℕ) (t : Transaction) (h : Ok (slot, t) ≡ placed s z.versions z.notes z.capacity n) where
    is_found : found s.slots n 0 ≡ Some (slot, t)
    is_found = placed_found s (length vs) (length ns) i.capacity n (slot, t) (h ∙ at)

    -- ---- commit

    module _ (o : Option ℕ) (eo : o ≡ if_validated t.phase) where
      pub commit_unsound : (e : Refusal) → Err e ≡ if_sound t o → (r : Checked (Answer V)) → r ≡ Err e → Refused (λ w. commit_rule w n) r
      commit_unsound e k r q = refused_by (λ w. commit_rule w n) _ r e q (λ rows. give_up _ (sound_refused s (length vs) (length ns) i.capacity n validated (slot, t) (h ∙ at) o (ap is_some eo) e k))

      module _ (stamp : ℕ) (k : Ok stamp ≡ if_sound t o) (waited_on : ℕ) (is : waited_on ≡ count (λ b. b) t.waits) where
        sound_so : (sound s (length vs) (length ns) i.capacity n validated ≡ Ok t) × (o ≡ Some stamp)
        sound_so = sound_given s (length vs) (length ns) i.capacity n validated (slot, t) (h ∙ at) o (ap is_some eo) stamp k

        pub commit_waits : true ≡ ltb 0 waited_on → Refused (λ w. commit_rule w n) (Err (refusal.Waiting waited_on))
        commit_waits l = refused (λ w. commit_rule w n) _ _ (λ rows. go_on _ sound_so.0 ∙ go_on _ (have _ (sym eo ∙ sound_so.1)) ∙ stop _ _ _ (ap (ltb 0) (sym is) ∙ sym l) ∙ ap {B = Outcome K V} (λ (m : ℕ). Err (refusal.Waiting m)) (sym is))

        pub committed : false ≡ ltb 0 waited_on → (s' : Store) → s' ≡ one_more_commit (with_slots s (release t.name (set s.slots slot (Some (with_phase (Committed stamp) t))))) → Comes (λ w. commit_rule w n) (around s vs ns i) (around s' vs ns i) (Ok answer.Done)
        committed l s' es =
            comes (λ w. commit_rule w n) _ _ _
            (λ rows. go_on _ sound_so.0 ∙ go_on _ (have _ (sym eo ∙ sound_so.1)) ∙ pass _ _ _ (ap (ltb 0) (sym is) ∙ sym l)
            ∙ ap {B = Outcome K V} (λ ts. Ok (around (one_more_commit (with_slots s (release n ts))) vs ns i rows, Ok answer.Done)) (change_found s.slots n slot t is_found (with_phase (Committed stamp)))
            ∙ ap {B = Outcome K V} (λ (m : ℕ). Ok (around (one_more_commit (with_slots s (release m (set s.slots slot (Some (with_phase (Committed stamp) t)))))) vs ns i rows, Ok answer.Done)) (sym (found_name s.slots n 0 (slot, t) is_found))
            ∙ (λ j. Ok (around (sym es j) vs ns i rows, Ok answer.Done)))

    -- ---- abort

    pub abort_phase : false ≡ unended t.phase → Refused (λ w. abort_rule w n) (Err refusal.Phase)
    abort_phase p = refused (λ w. abort_rule w n) _ _ (λ rows. give_up _ (named_phase s (length vs) (length ns) i.capacity n unended (slot, t) (h ∙ at) (sym p)))

    pub aborted : true ≡ unended t.phase → (s' : Store) → s' ≡ abort_store n s → Comes (λ w. abort_rule w n) (around s vs ns i) (around s' vs ns i) (Ok answer.Done)
    aborted p s' es =
        comes (λ w. abort_rule w n) _ _ _
        (λ rows. go_on _ (named_fine s (length vs) (length ns) i.capacity n unended (slot, t) (h ∙ at) (sym p)) ∙ (λ j. Ok (around (sym es j) vs ns i rows, Ok answer.Done)))

    -- ---- finish

    pub finish_phase : false ≡ is_over t.phase → Refused (λ w. finish_rule w n) (Err refusal.Phase)
    finish_phase p = refused (λ w. finish_rule w n) _ _ (λ rows. give_up _ (named_phase s (length vs) (length ns) i.capacity n is_over (slot, t) (h ∙ at) (sym p)))

    pub finished : true ≡ is_over t.phase → (vs' : List (Entry (Version K V))) (ns' : List (Entry (Note K))) → vs' ≡ map (settle_entry s.last n t.phase) vs → ns' ≡ map (without_note n) ns →
        Comes (λ w. finish_rule w n) (around s vs ns i) (around (with_slots s (set s.slots slot None)) vs' ns' i) (Ok answer.Done)
    finished p vs' ns' ev en =
        comes (λ w. finish_rule w n) _ _ _
        (λ rows. go_on _ (named_fine s (length vs) (length ns) i.capacity n is_over (slot, t) (h ∙ at) (sym p))
        ∙ ap {B = Outcome K V} (λ ts. Ok (around (with_slots s ts) (map (settle_entry s.last n t.phase) vs) (map (without_note n) ns) i rows, Ok answer.Done)) (unseat_found s.slots n slot t is_found)
        ∙ (λ j. Ok (around (with_slots s (set s.slots slot None)) (sym ev j) (sym en j) i rows, Ok answer.Done)))
