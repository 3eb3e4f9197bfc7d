-- Calls that take a stamp, from check to check. Assumes nothing.
use Rattle.std.proofs.Common.{◌≡◌, ℕ, ◌+◌, ◌<◌, ◌≤◌, true, false, List, length, set, is_some, Some, Ok, Err, sym, ap, ◌∙◌}
use Rattle.std.proofs.lemmas.Bool.{le-leb, lt-leb}
use Rattle.seeing.specs.declared.Level.{Level}
use Rattle.seeing.specs.declared.Phase.TheVariants.{Preparing}
use Rattle.seeing.specs.declared.Transaction.{Transaction}
use Rattle.seeing.specs.declared.Version.{Version}
use Rattle.seeing.specs.Phases.{is_active}
use Rattle.slots.proofs.Found.{change_found}
use Rattle.rules.specs.declared.Entry.{Entry}
use Rattle.rules.specs.declared.Store.{Store}
use Rattle.rules.specs.declared.Note.{Note}
use Rattle.rules.specs.declared.Answer.{Answer}
use Rattle.rules.specs.declared.Answer.TheVariants as answer
use Rattle.rules.specs.declared.Refusal.{Refusal}
use Rattle.rules.specs.declared.Refusal.TheVariants as refusal
use Rattle.rules.specs.Lists.{all}
use Rattle.rules.specs.Index.{Index}
use Rattle.rules.specs.Worlds.{with_slots, around}
use Rattle.rules.specs.Checks.{Checked, Outcome, largest, still_allowed, sound, Comes}
use Rattle.rules.specs.Slots.{with_stamp, with_phase, fresh, seat}
use Rattle.rules.specs.TransactionRules.{begin_rule, prepare_rule}
use Rattle.tables.specs.declared.lengths.Sizes.{Sizes}
use Rattle.tables.specs.Naming.{located}
use Rattle.tables.proofs.Steps.{pass, stop, go_on, give_up}
use Rattle.tables.proofs.Lookups.{order_is, located_at, sound_located, located_found}
use Rattle.transaction_calls.proofs.Calling.{refused, refused_by, comes}

module _ {K V : Type 0} (s : Store) (vs : List (Entry (Version K V))) (ns : List (Entry (Note K))) (i : Index K) (z : Sizes) (ez : z ≡ record { versions = length vs; notes = length ns; capacity = i.capacity }) where
  module _ (level : Level) where
    abbrev Begins : Store → Checked (Answer V) → Type 0
    Begins s' r = Comes (λ w. begin_rule w level) (around s vs ns i) (around s' vs ns i) r

    pub begin_lengths : false ≡ still_allowed s.opened z.versions z.notes z.capacity → Begins s (Err refusal.Lengths)
    begin_lengths o = refused (λ w. begin_rule w level) _ _ (λ rows. stop _ _ _ (order_is z (length vs) (length ns) i.capacity ez s.opened false o))

    module _ (o : true ≡ still_allowed s.opened z.versions z.notes z.capacity) where
      pub begin_taken : all is_some s.slots ≡ true → Begins s (Err refusal.Transactions)
      begin_taken h = refused (λ w. begin_rule w level) _ _ (λ rows. pass _ _ _ (order_is z (length vs) (length ns) i.capacity ez s.opened true o) ∙ stop _ _ _ h)

      module _ (p : ℕ) (f : (all is_some s.slots ≡ false) × ((t : Transaction) → seat t s.slots ≡ set s.slots p (Some t))) where
        pub begin_last : largest ≤ s.last → Begins s (Err refusal.LastStamp)
        begin_last l = refused (λ w. begin_rule w level) _ _ (λ rows. pass _ _ _ (order_is z (length vs) (length ns) i.capacity ez s.opened true o) ∙ pass _ _ _ f.0 ∙ stop _ _ _ (le-leb largest s.last l))

        pub begun : s.last < largest → (s' : Store) (n : ℕ) → n ≡ s.last + 1 → s' ≡ with_slots (with_stamp s) (set s.slots p (Some (fresh (s.last + 1) level))) → Begins s' (Ok (answer.Stamp n))
        begun l s' n en es =
            comes (λ w. begin_rule w level) _ _ _
            (λ rows. pass _ _ _ (order_is z (length vs) (length ns) i.capacity ez s.opened true o) ∙ pass _ _ _ f.0 ∙ pass _ _ _ (lt-leb largest s.last l)
            ∙ ap {B = Outcome K V} (λ ts. Ok (around (with_slots (with_stamp s) ts) vs ns i rows, Ok (answer.Stamp (s.last + 1)))) (f.1 (fresh (s.last + 1) level))
            ∙ (λ j. Ok (around (sym es j) vs ns i rows, Ok (answer.Stamp (sym en j)))))

  module _ (n : ℕ) where
    abbrev Prepares : Store → Checked (Answer V) → Type 0
    Prepares s' r = Comes (λ w. prepare_rule w n) (around s vs ns i) (around s' vs ns i) r

    abbrev at : located s z.versions z.notes z.capacity n ≡ located s (length vs) (length ns) i.capacity n
    at = located_at z (length vs) (length ns) i.capacity ez s n

    pub prepare_unsound : (e : Refusal) → Err e ≡ located s z.versions z.notes z.capacity n → (r : Checked (Answer V)) → r ≡ Err e → Prepares s r
    prepare_unsound e h r q = refused_by (λ w. prepare_rule w n) _ r e q (λ rows. give_up _ (sound_located s (length vs) (length ns) i.capacity n ∙ give_up _ (sym (h ∙ at))))

    module _ (slot : ℕ) (t : Transaction) (h : Ok (slot, t) ≡ located s z.versions z.notes z.capacity n) where
      is_sound : sound s (length vs) (length ns) i.capacity n is_active ≡ Ok t
      is_sound = sound_located s (length vs) (length ns) i.capacity n ∙ go_on _ (sym (h ∙ at))

      pub prepare_last : largest ≤ s.last → Prepares s (Err refusal.LastStamp)
      prepare_last l = refused (λ w. prepare_rule w n) _ _ (λ rows. go_on _ is_sound ∙ stop _ _ _ (le-leb largest s.last l))

      pub prepared : s.last < largest → (s' : Store) (e : ℕ) → e ≡ s.last + 1 → s' ≡ with_slots (with_stamp s) (set s.slots slot (Some (with_phase (Preparing (s.last + 1)) t))) → Prepares s' (Ok (answer.Stamp e))
      prepared l s' e ee es =
          comes (λ w. prepare_rule w n) _ _ _
          (λ rows. go_on _ is_sound ∙ pass _ _ _ (lt-leb largest s.last l)
          ∙ ap {B = Outcome K V} (λ ts. Ok (around (with_slots (with_stamp s) ts) vs ns i rows, Ok (answer.Stamp (s.last + 1)))) (change_found s.slots n slot t (located_found s (length vs) (length ns) i.capacity n (slot, t) (h ∙ at)) (with_phase (Preparing (s.last + 1))))
          ∙ (λ j. Ok (around (sym es j) vs ns i rows, Ok (answer.Stamp (sym ee j)))))
