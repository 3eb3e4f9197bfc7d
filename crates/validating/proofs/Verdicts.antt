-- From the verdict to what validate comes to. Assumes nothing.
use Rattle.std.proofs.Common.{◌≡◌, ℕ, Bool, cond, List, length, is_some, Some, None, Ok, Err, Option, Ordering, sym, ap, ◌∙◌}
use Rattle.seeing.specs.Phases.{is_serializable, if_preparing}
use Rattle.seeing.specs.declared.Phase.{Phase}
use Rattle.seeing.specs.declared.Transaction.{Transaction}
use Rattle.seeing.specs.declared.Version.{Version}
use Rattle.seeing.specs.Slots.{found}
use Rattle.rules.specs.declared.Answer.{Answer}
use Rattle.rules.specs.declared.Entry.{Entry}
use Rattle.rules.specs.declared.Note.{Note}
use Rattle.rules.specs.declared.Refusal.{Refusal}
use Rattle.rules.specs.declared.Row.{Row}
use Rattle.rules.specs.declared.Store.{Store}
use Rattle.rules.specs.Index.{meaning}
use Rattle.rules.specs.Worlds.{World, with_store, with_slots, around}
use Rattle.rules.specs.Checks.{Checked, sound_in, or_as_found}
use Rattle.rules.specs.Aborting.{abort_store}
use Rattle.rules.specs.Validating.{validated, tests_for, test_all, validate_rule}
use Rattle.slots.proofs.Found.{change_found}
use Rattle.tables.specs.declared.lengths.Sizes.{Sizes}
use Rattle.tables.specs.Naming.{placed, if_sound}
use Rattle.tables.proofs.Lookups.{found_name, placed_found, placed_at, unsound, sound_refused, sound_given}
use Rattle.tables.proofs.Steps.{go_on, give_up, have, left_as_found, came_to}
use Rattle.validating.specs.Concluding.{concluded, answer_to}

module _ {K V : Type 0} (o : K → K → Ordering) (s : Store) (vs : List (Entry (Version K V))) (ns : List (Entry (Note K))) (xs : List (K × ℕ)) (limit : ℕ) (z : Sizes) (ez : z ≡ record { versions = length vs; notes = length ns; capacity = limit }) (rows : List (Row K V)) (n : ℕ) where
  abbrev w : World K V
  w = around s vs ns (meaning o xs limit) rows

  abbrev allows : Phase → Bool
  allows p = is_some (if_preparing p)

  abbrev at : placed s z.versions z.notes z.capacity n ≡ placed s (length vs) (length ns) limit n
  at = placed_at z (length vs) (length ns) limit ez s n

  refuses : (e : Refusal) → sound_in w n allows ≡ Err e → (r : Checked (Answer V)) → r ≡ Err e → or_as_found w (validate_rule o w n) ≡ (w, r)
  refuses e h r q = left_as_found w (give_up _ h) ∙ ap (λ a. (w, a)) (sym q)

  pub unnamed_one : (e : Refusal) → Err e ≡ placed s z.versions z.notes z.capacity n → (r : Checked (Answer V)) → r ≡ Err e → or_as_found w (validate_rule o w n) ≡ (w, r)
  unnamed_one e h = refuses e (unsound s (length vs) (length ns) limit n allows e (h ∙ at))

  module _ (slot : ℕ) (t : Transaction) (h : Ok (slot, t) ≡ placed s z.versions z.notes z.capacity n) (p : Option ℕ) (ep : p ≡ if_preparing t.phase) where
    pub unsound_one : (e : Refusal) → Err e ≡ if_sound t p → (r : Checked (Answer V)) → r ≡ Err e → or_as_found w (validate_rule o w n) ≡ (w, r)
    unsound_one e k = refuses e (sound_refused s (length vs) (length ns) limit n allows (slot, t) (h ∙ at) p (ap is_some ep) e k)

    module _ (end : ℕ) (k : Ok end ≡ if_sound t p) where
      is_found : found s.slots n 0 ≡ Some (slot, t)
      is_found = placed_found s (length vs) (length ns) limit n (slot, t) (h ∙ at)

      sound_so : (sound_in w n allows ≡ Ok t) × (p ≡ Some end)
      sound_so = sound_given s (length vs) (length ns) limit n allows (slot, t) (h ∙ at) p (ap is_some ep) end k

      -- all tests of the one of that name
      abbrev tested : ℕ → Checked (Option (List Bool))
      tested m = cond (is_serializable t.level) (test_all o s.slots vs m end (tests_for o (meaning o xs limit) m ns) t.waits) (Ok (Some t.waits))

      named_so : tested n ≡ tested t.name
      named_so = ap tested (sym (found_name s.slots n 0 (slot, t) is_found))

      pub test_fails : (e : Refusal) → Err e ≡ tested t.name → (r : Checked (Answer V)) → r ≡ Err e → or_as_found w (validate_rule o w n) ≡ (w, r)
      test_fails e j r q = left_as_found w (go_on _ sound_so.0 ∙ go_on _ (have _ (sym ep ∙ sound_so.1)) ∙ give_up _ (named_so ∙ sym j)) ∙ ap (λ a. (w, a)) (sym q)

      given : (v : Option (List Bool)) → Ok v ≡ tested t.name → or_as_found w (validate_rule o w n) ≡ (around (concluded slot t end v s) vs ns (meaning o xs limit) rows, answer_to v)
      given (Some ws) j =
          came_to w _ (go_on _ sound_so.0 ∙ go_on _ (have _ (sym ep ∙ sound_so.1)) ∙ go_on _ (named_so ∙ sym j))
          ∙ (let c = change_found s.slots n slot t is_found (validated end ws) in λ j. (with_store w (with_slots s (c j)), answer_to (Some ws)))
      given None j =
          came_to w _ (go_on _ sound_so.0 ∙ go_on _ (have _ (sym ep ∙ sound_so.1)) ∙ go_on _ (named_so ∙ sym j))
          ∙ ap (λ (m : ℕ). (with_store w (abort_store m s), answer_to None)) (sym (found_name s.slots n 0 (slot, t) is_found))

      pub verdict_given : (v : Option (List Bool)) (s' : Store) (r : Checked (Answer V)) → Ok v ≡ tested t.name → s' ≡ concluded slot t end v s → r ≡ answer_to v → or_as_found w (validate_rule o w n) ≡ (around s' vs ns (meaning o xs limit) rows, r)
      verdict_given v s' r j p q = given v j ∙ (λ j. (around (sym p j) vs ns (meaning o xs limit) rows, sym q j))
