-- An update or a delete, exit by exit. Assumes nothing.
use Rattle.std.proofs.Common.{◌≡◌, ℕ, Bool, true, false, cond, List, length, set, Some, None, Ok, Err, Option, Ordering, sym, refl, ap, ◌∙◌, arith}
use Rattle.seeing.specs.declared.End.TheVariants as end
use Rattle.rules.specs.declared.Entry.{Entry}
use Rattle.rules.specs.declared.Store.{Store}
use Rattle.seeing.specs.declared.Version.{Version}
use Rattle.rules.specs.declared.Note.{Note}
use Rattle.rules.specs.declared.Row.{Row}
use Rattle.rules.specs.declared.Noted.TheVariants as noted
use Rattle.walks.specs.declared.Survey.{Survey}
use Rattle.seeing.specs.declared.Transaction.{Transaction}
use Rattle.rules.specs.declared.Answer.{Answer}
use Rattle.rules.specs.declared.Answer.TheVariants as answer
use Rattle.rules.specs.declared.Refusal.{Refusal}
use Rattle.rules.specs.declared.Refusal.TheVariants as refusal
use Rattle.rules.specs.Tables.{filled}
use Rattle.seeing.specs.Slots.{found}
use Rattle.rules.specs.Index.{Index, meaning, covering}
use Rattle.rules.specs.Worlds.{World, Choice, with_slots}
use Rattle.rules.specs.Slots.{answered}
use Rattle.rules.specs.Aborting.{abort_store}
use Rattle.rules.specs.Checks.{Checked, Outcome, ◌>>=◌}
use Rattle.rules.specs.Reaching.{Met}
use Rattle.rules.specs.BookRules.{conclude, conflict, adding_if, book_rule, alter_rule}
use Rattle.seeing.specs.Changing.{altered, with_end, made_by, not_writable}
use Rattle.tables.specs.Places.{pick}
use Rattle.data_calls.specs.Calling.{world, picked, AnswersFrom, approached, concluding, call_of}
use Rattle.tables.specs.Steps.{Gives}
use Rattle.tables.proofs.Steps.{go_on, give_up, left_as_found}
use Rattle.data_calls.proofs.Shapes.{ruled, answers_by, came, conclude_ends, conclude_done, unapproached, goes_on, found_slot}

-- what the test of a change says: the version is the transaction's own, or it is locked
abbrev tested : Bool → Bool → Checked Bool
tested a b = cond a (Ok true) (cond b (Err refusal.Conflict) (Ok false))

pub is_own : (a b p : Bool) → p ≡ true → Ok p ≡ tested a b → true ≡ a
is_own true b p t e = refl
is_own false true p t e = let z : ◌≡◌ {A = ℕ} 0 1 = cc in absurd (omega arith)
is_own false false p t e = let z : ◌≡◌ {A = ℕ} 0 1 = cc in absurd (omega arith)

pub is_locked : (a b : Bool) (r : Refusal) → Err r ≡ tested a b → (false ≡ a) × (true ≡ b) × (r ≡ refusal.Conflict)
is_locked true b r e = let z : ◌≡◌ {A = ℕ} 0 1 = cc in absurd (omega arith)
is_locked false true r e = (refl, refl, cc)
is_locked false false r e = let z : ◌≡◌ {A = ℕ} 0 1 = cc in absurd (omega arith)

pub is_free : (a b p : Bool) → p ≡ false → Ok p ≡ tested a b → (false ≡ a) × (false ≡ b)
is_free true b p t e = let z : ◌≡◌ {A = ℕ} 0 1 = cc in absurd (omega arith)
is_free false true p t e = let z : ◌≡◌ {A = ℕ} 0 1 = cc in absurd (omega arith)
is_free false false p t e = (refl, refl)

rule_of : {K V : Type 0} (o : K → K → Ordering) (c : Choice) (w : World K V) (n : ℕ) (k : K) (new : Option V) → book_rule o c w n (call_of k new) ≡ alter_rule o c w n k new
rule_of o c w n k None = refl
rule_of o c w n k (Some x) = refl

module _ {K V : Type 0} (o : K → K → Ordering) (vh nh : ℕ) (rows : List (Row K V)) (s : Store) (vs : List (Entry (Version K V))) (ns : List (Entry (Note K))) (xs : List (K × ℕ)) (limit n : ℕ) (k : K) (new : Option V) where
  abbrev before : World K V
  before = world s vs ns rows (meaning o xs limit)

  abbrev adds : Checked (List (Entry (Version K V)) × Index K)
  adds = adding_if o (pick vh vs) n k new (vs, meaning o xs limit)

  -- another's version, that can be written
  abbrev ending : Transaction → List Bool → Met K V → Outcome K V
  ending t ws z = adds >>= (λ q. conclude (picked vh nh vs ns) (world s (set q.0 z.0 (filled (with_end (end.Owner n) z.1))) ns rows q.1) n t None ws answer.Done)

  abbrev own : Transaction → List Bool → Met K V → Outcome K V
  own t ws z = conclude (picked vh nh vs ns) (world s (set vs z.0 (filled (altered n new z.1))) ns rows (meaning o xs limit)) n t None ws answer.Done

  abbrev on_seen : Transaction → List Bool → Option (Met K V) → Outcome K V
  on_seen t ws q =
      elim q [
        | None ↦ conclude (picked vh nh vs ns) before n t (Some (noted.Range k k)) ws answer.Absent
        | Some z ↦ cond (made_by n z.1) (own t ws z) (cond (not_writable s.slots z.1.end) (conflict before n) (ending t ws z))
      ]

  abbrev steps : Transaction → Survey K V → Outcome K V
  steps t y = on_seen t y.waits y.seen

  is : book_rule o (picked vh nh vs ns) before n (call_of k new)
      ≡ ruled o s (length vs) (length ns) limit n vs (covering o (meaning o xs limit) k k) steps
  is = rule_of o (picked vh nh vs ns) before n k new

  pub refuses : (e : Refusal) → Err e ≡ approached o s vs (length ns) xs limit n k k → AnswersFrom o vh nh before before n (call_of k new) (Err e)
  refuses e h = unapproached o vh nh rows s vs ns xs limit n k k (call_of k new) steps is e h

  module _ (slot : ℕ) (t : Transaction) (y : Survey K V) (h : Ok (slot, t, y) ≡ approached o s vs (length ns) xs limit n k k) where
    goes : (q : Option (Met K V)) → y.seen ≡ q → book_rule o (picked vh nh vs ns) before n (call_of k new) ≡ on_seen t y.waits q
    goes q e = goes_on o vh nh rows s vs ns xs limit n k k (call_of k new) steps is slot t y h ∙ ap (on_seen t y.waits) e

    slot_is : found s.slots n 0 ≡ Some (slot, t)
    slot_is = found_slot o s vs (length ns) xs limit n k k slot t y h

    pub absent : (s' : Store) (ns' : List (Entry (Note K))) (r : Checked (Answer V)) → y.seen ≡ None →
        Gives (concluding (pick nh ns) t.name slot t (Some (noted.Range k k)) y.waits answer.Absent (s, ns)) (s, ns) (s', ns') r → AnswersFrom o vh nh before (world s' vs ns' rows (meaning o xs limit)) n (call_of k new) r
    absent s' ns' r e g =
        answers_by o vh nh before n (call_of k new) _ (goes None e) (world s' vs ns' rows (meaning o xs limit)) r
        (conclude_ends rows s vs ns (meaning o xs limit) (pick nh ns) (pick vh vs) n slot t (Some (noted.Range k k)) y.waits answer.Absent slot_is s' ns' r g)

    module _ (z : Met K V) (e : y.seen ≡ Some z) where
      goes_own : (b : Bool) → made_by n z.1 ≡ b → book_rule o (picked vh nh vs ns) before n (call_of k new) ≡ cond b (own t y.waits z) (cond (not_writable s.slots z.1.end) (conflict before n) (ending t y.waits z))
      goes_own b f = goes (Some z) e ∙ ap (λ (b : Bool). cond b (own t y.waits z) (cond (not_writable s.slots z.1.end) (conflict before n) (ending t y.waits z))) f

      pub own_done : (v : Version K V) (s' : Store) (vs' : List (Entry (Version K V))) → true ≡ made_by n z.1 → v ≡ altered n new z.1 → vs' ≡ set vs z.0 (filled v) → s' ≡ with_slots s (set s.slots slot (Some (answered t.made y.waits t))) →
          AnswersFrom o vh nh before (world s' vs' ns rows (meaning o xs limit)) n (call_of k new) (Ok answer.Done)
      own_done v s' vs' f ev ex es =
          came o vh nh before n (call_of k new) _ (goes_own true (sym f)) (world s' vs' ns rows (meaning o xs limit)) (Ok answer.Done)
          (conclude_done rows s (set vs z.0 (filled (altered n new z.1))) ns (meaning o xs limit) (pick nh ns) (pick vh vs) n slot t y.waits answer.Done slot_is
          ∙ (let p = sym (ex ∙ ap (λ (q : Version K V). set vs z.0 (filled q)) ev) in λ j. Ok (world (sym es j) (p j) ns rows (meaning o xs limit), Ok answer.Done)))

      goes_other : (b : Bool) → made_by n z.1 ≡ false → not_writable s.slots z.1.end ≡ b → book_rule o (picked vh nh vs ns) before n (call_of k new) ≡ cond b (conflict before n) (ending t y.waits z)
      goes_other b f g = goes_own false f ∙ ap (λ (b : Bool). cond b (conflict before n) (ending t y.waits z)) g

      pub conflicts : (s' : Store) → false ≡ made_by n z.1 → true ≡ not_writable s.slots z.1.end → s' ≡ abort_store n s → AnswersFrom o vh nh before (world s' vs ns rows (meaning o xs limit)) n (call_of k new) (Err refusal.Conflict)
      conflicts s' f f' a =
          came o vh nh before n (call_of k new) _ (goes_other true (sym f) (sym f')) (world s' vs ns rows (meaning o xs limit)) (Err refusal.Conflict)
          (ap {B = Outcome K V} (λ (q : Store). Ok (world q vs ns rows (meaning o xs limit), Err refusal.Conflict)) (sym a))

      pub no_room : (r : Refusal) (vs' : List (Entry (Version K V))) (i' : Index K) → false ≡ made_by n z.1 → false ≡ not_writable s.slots z.1.end → adds ≡ Err r → ◌≡◌ {A = List (Entry (Version K V)) × Index K} (vs', i') (vs, meaning o xs limit) →
          AnswersFrom o vh nh before (world s vs' ns rows i') n (call_of k new) (Err r)
      no_room r vs' i' f f' a same =
          answers_by o vh nh before n (call_of k new) (Err r) (goes_other false (sym f) (sym f') ∙ give_up _ a) (world s vs' ns rows i') (Err r)
          (left_as_found before refl ∙ (λ j. (world s (sym same j).0 ns rows (sym same j).1, Err r)))

      pub done : (v : Version K V) (s' : Store) (vs₁ vs' : List (Entry (Version K V))) (i' : Index K) → false ≡ made_by n z.1 → false ≡ not_writable s.slots z.1.end → adds ≡ Ok (vs₁, i') →
          v ≡ with_end (end.Owner n) z.1 → vs' ≡ set vs₁ z.0 (filled v) → s' ≡ with_slots s (set s.slots slot (Some (answered t.made y.waits t))) → AnswersFrom o vh nh before (world s' vs' ns rows i') n (call_of k new) (Ok answer.Done)
      done v s' vs₁ vs' i' f f' a ev ex es =
          came o vh nh before n (call_of k new) _ (goes_other false (sym f) (sym f') ∙ go_on _ a) (world s' vs' ns rows i') (Ok answer.Done)
          (conclude_done rows s (set vs₁ z.0 (filled (with_end (end.Owner n) z.1))) ns i' (pick nh ns) (pick vh vs) n slot t y.waits answer.Done slot_is
          ∙ (let p = sym (ex ∙ ap (λ (q : Version K V). set vs₁ z.0 (filled q)) ev) in λ j. Ok (world (sym es j) (p j) ns rows i', Ok answer.Done)))
