-- An insert, exit by exit. Assumes nothing.
use Rattle.std.proofs.Common.{◌≡◌, ℕ, Bool, true, false, cond, List, length, set, is_some, Some, None, Ok, Err, Option, Ordering, sym, refl, ap, ◌∙◌, arith}
use Rattle.rules.specs.declared.Entry.{Entry}
use Rattle.rules.specs.declared.Store.{Store}
use Rattle.seeing.specs.declared.Version.{Version}
use Rattle.rules.specs.declared.Note.{Note}
use Rattle.rules.specs.declared.Noted.{Noted}
use Rattle.rules.specs.declared.Row.{Row}
use Rattle.walks.specs.declared.Survey.{Survey}
use Rattle.seeing.specs.declared.Transaction.{Transaction}
use Rattle.rules.specs.declared.BookCall.TheVariants as book
use Rattle.rules.specs.declared.Answer.{Answer}
use Rattle.rules.specs.declared.Answer.TheVariants as answer
use Rattle.rules.specs.declared.Refusal.{Refusal}
use Rattle.rules.specs.declared.Refusal.TheVariants as refusal
use Rattle.seeing.specs.Slots.{found}
use Rattle.rules.specs.Index.{Index, meaning}
use Rattle.rules.specs.Worlds.{World, with_slots}
use Rattle.rules.specs.Slots.{answered}
use Rattle.rules.specs.Aborting.{abort_store}
use Rattle.rules.specs.Checks.{Checked, Outcome, or_as_found, ◌>>=◌}
use Rattle.rules.specs.Reaching.{Met}
use Rattle.rules.specs.BookRules.{conclude, conflict, note_of, adding, book_rule}
use Rattle.tables.specs.Places.{pick}
use Rattle.data_calls.specs.Calling.{world, picked, AnswersFrom, approached, concluding}
use Rattle.tables.specs.Steps.{Gives}
use Rattle.tables.proofs.Steps.{go_on, give_up, left_as_found}
use Rattle.data_calls.proofs.Shapes.{answers_by, came, conclude_ends, conclude_done, unapproached, goes_on, found_slot}

-- what the test of an insert says of the version seen, and of one too new
module _ {K V : Type 0} where
  abbrev tested : Option (Met K V) → Bool → Checked Bool
  tested q b = cond (is_some q) (Ok true) (cond b (Err refusal.Conflict) (Ok false))

  pub sees : (q : Option (Met K V)) (b p : Bool) → p ≡ true → Ok p ≡ tested q b → (z : Met K V) × (q ≡ Some z)
  sees (Some z) b p t e = (z, refl)
  sees None true p t e = let z : ◌≡◌ {A = ℕ} 0 1 = cc in absurd (omega arith)
  sees None false p t e = let z : ◌≡◌ {A = ℕ} 0 1 = cc in absurd (omega arith)

  pub stands_against : (q : Option (Met K V)) (b : Bool) (r : Refusal) → Err r ≡ tested q b → (q ≡ None) × (b ≡ true) × (r ≡ refusal.Conflict)
  stands_against (Some z) b r e = let z : ◌≡◌ {A = ℕ} 0 1 = cc in absurd (omega arith)
  stands_against None true r e = (refl, refl, cc)
  stands_against None false r e = let z : ◌≡◌ {A = ℕ} 0 1 = cc in absurd (omega arith)

  pub is_free : (q : Option (Met K V)) (b p : Bool) → p ≡ false → Ok p ≡ tested q b → (q ≡ None) × (b ≡ false)
  is_free (Some z) b p t e = let z : ◌≡◌ {A = ℕ} 0 1 = cc in absurd (omega arith)
  is_free None true p t e = let z : ◌≡◌ {A = ℕ} 0 1 = cc in absurd (omega arith)
  is_free None false p t e = (refl, refl)

module _ {K V : Type 0} (o : K → K → Ordering) (vh nh : ℕ) (rows : List (Row K V)) (s : Store) (vs : List (Entry (Version K V))) (ns : List (Entry (Note K))) (xs : List (K × ℕ)) (limit n : ℕ) (k : K) (x : V) where
  abbrev before : World K V
  before = world s vs ns rows (meaning o xs limit)

  abbrev steps : Transaction → Survey K V → Outcome K V
  steps t y =
      elim y.seen [
        | Some z ↦ conclude (picked vh nh vs ns) before n t (note_of n k (Some z)) y.waits answer.Present
        | None ↦
            cond y.newer (conflict before n)
            (adding o (pick vh vs) n k x (vs, meaning o xs limit) >>= (λ z. conclude (picked vh nh vs ns) (world s z.0 ns rows z.1) n t None y.waits answer.Done))
      ]

  pub refuses : (e : Refusal) → Err e ≡ approached o s vs (length ns) xs limit n k k → AnswersFrom o vh nh before before n (book.Insert k x) (Err e)
  refuses e h = unapproached o vh nh rows s vs ns xs limit n k k (book.Insert k x) steps refl e h

  module _ (slot : ℕ) (t : Transaction) (y : Survey K V) (h : Ok (slot, t, y) ≡ approached o s vs (length ns) xs limit n k k) where
    goes : (m : Outcome K V) → steps t y ≡ m → book_rule o (picked vh nh vs ns) before n (book.Insert k x) ≡ m
    goes m e = goes_on o vh nh rows s vs ns xs limit n k k (book.Insert k x) steps refl slot t y h ∙ e

    slot_is : found s.slots n 0 ≡ Some (slot, t)
    slot_is = found_slot o s vs (length ns) xs limit n k k slot t y h

    pub present : (z : Met K V) (e : y.seen ≡ Some z) (what : Option (Noted K)) (s' : Store) (ns' : List (Entry (Note K))) (r : Checked (Answer V)) → what ≡ note_of n k y.seen →
        Gives (concluding (pick nh ns) t.name slot t what y.waits answer.Present (s, ns)) (s, ns) (s', ns') r → AnswersFrom o vh nh before (world s' vs ns' rows (meaning o xs limit)) n (book.Insert k x) r
    present z e what s' ns' r ew g =
        answers_by o vh nh before n (book.Insert k x) (conclude (picked vh nh vs ns) before n t what y.waits answer.Present)
        (goes _ (seen y.seen e ∙ ap (λ (w : Option (Noted K)). conclude (picked vh nh vs ns) before n t w y.waits answer.Present) (sym (ew ∙ ap (note_of n k) e))))
        (world s' vs ns' rows (meaning o xs limit)) r
        (conclude_ends rows s vs ns (meaning o xs limit) (pick nh ns) (pick vh vs) n slot t what y.waits answer.Present slot_is s' ns' r g)
      where
        seen : (q : Option (Met K V)) → q ≡ Some z → steps t (record { seen = q; waits = y.waits; newer = y.newer }) ≡ conclude (picked vh nh vs ns) before n t (note_of n k (Some z)) y.waits answer.Present
        seen q e = rw e

    module _ (none : y.seen ≡ None) where
      unseen : (b : Bool) → y.newer ≡ b → steps t y ≡ cond b (conflict before n) (adding o (pick vh vs) n k x (vs, meaning o xs limit) >>= (λ z. conclude (picked vh nh vs ns) (world s z.0 ns rows z.1) n t None y.waits answer.Done))
      unseen b e = go y.seen y.newer none e
        where
          go : (q : Option (Met K V)) (b' : Bool) → q ≡ None → b' ≡ b → steps t (record { seen = q; waits = y.waits; newer = b' }) ≡ cond b (conflict before n) (adding o (pick vh vs) n k x (vs, meaning o xs limit) >>= (λ z. conclude (picked vh nh vs ns) (world s z.0 ns rows z.1) n t None y.waits answer.Done))
          go q b' a e = rw (a, e)

      pub conflicts : (s' : Store) → y.newer ≡ true → s' ≡ abort_store n s → AnswersFrom o vh nh before (world s' vs ns rows (meaning o xs limit)) n (book.Insert k x) (Err refusal.Conflict)
      conflicts s' e a =
          came o vh nh before n (book.Insert k x) (conflict before n) (goes _ (unseen true e)) (world s' vs ns rows (meaning o xs limit)) (Err refusal.Conflict)
          (ap {B = Outcome K V} (λ (q : Store). Ok (world q vs ns rows (meaning o xs limit), Err refusal.Conflict)) (sym a))

      module _ (old : y.newer ≡ false) where
        pub no_room : (e : Refusal) (vs' : List (Entry (Version K V))) (i' : Index K) → adding o (pick vh vs) n k x (vs, meaning o xs limit) ≡ Err e → ◌≡◌ {A = List (Entry (Version K V)) × Index K} (vs', i') (vs, meaning o xs limit) →
            AnswersFrom o vh nh before (world s vs' ns rows i') n (book.Insert k x) (Err e)
        no_room e vs' i' f same =
            answers_by o vh nh before n (book.Insert k x) (Err e) (goes _ (unseen false old ∙ give_up _ f)) (world s vs' ns rows i') (Err e)
            (left e ∙ (λ j. (world s (sym same j).0 ns rows (sym same j).1, Err e)))
          where
            left : (e : Refusal) → or_as_found before (Err e) ≡ (before, Err e)
            left e = left_as_found before refl

        pub done : (s' : Store) (vs' : List (Entry (Version K V))) (i' : Index K) → adding o (pick vh vs) n k x (vs, meaning o xs limit) ≡ Ok (vs', i') → s' ≡ with_slots s (set s.slots slot (Some (answered t.made y.waits t))) →
            AnswersFrom o vh nh before (world s' vs' ns rows i') n (book.Insert k x) (Ok answer.Done)
        done s' vs' i' f e =
            came o vh nh before n (book.Insert k x) _ (goes _ (unseen false old ∙ go_on _ f)) (world s' vs' ns rows i') (Ok answer.Done)
            (conclude_done rows s vs' ns i' (pick nh ns) (pick vh vs) n slot t y.waits answer.Done slot_is
            ∙ ap {B = Outcome K V} (λ (q : Store). Ok (world q vs' ns rows i', Ok answer.Done)) (sym e))
