-- A read, exit by exit. Assumes nothing.
use Rattle.std.proofs.Common.{◌≡◌, ℕ, List, length, Ok, Err, Option, Ordering, sym, refl, ◌∙◌}
use Rattle.rules.specs.declared.Entry.{Entry}
use Rattle.rules.specs.declared.Store.{Store}
use Rattle.seeing.specs.declared.Version.{Version}
use Rattle.rules.specs.declared.Note.{Note}
use Rattle.rules.specs.declared.Noted.{Noted}
use Rattle.rules.specs.declared.Row.{Row}
use Rattle.walks.specs.declared.Survey.{Survey}
use Rattle.seeing.specs.declared.Transaction.{Transaction}
use Rattle.rules.specs.declared.BookCall.TheVariants as book
use Rattle.rules.specs.declared.Answer.{Answer}
use Rattle.rules.specs.declared.Refusal.{Refusal}
use Rattle.rules.specs.Index.{meaning}
use Rattle.rules.specs.Worlds.{World}
use Rattle.rules.specs.Checks.{Checked, Outcome, or_as_found}
use Rattle.rules.specs.BookRules.{conclude, note_of}
use Rattle.rules.specs.BookRules.{value_of}
use Rattle.tables.specs.Places.{pick}
use Rattle.data_calls.specs.Calling.{world, picked, AnswersFrom, approached, concluding}
use Rattle.tables.specs.Steps.{Gives}
use Rattle.data_calls.proofs.Shapes.{answers_by, conclude_ends, unapproached, goes_on, found_slot}

module _ {K V : Type 0} (o : K → K → Ordering) (vh nh : ℕ) (rows : List (Row K V)) (s : Store) (vs : List (Entry (Version K V))) (ns : List (Entry (Note K))) (xs : List (K × ℕ)) (limit n : ℕ) (k : K) where
  abbrev before : World K V
  before = world s vs ns rows (meaning o xs limit)

  abbrev steps : Transaction → Survey K V → Outcome K V
  steps t y = conclude (picked vh nh vs ns) before n t (note_of n k y.seen) y.waits (value_of y.seen)

  pub refuses : (e : Refusal) → Err e ≡ approached o s vs (length ns) xs limit n k k → AnswersFrom o vh nh before before n (book.Read k) (Err e)
  refuses e h = unapproached o vh nh rows s vs ns xs limit n k k (book.Read k) steps refl e h

  pub reads : (slot : ℕ) (t : Transaction) (y : Survey K V) (what : Option (Noted K)) (a : Answer V) (s' : Store) (ns' : List (Entry (Note K))) (r : Checked (Answer V)) →
      Ok (slot, t, y) ≡ approached o s vs (length ns) xs limit n k k → what ≡ note_of n k y.seen → a ≡ value_of y.seen →
      Gives (concluding (pick nh ns) t.name slot t what y.waits a (s, ns)) (s, ns) (s', ns') r → AnswersFrom o vh nh before (world s' vs ns' rows (meaning o xs limit)) n (book.Read k) r
  reads slot t y what a s' ns' r h ew ea g =
      answers_by o vh nh before n (book.Read k) (steps t y) (goes_on o vh nh rows s vs ns xs limit n k k (book.Read k) steps refl slot t y h) (world s' vs ns' rows (meaning o xs limit)) r
      ((λ j. or_as_found' (sym ew j) (sym ea j))
      ∙ conclude_ends rows s vs ns (meaning o xs limit) (pick nh ns) (pick vh vs) n slot t what y.waits a (found_slot o s vs (length ns) xs limit n k k slot t y h) s' ns' r g)
    where
      or_as_found' : Option (Noted K) → Answer V → World K V × Checked (Answer V)
      or_as_found' z b = or_as_found before (conclude (picked vh nh vs ns) before n t z y.waits b)
