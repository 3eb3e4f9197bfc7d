-- An open is accepted with "done", or refused with all as it was. Assumes nothing.
use Rattle.std.proofs.Common.{◌≡◌, ℕ, min, Bool, true, false, T, List, length, Ok, Err, Option, Ordering, sym, refl, subst}
use Rattle.rules.specs.declared.Call.{Call}
use Rattle.rules.specs.declared.Call.TheVariants as call
use Rattle.rules.specs.declared.Answer.{Answer}
use Rattle.rules.specs.declared.Answer.TheVariants as answer
use Rattle.rules.specs.declared.Refusal.{Refusal}
use Rattle.rules.specs.Worlds.{World}
use Rattle.rules.specs.Checks.{◌>>◌, refuse_if, or_as_found}
use Rattle.rules.specs.Book.{is_done}
use Rattle.calls.specs.Promises.{Answers, Begins}
use Rattle.playing.specs.Plays.{Reply, start, PlaysOn, Plays}

module _ {K V : Type 0} where
  -- done, or refused and as it was
  abbrev Settled : World K V → World K V → Reply V → Type 0
  Settled w w' (Ok a) = a ≡ answer.Done
  Settled w w' (Err e) = w' ≡ w

  two_checks : (w o : World K V) (b d : Bool) (e f : Refusal) →
      let z = or_as_found w (refuse_if b e >> (refuse_if d f >> Ok (o, Ok answer.Done))) in Settled w z.0 z.1
  unfolding ◌>>◌ refuse_if or_as_found
  two_checks w o true d e f = refl
  two_checks w o false true e f = refl
  two_checks w o false false e f = refl

module _ {K V : Type 0} (order : K → K → Ordering) (w w' : World K V) (stamp : ℕ) where
  settled : (r : Reply V) → Answers order w w' (call.Open stamp) r → Settled w w' r
  settled r x =
      let P : World K V × Reply V → Type 0 = λ z. Settled w z.0 z.1 in
      subst P x.2 (two_checks w _ _ _ _ _)

  pub open_done : (a : Answer V) → Answers order w w' (call.Open stamp) (Ok a) → a ≡ answer.Done
  open_done a x = settled (Ok a) x

  pub open_refused : (e : Refusal) → Answers order w w' (call.Open stamp) (Err e) → w' ≡ w
  open_refused e x = settled (Err e) x

module _ {K V : Type 0} (order : K → K → Ordering) (stamp : ℕ) (w o : World K V) (calls : List (Call K V)) (answers : List (Option (Reply V))) where
  pub played_all : (w' : World K V) (answers' : List (Option (Reply V))) (a : Answer V) (n : ℕ) →
      Answers order w o (call.Open stamp) (Ok a) → Begins order o (call.Open stamp) (Ok a) →
      n ≡ min (length calls) (length answers) → PlaysOn order o w' calls answers answers' n → Plays order stamp w w' calls answers answers' (Ok n)
  played_all w' answers' a n x begun many on =
      let done = open_done order w o stamp a x in
      let P : Answer V → Type 0 = λ b. Answers order w o (call.Open stamp) (Ok b) in
      let Q : Answer V → Type 0 = λ b. T (is_done (Ok b)) in
      let run = begun (subst Q (sym done) tt) in (many, o, subst P done x, run.0, run.1, on (start o) run.0 refl)

  pub not_opened : (e : Refusal) → Answers order w o (call.Open stamp) (Err e) → Plays order stamp w o calls answers answers (Err e)
  not_opened e x =
      let same = open_refused order w o stamp e x in
      let P : World K V → Type 0 = λ z. Answers order w z (call.Open stamp) (Err e) in (subst P same x, same, refl)
