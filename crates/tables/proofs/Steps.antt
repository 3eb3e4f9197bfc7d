-- Going through a rule check by check. Assumes nothing.
use Rattle.std.proofs.Common.{◌≡◌, Bool, true, false, IsErrAnd, Some, None, Ok, Err, Option, Result, ap, ◌∙◌}
use Rattle.std.proofs.lemmas.Result.{err_from_is_err_and}
use Rattle.rules.specs.declared.Refusal.{Refusal}
use Rattle.rules.specs.declared.Answer.{Answer}
use Rattle.rules.specs.Worlds.{World}
use Rattle.rules.specs.Checks.{Outcome, Checked, ◌>>=◌, ◌>>◌, refuse_if, some_or, or_as_found}

module _ {B : Type 0} where
  pub pass : (b : Bool) (r : Refusal) (n : Checked B) → b ≡ false → (refuse_if b r >> n) ≡ n
  unfolding ◌>>◌ refuse_if
  pass b r n e = rw e

  pub stop : (b : Bool) (r : Refusal) (n : Checked B) → b ≡ true → (refuse_if b r >> n) ≡ Err r
  unfolding ◌>>◌ refuse_if
  stop b r n e = rw e

module _ {A B : Type 0} where
  pub go_on : {m : Checked A} {a : A} (k : A → Checked B) → m ≡ Ok a → (m >>= k) ≡ k a
  unfolding ◌>>=◌
  go_on k e = rw e

  pub give_up : {m : Checked A} {r : Refusal} (k : A → Checked B) → m ≡ Err r → (m >>= k) ≡ Err r
  unfolding ◌>>=◌
  give_up k e = rw e

module _ {A : Type 0} where
  pub have : {o : Option A} {a : A} (r : Refusal) → o ≡ Some a → some_or r o ≡ Ok a
  unfolding some_or
  have r e = rw e

  pub lack : {o : Option A} (r : Refusal) → o ≡ None → some_or r o ≡ Err r
  unfolding some_or
  lack r e = rw e

module _ {K V : Type 0} (w : World K V) where
  pub left_as_found : {m : Outcome K V} {r : Refusal} → m ≡ Err r → or_as_found w m ≡ (w, Err r)
  unfolding or_as_found
  left_as_found e = rw e

  pub came_to : {m : Outcome K V} (r : World K V × Checked (Answer V)) → m ≡ Ok r → or_as_found w m ≡ r
  unfolding or_as_found
  came_to r e = rw e

-- what the exit of a `?` returns
pub exit : {T : Type 0} (r : Result T Refusal) (y : Refusal) → IsErrAnd r (λ z. z ≡ y) → r ≡ Err y
exit r y h = let p = err_from_is_err_and r h in p.1 ∙ ap Err p.2
