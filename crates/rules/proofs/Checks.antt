-- Going through a rule, check by check. Assumes nothing.
use Rattle.std.proofs.Common.{◌≡◌, ℕ, Bool, true, false, cond, ◌||◌, T, eqb, Some, None, Ok, Err, Option, sym, refl, subst}
use Rattle.std.proofs.lemmas.Bool.{not-false}
use Rattle.rules.specs.declared.Refusal.{Refusal}
use Rattle.seeing.specs.declared.Phase.{Phase}
use Rattle.rules.specs.Said.{number}
use Rattle.seeing.specs.Slots.{find}
use Rattle.rules.specs.Worlds.{World}
use Rattle.rules.specs.Checks.{Checked, ◌>>=◌, ◌>>◌, some_or, refuse_if, named_in, sound_in}

pub T_true : (b : Bool) → T b → b ≡ true
T_true true h = refl
T_true false h = absurd h

pub true_T : (b : Bool) → b ≡ true → T b
true_T b e = subst T (sym e) tt

-- a refusal that does not abort
abbrev pub harmless : Refusal → Type 0
harmless r = (eqb (number r) 8 || eqb (number r) 15) ≡ false

-- P of the value, or a refusal that does not abort
pub data Comes {A : Type 0} (P : A → Type 0) : Checked A → Type 0 where
  comes : {a : A} → P a → Comes P (Ok a)
  refused : {r : Refusal} → harmless r → Comes P (Err r)

module _ {A B : Type 0} {P : B → Type 0} where
  pub bind : {Q : A → Type 0} {m : Checked A} {f : A → Checked B} → Comes Q m → ((a : A) → Q a → Comes P (f a)) → Comes P (m >>= f)
  unfolding ◌>>=◌
  bind (comes {a = a} q) h = h a q
  bind (refused r) h = refused r

  pub some_bind : (r : Refusal) (o : Option A) {f : A → Checked B} → harmless r → ((a : A) → o ≡ Some a → Comes P (f a)) → Comes P (some_or r o >>= f)
  unfolding ◌>>=◌ some_or
  some_bind r None q h = refused q
  some_bind r (Some a) q h = h a refl

module _ {B : Type 0} {P : B → Type 0} where
  pub unless : (b : Bool) (r : Refusal) {n : Checked B} → harmless r → (b ≡ false → Comes P n) → Comes P (refuse_if b r >> n)
  unfolding ◌>>◌ refuse_if
  unless true r q h = refused q
  unless false r q h = h refl

  pub either : (b : Bool) {x y : Checked B} → (b ≡ true → Comes P x) → (b ≡ false → Comes P y) → Comes P (cond b x y)
  either true h k = h refl
  either false h k = k refl

module _ {K V : Type 0} (w : World K V) (n : ℕ) (allows : Phase → Bool) where
  -- the one named is found, in a phase that allows the call
  pub is_named : Comes (λ t. (find w.store.slots n ≡ Some t) × (allows t.phase ≡ true)) (named_in w n allows)
  is_named = unless _ _ refl (λ _. some_bind _ _ refl (λ t e. unless _ _ refl (λ q. comes (e, not-false _ q))))

  pub is_sound : Comes (λ t. (find w.store.slots n ≡ Some t) × ((allows t.phase ≡ true) × (t.doomed ≡ false))) (sound_in w n allows)
  is_sound = bind is_named (λ t h. unless _ _ refl (λ q. comes (h.0, (h.1, q))))

module _ {A B : Type 0} {P : B → Type 0} where
  pub by_option : (o : Option A) {x : Checked B} {f : A → Checked B} → (o ≡ None → Comes P x) → ((a : A) → o ≡ Some a → Comes P (f a)) → Comes P (elim o [ None ↦ x | Some a ↦ f a ])
  by_option None h k = h refl
  by_option (Some a) h k = k a refl

module _ {A : Type 0} {P Q : A → Type 0} where
  pub to : {m : Checked A} → ((a : A) → Q a → P a) → Comes Q m → Comes P m
  to f (comes {a = a} q) = comes (f a q)
  to f (refused r) = refused r
