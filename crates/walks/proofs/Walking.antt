-- A walk over versions: its turns, and what it comes to in the words of the rules. Assumes nothing.
use Rattle.std.proofs.Common.{◌≡◌, ℕ, Bool, true, false, cond, not, ◌&&◌, ◌||◌, List, [], ◌∷◌, is_some, Some, None, Ok, Err, Option, Ordering, sym, refl, ap, ◌∙◌}
use Rattle.rules.specs.declared.Entry.{Entry}
use Rattle.seeing.specs.declared.Version.{Version}
use Rattle.walks.specs.declared.Survey.{Survey}
use Rattle.rules.specs.declared.Refusal.{Refusal}
use Rattle.seeing.specs.Slots.{Slots}
use Rattle.seeing.specs.Seeing.{visible, waits_for}
use Rattle.rules.specs.Slots.{mark}
use Rattle.rules.specs.Checks.{Checked, ◌>>=◌}
use Rattle.rules.specs.Reaching.{Met, first_seen, waits_after, any_newer, reached, reach_all}
use Rattle.seeing.specs.Changing.{too_new}
use Rattle.walks.specs.Walk.{walk, also, start}
use Rattle.tables.proofs.Steps.{go_on, give_up}

module _ {K V : Type 0} (o : K → K → Ordering) (ts : Slots) (vs : List (Entry (Version K V))) (n : ℕ) (all : Checked (Survey K V)) (s : Survey K V) (ps : List (K × ℕ)) (inv : all ≡ walk o ts vs n s ps) where
  pub walk_ends : ps ≡ [] → Ok s ≡ all
  walk_ends e = sym (inv ∙ ap (walk o ts vs n s) e)

  module _ (x : K × ℕ) (left : List (K × ℕ)) (next : ps ≡ x ∷ left) where
    pub walk_stops : (e : Refusal) → Err e ≡ reached o ts vs x → Err e ≡ all
    walk_stops e h = sym (inv ∙ ap (walk o ts vs n s) next ∙ give_up (λ y. walk o ts vs n (also ts n s y) left) (sym h))

    pub walk_goes_on : (y : Met K V) (s' : Survey K V) → Ok y ≡ reached o ts vs x → s' ≡ also ts n s y → all ≡ walk o ts vs n s' left
    walk_goes_on y s' h e = inv ∙ ap (walk o ts vs n s) next ∙ go_on (λ y. walk o ts vs n (also ts n s y) left) (sym h) ∙ ap (λ w. walk o ts vs n w left) (sym e)

-- ---- what it comes to

module _ {A : Type 0} where
  -- the first, or else the second
  abbrev pub or_else : Option A → Option A → Option A
  or_else None other = other
  or_else (Some x) other = Some x

or_false : (b : Bool) → (b || false) ≡ b
or_false true = refl
or_false false = refl

or_or : (a b c : Bool) → ((a || b) || c) ≡ (a || (b || c))
or_or true b c = refl
or_or false b c = refl

module _ {A B C : Type 0} where
  pub bind_bind : (m : Checked A) (f : A → Checked B) (k : B → Checked C) → ((m >>= f) >>= k) ≡ (m >>= (λ a. f a >>= k))
  unfolding ◌>>=◌
  bind_bind (Ok a) f k = refl
  bind_bind (Err r) f k = refl

module _ {A B : Type 0} where
  pub bind_same : (m : Checked A) (f g : A → Checked B) → ((a : A) → f a ≡ g a) → (m >>= f) ≡ (m >>= g)
  unfolding ◌>>=◌
  bind_same (Ok a) f g h = h a
  bind_same (Err r) f g h = refl

module _ {K V : Type 0} (ts : Slots) (n : ℕ) where
  -- what has been found once all are met
  abbrev pub surveyed : Survey K V → List (Met K V) → Survey K V
  surveyed s met = record {
    seen = or_else s.seen (first_seen ts n met);
    waits = waits_after ts n n met s.waits;
    newer = s.newer || any_newer ts n met;
  }

  none_more : (a : Option (Met K V)) → or_else a None ≡ a
  none_more None = refl
  none_more (Some y) = refl

  seen_too : (a : Option (Met K V)) (b : Bool) (y : Met K V) (f : Option (Met K V)) → or_else (cond (not (is_some a) && b) (Some y) a) f ≡ or_else a (cond b (Some y) f)
  seen_too None true y f = refl
  seen_too None false y f = refl
  seen_too (Some z) b y f = refl

  surveyed_none : (s : Survey K V) → surveyed s [] ≡ s
  surveyed_none s = λ i. record { seen = none_more s.seen i; waits = s.waits; newer = or_false s.newer i }

  surveyed_more : (s : Survey K V) (y : Met K V) (ys : List (Met K V)) → surveyed (also ts n s y) ys ≡ surveyed s (y ∷ ys)
  surveyed_more s y ys = λ i. record {
    seen = seen_too s.seen (visible ts n n y.1) y (first_seen ts n ys) i;
    waits = waits_after ts n n ys (mark ts (waits_for ts n n y.1) s.waits);
    newer = or_or s.newer (too_new ts n y.1.begin y.1.end) (any_newer ts n ys) i;
  }

module _ {K V : Type 0} (o : K → K → Ordering) (ts : Slots) (vs : List (Entry (Version K V))) (n : ℕ) where
  ok_then : {B : Type 0} (a : List (Met K V)) (f : List (Met K V) → Checked B) → (Ok a >>= f) ≡ f a
  unfolding ◌>>=◌
  ok_then a f = refl

  -- a walk is a reach of all, summed up
  pub walk_is : (s : Survey K V) (ps : List (K × ℕ)) → walk o ts vs n s ps ≡ (reach_all o ts vs ps >>= (λ met. Ok (surveyed ts n s met)))
  walk_is s [] = ap Ok (sym (surveyed_none ts n s)) ∙ sym (ok_then [] (λ met. Ok (surveyed ts n s met)))
  walk_is s (x ∷ xs) =
      bind_same (reached o ts vs x) (λ y. walk o ts vs n (also ts n s y) xs) (λ y. (reach_all o ts vs xs >>= (λ ys. Ok (y ∷ ys))) >>= (λ met. Ok (surveyed ts n s met)))
      (λ y.
      walk_is (also ts n s y) xs
      ∙ bind_same (reach_all o ts vs xs) (λ ys. Ok (surveyed ts n (also ts n s y) ys)) (λ ys. Ok (y ∷ ys) >>= (λ met. Ok (surveyed ts n s met)))
      (λ ys. ap Ok (surveyed_more ts n s y ys) ∙ sym (ok_then (y ∷ ys) (λ met. Ok (surveyed ts n s met))))
      ∙ sym (bind_bind (reach_all o ts vs xs) (λ ys. Ok (y ∷ ys)) (λ met. Ok (surveyed ts n s met))))
      ∙ sym (bind_bind (reached o ts vs x) (λ y. reach_all o ts vs xs >>= (λ ys. Ok (y ∷ ys))) (λ met. Ok (surveyed ts n s met)))

  -- steps that rest on what was found, and not on the versions met
  pub reach_walk : {B : Type 0} (ws : List Bool) (ps : List (K × ℕ)) (k : Survey K V → Checked B) → (reach_all o ts vs ps >>= (λ met. k (surveyed ts n (start ws) met))) ≡ (walk o ts vs n (start ws) ps >>= k)
  reach_walk ws ps k =
      bind_same (reach_all o ts vs ps) (λ met. k (surveyed ts n (start ws) met)) (λ met. Ok (surveyed ts n (start ws) met) >>= k) (λ met. sym (then_k met))
      ∙ sym (bind_bind (reach_all o ts vs ps) (λ met. Ok (surveyed ts n (start ws) met)) k)
      ∙ ap (λ m. m >>= k) (sym (walk_is (start ws) ps))
    where
      then_k : (met : List (Met K V)) → (Ok (surveyed ts n (start ws) met) >>= k) ≡ k (surveyed ts n (start ws) met)
      then_k met = go_on k refl
