-- Times and what was put last, as the line changes. Assumes nothing.
use Rattle.std.proofs.Common.{◌≡◌, ℕ, ◌<◌, ◌≤◌, Bool, true, false, cond, ◌||◌, eqb, ltb, leb, ◌⊎◌, List, [], ◌∷◌, ◌++◌, Some, None, Option, sym, refl, ap, ◌∙◌, subst, inl, inr, ⊎_elim, arith}
use Rattle.std.proofs.lemmas.Bool.{false≢true, true≢false, eqb-true, eq-eqb, ne_eqb, leb-true, leb-false, le-leb, lt-leb, ltb-true}
use Rattle.serial.specs.Lists.{In, All, Each, keep, change}
use Rattle.serial.specs.Machine.{Game, Transaction, Stage, play, view, below, touched, given, stays, retag, active, preparing, validated, committed, pending}
use Rattle.serial.proofs.Lists.{All_at, keep_change}
use Rattle.serial.proofs.Names.{Apart}
use Rattle.rules.proofs.Times.{either, stamped, ending, last, latest, upto}
use Rattle.rules.proofs.Slots.{some_injective, some_none}

module _ {A : Type 0} where
  pub In_left : (x : A) (xs ys : List A) → In x xs → In x (xs ++ ys)
  In_left x [] ys i = absurd i
  In_left x (y ∷ xs) ys (inl e) = inl e
  In_left x (y ∷ xs) ys (inr i) = inr (In_left x xs ys i)

  pub In_either : (x : A) (xs ys : List A) → In x (xs ++ ys) → In x xs ⊎ In x ys
  In_either x [] ys i = inr i
  In_either x (y ∷ xs) ys (inl e) = inl (inl e)
  In_either x (y ∷ xs) ys (inr i) = ⊎_elim (λ j. inl (inr j)) (λ j. inr j) (In_either x xs ys i)

pub settled_stage : (st : Stage) → pending st ≡ false → st ≡ committed
settled_stage active e = absurd (true≢false e)
settled_stage preparing e = absurd (true≢false e)
settled_stage validated e = absurd (true≢false e)
settled_stage committed e = refl

abbrev pub content : {A : Type 0} → Option (ℕ × Option A) → Option A
content None = None
content (Some x) = x.1

given_either : {A : Type 0} (a b : Option A) → given (either a b) ≡ (given a || given b)
given_either None b = refl
given_either (Some x) b = refl

pub given_some : {A : Type 0} (a : Option A) → given a ≡ true → (x : A) × (a ≡ Some x)
given_some None e = absurd (false≢true e)
given_some (Some x) e = (x, refl)

pub given_none : {A : Type 0} (a : Option A) → given a ≡ false → a ≡ None
given_none None e = refl
given_none (Some x) e = absurd (true≢false e)

module _ (G : Game) where
  pub given_last : (ms : List G.Move) (k : G.Key) → given (last G ms k) ≡ touched G ms k
  given_last [] k = refl
  given_last (m ∷ ms) k = given_either (G.effect m k) (last G ms k) ∙ ap (λ b. given (G.effect m k) || b) (given_last ms k)

  pub last_none : (ms : List G.Move) (k : G.Key) → touched G ms k ≡ false → last G ms k ≡ None
  last_none ms k e = given_none (last G ms k) (given_last ms k ∙ e)

  pub last_some : (ms : List G.Move) (k : G.Key) → touched G ms k ≡ true → (o : Option G.Value) × (last G ms k ≡ Some o)
  last_some ms k e = given_some (last G ms k) (given_last ms k ∙ e)

  pub some_touched : (ms : List G.Move) (k : G.Key) (o : Option G.Value) → last G ms k ≡ Some o → touched G ms k ≡ true
  some_touched ms k o e = sym (given_last ms k) ∙ ap given e

  stays_either : (a b : Option (Option G.Value)) (x : Option G.Value) → stays a (stays b x) ≡ stays (either a b) x
  stays_either None b x = refl
  stays_either (Some y) b x = refl

  pub play_last : (f : G.Key → Option G.Value) (ms : List G.Move) (k : G.Key) → play G f ms k ≡ stays (last G ms k) (f k)
  play_last f [] k = refl
  play_last f (m ∷ ms) k = ap (stays (G.effect m k)) (play_last f ms k) ∙ stays_either (G.effect m k) (last G ms k) (f k)

  content_stamped : (e : ℕ) (a : Option (Option G.Value)) (r : Option (ℕ × Option G.Value)) → content (stamped e a r) ≡ stays a (content r)
  content_stamped e None r = refl
  content_stamped e (Some o) r = refl

  pub view_latest : (l : List (Transaction G)) (k : G.Key) → view G l k ≡ content (latest G l k)
  view_latest [] k = refl
  view_latest (t ∷ l) k = play_last (view G l) t.moves k ∙ ap (stays (last G t.moves k)) (view_latest l k) ∙ sym (content_stamped t.end (last G t.moves k) (latest G l k))

  pub latest_untouched : (t : Transaction G) (l : List (Transaction G)) (k : G.Key) → touched G t.moves k ≡ false → latest G (t ∷ l) k ≡ latest G l k
  latest_untouched t l k e = ap (λ a. stamped t.end a (latest G l k)) (last_none t.moves k e)

  end_same : (t x : Transaction G) → t ≡ x → t.end ≤ x.end
  end_same t x e = let q : t.end ≡ x.end = ap (λ v. v.end) e in omega arith

  -- of a line in order, the one that ends at the time is the latest of those that it is among
  pub latest_top : (l : List (Transaction G)) (x : Transaction G) (k : G.Key) → Each (λ t before. All (λ u. u.end < t.end) before) l → In x l → touched G x.moves k ≡ true →
      (o : Option G.Value) × (latest G (upto G x.end l) k ≡ Some (x.end, o))
  latest_top [] x k r i e = absurd i
  latest_top (t ∷ l) x k r (inl q) e =
      let z = last_some t.moves k (subst (λ v. touched G v.moves k ≡ true) (sym q) e) in (
        z.0,
        ap (λ b. latest G (cond b (t ∷ upto G x.end l) (upto G x.end l)) k) (le-leb t.end x.end (end_same t x q))
            ∙ ap (λ a. stamped t.end a (latest G (upto G x.end l) k)) z.1 ∙ ap (λ v. Some (v.end, z.0)) q,
      )
  latest_top (t ∷ l) x k r (inr i) e =
      let z = latest_top l x k r.1 i e in
      let late : x.end < t.end = All_at (λ u. u.end < t.end) x l i r.0 in
      (z.0, ap (λ b. latest G (cond b (t ∷ upto G x.end l) (upto G x.end l)) k) (lt-leb t.end x.end late) ∙ z.1)

  pub upto_all : (R : ℕ) (l : List (Transaction G)) → All (λ t. t.end ≤ R) l → upto G R l ≡ l
  upto_all R [] h = refl
  upto_all R (t ∷ l) h = ap (λ b. cond b (t ∷ upto G R l) (upto G R l)) (le-leb t.end R h.0) ∙ ap (λ r. t ∷ r) (upto_all R l h.1)

  pub upto_below : (n : ℕ) (l : List (Transaction G)) → All (λ t. t.end ≡ n → ⊥) l → upto G n l ≡ below G n l
  upto_below n [] h = refl
  upto_below n (t ∷ l) h = go (leb t.end n) (ltb t.end n) refl refl (upto_below n l h.1)
    where
      go : (a b : Bool) → leb t.end n ≡ a → ltb t.end n ≡ b → upto G n l ≡ below G n l → cond a (t ∷ upto G n l) (upto G n l) ≡ cond b (t ∷ below G n l) (below G n l)
      go true true p q r = ap (λ x. t ∷ x) r
      go true false p q r = absurd (h.0 (let a = leb-true t.end n p in let b = Rattle.std.proofs.lemmas.Bool.ltb-false t.end n q in omega arith))
      go false true p q r = absurd (let a = leb-false t.end n p in let b = ltb-true t.end n q in omega arith)
      go false false p q r = r

  pub upto_new : (R : ℕ) (t : Transaction G) (l : List (Transaction G)) → R < t.end → upto G R (t ∷ l) ≡ upto G R l
  upto_new R t l h = ap (λ b. cond b (t ∷ upto G R l) (upto G R l)) (lt-leb t.end R h)

  -- stages and waits do not matter
  module _ (g : Transaction G → Stage) (w : Transaction G → List ℕ) where
    pub latest_retag : (l : List (Transaction G)) (k : G.Key) → latest G (change (λ t. retag G (g t) (w t) t) l) k ≡ latest G l k
    latest_retag [] k = refl
    latest_retag (t ∷ l) k = ap (stamped t.end (last G t.moves k)) (latest_retag l k)

    pub upto_retag : (R : ℕ) (l : List (Transaction G)) → upto G R (change (λ t. retag G (g t) (w t) t) l) ≡ change (λ t. retag G (g t) (w t) t) (upto G R l)
    upto_retag R l = keep_change (λ t. leb t.end R) (λ t. retag G (g t) (w t) t) l

    pub ending_retag : (l : List (Transaction G)) (m : ℕ) → ending G (change (λ t. retag G (g t) (w t) t) l) m ≡ ending G l m
    ending_retag [] m = refl
    ending_retag (t ∷ l) m = ap (λ o. cond (eqb t.name m) (Some t.end) o) (ending_retag l m)

  pub ending_in : (l : List (Transaction G)) (t : Transaction G) → Each (Apart G) l → In t l → ending G l t.name ≡ Some t.end
  ending_in [] t a i = absurd i
  ending_in (u ∷ l) t a (inl e) = ap (λ b. cond b (Some u.end) (ending G l t.name)) (eq-eqb u.name t.name (ap (λ v. v.name) e)) ∙ ap (λ v. Some v.end) e
  ending_in (u ∷ l) t a (inr i) =
      ap (λ b. cond b (Some u.end) (ending G l t.name)) (ne_eqb u.name t.name (λ e. All_at (λ v. v.name ≡ u.name → ⊥) t l i a.0 (sym e)))
      ∙ ending_in l t a.1 i

  pub ending_some : (l : List (Transaction G)) (m e : ℕ) → ending G l m ≡ Some e → (t : Transaction G) × (In t l × ((t.name ≡ m) × (t.end ≡ e)))
  ending_some [] m e h = absurd (some_none (sym h))
  ending_some (t ∷ l) m e h = go (eqb t.name m) refl h (ending_some l m e)
    where
      go : (b : Bool) → eqb t.name m ≡ b → cond b (Some t.end) (ending G l m) ≡ Some e → (ending G l m ≡ Some e → (t : Transaction G) × (In t l × ((t.name ≡ m) × (t.end ≡ e)))) →
          (u : Transaction G) × (In u (t ∷ l) × ((u.name ≡ m) × (u.end ≡ e)))
      go true q h r = (t, (inl refl, (eqb-true t.name m q, some_injective h)))
      go false q h r = let z = r h in (z.0, (inr z.1.0, z.1.1))

  pub ending_none : (l : List (Transaction G)) (m : ℕ) → ((t : Transaction G) → In t l → t.name ≡ m → ⊥) → ending G l m ≡ None
  ending_none l m h = go (ending G l m) refl
    where
      go : (o : Option ℕ) → ending G l m ≡ o → ending G l m ≡ None
      go None e = e
      go (Some b) e = let z = ending_some l m b e in absurd (h z.0 z.1.0 z.1.1.0)

  pub ending_keep : (alive : ℕ → Bool) (l : List (Transaction G)) (m : ℕ) → ending G (keep (λ t. alive t.name) l) m ≡ cond (alive m) (ending G l m) None
  ending_keep alive [] m = go (alive m)
    where
      go : (b : Bool) → ◌≡◌ {A = Option ℕ} None (cond b None None)
      go true = refl
      go false = refl
  ending_keep alive (t ∷ l) m = go (eqb t.name m) (alive t.name) (alive m) refl refl refl (ending_keep alive l m)
    where
      go : (c a b : Bool) → eqb t.name m ≡ c → alive t.name ≡ a → alive m ≡ b → ending G (keep (λ t. alive t.name) l) m ≡ cond b (ending G l m) None →
          ending G (cond a (t ∷ keep (λ t. alive t.name) l) (keep (λ t. alive t.name) l)) m ≡ cond b (cond c (Some t.end) (ending G l m)) None
      go true true true p q s r = ap (λ c. cond c (Some t.end) (ending G (keep (λ t. alive t.name) l) m)) p
      go true true false p q s r = absurd (true≢false (sym q ∙ ap alive (eqb-true t.name m p) ∙ s))
      go true false true p q s r = absurd (true≢false (sym s ∙ sym (ap alive (eqb-true t.name m p)) ∙ q))
      go true false false p q s r = r
      go false true b p q s r = ap (λ c. cond c (Some t.end) (ending G (keep (λ t. alive t.name) l) m)) p ∙ r
      go false false b p q s r = r
