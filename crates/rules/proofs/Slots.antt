-- Slots: who is found, as slots change. Assumes nothing.
use Rattle.std.proofs.Common.{◌≡◌, ℕ, suc, Bool, true, false, cond, eqb, [], ◌∷◌, map, length, is_some, Some, None, Option, sym, refl, ap, ◌∙◌, subst, arith}
use Rattle.std.proofs.lemmas.Bool.{false≢true, true≢false, eqb-true, eqb-false, eq-eqb, ne_eqb}
use Rattle.std.specs.Option.{option_map}
use Rattle.seeing.specs.declared.Transaction.{Transaction}
use Rattle.seeing.specs.Slots.{Slots, find}
use Rattle.rules.specs.Lists.{all}
use Rattle.rules.specs.Slots.{change, seat, unseat}
use Rattle.rules.proofs.Relation.{Single, stored}

pub some_injective : {A : Type 0} {a b : A} → Some a ≡ Some b → a ≡ b
some_injective e = cc

pub some_none : {A : Type 0} {a : A} → Some a ≡ None → ⊥
some_none e = let z : ◌≡◌ {A = ℕ} 0 1 = cc in omega arith

-- the same names, slot by slot
abbrev pub Alike : Slots → Slots → Type 0
Alike [] [] = Unit {0}
Alike [] (u ∷ us) = ⊥
Alike (t ∷ ts) [] = ⊥
Alike (None ∷ ts) (None ∷ us) = Alike ts us
Alike (None ∷ ts) (Some u ∷ us) = ⊥
Alike (Some t ∷ ts) (None ∷ us) = ⊥
Alike (Some t ∷ ts) (Some u ∷ us) = (t.name ≡ u.name) × Alike ts us

pub alike_self : (ts : Slots) → Alike ts ts
alike_self [] = tt
alike_self (None ∷ ts) = alike_self ts
alike_self (Some t ∷ ts) = (refl, alike_self ts)

pub some_alike : (ts us : Slots) (m : ℕ) → Alike ts us → is_some (find ts m) ≡ is_some (find us m)
some_alike [] [] m h = refl
some_alike [] (u ∷ us) m h = absurd h
some_alike (t ∷ ts) [] m h = absurd h
some_alike (None ∷ ts) (None ∷ us) m h = some_alike ts us m h
some_alike (None ∷ ts) (Some u ∷ us) m h = absurd h
some_alike (Some t ∷ ts) (None ∷ us) m h = absurd h
some_alike (Some t ∷ ts) (Some u ∷ us) m h = go (eqb t.name m) (eqb u.name m) (ap (λ n. eqb n m) h.0) (some_alike ts us m h.1)
  where
    go : (b c : Bool) → b ≡ c → is_some (find ts m) ≡ is_some (find us m) → is_some (cond b (Some t) (find ts m)) ≡ is_some (cond c (Some u) (find us m))
    go true true e r = refl
    go true false e r = absurd (true≢false e)
    go false true e r = absurd (false≢true e)
    go false false e r = r

pub not_some : {A : Type 0} (o : Option A) → is_some o ≡ false → o ≡ None
not_some None e = refl
not_some (Some a) e = absurd (true≢false e)

pub single_alike : (ts us : Slots) → Alike ts us → Single ts → Single us
single_alike [] [] h s = tt
single_alike [] (u ∷ us) h s = absurd h
single_alike (t ∷ ts) [] h s = absurd h
single_alike (None ∷ ts) (None ∷ us) h s = single_alike ts us h s
single_alike (None ∷ ts) (Some u ∷ us) h s = absurd h
single_alike (Some t ∷ ts) (None ∷ us) h s = absurd h
single_alike (Some t ∷ ts) (Some u ∷ us) h s =
    (not_some (find us u.name) (sym (some_alike ts us u.name h.1) ∙ ap is_some (subst (λ n. find ts n ≡ None) h.0 s.0)), single_alike ts us h.1 s.1)

pub length_alike : (ts us : Slots) → Alike ts us → length us ≡ length ts
length_alike [] [] h = refl
length_alike [] (u ∷ us) h = absurd h
length_alike (t ∷ ts) [] h = absurd h
length_alike (None ∷ ts) (None ∷ us) h = ap suc (length_alike ts us h)
length_alike (None ∷ ts) (Some u ∷ us) h = absurd h
length_alike (Some t ∷ ts) (None ∷ us) h = absurd h
length_alike (Some t ∷ ts) (Some u ∷ us) h = ap suc (length_alike ts us h.1)

pub stored_alike : (ts us : Slots) (m : ℕ) → Alike ts us → stored us m ≡ stored ts m
stored_alike ts us m h = sym (some_alike ts us m h)

pub stored_some : (ts : Slots) (m : ℕ) (u : Transaction) → find ts m ≡ Some u → stored ts m ≡ true
stored_some ts m u e = ap (λ o. is_some o) e

pub stored_found : (ts : Slots) (m : ℕ) → stored ts m ≡ true → (u : Transaction) × (find ts m ≡ Some u)
stored_found ts m e = go (find ts m) refl e
  where
    go : (o : Option Transaction) → find ts m ≡ o → is_some o ≡ true → (u : Transaction) × (find ts m ≡ Some u)
    go None q e = absurd (false≢true e)
    go (Some u) q e = (u, q)

pub find_name : (ts : Slots) (n : ℕ) (u : Transaction) → find ts n ≡ Some u → u.name ≡ n
find_name [] n u e = absurd (some_none (sym e))
find_name (None ∷ ts) n u e = find_name ts n u e
find_name (Some t ∷ ts) n u e = go (eqb t.name n) refl e (find_name ts n u)
  where
    go : (b : Bool) → eqb t.name n ≡ b → cond b (Some t) (find ts n) ≡ Some u → (find ts n ≡ Some u → u.name ≡ n) → u.name ≡ n
    go true q e r = ap (λ v. v.name) (sym (some_injective e)) ∙ eqb-true t.name n q
    go false q e r = r e

-- one changed
module _ (n : ℕ) (f : Transaction → Transaction) (named : (t : Transaction) → (f t).name ≡ t.name) where
  pub alike_change : (ts : Slots) → Alike ts (change n f ts)
  alike_change [] = tt
  alike_change (None ∷ ts) = alike_change ts
  alike_change (Some t ∷ ts) = go (eqb t.name n) (alike_change ts)
    where
      go : (b : Bool) → Alike ts (change n f ts) → Alike (Some t ∷ ts) (cond b (Some (f t) ∷ ts) (Some t ∷ change n f ts))
      go true r = (sym (named t), alike_self ts)
      go false r = (refl, r)

  pub find_change_other : (ts : Slots) (m : ℕ) → (m ≡ n → ⊥) → find (change n f ts) m ≡ find ts m
  find_change_other [] m d = refl
  find_change_other (None ∷ ts) m d = find_change_other ts m d
  find_change_other (Some t ∷ ts) m d = go (eqb t.name n) refl (find_change_other ts m d)
    where
      go : (b : Bool) → eqb t.name n ≡ b → find (change n f ts) m ≡ find ts m → find (cond b (Some (f t) ∷ ts) (Some t ∷ change n f ts)) m ≡ cond (eqb t.name m) (Some t) (find ts m)
      go true e r =
          let q : eqb t.name m ≡ false = ne_eqb t.name m (λ z. d (sym z ∙ eqb-true t.name n e)) in
          ap (λ b. cond b (Some (f t)) (find ts m)) (ap (λ x. eqb x m) (named t) ∙ q) ∙ sym (ap (λ b. cond b (Some t) (find ts m)) q)
      go false e r = ap (λ o. cond (eqb t.name m) (Some t) o) r

  pub find_change_same : (ts : Slots) (u : Transaction) → find ts n ≡ Some u → find (change n f ts) n ≡ Some (f u)
  find_change_same [] u e = absurd (some_none (sym e))
  find_change_same (None ∷ ts) u e = find_change_same ts u e
  find_change_same (Some t ∷ ts) u e = go (eqb t.name n) refl e (find_change_same ts u)
    where
      go : (b : Bool) → eqb t.name n ≡ b → cond b (Some t) (find ts n) ≡ Some u → (find ts n ≡ Some u → find (change n f ts) n ≡ Some (f u)) →
          find (cond b (Some (f t) ∷ ts) (Some t ∷ change n f ts)) n ≡ Some (f u)
      go true q e r = ap (λ b. cond b (Some (f t)) (find ts n)) (ap (λ x. eqb x n) (named t) ∙ q) ∙ ap (λ v. Some (f v)) (some_injective e)
      go false q e r = ap (λ b. cond b (Some t) (find (change n f ts) n)) q ∙ r e

-- a map over the slots that keeps the names
module _ (f : Transaction → Transaction) (named : (t : Transaction) → (f t).name ≡ t.name) where
  pub alike_map : (ts : Slots) → Alike ts (map (option_map f) ts)
  alike_map [] = tt
  alike_map (None ∷ ts) = alike_map ts
  alike_map (Some t ∷ ts) = (sym (named t), alike_map ts)

  pub find_map : (ts : Slots) (m : ℕ) → find (map (option_map f) ts) m ≡ option_map f (find ts m)
  find_map [] m = refl
  find_map (None ∷ ts) m = find_map ts m
  find_map (Some t ∷ ts) m = ap (λ x. cond (eqb x m) (Some (f t)) (find (map (option_map f) ts) m)) (named t) ∙ go (eqb t.name m) (find_map ts m)
    where
      go : (b : Bool) → find (map (option_map f) ts) m ≡ option_map f (find ts m) → cond b (Some (f t)) (find (map (option_map f) ts) m) ≡ option_map f (cond b (Some t) (find ts m))
      go true r = refl
      go false r = r

-- one more in the first free slot
module _ (t : Transaction) where
  pub find_seat_other : (ts : Slots) (m : ℕ) → (m ≡ t.name → ⊥) → find (seat t ts) m ≡ find ts m
  find_seat_other [] m d = refl
  find_seat_other (None ∷ ts) m d = ap (λ b. cond b (Some t) (find ts m)) (ne_eqb t.name m (λ e. d (sym e)))
  find_seat_other (Some u ∷ ts) m d = ap (λ o. cond (eqb u.name m) (Some u) o) (find_seat_other ts m d)

  pub find_seat_same : (ts : Slots) → all is_some ts ≡ false → find ts t.name ≡ None → find (seat t ts) t.name ≡ Some t
  find_seat_same [] e q = absurd (true≢false e)
  find_seat_same (None ∷ ts) e q = ap (λ b. cond b (Some t) (find ts t.name)) (eq-eqb t.name t.name refl)
  find_seat_same (Some u ∷ ts) e q = go (eqb u.name t.name) q (find_seat_same ts e)
    where
      go : (b : Bool) → cond b (Some u) (find ts t.name) ≡ None → (find ts t.name ≡ None → find (seat t ts) t.name ≡ Some t) → cond b (Some u) (find (seat t ts) t.name) ≡ Some t
      go true q r = absurd (some_none q)
      go false q r = r q

  pub length_seat : (ts : Slots) → length (seat t ts) ≡ length ts
  length_seat [] = refl
  length_seat (None ∷ ts) = refl
  length_seat (Some u ∷ ts) = ap suc (length_seat ts)

  pub single_seat : (ts : Slots) → find ts t.name ≡ None → Single ts → Single (seat t ts)
  single_seat [] q s = tt
  single_seat (None ∷ ts) q s = (q, s)
  single_seat (Some u ∷ ts) q s = go (eqb u.name t.name) refl q (single_seat ts)
    where
      go : (b : Bool) → eqb u.name t.name ≡ b → cond b (Some u) (find ts t.name) ≡ None → (find ts t.name ≡ None → Single ts → Single (seat t ts)) → Single (Some u ∷ seat t ts)
      go true e q r = absurd (some_none q)
      go false e q r = (find_seat_other ts u.name (eqb-false u.name t.name e) ∙ s.0, r q s.1)

-- one less
module _ (n : ℕ) where
  pub length_unseat : (ts : Slots) → length (unseat n ts) ≡ length ts
  length_unseat [] = refl
  length_unseat (None ∷ ts) = ap suc (length_unseat ts)
  length_unseat (Some t ∷ ts) = go (eqb t.name n) (length_unseat ts)
    where
      go : (b : Bool) → length (unseat n ts) ≡ length ts → length (cond b (None ∷ ts) (Some t ∷ unseat n ts)) ≡ suc (length ts)
      go true r = refl
      go false r = ap suc r

  pub find_unseat_other : (ts : Slots) (m : ℕ) → (m ≡ n → ⊥) → find (unseat n ts) m ≡ find ts m
  find_unseat_other [] m d = refl
  find_unseat_other (None ∷ ts) m d = find_unseat_other ts m d
  find_unseat_other (Some t ∷ ts) m d = go (eqb t.name n) refl (find_unseat_other ts m d)
    where
      go : (b : Bool) → eqb t.name n ≡ b → find (unseat n ts) m ≡ find ts m → find (cond b (None ∷ ts) (Some t ∷ unseat n ts)) m ≡ cond (eqb t.name m) (Some t) (find ts m)
      go true e r = sym (ap (λ b. cond b (Some t) (find ts m)) (ne_eqb t.name m (λ z. d (sym z ∙ eqb-true t.name n e))))
      go false e r = ap (λ o. cond (eqb t.name m) (Some t) o) r

  pub find_unseat_same : (ts : Slots) → Single ts → find (unseat n ts) n ≡ None
  find_unseat_same [] s = refl
  find_unseat_same (None ∷ ts) s = find_unseat_same ts s
  find_unseat_same (Some t ∷ ts) s = go (eqb t.name n) refl (find_unseat_same ts s.1)
    where
      go : (b : Bool) → eqb t.name n ≡ b → find (unseat n ts) n ≡ None → find (cond b (None ∷ ts) (Some t ∷ unseat n ts)) n ≡ None
      go true e r = subst (λ x. find ts x ≡ None) (eqb-true t.name n e) s.0
      go false e r = ap (λ b. cond b (Some t) (find (unseat n ts) n)) e ∙ r

  pub single_unseat : (ts : Slots) → Single ts → Single (unseat n ts)
  single_unseat [] s = tt
  single_unseat (None ∷ ts) s = single_unseat ts s
  single_unseat (Some t ∷ ts) s = go (eqb t.name n) refl (single_unseat ts s.1)
    where
      go : (b : Bool) → eqb t.name n ≡ b → Single (unseat n ts) → Single (cond b (None ∷ ts) (Some t ∷ unseat n ts))
      go true e r = s.1
      go false e r = (find_unseat_other ts t.name (eqb-false t.name n e) ∙ s.0, r)

-- a change counts by what it makes of the one found
pub change_found : (n : ℕ) (f g : Transaction → Transaction) (ts : Slots) (t : Transaction) → find ts n ≡ Some t → f t ≡ g t → change n f ts ≡ change n g ts
change_found n f g [] t e q = refl
change_found n f g (None ∷ ts) t e q = ap (λ us. None ∷ us) (change_found n f g ts t e q)
change_found n f g (Some u ∷ ts) t e q = go (eqb u.name n) e (λ r. change_found n f g ts t r q)
  where
    go : (b : Bool) → cond b (Some u) (find ts n) ≡ Some t → (find ts n ≡ Some t → change n f ts ≡ change n g ts) → cond b (Some (f u) ∷ ts) (Some u ∷ change n f ts) ≡ cond b (Some (g u) ∷ ts) (Some u ∷ change n g ts)
    go true e r = ap (λ v. Some v ∷ ts) (ap f (some_injective e) ∙ q ∙ ap g (sym (some_injective e)))
    go false e r = ap (λ us. Some u ∷ us) (r e)
