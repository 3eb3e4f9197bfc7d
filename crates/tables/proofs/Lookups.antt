-- The rules' checks of the one named, by what the calls find. Assumes nothing.
use Rattle.std.proofs.Common.{◌≡◌, ℕ, ◌+◌, Bool, true, false, cond, eqb, not, [], ◌∷◌, is_some, Some, None, Ok, Err, Option, sym, refl, ap, ◌∙◌, arith}
use Rattle.std.proofs.lemmas.Bool.{eqb-true}
use Rattle.std.specs.Bool.{then_some}
use Rattle.std.specs.Option.{ok_or, option_map}
use Rattle.seeing.specs.declared.Phase.{Phase}
use Rattle.seeing.specs.declared.Transaction.{Transaction}
use Rattle.seeing.specs.Phases.{is_active}
use Rattle.seeing.specs.Slots.{Slots, found}
use Rattle.seeing.proofs.Finding.{find_found}
use Rattle.rules.specs.declared.Lengths.{Lengths}
use Rattle.rules.specs.declared.Store.{Store}
use Rattle.rules.specs.declared.Refusal.{Refusal}
use Rattle.rules.specs.declared.Refusal.TheVariants as refusal
use Rattle.rules.specs.Checks.{Checked, ◌>>=◌, ◌>>◌, refuse_if, some_or, still_allowed, named, sound}
use Rattle.tables.specs.declared.lengths.Sizes.{Sizes}
use Rattle.tables.specs.Naming.{placed, if_sound, located}
use Rattle.tables.proofs.Steps.{pass, stop, go_on, give_up}

-- the transaction found has that name
pub found_name : (ts : Slots) (n i : ℕ) (x : ℕ × Transaction) → found ts n i ≡ Some x → x.1.name ≡ n
found_name [] n i x e = let z : ◌≡◌ {A = ℕ} 0 1 = cc in absurd (omega arith)
found_name (None ∷ ts) n i x e = found_name ts n (i + 1) x e
found_name (Some t ∷ ts) n i x e = go (eqb t.name n) refl (found_name ts n (i + 1) x) e
  where
    go : (b : Bool) → eqb t.name n ≡ b → (found ts n (i + 1) ≡ Some x → x.1.name ≡ n) → cond b (Some (i, t)) (found ts n (i + 1)) ≡ Some x → x.1.name ≡ n
    go true b k h = let s : ◌≡◌ {A = ℕ × Transaction} (i, t) x = cc in ap (λ (z : ℕ × Transaction). z.1.name) (sym s) ∙ eqb-true t.name n b
    go false b k h = k h

module _ (s : Store) (a b c n : ℕ) where
  pub placed_found : (x : ℕ × Transaction) → Ok x ≡ placed s a b c n → found s.slots n 0 ≡ Some x
  placed_found x h = go (still_allowed s.opened a b c) (found s.slots n 0) h
    where
      go : (k : Bool) (o : Option (ℕ × Transaction)) → Ok x ≡ cond k (ok_or o refusal.Unknown) (Err refusal.Lengths) → o ≡ Some x
      go true (Some y) e = cc
      go true None e = let z : ◌≡◌ {A = ℕ} 0 1 = cc in absurd (omega arith)
      go false o e = let z : ◌≡◌ {A = ℕ} 0 1 = cc in absurd (omega arith)

  module _ (allows : Phase → Bool) where
    abbrev phase_checked : ℕ × Transaction → Checked Transaction
    phase_checked x = refuse_if (not (allows x.1.phase)) refusal.Phase >> Ok x.1

    pub named_placed : named s a b c n allows ≡ (placed s a b c n >>= phase_checked)
    unfolding ◌>>=◌ ◌>>◌ some_or refuse_if
    named_placed = ap with_one (find_found s.slots n 0) ∙ go (still_allowed s.opened a b c) (found s.slots n 0)
      where
        with_one : Option Transaction → Checked Transaction
        with_one f = refuse_if (not (still_allowed s.opened a b c)) refusal.Lengths >> (some_or refusal.Unknown f >>= (λ t. refuse_if (not (allows t.phase)) refusal.Phase >> Ok t))

        go : (k : Bool) (o : Option (ℕ × Transaction)) →
            (refuse_if (not k) refusal.Lengths >> (some_or refusal.Unknown (option_map (λ x. x.1) o) >>= (λ t. refuse_if (not (allows t.phase)) refusal.Phase >> Ok t)))
            ≡ (cond k (ok_or o refusal.Unknown) (Err refusal.Lengths) >>= phase_checked)
        go true (Some y) = refl
        go true None = refl
        go false o = refl

    pub unnamed : (e : Refusal) → Err e ≡ placed s a b c n → named s a b c n allows ≡ Err e
    unnamed e h = named_placed ∙ give_up _ (sym h)

    pub unsound : (e : Refusal) → Err e ≡ placed s a b c n → sound s a b c n allows ≡ Err e
    unsound e h = give_up _ (unnamed e h)

    module _ (x : ℕ × Transaction) (h : Ok x ≡ placed s a b c n) where
      pub named_phase : allows x.1.phase ≡ false → named s a b c n allows ≡ Err refusal.Phase
      named_phase p = named_placed ∙ go_on _ (sym h) ∙ stop _ _ _ (ap not p)

      pub named_fine : allows x.1.phase ≡ true → named s a b c n allows ≡ Ok x.1
      named_fine p = named_placed ∙ go_on _ (sym h) ∙ pass _ _ _ (ap not p)

      -- what the phase gives says whether it is allowed
      module _ {A : Type 0} where
        pub sound_refused : (o : Option A) → is_some o ≡ allows x.1.phase → (e : Refusal) → Err e ≡ if_sound x.1 o → sound s a b c n allows ≡ Err e
        sound_refused None p e k = let q : refusal.Phase ≡ e = cc in give_up _ (named_phase (sym p)) ∙ ap Err q
        sound_refused (Some y) p e k = go x.1.doomed refl k
          where
            go : (d : Bool) → x.1.doomed ≡ d → Err e ≡ cond d (Err refusal.Doomed) (Ok y) → sound s a b c n allows ≡ Err e
            go true f k = let q : refusal.Doomed ≡ e = cc in go_on _ (named_fine (sym p)) ∙ stop _ _ _ f ∙ ap Err q
            go false f k = let z : ◌≡◌ {A = ℕ} 0 1 = cc in absurd (omega arith)

        pub sound_given : (o : Option A) → is_some o ≡ allows x.1.phase → (y : A) → Ok y ≡ if_sound x.1 o → (sound s a b c n allows ≡ Ok x.1) × (o ≡ Some y)
        sound_given None p y k = let z : ◌≡◌ {A = ℕ} 0 1 = cc in absurd (omega arith)
        sound_given (Some z) p y k = go x.1.doomed refl k
          where
            go : (d : Bool) → x.1.doomed ≡ d → Ok y ≡ cond d (Err refusal.Doomed) (Ok z) → (sound s a b c n allows ≡ Ok x.1) × (Some z ≡ Some y)
            go true f k = let z : ◌≡◌ {A = ℕ} 0 1 = cc in absurd (omega arith)
            go false f k = (go_on _ (named_fine (sym p)) ∙ pass _ _ _ f, cc)

  -- if_sound, by the doom
  abbrev after_phase : Bool → Option (ℕ × Transaction) → Checked (ℕ × Transaction)
  after_phase d None = Err refusal.Phase
  after_phase d (Some x) = cond d (Err refusal.Doomed) (Ok x)

  -- the one that is active and not doomed
  pub sound_located : sound s a b c n is_active ≡ (located s a b c n >>= (λ x. Ok x.1))
  unfolding ◌>>=◌ ◌>>◌ refuse_if
  sound_located = ap (λ m. m >>= (λ t. refuse_if t.doomed refusal.Doomed >> Ok t)) (named_placed is_active) ∙ go (placed s a b c n)
    where
      by : (x : ℕ × Transaction) (k d : Bool) →
          ((refuse_if (not k) refusal.Phase >> Ok x.1) >>= (λ t. refuse_if d refusal.Doomed >> Ok x.1)) ≡ (after_phase d (then_some k x) >>= (λ y. Ok y.1))
      by x true true = refl
      by x true false = refl
      by x false d = refl

      at : (x : ℕ × Transaction) (k : Bool) →
          ((refuse_if (not k) refusal.Phase >> Ok x.1) >>= (λ t. refuse_if t.doomed refusal.Doomed >> Ok t)) ≡ ((refuse_if (not k) refusal.Phase >> Ok x.1) >>= (λ t. refuse_if x.1.doomed refusal.Doomed >> Ok x.1))
      at x true = refl
      at x false = refl

      go : (m : Checked (ℕ × Transaction)) → ((m >>= phase_checked is_active) >>= (λ t. refuse_if t.doomed refusal.Doomed >> Ok t)) ≡ (elim m [ Err r ↦ Err r | Ok x ↦ if_sound x.1 (then_some (is_active x.1.phase) x) ] >>= (λ x. Ok x.1))
      go (Ok x) = at x (is_active x.1.phase) ∙ by x (is_active x.1.phase) x.1.doomed
      go (Err e) = refl

  pub located_found : (x : ℕ × Transaction) → Ok x ≡ located s a b c n → found s.slots n 0 ≡ Some x
  located_found x h = go (placed s a b c n) refl h
    where
      by : (y : ℕ × Transaction) (k d : Bool) → Ok x ≡ after_phase d (then_some k y) → y ≡ x
      by y true true e = let z : ◌≡◌ {A = ℕ} 0 1 = cc in absurd (omega arith)
      by y true false e = cc
      by y false d e = let z : ◌≡◌ {A = ℕ} 0 1 = cc in absurd (omega arith)

      go : (m : Checked (ℕ × Transaction)) → placed s a b c n ≡ m → ◌≡◌ {A = Checked (ℕ × Transaction)} (Ok x) (elim m [ Err r ↦ Err r | Ok y ↦ if_sound y.1 (then_some (is_active y.1.phase) y) ]) → found s.slots n 0 ≡ Some x
      go (Ok y) p e = placed_found y (sym p) ∙ ap Some (by y (is_active y.1.phase) y.1.doomed e)
      go (Err r) p e = let z : ◌≡◌ {A = ℕ} 0 1 = cc in absurd (omega arith)

-- the same by the sizes taken of the tables and the index
module _ (z : Sizes) (a b c : ℕ) (e : z ≡ record { versions = a; notes = b; capacity = c }) where
  pub order_is : (o : Option Lengths) (x : Bool) → x ≡ still_allowed o z.versions z.notes z.capacity → not (still_allowed o a b c) ≡ not x
  order_is o x h = ap not (sym (h ∙ ap (λ (y : Sizes). still_allowed o y.versions y.notes y.capacity) e))

  pub placed_at : (s : Store) (n : ℕ) → placed s z.versions z.notes z.capacity n ≡ placed s a b c n
  placed_at s n = ap (λ (y : Sizes). placed s y.versions y.notes y.capacity n) e

  pub located_at : (s : Store) (n : ℕ) → located s z.versions z.notes z.capacity n ≡ located s a b c n
  located_at s n = ap (λ (y : Sizes). located s y.versions y.notes y.capacity n) e
