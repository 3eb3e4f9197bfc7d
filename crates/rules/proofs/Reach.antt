-- The versions that a call meets, and the note that it makes. Assumes nothing.
use Rattle.std.proofs.Common.{◌≡◌, ℕ, zero, suc, Bool, true, false, cond, not, ◌&&◌, List, [], ◌∷◌, map, set, is_some, Some, None, Option, Ordering, Less, Equal, Greater, sym, refl, ap, ◌∙◌, subst, inl, inr, ⊎_elim}
use Rattle.std.proofs.lemmas.Bool.{false≢true, and_parts, not-false}
use Rattle.std.specs.Ordering.{is_eq, is_le, ordering_reverse}
use Rattle.seeing.specs.declared.Version.{Version}
use Rattle.rules.specs.declared.Entry.{Entry}
use Rattle.rules.specs.Keys.{within}
use Rattle.keys.specs.Laws.{TotalOrder}
use Rattle.rules.specs.Tables.{entry, is_free, items}
use Rattle.rules.specs.Lists.{first, concat_map, used}
use Rattle.index.specs.Listed as lists
use Rattle.rules.specs.Index.{covering}
use Rattle.rules.specs.Worlds.{World}
use Rattle.rules.specs.Reaching.{Met, reached, reach_all}
use Rattle.serial.specs.Lists.{In, All, change}
use Rattle.serial.proofs.Lists.{All_at, In_right}
use Rattle.serial.proofs.Orders.{In_changed}
use Rattle.rules.proofs.Game.{same_true}
use Rattle.rules.proofs.Relation.{Listed}
use Rattle.rules.proofs.Slots.{some_injective, some_none}
use Rattle.rules.proofs.Checks.{Comes, comes, bind, some_bind, unless}
use Rattle.rules.proofs.Lines.{In_left, In_either}
use Rattle.seeing.specs.Seeing.{waits_for}
use Rattle.std.specs.Option.{option_to_list}

-- tables
module _ {A : Type 0} where
  pub entry_set_other : (xs : List (Entry A)) (p q : ℕ) (x : Entry A) → (q ≡ p → ⊥) → entry (set xs p x) q ≡ entry xs q
  entry_set_other [] p q x d = refl
  entry_set_other (y ∷ xs) zero zero x d = absurd (d refl)
  entry_set_other (y ∷ xs) zero (suc q) x d = refl
  entry_set_other (y ∷ xs) (suc p) zero x d = refl
  entry_set_other (y ∷ xs) (suc p) (suc q) x d = entry_set_other xs p q x (λ e. d (ap suc e))

  pub entry_set_free : (xs : List (Entry A)) (p : ℕ) (x : Entry A) → is_free xs p ≡ true → entry (set xs p x) p ≡ x.held
  entry_set_free [] p x e = absurd (false≢true e)
  entry_set_free (y ∷ xs) zero x e = refl
  entry_set_free (y ∷ xs) (suc p) x e = entry_set_free xs p x e

  pub free_none : (xs : List (Entry A)) (p : ℕ) → is_free xs p ≡ true → entry xs p ≡ None
  free_none [] p e = refl
  free_none (y ∷ xs) zero e = go y.held e
    where
      go : (o : Option A) → not (is_some o) ≡ true → o ≡ None
      go None e = refl
      go (Some z) e = absurd (false≢true e)
  free_none (y ∷ xs) (suc p) e = free_none xs p e

  pub entry_set_same : (xs : List (Entry A)) (p : ℕ) (x : Entry A) (y : A) → entry xs p ≡ Some y → entry (set xs p x) p ≡ x.held
  entry_set_same [] p x y e = absurd (some_none (sym e))
  entry_set_same (z ∷ xs) zero x y e = refl
  entry_set_same (z ∷ xs) (suc p) x y e = entry_set_same xs p x y e

  -- what is used stays where a free entry is taken
  pub entry_set_used : (xs : List (Entry A)) (p q : ℕ) (x : Entry A) (y : A) → is_free xs p ≡ true → entry xs q ≡ Some y → entry (set xs p x) q ≡ Some y
  entry_set_used xs p q x y free e = entry_set_other xs p q x (λ z. some_none (sym e ∙ ap (entry xs) z ∙ free_none xs p free)) ∙ e

  -- the items are those of the used entries
  pub items_at : (xs : List (Entry A)) (v : A) → In v (items xs) → (p : ℕ) × (entry xs p ≡ Some v)
  items_at [] v i = absurd i
  items_at (x ∷ xs) v i = go x.held refl i (items_at xs v)
    where
      go : (o : Option A) → x.held ≡ o → In v (used (o ∷ map (λ y. y.held) xs)) → (In v (items xs) → (p : ℕ) × (entry xs p ≡ Some v)) → (p : ℕ) × (entry (x ∷ xs) p ≡ Some v)
      go None q i r = let z = r i in (suc z.0, z.1)
      go (Some y) q (inl e) r = (zero, q ∙ ap Some e)
      go (Some y) q (inr i) r = let z = r i in (suc z.0, z.1)

  pub at_items : (xs : List (Entry A)) (p : ℕ) (v : A) → entry xs p ≡ Some v → In v (items xs)
  at_items [] p v e = absurd (some_none (sym e))
  at_items (x ∷ xs) zero v e = subst (λ o. In v (used (o ∷ map (λ y. y.held) xs))) (sym e) (inl refl)
  at_items (x ∷ xs) (suc p) v e = go x.held (at_items xs p v e)
    where
      go : (o : Option A) → In v (items xs) → In v (used (o ∷ map (λ y. y.held) xs))
      go None i = i
      go (Some y) i = inr i

  pub first_none : (f : A → Bool) (xs : List A) → first f xs ≡ None → (x : A) → In x xs → f x ≡ false
  first_none f [] e x i = absurd i
  first_none f (y ∷ xs) e x i = go (f y) refl e i (first_none f xs)
    where
      go : (b : Bool) → f y ≡ b → cond b (Some y) (first f xs) ≡ None → In x (y ∷ xs) → (first f xs ≡ None → (x : A) → In x xs → f x ≡ false) → f x ≡ false
      go true q e i r = absurd (some_none e)
      go false q e (inl z) r = ap f (sym z) ∙ q
      go false q e (inr j) r = r e x j

  pub first_some : (f : A → Bool) (xs : List A) (x : A) → first f xs ≡ Some x → In x xs × (f x ≡ true)
  first_some f [] x e = absurd (some_none (sym e))
  first_some f (y ∷ xs) x e = go (f y) refl e (first_some f xs x)
    where
      go : (b : Bool) → f y ≡ b → cond b (Some y) (first f xs) ≡ Some x → (first f xs ≡ Some x → In x xs × (f x ≡ true)) → In x (y ∷ xs) × (f x ≡ true)
      go true q e r = (inl (some_injective e), ap f (sym (some_injective e)) ∙ q)
      go false q e r = let z = r e in (inr z.0, z.1)

  pub In_keep' : (f : A → Bool) (x : A) (xs : List A) → f x ≡ true → In x xs → In x (lists.keep f xs)
  In_keep' f x [] e i = i
  In_keep' f x (y ∷ xs) e (inl z) = subst (λ b. In x (cond b (y ∷ lists.keep f xs) (lists.keep f xs))) (sym (ap f z ∙ e)) (inl z)
  In_keep' f x (y ∷ xs) e (inr i) = go (f y) (In_keep' f x xs e i)
    where
      go : (b : Bool) → In x (lists.keep f xs) → In x (cond b (y ∷ lists.keep f xs) (lists.keep f xs))
      go true r = inr r
      go false r = r

  pub In_kept' : (f : A → Bool) (x : A) (xs : List A) → In x (lists.keep f xs) → In x xs × (f x ≡ true)
  In_kept' f x [] i = absurd i
  In_kept' f x (y ∷ xs) i = go (f y) refl i (In_kept' f x xs)
    where
      go : (b : Bool) → f y ≡ b → In x (cond b (y ∷ lists.keep f xs) (lists.keep f xs)) → (In x (lists.keep f xs) → In x xs × (f x ≡ true)) → In x (y ∷ xs) × (f x ≡ true)
      go true e (inl q) r = (inl q, ap f (sym q) ∙ e)
      go true e (inr j) r = let z = r j in (inr z.0, z.1)
      go false e j r = let z = r j in (inr z.0, z.1)

module _ {A B : Type 0} where
  pub In_concat : (f : A → List B) (y : B) (x : A) (xs : List A) → In x xs → In y (f x) → In y (concat_map f xs)
  In_concat f y x [] i j = absurd i
  In_concat f y x (z ∷ xs) (inl e) j = In_left y (f z) (concat_map f xs) (subst (λ v. In y (f v)) (sym e) j)
  In_concat f y x (z ∷ xs) (inr i) j = In_right y (f z) (concat_map f xs) (In_concat f y x xs i j)

  pub concat_In : (f : A → List B) (y : B) (xs : List A) → In y (concat_map f xs) → (x : A) × (In x xs × In y (f x))
  concat_In f y [] i = absurd i
  concat_In f y (x ∷ xs) i = ⊎_elim (λ j. (x, (inl refl, j))) (λ j. let z = concat_In f y xs j in (z.0, (inr z.1.0, z.1.1))) (In_either y (f x) (concat_map f xs) i)

module _ {K : Type 0} (order : K → K → Ordering) (total : TotalOrder order) where
  between : (o : Ordering) → (is_le o && is_le (ordering_reverse o)) ≡ true → is_eq o ≡ true
  between Less e = absurd (false≢true e)
  between Equal e = refl
  between Greater e = absurd (false≢true e)

  -- from k to k there is k alone
  pub within_one : (k j : K) → within order k k j ≡ true → k ≡ j
  within_one k j e = same_true order total k j (between (order k j) (ap (λ o. is_le (order k j) && is_le o) (sym (total.flip j k)) ∙ e))

  pub one_within : (k j : K) → k ≡ j → within order k k j ≡ true
  one_within k j e = subst (λ x. within order k k x ≡ true) e (ap (λ o. is_le o && is_le o) (total.itself k))

module _ {K V : Type 0} where
  -- the names of those that n waits on, once it has tested the versions met at the time
  abbrev pub waits_of : World K V → ℕ → ℕ → List (Met K V) → List ℕ
  waits_of w n time met = concat_map (λ x. option_to_list (waits_for w.store.slots n time x.1)) met

module _ {K V : Type 0} (order : K → K → Ordering) (total : TotalOrder order) where
  -- the versions met are those that the pairs lead to, in their order
  pub record Meets (vs : List (Entry (Version K V))) (pairs : List (K × ℕ)) (met : List (Met K V)) : Type 0 where
    pub places : change (λ y. (y.1.key, y.0)) met ≡ pairs
    pub there : All (λ y. entry vs y.0 ≡ Some y.1) met

  pub is_reached : (w : World K V) (x : K × ℕ) → Comes (λ y. (entry w.versions y.0 ≡ Some y.1) × ((y.1.key, y.0) ≡ x)) (reached order w.store.slots w.versions x)
  is_reached w x = some_bind _ _ refl (λ v e. unless _ _ refl (λ a. comes (e, λ i. (sym (same_true order total x.0 v.key (and_parts _ _ (not-false _ a)).0) i, x.1))))

  pub all_reached : (w : World K V) (pairs : List (K × ℕ)) → Comes (Meets w.versions pairs) (reach_all order w.store.slots w.versions pairs)
  all_reached w [] = comes (record { places = refl; there = tt })
  all_reached w (x ∷ pairs) = bind (is_reached w x) (λ y h. bind (all_reached w pairs) (λ met r. comes (record { places = λ i. h.1 i ∷ r.places i; there = (h.0, r.there) })))

  module _ (w : World K V) (listed : Listed order w.versions w.index.pairs) (lower upper : K) (met : List (Met K V)) (m : Meets w.versions (covering order w.index lower upper) met) where
    pub met_from : (y : Met K V) → In y met → (entry w.versions y.0 ≡ Some y.1) × (within order lower upper y.1.key ≡ true)
    met_from y i = (All_at _ y met i m.there, (In_kept' (λ x. within order lower upper x.0) (y.1.key, y.0) w.index.pairs (subst (In (y.1.key, y.0)) m.places (Rattle.serial.proofs.Lists.In_change (λ y. (y.1.key, y.0)) y met i))).1)

    pub met_all : (p : ℕ) (v : Version K V) → entry w.versions p ≡ Some v → within order lower upper v.key ≡ true → In (p, v) met
    met_all p v e q =
        let z = In_changed (λ (y : Met K V). (y.1.key, y.0)) (v.key, p) met (subst (In (v.key, p)) (sym m.places) (In_keep' (λ x. within order lower upper x.0) (v.key, p) w.index.pairs q (listed.into p v e))) in
        let pp : z.0.0 ≡ p = ap (λ (x : K × ℕ). x.1) z.1.1 in
        let vv : z.0.1 ≡ v = some_injective (sym (All_at _ z.0 met z.1.0 m.there) ∙ ap (entry w.versions) pp ∙ e) in
        subst (λ y. In y met) (λ i. (pp i, vv i)) z.1.0
