-- An entry of a table is set, and the index holds its pair. Assumes nothing.
use Rattle.std.proofs.Common.{◌≡◌, ℕ, zero, suc, Bool, true, false, cond, ◌⊎◌, List, [], ◌∷◌, set, Some, Ordering, Less, Equal, Greater, sym, refl, ap, ◌∙◌, subst, inl, inr, ⊎_elim}
use Rattle.std.proofs.lemmas.Bool.{true≢false, cases_Bool, cases_eq, or_from}
use Rattle.std.specs.Ordering.{is_lt, ordering_reverse}
use Rattle.seeing.specs.declared.Version.{Version}
use Rattle.rules.specs.declared.Entry.{Entry}
use Rattle.keys.specs.Laws.{TotalOrder}
use Rattle.rules.specs.Tables.{entry, is_free, filled}
use Rattle.rules.specs.Index.{Index, put}
use Rattle.index.specs.Sets.{holds, tie, pair_order}
use Rattle.index.proofs.Pairs.{pair_total, same_pair, same_tie}
use Rattle.index.specs.Listed.{keep, with_pair}
use Rattle.serial.specs.Lists.{In, All}
use Rattle.serial.proofs.Lists.{All_at, All_to}
use Rattle.serial.proofs.Kill.{All_in}
use Rattle.rules.proofs.Game.{is_less}
use Rattle.rules.proofs.Relation.{Climbing, Listed}
use Rattle.rules.proofs.Slots.{some_injective, some_none}
use Rattle.rules.proofs.Reach.{entry_set_other, entry_set_free, entry_set_same, free_none, In_kept'}

module _ {A : Type 0} where
  pub free_set : (xs : List (Entry A)) (p q : ℕ) (x : Entry A) → (q ≡ p → ⊥) → is_free (set xs p x) q ≡ is_free xs q
  free_set [] p q x d = refl
  free_set (y ∷ ys) zero zero x d = absurd (d refl)
  free_set (y ∷ ys) zero (suc q) x d = refl
  free_set (y ∷ ys) (suc p) zero x d = refl
  free_set (y ∷ ys) (suc p) (suc q) x d = free_set ys p q x (λ e. d (ap suc e))

  -- a free place is none that is used
  pub free_used : (xs : List (Entry A)) (p q : ℕ) (a : A) → is_free xs q ≡ true → entry xs p ≡ Some a → q ≡ p → ⊥
  free_used xs p q a e f z = some_none (sym f ∙ ap (entry xs) (sym z) ∙ free_none xs q e)

module _ {K : Type 0} (order : K → K → Ordering) (total : TotalOrder order) where
  before_total : (a b : K × ℕ) → is_lt (pair_order order a b) ≡ false → (a ≡ b → ⊥) → pair_order order b a ≡ Less
  before_total a b e d = go (pair_order order a b) refl
    where
      go : (o : Ordering) → pair_order order a b ≡ o → pair_order order b a ≡ Less
      go Less z = absurd (true≢false (sym (ap is_lt z) ∙ e))
      go Equal z = absurd (d (same_pair order total a b z))
      go Greater z = (pair_total order total).antisymm b a ∙ ap ordering_reverse z

  module _ (k : K) (p : ℕ) where
    pub in_with : (x : K × ℕ) (xs : List (K × ℕ)) → In x (with_pair order (k, p) xs) → ((k, p) ≡ x) ⊎ In x xs
    in_with x [] i = i
    in_with x (y ∷ ys) i = go (is_lt (pair_order order (k, p) y)) i (in_with x ys)
      where
        go : (b : Bool) → In x (cond b ((k, p) ∷ y ∷ ys) (y ∷ with_pair order (k, p) ys)) → (In x (with_pair order (k, p) ys) → ((k, p) ≡ x) ⊎ In x ys) → ((k, p) ≡ x) ⊎ In x (y ∷ ys)
        go true i r = i
        go false (inl e) r = inr (inl e)
        go false (inr j) r = ⊎_elim (λ e. inl e) (λ l. inr (inr l)) (r j)

    pub with_old : (x : K × ℕ) (xs : List (K × ℕ)) → In x xs → In x (with_pair order (k, p) xs)
    with_old x [] i = absurd i
    with_old x (y ∷ ys) i = go (is_lt (pair_order order (k, p) y)) i (with_old x ys)
      where
        go : (b : Bool) → In x (y ∷ ys) → (In x ys → In x (with_pair order (k, p) ys)) → In x (cond b ((k, p) ∷ y ∷ ys) (y ∷ with_pair order (k, p) ys))
        go true i r = inr i
        go false (inl e) r = inl e
        go false (inr j) r = inr (r j)

    pub with_new : (xs : List (K × ℕ)) → In (k, p) (with_pair order (k, p) xs)
    with_new [] = inl refl
    with_new (y ∷ ys) = go (is_lt (pair_order order (k, p) y)) (with_new ys)
      where
        go : (b : Bool) → In (k, p) (with_pair order (k, p) ys) → In (k, p) (cond b ((k, p) ∷ y ∷ ys) (y ∷ with_pair order (k, p) ys))
        go true r = inl refl
        go false r = inr r

    all_with : (P : K × ℕ → Type 0) (xs : List (K × ℕ)) → P (k, p) → All P xs → All P (with_pair order (k, p) xs)
    all_with P [] e h = (e, tt)
    all_with P (y ∷ ys) e h = go (is_lt (pair_order order (k, p) y)) (all_with P ys e h.1)
      where
        go : (b : Bool) → All P (with_pair order (k, p) ys) → All P (cond b ((k, p) ∷ y ∷ ys) (y ∷ with_pair order (k, p) ys))
        go true r = (e, h)
        go false r = (h.0, r)

    pub climbing_with : (xs : List (K × ℕ)) → Climbing order xs → (In (k, p) xs → ⊥) → Climbing order (with_pair order (k, p) xs)
    climbing_with [] c d = (tt, tt)
    climbing_with (y ∷ ys) c d = go (is_lt (pair_order order (k, p) y)) refl (climbing_with ys c.1 (λ i. d (inr i)))
      where
        go : (b : Bool) → is_lt (pair_order order (k, p) y) ≡ b → Climbing order (with_pair order (k, p) ys) → Climbing order (cond b ((k, p) ∷ y ∷ ys) (y ∷ with_pair order (k, p) ys))
        go true e r = ((is_less _ e, All_to _ _ (λ z q. (pair_total order total).trans (k, p) y z (is_less _ e) q) ys c.0), c)
        go false e r = (all_with _ ys (before_total (k, p) y e (λ q. d (inl (sym q)))) c.0, r)

module _ {K : Type 0} (order : K → K → Ordering) where
  pub climbing_keep : (f : K × ℕ → Bool) (xs : List (K × ℕ)) → Climbing order xs → Climbing order (keep f xs)
  climbing_keep f [] h = tt
  climbing_keep f (x ∷ xs) h = go (f x) (climbing_keep f xs h.1)
    where
      go : (b : Bool) → Climbing order (keep f xs) → Climbing order (cond b (x ∷ keep f xs) (keep f xs))
      go true r = (All_in _ (keep f xs) (λ y i. All_at _ y xs (In_kept' f y xs i).0 h.0), r)
      go false r = r

module _ {K V : Type 0} (order : K → K → Ordering) (total : TotalOrder order) (vs : List (Entry (Version K V))) (i : Index K) (h : Listed order vs i.pairs) where
  -- an entry keeps its key
  pub listed_set : (p : ℕ) (v v' : Version K V) → entry vs p ≡ Some v → v'.key ≡ v.key → Listed order (set vs p (filled v')) i.pairs
  listed_set p v v' a e = record { into = into; from = from; climbing = h.climbing }
    where
      into : (q : ℕ) (u : Version K V) → entry (set vs p (filled v')) q ≡ Some u → In (u.key, q) i.pairs
      into q u b = ⊎_elim
          (λ z. let y : v' ≡ u = some_injective (sym (entry_set_same vs p (filled v') v a) ∙ ap (entry (set vs p (filled v'))) (sym z) ∙ b) in
          subst (λ x. In x i.pairs) (λ j. ((sym e ∙ ap (λ x. x.key) y) j, (sym z) j)) (h.into p v a))
          (λ d. h.into q u (sym (entry_set_other vs p q (filled v') d) ∙ b)) (cases_eq q p)

      from : (k : K) (q : ℕ) → In (k, q) i.pairs → (u : Version K V) × ((entry (set vs p (filled v')) q ≡ Some u) × (u.key ≡ k))
      from k q j =
          let z = h.from k q j in
          ⊎_elim
          (λ y. (v', (ap (entry (set vs p (filled v'))) y ∙ entry_set_same vs p (filled v') v a, e ∙ ap (λ x. x.key) (some_injective (sym a ∙ ap (entry vs) (sym y) ∙ z.1.0)) ∙ z.1.1)))
          (λ d. (z.0, (entry_set_other vs p q (filled v') d ∙ z.1.0, z.1.1))) (cases_eq q p)

  module _ (p : ℕ) (free : is_free vs p ≡ true) (v : Version K V) where
    fresh_pair : (k : K) → In (k, p) i.pairs → ⊥
    fresh_pair k j = let z = h.from k p j in some_none (sym z.1.0 ∙ free_none vs p free)

    pub listed_add : Listed order (set vs p (filled v)) (with_pair order (v.key, p) i.pairs)
    listed_add = record { into = into; from = from; climbing = climbing_with order total v.key p i.pairs h.climbing (fresh_pair v.key) }
      where
        into : (q : ℕ) (u : Version K V) → entry (set vs p (filled v)) q ≡ Some u → In (u.key, q) (with_pair order (v.key, p) i.pairs)
        into q u b = ⊎_elim
            (λ z. let y : v ≡ u = some_injective (sym (entry_set_free vs p (filled v) free) ∙ ap (entry (set vs p (filled v))) (sym z) ∙ b) in
            subst (λ x. In x (with_pair order (v.key, p) i.pairs)) (λ j. (ap (λ x. x.key) y j, (sym z) j)) (with_new order total v.key p i.pairs))
            (λ d. with_old order total v.key p (u.key, q) i.pairs (h.into q u (sym (entry_set_other vs p q (filled v) d) ∙ b))) (cases_eq q p)

        from : (k : K) (q : ℕ) → In (k, q) (with_pair order (v.key, p) i.pairs) → (u : Version K V) × ((entry (set vs p (filled v)) q ≡ Some u) × (u.key ≡ k))
        from k q j = go (in_with order total v.key p (k, q) i.pairs j)
          where
            go : (◌≡◌ {A = K × ℕ} (v.key, p) (k, q)) ⊎ In (k, q) i.pairs → (u : Version K V) × ((entry (set vs p (filled v)) q ≡ Some u) × (u.key ≡ k))
            go (inl e) = let y : p ≡ q = ap (λ (x : K × ℕ). x.1) e in (v, (ap (entry (set vs p (filled v))) (sym y) ∙ entry_set_free vs p (filled v) free, ap (λ (x : K × ℕ). x.0) e))
            go (inr l) = let z = h.from k q l in (z.0, (entry_set_other vs p q (filled v) (λ y. fresh_pair k (subst (λ x. In (k, x) i.pairs) y l)) ∙ z.1.0, z.1.1))

    not_held : (k : K) (xs : List (K × ℕ)) → ((j : K) → In (j, p) xs → ⊥) → holds order xs (k, p) ≡ false
    not_held k [] d = refl
    not_held k (x ∷ xs) d = or_from _ _ (⊎_elim (λ e. absurd (d k (inl (sym (same_tie order total (k, p) x e))))) (λ e. e) (cases_Bool (tie order (k, p) x))) (not_held k xs (λ j i. d j (inr i)))

    pub put_new : (k : K) → put order i k p ≡ record { pairs = with_pair order (k, p) i.pairs; capacity = i.capacity }
    put_new k = ap (λ b. record { pairs = cond b i.pairs (with_pair order (k, p) i.pairs); capacity = i.capacity }) (not_held k i.pairs fresh_pair)
