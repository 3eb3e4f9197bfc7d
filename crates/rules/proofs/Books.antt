-- The plain book and the machine's views. Assumes nothing.
use Rattle.std.proofs.Common.{◌≡◌, Bool, true, false, cond, not, ◌⊎◌, List, [], ◌∷◌, Some, None, Option, Ordering, Less, Equal, Greater, sym, refl, ap, ◌∙◌, subst, inl, inr, ⊎_elim}
use Rattle.std.proofs.lemmas.Bool.{true≢false, cases_Bool, both_ways, not-true, not_from_false}
use Rattle.std.specs.Ordering.{is_lt, ordering_reverse}
use Rattle.rules.specs.declared.Row.{Row}
use Rattle.rules.specs.Keys.{same, below, within}
use Rattle.keys.specs.Laws.{TotalOrder}
use Rattle.rules.specs.Lists.{first}
use Rattle.std.specs.Option.{option_map}
use Rattle.index.specs.Listed as lists
use Rattle.rules.specs.Book.{Book, value_of, take_out, place_row, set_value, rows_within}
use Rattle.serial.specs.Lists.{In, All}
use Rattle.serial.proofs.Lists.{All_at, All_to}
use Rattle.serial.proofs.Kill.{All_in}
use Rattle.rules.proofs.Game.{Rising, Rows, below_trans, same_true, same_self, same_from}
use Rattle.rules.proofs.Slots.{some_injective, some_none}
use Rattle.rules.proofs.Reach.{first_none, first_some, In_keep', In_kept'}

module _ {K : Type 0} (order : K → K → Ordering) (total : TotalOrder order) where
  below_never : (a : K) → below order a a ≡ true → ⊥
  below_never a e = true≢false (sym e ∙ ap is_lt (total.itself a))

  -- below, the same, or above
  three : (a b : K) → (below order a b ≡ true) ⊎ ((a ≡ b) ⊎ (below order b a ≡ true))
  three a b = go (order a b) refl
    where
      go : (o : Ordering) → order a b ≡ o → (below order a b ≡ true) ⊎ ((a ≡ b) ⊎ (below order b a ≡ true))
      go Less e = inl (ap is_lt e)
      go Equal e = inr (inl (total.same a b e))
      go Greater e = inr (inr (ap is_lt (total.flip b a ∙ ap ordering_reverse e)))

module _ {K V : Type 0} (order : K → K → Ordering) (total : TotalOrder order) where
  -- the book has what the view says
  pub record Holds (b : Book K V) (f : K → Option V) : Type 0 where
    pub rising : Rising order b
    pub each : All (λ r. f r.key ≡ Some r.value) b
    pub every : (k : K) (x : V) → f k ≡ Some x → In (record { key = k; value = x }) b

  pub value_holds : (b : Book K V) (f : K → Option V) → Holds b f → (k : K) → value_of order b k ≡ f k
  value_holds b f h k = go (first (λ r. same order k r.key) b) refl
    where
      go : (o : Option (Row K V)) → first (λ r. same order k r.key) b ≡ o → option_map (λ r. r.value) o ≡ f k
      go (Some r) e = let z = first_some (λ (r : Row K V). same order k r.key) b r e in sym (ap f (same_true order total k r.key z.1) ∙ All_at _ r b z.0 h.each)
      go None e = at (f k) refl
        where
          at : (o : Option V) → f k ≡ o → None ≡ o
          at None q = refl
          at (Some x) q = absurd (true≢false (sym (same_self order total k) ∙ first_none (λ (r : Row K V). same order k r.key) b e (record { key = k; value = x }) (h.every k x q)))

  -- two that rise and have the same rows are one
  pub rising_same : (a b : List (Row K V)) → Rising order a → Rising order b → ((r : Row K V) → In r a → In r b) → ((r : Row K V) → In r b → In r a) → a ≡ b
  rising_same [] [] ra rb f g = refl
  rising_same [] (y ∷ b) ra rb f g = absurd (g y (inl refl))
  rising_same (x ∷ a) [] ra rb f g = absurd (f x (inl refl))
  rising_same (x ∷ a) (y ∷ b) ra rb f g = tails (heads (f x (inl refl)) (g y (inl refl))) (rising_same a b ra.1 rb.1)
    where
      heads : In x (y ∷ b) → In y (x ∷ a) → x ≡ y
      heads (inl e) j = sym e
      heads (inr i) (inl e) = e
      heads (inr i) (inr j) = absurd (below_never order total x.key (below_trans order total x.key y.key x.key (All_at _ y a j ra.0) (All_at _ x b i rb.0)))

      tails : x ≡ y → (((r : Row K V) → In r a → In r b) → ((r : Row K V) → In r b → In r a) → a ≡ b) → (x ∷ a) ≡ (y ∷ b)
      tails e rest = λ i. e i ∷ rest (λ r j. on r j (f r (inr j))) (λ r j. back r j (g r (inr j))) i
        where
          on : (r : Row K V) → In r a → In r (y ∷ b) → In r b
          on r j (inl z) = absurd (below_never order total r.key (subst (λ v. below order v.key r.key ≡ true) (e ∙ z) (All_at _ r a j ra.0)))
          on r j (inr k) = k

          back : (r : Row K V) → In r b → In r (x ∷ a) → In r a
          back r j (inl z) = absurd (below_never order total r.key (subst (λ v. below order v.key r.key ≡ true) (sym e ∙ z) (All_at _ r b j rb.0)))
          back r j (inr k) = k

  All_keep' : (P : Row K V → Type 0) (p : Row K V → Bool) (b : List (Row K V)) → All P b → All P (lists.keep p b)
  All_keep' P p b h = All_in P (lists.keep p b) (λ r i. All_at P r b (In_kept' p r b i).0 h)

  pub rising_keep : (p : Row K V → Bool) (b : List (Row K V)) → Rising order b → Rising order (lists.keep p b)
  rising_keep p [] r = tt
  rising_keep p (x ∷ b) r = go (p x) (rising_keep p b r.1)
    where
      go : (c : Bool) → Rising order (lists.keep p b) → Rising order (cond c (x ∷ lists.keep p b) (lists.keep p b))
      go true z = (All_keep' _ p b r.0, z)
      go false z = z

  -- the rows of a scan are those of the book
  pub scan_same : (b : Book K V) (f : K → Option V) (lower upper : K) (rows : List (Row K V)) → Holds b f → Rows order lower upper rows f → rows ≡ rows_within order lower upper b
  scan_same b f lower upper rows h r = rising_same rows (rows_within order lower upper b) r.rising (rising_keep _ b h.rising)
      (λ x i. let z = All_at _ x rows i r.each in In_keep' (λ r. within order lower upper r.key) x b z.0 (h.every x.key x.value z.1))
      (λ x i. let z = In_kept' (λ (r : Row K V). within order lower upper r.key) x b i in r.every x.key x.value z.1 (All_at _ x b z.0 h.each))

  pub In_place : (r x : Row K V) (b : List (Row K V)) → In x (r ∷ b) → In x (place_row order r b)
  In_place r x [] i = i
  In_place r x (y ∷ b) i = go (below order r.key y.key) i (In_place r x b)
    where
      go : (c : Bool) → In x (r ∷ y ∷ b) → (In x (r ∷ b) → In x (place_row order r b)) → In x (cond c (r ∷ y ∷ b) (y ∷ place_row order r b))
      go true i z = i
      go false (inl e) z = inr (z (inl e))
      go false (inr (inl e)) z = inl e
      go false (inr (inr j)) z = inr (z (inr j))

  pub In_placed : (r x : Row K V) (b : List (Row K V)) → In x (place_row order r b) → (r ≡ x) ⊎ In x b
  In_placed r x [] (inl e) = inl e
  In_placed r x [] (inr i) = absurd i
  In_placed r x (y ∷ b) i = go (below order r.key y.key) i (In_placed r x b)
    where
      go : (c : Bool) → In x (cond c (r ∷ y ∷ b) (y ∷ place_row order r b)) → (In x (place_row order r b) → (r ≡ x) ⊎ In x b) → (r ≡ x) ⊎ In x (y ∷ b)
      go true (inl e) z = inl e
      go true (inr j) z = inr j
      go false (inl e) z = inr (inl e)
      go false (inr j) z = ⊎_elim (λ e. inl e) (λ k. inr (inr k)) (z j)

  pub rising_place : (r : Row K V) (b : List (Row K V)) → Rising order b → ((x : Row K V) → In x b → r.key ≡ x.key → ⊥) → Rising order (place_row order r b)
  rising_place r [] h d = (tt, tt)
  rising_place r (y ∷ b) h d = go (below order r.key y.key) refl (rising_place r b h.1 (λ x i. d x (inr i)))
    where
      go : (c : Bool) → below order r.key y.key ≡ c → Rising order (place_row order r b) → Rising order (cond c (r ∷ y ∷ b) (y ∷ place_row order r b))
      go true e z = ((e, All_to _ _ (λ x q. below_trans order total r.key y.key x.key e q) b h.0), h)
      go false e z = (All_in _ (place_row order r b) (λ x i. ⊎_elim (λ q. subst (λ v. below order y.key v.key ≡ true) q over) (λ j. All_at _ x b j h.0) (In_placed r x b i)), z)
        where
          over : below order y.key r.key ≡ true
          over = ⊎_elim (λ q. absurd (true≢false (sym q ∙ e))) (⊎_elim (λ q. absurd (d y (inl refl) q)) (λ q. q)) (three order total r.key y.key)

  -- a key's content is set or taken out
  pub holds_put : (b : Book K V) (f g : K → Option V) (k : K) (x : V) → Holds b f → g k ≡ Some x → ((j : K) → (k ≡ j → ⊥) → g j ≡ f j) → Holds (set_value order k x b) g
  holds_put b f g k x h here other = record {
    rising = rising_place (record { key = k; value = x }) (take_out order k b) (rising_keep _ b h.rising) (λ r i e. both_ways _ (not-true _ (In_kept' (λ r. not (same order k r.key)) r b i).1) (same_from order total k r.key e));
    each = All_in _ (set_value order k x b) (λ r i. ⊎_elim (λ e. subst (λ v. g v.key ≡ Some v.value) e here)
        (λ j. let z = In_kept' (λ r. not (same order k r.key)) r b j in other r.key (λ e. both_ways _ (not-true _ z.1) (same_from order total k r.key e)) ∙ All_at _ r b z.0 h.each) (In_placed (record { key = k; value = x }) r (take_out order k b) i));
    every = λ j y e. In_place (record { key = k; value = x }) (record { key = j; value = y }) (take_out order k b) (at j y e (cases_Bool (same order k j)));
  }
    where
      at : (j : K) (y : V) → g j ≡ Some y → (same order k j ≡ true) ⊎ (same order k j ≡ false) → In (record { key = j; value = y }) (record { key = k; value = x } ∷ take_out order k b)
      at j y e (inl q) = let z = same_true order total k j q in inl (λ i. record { key = z i; value = some_injective (sym here ∙ ap g z ∙ e) i })
      at j y e (inr q) = inr (In_keep' (λ r. not (same order k r.key)) (record { key = j; value = y }) b (not_from_false _ q) (h.every j y (sym (other j (λ z. both_ways _ q (same_from order total k j z))) ∙ e)))

  pub holds_out : (b : Book K V) (f g : K → Option V) (k : K) → Holds b f → g k ≡ None → ((j : K) → (k ≡ j → ⊥) → g j ≡ f j) → Holds (take_out order k b) g
  holds_out b f g k h here other = record {
    rising = rising_keep _ b h.rising;
    each = All_in _ (take_out order k b) (λ r j. let z = In_kept' (λ r. not (same order k r.key)) r b j in other r.key (λ e. both_ways _ (not-true _ z.1) (same_from order total k r.key e)) ∙ All_at _ r b z.0 h.each);
    every = λ j y e. ⊎_elim (λ q. absurd (some_none (sym e ∙ ap g (sym (same_true order total k j q)) ∙ here)))
        (λ q. In_keep' (λ r. not (same order k r.key)) (record { key = j; value = y }) b (not_from_false _ q) (h.every j y (sym (other j (λ z. both_ways _ q (same_from order total k j z))) ∙ e))) (cases_Bool (same order k j));
  }

  pub holds_none : Holds [] (λ k. None)
  holds_none = record { rising = tt; each = tt; every = λ k x e. some_none (sym e) }
