-- Free places of a table, and the one that is picked. Assumes nothing.
use Rattle.std.proofs.Common.{◌≡◌, ℕ, zero, suc, ◌+◌, ◌<◌, ◌≤◌, Bool, true, false, cond, ◌||◌, not, is_some, ◌-◌, T, List, [], ◌∷◌, length, get_or, drop, IfSome, Some, None, Option, unwrap_or, sym, refl, ap, ◌∙◌, subst, le_of_suc-le-suc, not-suc-le-zero, arith, MatchOption, slice_set}
use Rattle.std.specs.List.{find, range_with_len}
use Rattle.std.proofs.lemmas.List.{set_past, at_drop_more, at_drop_all}
use Rattle.std.proofs.lemmas.Bool.{or_right}
use Rattle.rules.specs.declared.Entry.{Entry}
use Rattle.rules.specs.Tables.{entry, free, any_free, is_free, free_from, emptied}
use Rattle.rules.specs.Worlds.{World, Allowed}
use Rattle.tables.specs.Places.{search_from, pick}

module _ {A : Type 0} where
  entry_at : (xs : List (Entry A)) (p : ℕ) (d : Entry A) → p < length xs → entry xs p ≡ (get_or xs p d).held
  entry_at [] p d h = absurd (not-suc-le-zero h)
  entry_at (x ∷ xs) zero d h = refl
  entry_at (x ∷ xs) (suc p) d h = entry_at xs p d (le_of_suc-le-suc h)

  pub held_there : (xs : List (Entry A)) (p : ℕ) (x : Entry A) (r : Option A) → r ≡ x.held → x ≡ get_or xs p x → p < length xs → r ≡ entry xs p
  held_there xs p x r e at h = e ∙ ap (λ y. y.held) at ∙ sym (entry_at xs p x h)

  pub entry_past : (xs : List (Entry A)) (p : ℕ) → length xs ≤ p → entry xs p ≡ None
  entry_past [] p h = refl
  entry_past (x ∷ xs) zero h = absurd (not-suc-le-zero h)
  entry_past (x ∷ xs) (suc p) h = entry_past xs p (le_of_suc-le-suc h)

  pub held_past : (xs : List (Entry A)) (p : ℕ) (r : Option A) → r ≡ None → length xs ≤ p → r ≡ entry xs p
  held_past xs p r e h = e ∙ sym (entry_past xs p h)

  -- the first free place of a range is that of the rest of the table
  pub first_free : (xs : List (Entry A)) (i n : ℕ) → length xs - i ≡ n → find (λ p. not (is_some (entry xs p))) (range_with_len i n) ≡ free_from i (drop i xs)
  first_free xs i zero e = sym (at_drop_all (free_from i) xs i (omega (arith, e)))
  first_free xs i (suc n) e =
      let here : not (is_some (entry xs i)) ≡ free (get_or xs i emptied) = ap (λ o. not (is_some o)) (entry_at xs i emptied (omega (arith, e))) in
      ap (λ (b : Bool). cond b (Some i) (find (λ p. not (is_some (entry xs p))) (range_with_len (i + 1) n))) here
      ∙ ap (λ o. cond (free (get_or xs i emptied)) (Some i) o) (first_free xs (i + 1) n (omega (arith, e)))
      ∙ sym (at_drop_more (free_from i) xs i emptied (omega (arith, e)))

  -- a write past the end changes nothing
  pub write_past : (xs : List A) (p : ℕ) (x : A) → length xs ≤ p → xs ≡ slice_set xs p x
  write_past xs p x h = sym (set_past xs p x h)

  free_none : (i : ℕ) (xs : List (Entry A)) → free_from i xs ≡ None → any_free xs ≡ false
  free_none i [] e = refl
  free_none i (x ∷ xs) e = go (free x) e (free_none (i + 1) xs)
    where
      go : (b : Bool) → cond b (Some i) (free_from (i + 1) xs) ≡ None → (free_from (i + 1) xs ≡ None → any_free xs ≡ false) → (b || any_free xs) ≡ false
      go true k h = let z : ◌≡◌ {A = ℕ} 0 1 = cc in absurd (omega arith)
      go false k h = h k

  free_some : (i p : ℕ) (xs : List (Entry A)) → free_from i xs ≡ Some p → (q : ℕ) × (p ≡ i + q) × (is_free xs q ≡ true)
  free_some i p [] e = let z : ◌≡◌ {A = ℕ} 0 1 = cc in absurd (omega arith)
  free_some i p (x ∷ xs) e = go (free x) refl e (free_some (i + 1) p xs)
    where
      go : (b : Bool) → free x ≡ b → cond b (Some i) (free_from (i + 1) xs) ≡ Some p →
          (free_from (i + 1) xs ≡ Some p → (q : ℕ) × (p ≡ (i + 1) + q) × (is_free xs q ≡ true)) →
          (q : ℕ) × (p ≡ i + q) × (is_free (x ∷ xs) q ≡ true)
      go true f k h = let z : i ≡ p = cc in (0, omega arith, f)
      go false f k h = let r = h k in (suc r.0, omega (arith, r.1), r.2)

  -- a place free in the rest from i on is free i places on
  free_beyond : (i q : ℕ) (xs : List (Entry A)) → is_free (drop i xs) q ≡ true → is_free xs (i + q) ≡ true
  free_beyond zero q xs h = let e : 0 + q ≡ q = omega arith in ap (is_free xs) e ∙ h
  free_beyond (suc i) q [] h = h
  free_beyond (suc i) q (x ∷ xs) h = let e : suc i + q ≡ suc (i + q) = omega arith in ap (is_free (x ∷ xs)) e ∙ free_beyond i q xs h

  -- a free place lies in the table
  free_inside : (xs : List (Entry A)) (p : ℕ) → is_free xs p ≡ true → p < length xs
  free_inside [] p h = let z : ◌≡◌ {A = ℕ} 0 1 = cc in absurd (omega arith)
  free_inside (x ∷ xs) zero h = omega arith
  free_inside (x ∷ xs) (suc p) h = let l = free_inside xs p h in omega (arith, l)

  -- and then some entry is free
  pub some_free : (xs : List (Entry A)) (p : ℕ) → is_free xs p ≡ true → any_free xs ≡ true
  some_free [] p h = h
  some_free (x ∷ xs) zero h = ap (λ b. b || any_free xs) h
  some_free (x ∷ xs) (suc p) h = or_right (free x) (any_free xs) (some_free xs p h)

  at_from : (i p : ℕ) (xs : List (Entry A)) → free_from i (drop i xs) ≡ Some p → is_free xs p ≡ true
  at_from i p xs e =
      let r = free_some i p (drop i xs) e in
      ap (is_free xs) r.1 ∙ free_beyond i r.0 xs r.2

  pub first_inside : (i : ℕ) (xs : List (Entry A)) (r : Option ℕ) → r ≡ free_from i (drop i xs) → IfSome r (λ p. p < length xs)
  first_inside i xs None e = tt
  first_inside i xs (Some p) e = free_inside xs p (at_from i p xs (sym e))

  abbrev pub Picked : ℕ → List (Entry A) → Option ℕ → Type 0
  Picked hint xs r = MatchOption r (any_free xs ≡ false) (λ p. (p ≡ pick hint xs) × (is_free xs p ≡ true))

  -- a place found is free, and where none is found nothing is
  found_free : (hint : ℕ) (xs : List (Entry A)) → MatchOption (search_from hint xs) (any_free xs ≡ false) (λ p. is_free xs p ≡ true)
  found_free hint xs = go (free_from hint (drop hint xs)) refl (free_from 0 xs) refl
    where
      go : (o : Option ℕ) → free_from hint (drop hint xs) ≡ o → (o' : Option ℕ) → free_from 0 xs ≡ o' → MatchOption (elim o [ Some p ↦ Some p | None ↦ o' ]) (any_free xs ≡ false) (λ p. is_free xs p ≡ true)
      go (Some p) e o' e' = at_from hint p xs e
      go None e (Some p) e' = at_from 0 p xs e'
      go None e None e' = free_none 0 xs e'

  pub picked : (hint : ℕ) (r : Option ℕ) (xs : List (Entry A)) → r ≡ search_from hint xs → Picked hint xs r
  picked hint r xs e = go r e (subst (λ o. MatchOption o (any_free xs ≡ false) (λ p. is_free xs p ≡ true)) (sym e) (found_free hint xs))
    where
      go : (r : Option ℕ) → r ≡ search_from hint xs → MatchOption r (any_free xs ≡ false) (λ p. is_free xs p ≡ true) → Picked hint xs r
      go None e h = h
      go (Some p) e h = (ap (λ o. unwrap_or o 0) e, h)

  pub picked_inside : (hint : ℕ) (r : Option ℕ) (xs : List (Entry A)) → r ≡ search_from hint xs → IfSome r (λ p. p < length xs)
  picked_inside hint r xs e = go r (picked hint r xs e)
    where
      go : (r : Option ℕ) → Picked hint xs r → IfSome r (λ p. p < length xs)
      go None h = tt
      go (Some p) h = free_inside xs p h.1

  -- the place picked is free wherever anything is
  pick_free : (hint : ℕ) (xs : List (Entry A)) → T (any_free xs) → T (is_free xs (pick hint xs))
  pick_free hint xs t = go (search_from hint xs) (found_free hint xs)
    where
      go : (o : Option ℕ) → MatchOption o (any_free xs ≡ false) (λ p. is_free xs p ≡ true) → T (is_free xs (unwrap_or o 0))
      go None h = absurd (subst T h t)
      go (Some p) h = subst T (sym h) tt

module _ {K V : Type 0} where
  -- so the rules allow it
  pub picks_allowed : (hint hint' : ℕ) (w : World K V) → Allowed (record { version = pick hint w.versions; note = pick hint' w.notes }) w
  picks_allowed hint hint' w = record { version = pick_free hint w.versions; note = pick_free hint' w.notes }
