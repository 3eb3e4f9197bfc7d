-- What validation's tests say, once all have passed. Assumes nothing.
use Rattle.std.proofs.Common.{◌≡◌, ℕ, Bool, true, false, cond, eqb, leb, ◌⊎◌, List, [], ◌∷◌, ◌++◌, map, Some, Option, Ordering, sym, refl, ap, ◌∙◌, subst, inl, inr, ⊎_elim}
use Rattle.std.proofs.lemmas.Bool.{eq-eqb}
use Rattle.std.specs.Option.{option_to_list}
use Rattle.seeing.specs.declared.Version.{Version}
use Rattle.seeing.specs.Slots.{Slots}
use Rattle.seeing.specs.Seeing.{waits_for}
use Rattle.seeing.specs.Changing.{own_work}
use Rattle.rules.specs.declared.Entry.{Entry}
use Rattle.rules.specs.declared.Note.{Note}
use Rattle.keys.specs.Laws.{TotalOrder}
use Rattle.rules.specs.Tables.{entry, items}
use Rattle.rules.specs.Worlds.{World}
use Rattle.rules.specs.Slots.{mark}
use Rattle.rules.specs.Validating.{Test, passes, test_all, place_note, in_order_made, notes_of}
use Rattle.serial.specs.Lists.{In}
use Rattle.rules.proofs.Slots.{some_injective, some_none}
use Rattle.rules.proofs.Marks.{marked_more, mark_listed, marked_too}
use Rattle.rules.proofs.Checks.{Comes, comes, bind, either, to}
use Rattle.rules.proofs.Reach.{is_reached, at_items}
use Rattle.rules.proofs.Lines.{In_left, In_either}

-- Lists.
module _ {A B : Type 0} where
  pub In_map : (f : A → B) (x : A) (xs : List A) → In x xs → In (f x) (map f xs)
  In_map f x [] i = absurd i
  In_map f x (y ∷ xs) (inl e) = inl (ap f e)
  In_map f x (y ∷ xs) (inr i) = inr (In_map f x xs i)

-- Notes.
module _ {K : Type 0} where
  place_self : (x : Note K) (ys : List (Note K)) → In x (place_note x ys)
  place_self x [] = inl refl
  place_self x (y ∷ ys) = go (leb x.number y.number) (place_self x ys)
    where
      go : (b : Bool) → In x (place_note x ys) → In x (cond b (x ∷ y ∷ ys) (y ∷ place_note x ys))
      go true i = inl refl
      go false i = inr i

  place_keeps : (x z : Note K) (ys : List (Note K)) → In z ys → In z (place_note x ys)
  place_keeps x z [] i = absurd i
  place_keeps x z (y ∷ ys) i = go (leb x.number y.number) i (place_keeps x z ys)
    where
      go : (b : Bool) → In z (y ∷ ys) → (In z ys → In z (place_note x ys)) → In z (cond b (x ∷ y ∷ ys) (y ∷ place_note x ys))
      go true i f = inr i
      go false (inl e) f = inl e
      go false (inr i) f = inr (f i)

  made_all : (n : ℕ) (xs : List (Note K)) (x : Note K) → In x xs → x.owner ≡ n → In x (in_order_made n xs)
  made_all n [] x i o = absurd i
  made_all n (y ∷ xs) x (inl e) o =
      subst (λ b. In x (cond b (place_note y (in_order_made n xs)) (in_order_made n xs))) (sym (eq-eqb y.owner n (ap (λ z. z.owner) e ∙ o)))
      (subst (λ z. In x (place_note z (in_order_made n xs))) (sym e) (place_self x (in_order_made n xs)))
  made_all n (y ∷ xs) x (inr i) o = go (eqb y.owner n) (made_all n xs x i o)
    where
      go : (b : Bool) → In x (in_order_made n xs) → In x (cond b (place_note y (in_order_made n xs)) (in_order_made n xs))
      go true i = place_keeps y x (in_order_made n xs) i
      go false i = i

  -- every note of n is found
  pub notes_all : (n : ℕ) (ns : List (Entry (Note K))) (q : ℕ) (x : Note K) → entry ns q ≡ Some x → x.owner ≡ n → In x (notes_of n ns)
  notes_all n ns q x e o = made_all n (items ns) x (at_items ns q x e) o

-- Tests.
module _ {K V : Type 0} (order : K → K → Ordering) (total : TotalOrder order) (w : World K V) (n e : ℕ) where
  abbrev ts : Slots
  ts = w.store.slots

  -- what a test says that has passed, where those waited on are among W
  abbrev pub Passed : Test K → List ℕ → Type 0
  Passed x W = (v : Version K V) × ((entry w.versions x.pair.1 ≡ Some v) × ((own_work n v ≡ true) ⊎ ((passes ts n e x.must_show v ≡ true) × ((y : ℕ) → In y (option_to_list (waits_for ts n e v)) → In y W))))

  -- a version that is none of n's work has it wait on y
  abbrev pub Asks : ℕ → Type 0
  Asks y = (p : ℕ) × ((v : Version K V) × ((entry w.versions p ≡ Some v) × ((own_work n v ≡ false) × In y (option_to_list (waits_for ts n e v)))))

  -- all have passed, and the waits they call for are W
  pub record Tried (xs : List (Test K)) (W : List ℕ) : Type 0 where
    pub passed : (x : Test K) → In x xs → Passed x W
    pub asked : (y : ℕ) → In y W → Asks y

  -- the marks ws' are ws and those of the waits
  abbrev pub Marks : List (Test K) → List Bool → Option (List Bool) → Type 0
  Marks xs ws o = (ws' : List Bool) → o ≡ Some ws' → (W : List ℕ) × ((ws' ≡ marked_too ts W ws) × Tried xs W)

  own_more : (x : Test K) (xs : List (Test K)) (v : Version K V) → entry w.versions x.pair.1 ≡ Some v → own_work n v ≡ true → (W : List ℕ) → Tried xs W → Tried (x ∷ xs) W
  own_more x xs v at own W h = record { passed = now; asked = h.asked }
    where
      now : (z : Test K) → In z (x ∷ xs) → Passed z W
      now z (inl same) = subst (λ z. Passed z W) same (v, (at, inl own))
      now z (inr i) = h.passed z i

  pass_more : (x : Test K) (xs : List (Test K)) (v : Version K V) → entry w.versions x.pair.1 ≡ Some v → own_work n v ≡ false → passes ts n e x.must_show v ≡ true → (W : List ℕ) → Tried xs W →
      Tried (x ∷ xs) (option_to_list (waits_for ts n e v) ++ W)
  pass_more x xs v at own pass W h = record { passed = now; asked = λ y i. ⊎_elim (λ j. (x.pair.1, (v, (at, (own, j))))) (h.asked y) (In_either y (option_to_list (waits_for ts n e v)) W i) }
    where
      now : (z : Test K) → In z (x ∷ xs) → Passed z (option_to_list (waits_for ts n e v) ++ W)
      now z (inl same) = subst (λ z. Passed z (option_to_list (waits_for ts n e v) ++ W)) same (v, (at, inr (pass, λ y j. In_left y (option_to_list (waits_for ts n e v)) W j)))
      now z (inr i) = let r = h.passed z i in (r.0, (r.1.0, ⊎_elim (λ o. inl o) (λ o. inr (o.0, λ y j. Rattle.serial.proofs.Lists.In_right y (option_to_list (waits_for ts n e v)) W (o.1 y j))) r.1.1))

  pub all_tried : (xs : List (Test K)) (ws : List Bool) → Comes (Marks xs ws) (test_all order ts w.versions n e xs ws)
  all_tried [] ws = comes (λ ws' h. ([], (sym (some_injective h), record { passed = λ x i. absurd i; asked = λ y i. absurd i })))
  all_tried (x ∷ xs) ws = bind (is_reached order total w x.pair) (λ y h.
      let at : entry w.versions x.pair.1 ≡ Some y.1 = ap (λ z. entry w.versions z.1) (sym h.1) ∙ h.0 in
      either (own_work n y.1)
      (λ own. to (λ o r ws' q. let z = r ws' q in (z.0, (z.1.0, own_more x xs y.1 at own z.0 z.1.1))) (all_tried xs ws))
      (λ own. either (passes ts n e x.must_show y.1)
      (λ pass. to (λ o r ws' q. let z = r ws' q in
      (option_to_list (waits_for ts n e y.1) ++ z.0, (z.1.0 ∙ ap (marked_too ts z.0) (mark_listed ts (waits_for ts n e y.1) ws) ∙ sym (marked_more ts (option_to_list (waits_for ts n e y.1)) z.0 ws), pass_more x xs y.1 at own pass z.0 z.1.1)))
      (all_tried xs (mark ts (waits_for ts n e y.1) ws)))
      (λ _. comes (λ ws' q. absurd (some_none (sym q))))))
