-- The first of the notes left. Assumes nothing.
use Rattle.std.proofs.Common.{◌≡◌, ℕ, ◌+◌, ◌<◌, ◌≤◌, Bool, true, false, cond, ◌&&◌, eqb, leb, List, [], ◌∷◌, ◌++◌, length, Some, None, Option, sym, refl, ap, ◌∙◌, subst, arith}
use Rattle.std.proofs.lemmas.List.{append-nil, append_assoc, length_push, nil_from_length}
use Rattle.std.proofs.lemmas.Bool.{leb-true, leb-false, and_parts, and_from, and_right, both_ways}
use Rattle.rules.specs.declared.Entry.{Entry}
use Rattle.rules.specs.declared.Note.{Note}
use Rattle.rules.specs.Validating.{place_note, notes_of}
use Rattle.validating.specs.Order.{above, is_left, left_one, left_from, NextLeft, comes_first, sooner}
use Rattle.validating.proofs.Above.{above_number, not_above_itself, not_above_later, above_same}

module _ {K : Type 0} (n : ℕ) where
  abbrev pub next_from : Option (ℕ × ℕ) → ℕ → List (Entry (Note K)) → Option (ℕ × Note K)
  next_from last i [] = None
  next_from last i (e ∷ es) = sooner n last i e.held (next_from last (i + 1) es)

  -- the notes left have numbers from m on
  abbrev OneFrom : Option (ℕ × ℕ) → ℕ → ℕ → Option (Note K) → Type 0
  OneFrom last m i None = Unit {0}
  OneFrom last m i (Some x) = is_left n last i x ≡ true → m ≤ x.number

  abbrev From : Option (ℕ × ℕ) → ℕ → ℕ → List (Entry (Note K)) → Type 0
  From last m i [] = Unit {0}
  From last m i (e ∷ es) = OneFrom last m i e.held × From last m (i + 1) es

  one_lower : (last : Option (ℕ × ℕ)) (l m i : ℕ) (held : Option (Note K)) → l ≤ m → OneFrom last m i held → OneFrom last l i held
  one_lower last l m i None h f = tt
  one_lower last l m i (Some x) h f = λ t. let k = f t in omega (arith, h, k)

  lower : (last : Option (ℕ × ℕ)) (l m i : ℕ) (es : List (Entry (Note K))) → l ≤ m → From last m i es → From last l i es
  lower last l m i [] h f = tt
  lower last l m i (e ∷ es) h f = (one_lower last l m i e.held h f.0, lower last l m (i + 1) es h f.1)

  same_one : (last : Option (ℕ × ℕ)) (m p i : ℕ) (held : Option (Note K)) (xs : List (Note K)) → above last m p ≡ true → p < i → OneFrom last m i held → left_one n (Some (m, p)) i held xs ≡ left_one n last i held xs
  same_one last m p i None xs h l f = refl
  same_one last m p i (Some x) xs h l f = go (eqb x.owner n) refl
    where
      go : (b : Bool) → eqb x.owner n ≡ b → left_one n (Some (m, p)) i (Some x) xs ≡ left_one n last i (Some x) xs
      go false e = ap (λ t. cond (t && above (Some (m, p)) x.number i) (place_note x xs) xs) e ∙ sym (ap (λ t. cond (t && above last x.number i) (place_note x xs) xs) e)
      go true e = ap (λ t. cond (eqb x.owner n && t) (place_note x xs) xs) (above_same last m p x.number i h l (λ t. f (and_from (eqb x.owner n) (above last x.number i) e t)))

  -- a later note leaves the same, of those further on and of no lower number
  same_left : (last : Option (ℕ × ℕ)) (m p i : ℕ) (es : List (Entry (Note K))) → above last m p ≡ true → p < i → From last m i es → left_from n (Some (m, p)) i es ≡ left_from n last i es
  same_left last m p i [] h l f = refl
  same_left last m p i (e ∷ es) h l f =
      same_one last m p i e.held (left_from n (Some (m, p)) (i + 1) es) h l f.0
      ∙ ap (left_one n last i e.held) (same_left last m p (i + 1) es h (omega (arith, l)) f.1)

  abbrev Best : Option (ℕ × ℕ) → ℕ → List (Entry (Note K)) → Option (ℕ × Note K) → Type 0
  Best last i es None = (left_from n last i es ≡ []) × ((m : ℕ) → From last m i es)
  Best last i es (Some y) = (left_from n last i es ≡ y.1 ∷ left_from n (Some (y.1.number, y.0)) i es) × (above last y.1.number y.0 ≡ true) × From last y.1.number i es

  module _ (last : Option (ℕ × ℕ)) (i : ℕ) (es : List (Entry (Note K))) where
    abbrev with_one : Option (Note K) → List (Entry (Note K))
    with_one held = record { held = held } ∷ es

    free_one : (r : Option (ℕ × Note K)) → Best last (i + 1) es r → Best last i (with_one None) r
    free_one None b = (b.0, λ m. (tt, b.1 m))
    free_one (Some y) b = (b.0, b.1, (tt, b.2))

    module _ (x : Note K) where
      -- a note that is not left
      passed_by : (r : Option (ℕ × Note K)) → is_left n last i x ≡ false → Best last (i + 1) es r → Best last i (with_one (Some x)) r
      passed_by None f b = (ap (λ t. cond t (place_note x (left_from n last (i + 1) es)) (left_from n last (i + 1) es)) f ∙ b.0, λ m. ((λ t. absurd (both_ways _ f t)), b.1 m))
      passed_by (Some y) f b = (
        ap (λ t. cond t (place_note x (left_from n last (i + 1) es)) (left_from n last (i + 1) es)) f
            ∙ b.0
            ∙ sym (ap (λ t. y.1 ∷ cond t (place_note x (left_from n (Some (y.1.number, y.0)) (i + 1) es)) (left_from n (Some (y.1.number, y.0)) (i + 1) es)) (later (eqb x.owner n) refl)),
        b.1,
        ((λ t. absurd (both_ways _ f t)), b.2),
      )
        where
          later : (t : Bool) → eqb x.owner n ≡ t → is_left n (Some (y.1.number, y.0)) i x ≡ false
          later false e = ap (λ t. t && above (Some (y.1.number, y.0)) x.number i) e
          later true e = and_right (eqb x.owner n) (above (Some (y.1.number, y.0)) x.number i) (not_above_later last y.1.number y.0 x.number i b.1 (sym (ap (λ t. t && above last x.number i) e) ∙ f))

      module _ (left : is_left n last i x ≡ true) where
        is_above : above last x.number i ≡ true
        is_above = (and_parts (eqb x.owner n) (above last x.number i) left).1

        is_first : From last x.number (i + 1) es → left_from n last i (with_one (Some x)) ≡ x ∷ left_from n last (i + 1) es → Best last i (with_one (Some x)) (Some (i, x))
        is_first f e = (
          e
              ∙ sym
              (ap (λ t. x ∷ cond t (place_note x (left_from n (Some (x.number, i)) (i + 1) es)) (left_from n (Some (x.number, i)) (i + 1) es)) (and_right (eqb x.owner n) (above (Some (x.number, i)) x.number i) (not_above_itself x.number i))
              ∙ ap (λ xs. x ∷ xs) (same_left last x.number i (i + 1) es is_above (omega arith) f)),
          is_above,
          ((λ t. omega arith), f),
        )

        placed : left_from n last i (with_one (Some x)) ≡ place_note x (left_from n last (i + 1) es)
        placed = ap (λ t. cond t (place_note x (left_from n last (i + 1) es)) (left_from n last (i + 1) es)) left

        only_one : Best last (i + 1) es None → Best last i (with_one (Some x)) (Some (i, x))
        only_one b = is_first (b.1 x.number) (placed ∙ ap (place_note x) b.0 ∙ sym (ap (λ xs. x ∷ xs) b.0))

        module _ (y : ℕ × Note K) (b : Best last (i + 1) es (Some y)) where
          abbrev others : List (Note K)
          others = left_from n (Some (y.1.number, y.0)) (i + 1) es

          inserted : (t : Bool) → leb x.number y.1.number ≡ t → left_from n last i (with_one (Some x)) ≡ cond t (x ∷ y.1 ∷ others) (y.1 ∷ place_note x others)
          inserted t c = placed ∙ ap (place_note x) b.0 ∙ ap (λ t. cond t (x ∷ y.1 ∷ others) (y.1 ∷ place_note x others)) c

          first_of_all : leb x.number y.1.number ≡ true → Best last i (with_one (Some x)) (Some (i, x))
          first_of_all c = is_first (lower last x.number y.1.number (i + 1) es (leb-true _ _ c) b.2) (inserted true c ∙ sym (ap (λ xs. x ∷ xs) b.0))

          behind : leb x.number y.1.number ≡ false → Best last i (with_one (Some x)) (Some y)
          behind c =
              let l : y.1.number < x.number = leb-false _ _ c in (
                inserted false c
                    ∙ sym (ap (λ t. y.1 ∷ cond t (place_note x others) others) (and_from (eqb x.owner n) (above (Some (y.1.number, y.0)) x.number i) (and_parts (eqb x.owner n) (above last x.number i) left).0 (above_number y.1.number y.0 x.number i l))),
                b.1,
                ((λ t. omega (arith, l)), b.2),
              )

      with_note : (r : Option (ℕ × Note K)) → Best last (i + 1) es r → Best last i (with_one (Some x)) (sooner n last i (Some x) r)
      with_note r b = go (is_left n last i x) refl r b
        where
          within : (left : is_left n last i x ≡ true) (y : ℕ × Note K) → Best last (i + 1) es (Some y) → (t : Bool) → leb x.number y.1.number ≡ t → Best last i (with_one (Some x)) (cond t (Some (i, x)) (Some y))
          within left y b true c = first_of_all left y b c
          within left y b false c = behind left y b c

          go : (t : Bool) → is_left n last i x ≡ t → (r : Option (ℕ × Note K)) → Best last (i + 1) es r → Best last i (with_one (Some x)) (sooner n last i (Some x) r)
          go false e r b = subst (Best last i (with_one (Some x))) (sym (ap (λ t. cond (t && comes_first x r) (Some (i, x)) r) e)) (passed_by r e b)
          go true e None b = subst (Best last i (with_one (Some x))) (sym (ap (λ t. cond (t && true) (Some (i, x)) None) e)) (only_one e b)
          go true e (Some y) b = subst (Best last i (with_one (Some x))) (sym (ap (λ t. cond (t && leb x.number y.1.number) (Some (i, x)) (Some y)) e)) (within e y b (leb x.number y.1.number) refl)

    with_entry : (held : Option (Note K)) (r : Option (ℕ × Note K)) → Best last (i + 1) es r → Best last i (with_one held) (sooner n last i held r)
    with_entry None r b = free_one r b
    with_entry (Some x) r b = with_note x r b

  best : (last : Option (ℕ × ℕ)) (i : ℕ) (es : List (Entry (Note K))) → Best last i es (next_from last i es)
  best last i [] = (refl, λ m. tt)
  best last i (e ∷ es) = with_entry last i es e.held (next_from last (i + 1) es) (best last (i + 1) es)

  next_left : (last : Option (ℕ × ℕ)) (ns : List (Entry (Note K))) (r : Option (ℕ × Note K)) → Best last 0 ns r → NextLeft n last ns r
  next_left last ns None b = b.0
  next_left last ns (Some y) b = b.0

  -- the loop, from the end of the table to its start: of the notes that it has passed, the first
  abbrev pub Found : Option (ℕ × ℕ) → List (Entry (Note K)) → List (Entry (Note K)) → Option (ℕ × Note K) → Type 0
  Found last ns ahead first = (passed : List (Entry (Note K))) × (ns ≡ ahead ++ passed) × (first ≡ next_from last (length ahead) passed)

  pub next_none : (last : Option (ℕ × ℕ)) (ns ahead : List (Entry (Note K))) → ahead ≡ ns → Found last ns ahead None
  next_none last ns ahead e = ([], sym e ∙ sym (append-nil ahead), refl)

  pub next_more : (last : Option (ℕ × ℕ)) (ns ahead ahead' : List (Entry (Note K))) (first r : Option (ℕ × Note K)) → Found last ns ahead first → (e : Entry (Note K)) (place : ℕ) → ahead ≡ ahead' ++ e ∷ [] → place ≡ length ahead' → r ≡ sooner n last place e.held first → Found last ns ahead' r
  next_more last ns ahead ahead' first r f e place next at is = (
    e ∷ f.0,
    f.1 ∙ ap (λ es. es ++ f.0) next ∙ append_assoc ahead' (e ∷ []) f.0,
    is ∙ (λ j. sooner n last (at j) e.held ((f.2 ∙ ap (λ i. next_from last i f.0) (ap length next ∙ length_push ahead' e)) j)),
  )

  pub is_next : (last : Option (ℕ × ℕ)) (ns ahead : List (Entry (Note K))) (r : Option (ℕ × Note K)) → length ahead ≡ 0 → Found last ns ahead r → NextLeft n last ns r
  is_next last ns ahead r h f =
      let z : ahead ≡ [] = nil_from_length ahead h in
      next_left last ns r
      (subst (Best last 0 ns) (sym (f.2 ∙ (λ j. next_from last (length (z j)) f.0) ∙ ap (next_from last 0) (sym (f.1 ∙ ap (λ es. es ++ f.0) z)))) (best last 0 ns))

  -- at the start all notes are left
  pub all_left : (i : ℕ) (ns : List (Entry (Note K))) → notes_of n ns ≡ left_from n None i ns
  all_left i [] = refl
  all_left i (e ∷ es) = go e.held (all_left (i + 1) es)
    where
      go : (held : Option (Note K)) → notes_of n es ≡ left_from n None (i + 1) es → notes_of n (record { held = held } ∷ es) ≡ left_from n None i (record { held = held } ∷ es)
      go None h = h
      go (Some x) h = inside (eqb x.owner n)
        where
          inside : (b : Bool) → cond b (place_note x (notes_of n es)) (notes_of n es) ≡ cond (b && true) (place_note x (left_from n None (i + 1) es)) (left_from n None (i + 1) es)
          inside true = ap (place_note x) h
          inside false = h
