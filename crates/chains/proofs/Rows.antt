-- What a walk along the chain of a key has passed. Assumes nothing.
use Rattle.std.proofs.Common.{◌≡◌, ℕ, zero, suc, ◌+◌, ◌-◌, ◌<◌, ◌≤◌, true, false, ◌||◌, List, [], ◌∷◌, length, get_or, drop, Some, None, Option, MatchOption, Ordering, sym, refl, ap, ◌∙◌, arith}
use Rattle.std.specs.Option.{is_some}
use Rattle.std.proofs.lemmas.List.{drop_more, drop_all, length-map, get_or-map}
use Rattle.std.proofs.lemmas.Bool.{or_right}
use Rattle.keys.specs.Laws.{TotalOrder}
use Rattle.index.specs.Sets.{tie, holds}
use Rattle.index.proofs.Pairs.{same_tie, tie_itself, false_unless}
use Rattle.chains.specs.Chained.{bucket, numbers, last_of}
use Rattle.chains.proofs.Lasts.{last_low, last_past}

module _ {K : Type 0} (o : K → K → Ordering) (laws : TotalOrder o) where
  -- between m and n nothing ties with q
  holds_span : (xs : List (K × ℕ)) (m n : ℕ) (q : K × ℕ) → m ≤ n → ((j : ℕ) → m ≤ j → j < n → j < length xs → tie o q (get_or xs j q) ≡ false) → holds o (drop m xs) q ≡ holds o (drop n xs) q
  holds_span [] zero zero q l f = refl
  holds_span [] zero (suc n) q l f = refl
  holds_span [] (suc m) zero q l f = refl
  holds_span [] (suc m) (suc n) q l f = refl
  holds_span (x ∷ xs) zero zero q l f = refl
  holds_span (x ∷ xs) zero (suc n) q l f =
      ap (λ t. t || holds o xs q) (f 0 (omega arith) (omega arith) (omega arith))
      ∙ holds_span xs zero n q (omega arith) (λ j a b c. f (suc j) (omega arith) (omega arith) (omega arith))
  holds_span (x ∷ xs) (suc m) zero q l f = absurd (omega arith)
  holds_span (x ∷ xs) (suc m) (suc n) q l f = holds_span xs m n q (omega arith) (λ j a b c. f (suc j) (omega arith) (omega arith) (omega arith))

  -- a pair that stands there is held
  pub holds_at : (xs : List (K × ℕ)) (i : ℕ) (d q : K × ℕ) → i < length xs → q ≡ get_or xs i d → holds o xs q ≡ true
  holds_at [] i d q h e = absurd (omega arith)
  holds_at (x ∷ xs) zero d q h e = ap (λ t. t || holds o xs q) (ap (λ w. tie o q w) (sym e) ∙ tie_itself o laws q)
  holds_at (x ∷ xs) (suc i) d q h e = or_right (tie o q x) (holds o xs q) (holds_at xs i d q (omega arith) e)

  -- what `find` says
  pub held_found : (xs : List (K × ℕ)) (q : K × ℕ) (r : Option ℕ) → MatchOption r (holds o xs q ≡ false) (λ i. (i < length xs) × (q ≡ get_or xs i q)) → holds o xs q ≡ is_some r
  held_found xs q None e = e
  held_found xs q (Some i) e = holds_at xs i q q e.0 e.1

  module _ (h : K → ℕ) (xs : List (K × ℕ)) (q : K × ℕ) where
    -- a pair of another chain does not tie with q
    apart : (j : ℕ) → j < length xs → (get_or (numbers h xs) j 256 ≡ bucket h q.0 → ⊥) → tie o q (get_or xs j q) ≡ false
    apart j l n =
        false_unless (tie o q (get_or xs j q))
        (λ t. n (get_or-map (λ x. bucket h x.0) xs j q 256 l ∙ ap (λ (x : K × ℕ). bucket h x.0) (sym (same_tie o laws q (get_or xs j q) t))))

    past_last : (n : ℕ) → holds o (drop (last_of (bucket h q.0) (numbers h xs) n) xs) q ≡ holds o (drop n xs) q
    past_last n =
        holds_span xs (last_of (bucket h q.0) (numbers h xs) n) n q (last_low (bucket h q.0) (numbers h xs) n)
        (λ j a b w. apart j w (λ e. last_past (bucket h q.0) (numbers h xs) n j a b e))

    pub start_none : (at : ℕ) → at ≡ last_of (bucket h q.0) (numbers h xs) (length (numbers h xs)) → holds o (drop at xs) q ≡ false
    start_none at e =
        ap (λ n. holds o (drop n xs) q) e ∙ past_last (length (numbers h xs))
        ∙ ap (λ ys. holds o ys q) (drop_all (length (numbers h xs)) xs (let l = length-map xs (λ (x : K × ℕ). bucket h x.0) in omega arith))

    pub step_one : (at next : ℕ) (x : K × ℕ) → 0 < at → at ≤ length xs → x ≡ get_or xs (at - 1) x → next ≡ last_of (bucket h q.0) (numbers h xs) (at - 1) → holds o (drop next xs) q ≡ (tie o q x || holds o (drop at xs) q)
    step_one at next x some low e f =
        let lt : at - 1 < length xs = omega arith in
        let back : at - 1 + 1 ≡ at = omega arith in
        ap (λ n. holds o (drop n xs) q) f ∙ past_last (at - 1)
        ∙ ap (λ ys. holds o ys q) (drop_more xs (at - 1) x lt)
        ∙ (λ i. tie o q (sym e i) || holds o (drop (back i) xs) q)
