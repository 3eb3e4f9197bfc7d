-- The pairs of an index, swept place by place. Assumes nothing.
use Rattle.std.proofs.Common.{◌≡◌, ℕ, ◌+◌, ◌≤◌, Bool, true, false, cond, not, ◌&&◌, ltb, List, [], ◌∷◌, length, Some, None, Option, Ordering, Less, Equal, Greater, sym, refl, ap, ◌∙◌, ⊎_elim, arith}
use Rattle.std.specs.Ordering.{is_eq, ordering_then, nat_cmp}
use Rattle.std.specs.List.{IsDistinct}
use Rattle.std.proofs.lemmas.Bool.{and_right, cases_eq, ltb-true, ltb-false, lt-ltb, le-ltb}
use Rattle.keys.specs.Laws.{TotalOrder}
use Rattle.seeing.specs.declared.Version.{Version}
use Rattle.seeing.specs.Slots.{Slots}
use Rattle.index.specs.Sets.{tie, holds}
use Rattle.index.specs.Answers.{RemoveSays}
use Rattle.index.specs.Listed.{keep, listed}
use Rattle.index.proofs.Pairs.{same_tie, tie_itself, false_unless}
use Rattle.index.proofs.Listing.{listed_remove}
use Rattle.rules.specs.declared.Entry.{Entry}
use Rattle.rules.specs.Keys.{same}
use Rattle.rules.specs.Tables.{entry}
use Rattle.rules.specs.TableRules.{is_past, sweeps_pair}
use Rattle.tables.proofs.Picking.{entry_past}
use Rattle.transaction_calls.specs.Sweeping.{key_to_sweep, taken_out, left_below}

module _ {A : Type 0} where
  keep_keep : (f g : A → Bool) (xs : List A) → keep f (keep g xs) ≡ keep (λ x. g x && f x) xs
  keep_keep f g [] = refl
  keep_keep f g (x ∷ xs) = go (g x) (keep_keep f g xs)
    where
      go : (b : Bool) → keep f (keep g xs) ≡ keep (λ x. g x && f x) xs → keep f (cond b (x ∷ keep g xs) (keep g xs)) ≡ cond (b && f x) (x ∷ keep (λ x. g x && f x) xs) (keep (λ x. g x && f x) xs)
      go true h = ap (λ ys. cond (f x) (x ∷ ys) ys) h
      go false h = h

  keep_same : (f g : A → Bool) → ((x : A) → f x ≡ g x) → (xs : List A) → keep f xs ≡ keep g xs
  keep_same f g h xs = ap (λ k. keep k xs) (λ j x. h x j)

  keep_all : (f : A → Bool) → ((x : A) → f x ≡ true) → (xs : List A) → keep f xs ≡ xs
  keep_all f h [] = refl
  keep_all f h (x ∷ xs) = ap (λ (b : Bool). cond b (x ∷ keep f xs) (keep f xs)) (h x) ∙ ap (λ ys. x ∷ ys) (keep_all f h xs)

and_true : (b : Bool) → (b && true) ≡ b
and_true true = refl
and_true false = refl

-- below i + 1 is below i, but for i
ltb_other : (p i : ℕ) → (p ≡ i → ⊥) → ltb p i ≡ ltb p (i + 1)
ltb_other p i n = go (ltb p i) refl
  where
    go : (b : Bool) → ltb p i ≡ b → b ≡ ltb p (i + 1)
    go true e = let l = ltb-true p i e in sym (lt-ltb p (i + 1) (omega (arith, l)))
    go false e = let l = ltb-false p i e in sym (le-ltb p (i + 1) (above l))
      where
        above : i ≤ p → i + 1 ≤ p
        above l = ⊎_elim (λ e. absurd (n e)) (λ m. omega (arith, l, m)) (cases_eq p i)

module _ {K : Type 0} (o : K → K → Ordering) (laws : TotalOrder o) where
  -- the listing once a pair that may be there is removed
  pub removed : (xs ys : List (K × ℕ)) (q : K × ℕ) → IsDistinct (tie o) xs → IsDistinct (tie o) ys → (b : Bool) → RemoveSays o xs ys q b → listed o ys ≡ keep (λ x. not (tie o x q)) (listed o xs)
  removed xs ys q d e true h = listed_remove o laws xs ys q d e h.1
  removed xs ys q d e false h = listed_remove o laws xs ys q d e (ap (holds o) h.1 ∙ (λ j z. gone z (tie o z q) refl j))
    where
      gone : (z : K × ℕ) (b : Bool) → tie o z q ≡ b → holds o xs z ≡ (not b && holds o xs z)
      gone z true t = ap (holds o xs) (same_tie o laws z q t) ∙ h.0
      gone z false t = refl

  tie_at : (k l : K) (i : ℕ) → tie o (k, i) (l, i) ≡ same o k l
  tie_at k l i = go (o k l)
    where
      go : (r : Ordering) → is_eq (ordering_then r (nat_cmp i i)) ≡ is_eq r
      go Less = refl
      go Equal = sym (ap (λ r. is_eq (ordering_then r (nat_cmp i i))) (laws.itself k)) ∙ tie_itself o laws (k, i)
      go Greater = refl

  module _ {V : Type 0} (ts : Slots) (vs : List (Entry (Version K V))) where
    abbrev swept : Option K → K → Bool
    swept None k = false
    swept (Some l) k = same o k l

    by_key : (h : Option (Version K V)) (k : K) → elim h [ None ↦ false | Some v ↦ same o k v.key && is_past ts v.end ] ≡ swept (key_to_sweep ts h) k
    by_key None k = refl
    by_key (Some v) k = go (is_past ts v.end)
      where
        go : (b : Bool) → (same o k v.key && b) ≡ swept (cond b (Some v.key) None) k
        go true = and_true (same o k v.key)
        go false = and_right (same o k v.key) false refl

    abbrev left : ℕ → K × ℕ → Bool
    left i x = not (sweeps_pair o ts vs x && ltb x.1 i)

    left_other : (i : ℕ) (x : K × ℕ) → (x.1 ≡ i → ⊥) → left i x ≡ left (i + 1) x
    left_other i x n = ap (λ b. not (sweeps_pair o ts vs x && b)) (ltb_other x.1 i n)

    left_before : (i : ℕ) (x : K × ℕ) → x.1 ≡ i → left i x ≡ true
    left_before i x e = ap (λ b. not (sweeps_pair o ts vs x && b)) (le-ltb x.1 i (omega (arith, e))) ∙ ap not (and_right (sweeps_pair o ts vs x) false refl)

    left_here : (i : ℕ) (x : K × ℕ) → x.1 ≡ i → left (i + 1) x ≡ not (swept (key_to_sweep ts (entry vs i)) x.0)
    left_here i x e =
        ap (λ b. not (sweeps_pair o ts vs x && b)) (lt-ltb x.1 (i + 1) (omega (arith, e))) ∙ ap not (and_true (sweeps_pair o ts vs x))
        ∙ ap not (by_key (entry vs x.1) x.0) ∙ ap (λ (p : ℕ). not (swept (key_to_sweep ts (entry vs p)) x.0)) e

    taken_next : (i : ℕ) (q : Option K) → key_to_sweep ts (entry vs i) ≡ q → (xs : List (K × ℕ)) → taken_out o i q (left_below o ts vs i xs) ≡ left_below o ts vs (i + 1) xs
    taken_next i None e xs = keep_same (left i) (left (i + 1)) (λ x. ⊎_elim (at x) (left_other i x) (cases_eq x.1 i)) xs
      where
        at : (x : K × ℕ) → x.1 ≡ i → left i x ≡ left (i + 1) x
        at x p = left_before i x p ∙ sym (left_here i x p ∙ ap (λ (r : Option K). not (swept r x.0)) e)
    taken_next i (Some k) e xs =
        keep_keep (λ x. not (tie o x (k, i))) (left i) xs
        ∙ keep_same (λ x. left i x && not (tie o x (k, i))) (left (i + 1)) (λ x. ⊎_elim (at x) (other x) (cases_eq x.1 i)) xs
      where
        at : (x : K × ℕ) → x.1 ≡ i → (left i x && not (tie o x (k, i))) ≡ left (i + 1) x
        at x p =
            ap (λ b. b && not (tie o x (k, i))) (left_before i x p)
            ∙ ap not ((λ j. tie o (x.0, p j) (k, i)) ∙ tie_at x.0 k i)
            ∙ sym (left_here i x p ∙ ap (λ (r : Option K). not (swept r x.0)) e)

        other : (x : K × ℕ) → (x.1 ≡ i → ⊥) → (left i x && not (tie o x (k, i))) ≡ left (i + 1) x
        other x n =
            ap (λ b. left i x && not b) (false_unless (tie o x (k, i)) (λ t. n (ap (λ (y : K × ℕ). y.1) (same_tie o laws x (k, i) t))))
            ∙ and_true (left i x) ∙ left_other i x n

    -- a place more
    pub taken_more : (i : ℕ) (h : Option (Version K V)) → h ≡ entry vs i → (xs ys zs : List (K × ℕ)) → ys ≡ left_below o ts vs i xs → zs ≡ taken_out o i (key_to_sweep ts h) ys → zs ≡ left_below o ts vs (i + 1) xs
    taken_more i h eh xs ys zs inv e = e ∙ (λ j. taken_out o i (key_to_sweep ts (eh j)) (inv j)) ∙ taken_next i (key_to_sweep ts (entry vs i)) refl xs

    pub taken_none : (xs : List (K × ℕ)) → xs ≡ left_below o ts vs 0 xs
    taken_none xs = sym (keep_all (left 0) (λ x. ap (λ b. not (sweeps_pair o ts vs x && b)) (le-ltb x.1 0 (omega arith)) ∙ ap not (and_right (sweeps_pair o ts vs x) false refl)) xs)

    pub taken_all : (i : ℕ) → length vs ≤ i → (xs ys : List (K × ℕ)) → ys ≡ left_below o ts vs i xs → ys ≡ keep (λ x. not (sweeps_pair o ts vs x)) xs
    taken_all i h xs ys inv = inv ∙ keep_same (left i) (λ x. not (sweeps_pair o ts vs x)) (λ x. ap not (inside x (ltb x.1 i) refl)) xs
      where
        inside : (x : K × ℕ) (b : Bool) → ltb x.1 i ≡ b → (sweeps_pair o ts vs x && b) ≡ sweeps_pair o ts vs x
        inside x true e = and_true (sweeps_pair o ts vs x)
        inside x false e =
            let l = ltb-false x.1 i e in
            and_right (sweeps_pair o ts vs x) false refl ∙ sym (by_key (entry vs x.1) x.0 ∙ ap (λ (r : Option (Version K V)). swept (key_to_sweep ts r) x.0) (entry_past vs x.1 (omega (arith, l, h))))
