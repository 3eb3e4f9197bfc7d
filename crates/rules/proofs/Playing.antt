-- The order of numbers is total, and calls that each take the first free entries make a run. Assumes nothing.
use Rattle.std.proofs.Common.{◌≡◌, ℕ, suc, ◌+◌, ◌<◌, ◌≤◌, Bool, true, false, cond, ◌||◌, T, List, [], ◌∷◌, Some, Equal, unwrap_or, sym, refl, ap, ◌∙◌, subst, arith}
use Prim.Native.Nat.{compare, Ordering as Native}
use lib.Dec.{is_le, compare_is_eq}
use Rattle.std.proofs.lemmas.Bool.{leb-true, leb-false, eqb-true, eqb-false}
use Rattle.std.specs.Ordering.{MatchOrdering}
use Rattle.std.specs.Cmp.{one_rank, means, strict, below_irrefl, below_chain}
use Rattle.keys.specs.Laws.{TotalOrder}
use Rattle.rules.specs.declared.Entry.{Entry}
use Rattle.rules.specs.Tables.{free, any_free, is_free, free_from}
use Rattle.rules.specs.Worlds.{World, Allowed}
use Rattle.rules.specs.Runs.{Position, Run, called}
use Rattle.rules.specs.Positions.{ordering, by_number, Question, ask, end_at, order_played, Line, first_choice, after_question}
use Rattle.rules.specs.Example.{after_lines}

number_ranks : (x y : ℕ) → MatchOrdering (by_number x y) (x < y) (x ≡ y) (y < x)
number_ranks x y = go (compare x y) refl
  where
    go : (o : Native) → compare x y ≡ o → MatchOrdering (ordering o) (x < y) (x ≡ y) (y < x)
    go Native.lt e = let a : x ≤ y = leb-true x y (ap is_le e) in let b : x ≡ y → ⊥ = eqb-false x y (ap compare_is_eq e) in omega arith
    go Native.eq e = eqb-true x y (ap compare_is_eq e)
    go Native.gt e = leb-false x y (ap is_le e)

pub number_total : TotalOrder by_number
number_total = record {
  itself = λ x. one_rank (λ (x y : ℕ). x < y) below_irrefl below_chain x x (by_number x x) Equal (number_ranks x x) refl;
  same = λ x y e. means (λ (x y : ℕ). x < y) below_irrefl below_chain by_number number_ranks x y Equal e;
  flip = (strict (λ (x y : ℕ). x < y) below_irrefl below_chain by_number number_ranks).antisymm;
  trans = (strict (λ (x y : ℕ). x < y) below_irrefl below_chain by_number number_ranks).trans;
}

module _ {A : Type 0} where
  -- where there is a free entry, the first is found
  first_free : (i : ℕ) (xs : List (Entry A)) → T (any_free xs) → (p : ℕ) × ((free_from i xs ≡ Some (i + p)) × T (is_free xs p))
  first_free i [] h = absurd h
  first_free i (x ∷ xs) h = go (free x) refl h (first_free (i + 1) xs)
    where
      go : (b : Bool) → free x ≡ b → T (b || any_free xs) → (T (any_free xs) → (p : ℕ) × ((free_from (i + 1) xs ≡ Some (i + 1 + p)) × T (is_free xs p))) →
          (p : ℕ) × ((cond b (Some i) (free_from (i + 1) xs) ≡ Some (i + p)) × T (is_free (x ∷ xs) p))
      go true e h r = let q : i ≡ i + 0 = omega arith in (0, (ap Some q, subst T (sym e) tt))
      go false e h r = let z = r h in let q : i + 1 + z.0 ≡ i + suc z.0 = omega arith in (suc z.0, (z.1.0 ∙ ap Some q, z.1.1))

  first_is_free : (xs : List (Entry A)) → T (any_free xs) → T (is_free xs (unwrap_or (free_from 0 xs) 0))
  first_is_free xs h =
      let z = first_free 0 xs h in let q : 0 + z.0 ≡ z.0 = omega arith in
      subst (λ p. T (is_free xs p)) (sym (ap (λ o. unwrap_or o 0) z.1.0 ∙ q)) z.1.1

pub first_allowed : (w : World ℕ ℕ) → Allowed (first_choice w) w
first_allowed w = record { version = first_is_free w.versions; note = first_is_free w.notes }

pub run_on : (p : Position ℕ ℕ) → Run by_number p → (ls : List Line) → Run by_number (after_lines p ls)
run_on p r [] = r
run_on p r (l ∷ ls) = run_on (after_question p l.0) (step l.0) ls
  where
    step : (q : Question) → Run by_number (after_question p q)
    step (ask a) = called r p.world.rows (first_choice p.world) (first_allowed p.world) a
    step (end_at place) = r
    step order_played = r
