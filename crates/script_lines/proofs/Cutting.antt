-- Steps of a cut. Assumes nothing.
use Rattle.std.proofs.Common.{◌≡◌, ℕ, suc, ◌-◌, ◌<◌, ◌≤◌, Bool, true, false, cond, eqb, List, [], ◌∷◌, length, get_or, take, drop, Some, None, unwrap_or, sym, refl, ap, ◌∙◌, arith, take_all}
use Rattle.script_lines.specs.Lines.{lines, fields, prepend}
use Rattle.script_lines.specs.Cuts.{from, before, after, beyond, fields_of}

-- the list without its first element, as a slice pattern gives it
abbrev pub tail : List ℕ → List ℕ
tail xs = take (length xs - 1) (drop 1 xs)

pub tail_is : (x : ℕ) (xs : List ℕ) → tail (x ∷ xs) ≡ xs
tail_is x xs = take_all (suc (length xs) - 1) xs (omega arith)

pub from_none : (stop : ℕ) (xs : List ℕ) → length xs ≤ 0 → from stop xs ≡ xs
from_none stop [] h = refl
from_none stop (x ∷ xs) h = absurd (omega arith)

pub from_here : (stop : ℕ) (xs : List ℕ) → 0 < length xs → eqb (get_or xs 0 0) stop ≡ true → from stop xs ≡ xs
from_here stop [] h e = absurd (omega arith)
from_here stop (x ∷ xs) h e = ap (λ b. cond b (x ∷ xs) (from stop xs)) e

pub from_more : (stop : ℕ) (xs : List ℕ) → 0 < length xs → eqb (get_or xs 0 0) stop ≡ false → from stop xs ≡ from stop (tail xs)
from_more stop [] h e = absurd (omega arith)
from_more stop (x ∷ xs) h e = ap (λ b. cond b (x ∷ xs) (from stop xs)) e ∙ ap (from stop) (sym (tail_is x xs))

pub from_shorter : (stop : ℕ) (xs : List ℕ) → length (from stop xs) ≤ length xs
from_shorter stop [] = omega arith
from_shorter stop (x ∷ xs) = go (eqb x stop) (from_shorter stop xs)
  where
    go : (b : Bool) → length (from stop xs) ≤ length xs → length (cond b (x ∷ xs) (from stop xs)) ≤ suc (length xs)
    go true h = omega arith
    go false h = omega arith

pub before_whole : (stop : ℕ) (xs : List ℕ) → length (from stop xs) ≤ 0 → xs ≡ before stop xs
before_whole stop [] h = refl
before_whole stop (x ∷ xs) h = go (eqb x stop) (before_whole stop xs) h
  where
    go : (b : Bool) → (length (from stop xs) ≤ 0 → xs ≡ before stop xs) → length (cond b (x ∷ xs) (from stop xs)) ≤ 0 → (x ∷ xs) ≡ cond b [] (x ∷ before stop xs)
    go true e h = absurd (omega arith)
    go false e h = ap (λ l. x ∷ l) (e h)

pub after_none : (stop : ℕ) (xs : List ℕ) → length (from stop xs) ≤ 0 → None ≡ after stop xs
after_none stop [] h = refl
after_none stop (x ∷ xs) h = go (eqb x stop) (after_none stop xs) h
  where
    go : (b : Bool) → (length (from stop xs) ≤ 0 → None ≡ after stop xs) → length (cond b (x ∷ xs) (from stop xs)) ≤ 0 → None ≡ cond b (Some xs) (after stop xs)
    go true e h = absurd (omega arith)
    go false e h = e h

pub after_some : (stop : ℕ) (xs : List ℕ) → 0 < length (from stop xs) → Some (tail (from stop xs)) ≡ after stop xs
after_some stop [] h = absurd (omega arith)
after_some stop (x ∷ xs) h = go (eqb x stop) (after_some stop xs) h
  where
    go : (b : Bool) → (0 < length (from stop xs) → Some (tail (from stop xs)) ≡ after stop xs) → 0 < length (cond b (x ∷ xs) (from stop xs)) → Some (tail (cond b (x ∷ xs) (from stop xs))) ≡ cond b (Some xs) (after stop xs)
    go true e h = ap Some (tail_is x xs)
    go false e h = e h

pub before_is : (stop : ℕ) (xs : List ℕ) → take (length xs - length (from stop xs)) xs ≡ before stop xs
before_is stop [] = refl
before_is stop (x ∷ xs) = go (eqb x stop) (before_is stop xs) (from_shorter stop xs)
  where
    go : (b : Bool) → take (length xs - length (from stop xs)) xs ≡ before stop xs → length (from stop xs) ≤ length xs → take (suc (length xs) - length (cond b (x ∷ xs) (from stop xs))) (x ∷ xs) ≡ cond b [] (x ∷ before stop xs)
    go true e h = ap (λ n. take n (x ∷ xs)) (let z : suc (length xs) - suc (length xs) ≡ 0 = omega arith in z)
    go false e h = ap (λ n. take n (x ∷ xs)) (let z : suc (length xs) - length (from stop xs) ≡ suc (length xs - length (from stop xs)) = omega arith in z) ∙ ap (λ l. x ∷ l) e

pub lines_cut : (xs : List ℕ) → 0 < length xs → lines xs ≡ before 10 xs ∷ lines (beyond xs)
lines_cut [] h = absurd (omega arith)
lines_cut (x ∷ xs) h = go (eqb x 10) (or_none xs (lines_cut xs))
  where
    or_none : (ys : List ℕ) → (0 < length ys → lines ys ≡ before 10 ys ∷ lines (beyond ys)) → prepend x (lines ys) ≡ (x ∷ before 10 ys) ∷ lines (beyond ys)
    or_none [] e = refl
    or_none (y ∷ ys) e = ap (prepend x) (e (omega arith))

    go : (b : Bool) → prepend x (lines xs) ≡ (x ∷ before 10 xs) ∷ lines (beyond xs) → cond b ([] ∷ lines xs) (prepend x (lines xs)) ≡ cond b [] (x ∷ before 10 xs) ∷ lines (unwrap_or (cond b (Some xs) (after 10 xs)) [])
    go true e = refl
    go false e = e

pub after_shorter : (stop : ℕ) (xs rest : List ℕ) → after stop xs ≡ Some rest → length rest < length xs
after_shorter stop [] rest e = let z : ◌≡◌ {A = ℕ} 0 1 = cc in absurd (omega arith)
after_shorter stop (x ∷ xs) rest e = go (eqb x stop) (after_shorter stop xs rest) e
  where
    go : (b : Bool) → (after stop xs ≡ Some rest → length rest < length xs) → cond b (Some xs) (after stop xs) ≡ Some rest → length rest < suc (length xs)
    go true h e = let z : xs ≡ rest = cc in omega (arith, ap length z)
    go false h e = omega (arith, h e)

pub fields_cut : (xs : List ℕ) → fields xs ≡ before 44 xs ∷ fields_of (after 44 xs)
fields_cut [] = refl
fields_cut (x ∷ xs) = go (eqb x 44) (ap (prepend x) (fields_cut xs))
  where
    go : (b : Bool) → prepend x (fields xs) ≡ (x ∷ before 44 xs) ∷ fields_of (after 44 xs) → cond b ([] ∷ fields xs) (prepend x (fields xs)) ≡ cond b [] (x ∷ before 44 xs) ∷ fields_of (cond b (Some xs) (after 44 xs))
    go true e = refl
    go false e = e

pub lines_none : (xs : List ℕ) → length xs ≤ 0 → lines xs ≡ []
lines_none [] h = refl
lines_none (x ∷ xs) h = absurd (omega arith)

-- a text has no more lines than bytes
pub lines_within : (xs : List ℕ) → length (lines xs) ≤ length xs
lines_within [] = omega arith
lines_within (x ∷ xs) = go (eqb x 10) (lines_within xs) (or_one xs (lines xs) (lines_within xs))
  where
    or_one : (ys : List ℕ) (ls : List (List ℕ)) → length ls ≤ length ys → length (prepend x ls) ≤ suc (length ys)
    or_one ys [] h = omega arith
    or_one ys (l ∷ ls) h = omega arith

    go : (b : Bool) → length (lines xs) ≤ length xs → length (prepend x (lines xs)) ≤ suc (length xs) → length (cond b ([] ∷ lines xs) (prepend x (lines xs))) ≤ suc (length xs)
    go true h e = omega arith
    go false h e = e
