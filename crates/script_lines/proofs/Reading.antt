-- Steps of a reading. Assumes nothing.
use Rattle.std.proofs.Common.{◌≡◌, ℕ, ◌+◌, ◌-◌, ◌*◌, ◌<◌, ◌≤◌, Bool, true, false, cond, ◌&&◌, leb, List, [], ◌∷◌, length, get_or, Some, None, Option, sym, refl, ap, ◌∙◌, arith, leb-true}
use Rattle.script_lines.specs.Numbers.{digit, all_digits, value_after, number_up_to}
use Rattle.script_lines.specs.Growing.{grown, all_grown}
use Rattle.script_lines.proofs.Cutting.{tail, tail_is}

pub grown_none : (max n : ℕ) (xs : List ℕ) → length xs ≤ 0 → all_grown max n xs ≡ Some n
grown_none max n [] h = refl
grown_none max n (x ∷ xs) h = absurd (omega arith)

abbrev onward : ℕ → Option ℕ → List ℕ → Option ℕ
onward max o xs = elim o [ Some m ↦ all_grown max m xs | None ↦ None ]

pub grown_more : (max n m : ℕ) (xs : List ℕ) → 0 < length xs → grown max n (get_or xs 0 0) ≡ Some m → all_grown max n xs ≡ all_grown max m (tail xs)
grown_more max n m [] h e = absurd (omega arith)
grown_more max n m (x ∷ xs) h e = ap (λ r. onward max r xs) e ∙ ap (all_grown max m) (sym (tail_is x xs))

pub grown_stop : (max n : ℕ) (xs : List ℕ) → 0 < length xs → grown max n (get_or xs 0 0) ≡ None → all_grown max n xs ≡ None
grown_stop max n [] h e = absurd (omega arith)
grown_stop max n (x ∷ xs) h e = ap (λ r. onward max r xs) e

-- further digits make no number smaller
value_above : (n : ℕ) (xs : List ℕ) → n ≤ value_after n xs
value_above n [] = omega arith
value_above n (x ∷ xs) = omega (arith, value_above (n * 10 + (x - 48)) xs)

above_fails : (m v max : ℕ) → m ≤ v → leb m max ≡ false → leb v max ≡ false
above_fails m v max h e = grind arith

not_both : (a b : Bool) (v : ℕ) → b ≡ false → None ≡ cond (a && b) (Some v) None
not_both true b v e = ap (λ t. cond t (Some v) None) (sym e)
not_both false b v e = refl

-- reading digit by digit gives the number that all the digits write
pub grown_is : (max n : ℕ) (xs : List ℕ) → n ≤ max → all_grown max n xs ≡ cond (all_digits xs && leb (value_after n xs) max) (Some (value_after n xs)) None
grown_is max n [] h = grind arith
grown_is max n (x ∷ xs) h = go (digit x) (leb m max) refl (grown_is max m xs)
  where
    m : ℕ
    m = n * 10 + (x - 48)

    v : ℕ
    v = value_after m xs

    go : (d b : Bool) → leb m max ≡ b → (m ≤ max → all_grown max m xs ≡ cond (all_digits xs && leb v max) (Some v) None) → onward max (cond (d && b) (Some m) None) xs ≡ cond ((d && all_digits xs) && leb v max) (Some v) None
    go false b e ih = refl
    go true false e ih = not_both (all_digits xs) (leb v max) v (above_fails m v max (value_above m xs) e)
    go true true e ih = ih (leb-true _ _ e)

pub number_is : (max : ℕ) (xs : List ℕ) → 0 < length xs → number_up_to max xs ≡ all_grown max 0 xs
number_is max [] h = absurd (omega arith)
number_is max (x ∷ xs) h = sym (grown_is max 0 (x ∷ xs) (omega arith))

pub grown_within : (max n b m : ℕ) → grown max n b ≡ Some m → m ≤ max
grown_within max n b m e = go (digit b) (leb k max) refl e
  where
    k : ℕ
    k = n * 10 + (b - 48)

    go : (d t : Bool) → leb k max ≡ t → cond (d && t) (Some k) None ≡ Some m → m ≤ max
    go false t l e = let z : ◌≡◌ {A = ℕ} 0 1 = cc in absurd (omega arith)
    go true false l e = let z : ◌≡◌ {A = ℕ} 0 1 = cc in absurd (omega arith)
    go true true l e = let z : k ≡ m = cc in omega (arith, leb-true _ _ l)
