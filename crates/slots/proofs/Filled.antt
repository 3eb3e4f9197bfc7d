-- Arrays of 64, made by `from_fn` or filled by index. Assumes nothing.
use Rattle.std.proofs.Common.{◌≡◌, ℕ, zero, suc, ◌+◌, ◌<◌, ◌≤◌, Bool, false, ◌&&◌, ◌||◌, List, [], ◌∷◌, ◌++◌, map, length, get_or, take, drop, set, take_all, sym, subst, refl, ap, ◌∙◌, ⊎_elim, add-one, arith}
use Rattle.std.specs.List.{range_with_len, list_any, zip}
use Rattle.rules.specs.Lists.{some_below}
use Rattle.seeing.specs.Slots.{Slots}
use Rattle.rules.specs.Aborting.{spread, spread_for}
use Rattle.std.specs.Fn.{Mut, Called}
use Rattle.std.specs.Array.{IsFromFnResult, IsFromFnResultFrom}
use Rattle.std.proofs.lemmas.List.{drop_all, append-nil}
use Rattle.std.proofs.lemmas.List.Edits.{map_over_more}
use Rattle.std.proofs.lemmas.List.FromFn.{fill_by_all}
use Rattle.std.proofs.lemmas.Bool.{cases_eq}
use Rattle.std.proofs.Math.Bool.{or_assoc, or_comm}

-- each call of the closure gives h of the index, and changes no capture
module _ {F X : Type 0} (g : Mut F (ℕ × Unit {0}) X) (h : ℕ → X) (f : F) (gives : (i : ℕ) (y : X) (q : F) → Called g f (i, tt) y q → (q ≡ f) × (y ≡ h i)) where
  from_there : (ys : List X) (i n : ℕ) (p : F) → p ≡ f → IsFromFnResultFrom g p ys i n → (k : ℕ) (d : X) → i ≤ k → k < i + n → get_or ys k d ≡ h k
  from_there ys i zero p e made k d a b = absurd (omega arith)
  from_there ys i (suc n) p e made k d a b =
      let one = gives i made.1 made.0 (subst (λ (q : F). Called g q (i, tt) made.1 made.0) e made.3) in
      ⊎_elim
      (λ (z : k ≡ i). ap (λ (j : ℕ). get_or ys j d) z ∙ made.2.1 d ∙ one.1 ∙ ap h (sym z))
      (λ (z : k ≡ i → ⊥). from_there ys (i + 1) n made.0 one.0 made.4 k d (omega arith) (omega arith))
      (cases_eq k i)

  pub from_fn_all : (ys : List X) (n : ℕ) (d : X) → IsFromFnResult g f ys n → ys ≡ map h (range_with_len 0 n)
  from_fn_all ys n d made = fill_by_all h ys n d made.long (λ k l. from_there ys 0 n f refl made.each k d (omega arith) (omega arith))

-- an array whose items a loop changes one by one
module _ {A : Type 0} (f : A → A) (xs : List A) (i : ℕ) where
  pub mapped_more : (ys : List A) (x y : A) → i < length xs → ys ≡ map f (take i xs) ++ drop i xs → x ≡ get_or ys i x → y ≡ f x → set ys i y ≡ map f (take (i + 1) xs) ++ drop (i + 1) xs
  mapped_more ys x y h inv at e = ap (λ (z : A). set ys i z) e ∙ map_over_more f xs ys i x h inv at

  pub mapped_all : (ys : List A) → length xs ≤ i → ys ≡ map f (take i xs) ++ drop i xs → ys ≡ map f xs
  mapped_all ys h inv = inv ∙ (λ j. map f (take_all i xs h j) ++ drop_all i xs h j) ∙ append-nil (map f xs)

-- the lowest number first
some_lowest : (f : ℕ → Bool) (n : ℕ) → some_below f (suc n) ≡ (f 0 || some_below (λ i. f (suc i)) n)
some_lowest f zero = or_comm false (f 0)
some_lowest f (suc n) = ap (λ (b : Bool). b || f (suc n)) (some_lowest f n) ∙ or_assoc (f 0) (some_below (λ i. f (suc i)) n) (f (suc n))

-- a pair of two lists has both exactly where some place has
pub some_zip : (xs ys : List Bool) (n : ℕ) → length xs ≡ n → length ys ≡ n → list_any (λ p. p.0 && p.1) (zip xs ys) ≡ some_below (λ i. get_or xs i false && get_or ys i false) n
some_zip [] ys zero a b = refl
some_zip [] ys (suc n) a b = absurd (omega arith)
some_zip (x ∷ xs) ys zero a b = absurd (omega arith)
some_zip (x ∷ xs) [] (suc n) a b = absurd (omega arith)
some_zip (x ∷ xs) (y ∷ ys) (suc n) a b =
    ap (λ (z : Bool). (x && y) || z) (some_zip xs ys n (omega arith) (omega arith))
    ∙ sym (some_lowest (λ i. get_or (x ∷ xs) i false && get_or (y ∷ ys) i false) n)

-- one more time over
pub spread_step : (i : ℕ) (ts : Slots) (start marks next : List Bool) → marks ≡ spread_for i ts start → next ≡ spread ts marks → next ≡ spread_for (i + 1) ts start
spread_step i ts start marks next a b = rw add-one (b ∙ ap (spread ts) a)

pub spread_end : (i : ℕ) (ts : Slots) (start marks : List Bool) → 64 ≤ i → i ≤ 64 → marks ≡ spread_for i ts start → marks ≡ spread_for 64 ts start
spread_end i ts start marks a b e = let q : i ≡ 64 = omega arith in e ∙ ap (λ (n : ℕ). spread_for n ts start) q
