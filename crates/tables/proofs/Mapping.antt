-- A loop that changes each item of a table. Assumes nothing.
use Rattle.std.proofs.Common.{◌≡◌, ℕ, ◌+◌, ◌<◌, ◌≤◌, List, ◌++◌, map, length, get_or, take, drop, set, take_all, ap, ◌∙◌}
use Rattle.std.proofs.lemmas.List.{drop_all, append-nil}
use Rattle.std.proofs.lemmas.List.Edits.{map_over_more}

module _ {A : Type 0} (f : A → A) (xs : List A) (i : ℕ) where
  pub mapped_more : (ys : List A) (x y : A) → i < length xs → ys ≡ map f (take i xs) ++ drop i xs → x ≡ get_or ys i x → y ≡ f x → set ys i y ≡ map f (take (i + 1) xs) ++ drop (i + 1) xs
  mapped_more ys x y h inv at e = ap (λ (z : A). set ys i z) e ∙ map_over_more f xs ys i x h inv at

  pub mapped_all : (ys : List A) → length xs ≤ i → ys ≡ map f (take i xs) ++ drop i xs → ys ≡ map f xs
  mapped_all ys h inv = inv ∙ (λ j. map f (take_all i xs h j) ++ drop_all i xs h j) ∙ append-nil (map f xs)
