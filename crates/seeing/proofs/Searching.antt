-- What a search through the slots has found, slot by slot. Assumes nothing.
use Rattle.std.proofs.Common.{◌≡◌, ℕ, ◌+◌, ◌<◌, ◌≤◌, Bool, cond, ◌∷◌, length, get_or, drop, Some, None, Option, sym, ap, ◌∙◌, eq-eqb}
use Rattle.std.proofs.lemmas.List.{drop_more, drop_all}
use Rattle.std.specs.Option.{option_map}
use Rattle.seeing.specs.declared.Transaction.{Transaction}
use Rattle.seeing.specs.Slots.{Slots, found, find}
use Rattle.seeing.proofs.Finding.{find_found}

head_is : (ts : Slots) (i : ℕ) (x : Option Transaction) → i < length ts → get_or ts i None ≡ x → drop i ts ≡ x ∷ drop (i + 1) ts
head_is ts i x h e = rw (← e) (drop_more ts i None h)

hit : (ts : Slots) (n i : ℕ) (t : Transaction) → i < length ts → get_or ts i None ≡ Some t → t.name ≡ n → found (drop i ts) n i ≡ Some (i, t)
hit ts n i t h e k = ap (λ (xs : Slots). found xs n i) (head_is ts i (Some t) h e) ∙ ap (λ (b : Bool). cond b (Some (i, t)) (found (drop (i + 1) ts) n (i + 1))) (eq-eqb _ _ k)

-- without the slot, what is found is what `find` gives
named_by : (ts : Slots) (n : ℕ) (r : Option (ℕ × Transaction)) → r ≡ found ts n 0 → find ts n ≡ option_map (λ x. x.1) r
named_by ts n r e = find_found ts n 0 ∙ ap (option_map (λ (x : ℕ × Transaction). x.1)) (sym e)

-- nothing before the slot i has the name
module _ (ts : Slots) (n i : ℕ) (before : found ts n 0 ≡ found (drop i ts) n i) where
  pub found_here : (t : Transaction) → i < length ts → get_or ts i None ≡ Some t → t.name ≡ n → Some (i, t) ≡ found ts n 0
  found_here t h e k = sym (before ∙ hit ts n i t h e k)

  pub named_here : (t : Transaction) → i < length ts → get_or ts i None ≡ Some t → t.name ≡ n → find ts n ≡ Some t
  named_here t h e k = named_by ts n (Some (i, t)) (found_here t h e k)

  pub found_nowhere : length ts ≤ i → None ≡ found ts n 0
  found_nowhere h = sym (before ∙ ap (λ (xs : Slots). found xs n i) (drop_all i ts h))

  pub named_nowhere : length ts ≤ i → find ts n ≡ None
  named_nowhere h = named_by ts n None (found_nowhere h)
