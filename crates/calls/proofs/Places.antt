-- Where the search for a free entry ends. Assumes nothing.
use Rattle.std.proofs.Common.{◌≡◌, ℕ, true, false, List, Some, None, Option, unwrap_or, sym, refl, arith}
use Rattle.rules.specs.declared.Entry.{Entry}
use Rattle.rules.specs.Tables.{any_free}
use Rattle.tables.specs.Places.{search_from, pick}
use Rattle.tables.proofs.Picking.{Picked, picked, some_free}

module _ {A : Type 0} where
  -- where nothing is free the pick is 0
  none_free : (hint : ℕ) (xs : List (Entry A)) → any_free xs ≡ false → pick hint xs ≡ 0
  none_free hint xs e = go (search_from hint xs) (picked hint (search_from hint xs) xs refl)
    where
      go : (o : Option ℕ) → Picked hint xs o → unwrap_or o 0 ≡ 0
      go None h = refl
      go (Some p) h = let f : any_free xs ≡ true = some_free xs p h.1 in let z : ◌≡◌ {A = ℕ} 0 1 = cc in absurd (omega arith)

  pub place_is : (hint : ℕ) (xs : List (Entry A)) (o : Option ℕ) → Picked hint xs o → unwrap_or o 0 ≡ pick hint xs
  place_is hint xs None e = sym (none_free hint xs e)
  place_is hint xs (Some p) h = h.0
