-- No version is reached at usize::MAX, so that a walk is the same if it is told of no pairs after one there. Assumes nothing.
use Rattle.std.proofs.Common.{◌≡◌, ℕ, ◌+◌, ◌^◌, ◌<◌, Bool, true, false, cond, ltb, leb, List, [], ◌∷◌, length, Err, Ordering, sym, refl, ap, ◌∙◌, arith}
use Rattle.std.proofs.lemmas.Bool.{ltb-false}
use Rattle.seeing.specs.declared.Version.{Version}
use Rattle.seeing.specs.Slots.{Slots}
use Rattle.index.specs.Listed.{up_to_max}
use Rattle.rules.specs.declared.Entry.{Entry}
use Rattle.rules.specs.declared.Refusal.TheVariants as refusal
use Rattle.rules.specs.Checks.{Checked, ◌>>=◌, ◌>>◌, refuse_if}
use Rattle.rules.specs.Reaching.{Met, reached}
use Rattle.tables.proofs.Picking.{entry_past}
use Rattle.tables.proofs.Steps.{give_up, lack}
use Rattle.walks.specs.declared.Survey.{Survey}
use Rattle.rules.specs.BookRules.{shows}
use Rattle.walks.specs.Walk.{walk, also}
use Rattle.walks.specs.Rows.{Listed, listing, one_row}
use Rattle.walks.proofs.Walking.{bind_same}

module _ {K V : Type 0} (o : K → K → Ordering) (ts : Slots) (vs : List (Entry (Version K V))) (small : length vs < 2 ^ 64) where
  none_at_max : (x : K × ℕ) → ltb (x.1 + 1) (2 ^ 64) ≡ false → reached o ts vs x ≡ Err refusal.Version
  none_at_max x e = give_up _ (lack _ (entry_past vs x.1 (omega (arith, small, ltb-false (x.1 + 1) (2 ^ 64) e))))

  -- one pair, and what is done with the others once its version is reached
  pub stops_at_max : {B : Type 0} (x : K × ℕ) (xs : List (K × ℕ)) (f : List (K × ℕ) → Met K V → Checked B) → ((y : Met K V) → f (up_to_max xs) y ≡ f xs y) →
      (reached o ts vs x >>= f (cond (ltb (x.1 + 1) (2 ^ 64)) (up_to_max xs) [])) ≡ (reached o ts vs x >>= f xs)
  stops_at_max x xs f h = go (ltb (x.1 + 1) (2 ^ 64)) refl
    where
      go : (b : Bool) → ltb (x.1 + 1) (2 ^ 64) ≡ b → (reached o ts vs x >>= f (cond b (up_to_max xs) [])) ≡ (reached o ts vs x >>= f xs)
      go true e = bind_same (reached o ts vs x) (f (up_to_max xs)) (f xs) h
      go false e = give_up (f []) (none_at_max x e) ∙ sym (give_up (f xs) (none_at_max x e))

  module _ (n : ℕ) where
    walks_alike : (s : Survey K V) (ps : List (K × ℕ)) → walk o ts vs n s (up_to_max ps) ≡ walk o ts vs n s ps
    walks_alike s [] = refl
    walks_alike s (x ∷ xs) = stops_at_max x xs (λ qs y. walk o ts vs n (also ts n s y) qs) (λ y. walks_alike (also ts n s y) xs)

    pub walk_begins : (s : Survey K V) (ps left : List (K × ℕ)) → left ≡ up_to_max ps → walk o ts vs n s ps ≡ walk o ts vs n s left
    walk_begins s ps left e = sym (ap (walk o ts vs n s) e ∙ walks_alike s ps)

  module _ (n room : ℕ) where
    lists_alike : (l : Listed K V) (ps : List (K × ℕ)) → listing o ts vs n room l (up_to_max ps) ≡ listing o ts vs n room l ps
    lists_alike l [] = refl
    lists_alike l (x ∷ xs) =
        stops_at_max x xs
        (λ qs y. cond (shows o ts n l.last y.1) (refuse_if (leb room l.count) refusal.Rows >> listing o ts vs n room (one_row y.1 l) qs) (listing o ts vs n room l qs))
        (λ y. λ i. cond (shows o ts n l.last y.1) (refuse_if (leb room l.count) refusal.Rows >> lists_alike (one_row y.1 l) xs i) (lists_alike l xs i))

    pub list_begins : (l : Listed K V) (ps left : List (K × ℕ)) → left ≡ up_to_max ps → listing o ts vs n room l ps ≡ listing o ts vs n room l left
    list_begins l ps left e = sym (ap (listing o ts vs n room l) e ∙ lists_alike l ps)
