-- The version table, swept place by place. Assumes nothing.
use Rattle.std.proofs.Common.{◌≡◌, ℕ, zero, suc, ◌+◌, ◌<◌, ◌≤◌, Bool, true, false, cond, List, [], ◌∷◌, ◌++◌, map, length, take, drop, is_some, Some, None, Option, sym, refl, ap, ◌∙◌, le_of_suc-le-suc, not-suc-le-zero, add-one, arith, take_all}
use Rattle.std.proofs.lemmas.List.{drop_all, append-nil}
use Rattle.seeing.specs.declared.Version.{Version}
use Rattle.seeing.specs.Slots.{Slots}
use Rattle.rules.specs.declared.Entry.{Entry}
use Rattle.rules.specs.Lists.{count}
use Rattle.rules.specs.Tables.{entry, emptied}
use Rattle.rules.specs.TableRules.{is_past, to_sweep, swept_entry}
use Rattle.transaction_calls.specs.Sweeping.{key_to_sweep, freed_at}

cond_turn : (a b : Bool) (n : ℕ) → cond a (cond b (n + 1) n + 1) (cond b (n + 1) n) ≡ cond b (cond a (n + 1) n + 1) (cond a (n + 1) n)
cond_turn true true n = refl
cond_turn true false n = refl
cond_turn false true n = refl
cond_turn false false n = refl

cond_le : (b : Bool) (n m : ℕ) → n ≤ m → cond b (n + 1) n ≤ m + 1
cond_le true n m h = omega (arith, h)
cond_le false n m h = omega (arith, h)

module _ {K V : Type 0} (ts : Slots) where
  -- the table once the places below i are swept
  abbrev pub swept_below : ℕ → List (Entry (Version K V)) → List (Entry (Version K V))
  swept_below i vs = map (swept_entry ts) (take i vs) ++ drop i vs

  abbrev pub sweeps : Entry (Version K V) → Bool
  sweeps x = to_sweep ts x.held

  is_swept : (h : Option (Version K V)) → is_some (key_to_sweep ts h) ≡ to_sweep ts h
  is_swept None = refl
  is_swept (Some v) = go (is_past ts v.end)
    where
      go : (b : Bool) → is_some (cond b (Some v.key) None) ≡ b
      go true = refl
      go false = refl

  -- the place i stands as it was
  entry_here : (vs : List (Entry (Version K V))) (i : ℕ) → entry (swept_below i vs) i ≡ entry vs i
  entry_here [] zero = refl
  entry_here [] (suc i) = refl
  entry_here (x ∷ vs) zero = refl
  entry_here (x ∷ vs) (suc i) = entry_here vs i

  pub entry_still : (vs ys : List (Entry (Version K V))) (i : ℕ) → ys ≡ swept_below i vs → entry ys i ≡ entry vs i
  entry_still vs ys i inv = ap (λ us. entry us i) inv ∙ entry_here vs i

  freed_first : (x : Entry (Version K V)) (vs : List (Entry (Version K V))) → freed_at 0 (key_to_sweep ts x.held) (x ∷ vs) ≡ swept_entry ts x ∷ vs
  freed_first x vs = go x.held
    where
      by : (k : K) (b : Bool) → freed_at 0 (cond b (Some k) None) (x ∷ vs) ≡ cond b emptied x ∷ vs
      by k true = refl
      by k false = refl

      go : (h : Option (Version K V)) → freed_at 0 (key_to_sweep ts h) (x ∷ vs) ≡ cond (to_sweep ts h) emptied x ∷ vs
      go None = refl
      go (Some v) = by v.key (is_past ts v.end)

  freed_later : (i : ℕ) (k : Option K) (x : Entry (Version K V)) (vs : List (Entry (Version K V))) → freed_at (suc i) k (x ∷ vs) ≡ x ∷ freed_at i k vs
  freed_later i None x vs = refl
  freed_later i (Some k) x vs = refl

  freed_next : (vs : List (Entry (Version K V))) (i : ℕ) → i < length vs → freed_at i (key_to_sweep ts (entry vs i)) (swept_below i vs) ≡ swept_below (suc i) vs
  freed_next [] i h = absurd (not-suc-le-zero h)
  freed_next (x ∷ vs) zero h = freed_first x vs
  freed_next (x ∷ vs) (suc i) h = freed_later i (key_to_sweep ts (entry vs i)) (swept_entry ts x) (swept_below i vs) ∙ ap (λ ys. swept_entry ts x ∷ ys) (freed_next vs i (le_of_suc-le-suc h))

  -- a place more
  pub freed_more : (vs ys zs : List (Entry (Version K V))) (i : ℕ) → i < length vs → ys ≡ swept_below i vs → zs ≡ freed_at i (key_to_sweep ts (entry ys i)) ys → zs ≡ swept_below (i + 1) vs
  freed_more vs ys zs i h inv e =
      e ∙ ap (λ us. freed_at i (key_to_sweep ts (entry us i)) us) inv
      ∙ ap (λ o. freed_at i (key_to_sweep ts o) (swept_below i vs)) (entry_here vs i)
      ∙ freed_next vs i h ∙ ap (λ (n : ℕ). swept_below n vs) (sym (add-one i))

  pub freed_all : (vs ys : List (Entry (Version K V))) (i : ℕ) → length vs ≤ i → ys ≡ swept_below i vs → ys ≡ map (swept_entry ts) vs
  freed_all vs ys i h inv = inv ∙ (λ j. map (swept_entry ts) (take_all i vs h j) ++ drop_all i vs h j) ∙ append-nil (map (swept_entry ts) vs)

  -- ---- how many

  count_next : (vs : List (Entry (Version K V))) (i : ℕ) → i < length vs → count sweeps (take (suc i) vs) ≡ cond (is_some (key_to_sweep ts (entry vs i))) (count sweeps (take i vs) + 1) (count sweeps (take i vs))
  count_next [] i h = absurd (not-suc-le-zero h)
  count_next (x ∷ vs) zero h = ap (λ (b : Bool). cond b 1 0) (sym (is_swept x.held))
  count_next (x ∷ vs) (suc i) h =
      ap (λ (n : ℕ). cond (sweeps x) (n + 1) n) (count_next vs i (le_of_suc-le-suc h))
      ∙ cond_turn (sweeps x) (is_some (key_to_sweep ts (entry vs i))) (count sweeps (take i vs))

  pub count_more : (vs ys : List (Entry (Version K V))) (i n n' : ℕ) (b : Bool) → i < length vs → ys ≡ swept_below i vs → b ≡ is_some (key_to_sweep ts (entry ys i)) → n' ≡ cond b (n + 1) n → n ≡ count sweeps (take i vs) → n ≤ i →
      (n' ≡ count sweeps (take (i + 1) vs)) × (n' ≤ i + 1)
  count_more vs ys i n n' b h inv eb en e le = (
    en ∙ (λ j. cond (told j) (e j + 1) (e j)) ∙ sym (count_next vs i h) ∙ ap (λ (m : ℕ). count sweeps (take m vs)) (sym (add-one i)),
    (let l = cond_le b n i le in omega (arith, l, en)),
  )
    where
      told : b ≡ is_some (key_to_sweep ts (entry vs i))
      told = eb ∙ ap (λ o. is_some (key_to_sweep ts o)) (entry_still vs ys i inv)

  pub count_all : (vs : List (Entry (Version K V))) (i n : ℕ) → length vs ≤ i → n ≡ count sweeps (take i vs) → n ≡ count sweeps vs
  count_all vs i n h e = e ∙ ap (count sweeps) (take_all i vs h)
