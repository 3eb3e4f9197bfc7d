-- Who is dragged along by an abort: the marks close up; what becomes of the marked. Assumes nothing.
use Rattle.std.proofs.Common.{◌≡◌, ℕ, zero, suc, ◌+◌, ◌<◌, ◌≤◌, Bool, true, false, cond, ◌&&◌, ◌||◌, eqb, ◌⊎◌, List, [], ◌∷◌, map, length, get_or, is_some, Some, None, sym, refl, ap, ◌∙◌, subst, inl, inr, ⊎_elim, arith}
use Rattle.std.proofs.lemmas.Bool.{false≢true, cases_eq, eqb-true, eq-eqb, ne_eqb, and_from, and_left, and_right, or_left, or_right, or_from}
use Rattle.std.proofs.lemmas.List.{length-map, get_or-map}
use Rattle.std.proofs.lemmas.List.FromFn.{length-map-range_with_len, fill_by_all}
use Rattle.std.specs.List.{range_with_len}
use Rattle.std.specs.Option.{option_map}
use Rattle.seeing.specs.declared.Transaction.{Transaction}
use Rattle.seeing.specs.Slots.{Slots, find}
use Rattle.rules.specs.Lists.{count, some_below}
use Rattle.rules.specs.Aborting.{is_named, meets, waits_on, spread, spread_for, named_marks, dragged, abort_one, doom, after_abort, doom_marked}
use Rattle.rules.proofs.Relation.{mark_at, Tidy, Single, stored}
use Rattle.rules.proofs.Slots.{some_none, some_injective, Alike}
use Rattle.rules.proofs.Marks.{mark_stored, none_count}

-- two lists of one length, item by item
module _ {A B C : Type 0} (f : A → B → C) where
  abbrev together : List A → List B → List C
  together [] ys = []
  together (x ∷ xs) [] = []
  together (x ∷ xs) (y ∷ ys) = f x y ∷ together xs ys

counting_on : {X : Type 0} (g : ℕ → X) (a n : ℕ) → map g (range_with_len (suc a) n) ≡ map (λ i. g (suc i)) (range_with_len a n)
counting_on g a zero = refl
counting_on g a (suc n) = let q : suc a + 1 ≡ suc (a + 1) = omega arith in ap (λ k. g (suc a) ∷ map g (range_with_len k n)) q ∙ ap (λ r. g (suc a) ∷ r) (counting_on g (a + 1) n)

by_place : {A B C : Type 0} (f : A → B → C) (d : A) (e : B) (n : ℕ) (xs : List A) (ys : List B) → length xs ≡ n → length ys ≡ n → map (λ i. f (get_or xs i d) (get_or ys i e)) (range_with_len 0 n) ≡ together f xs ys
by_place f d e zero [] ys l k = refl
by_place f d e zero (x ∷ xs) ys l k = absurd (omega arith)
by_place f d e (suc n) [] ys l k = absurd (omega arith)
by_place f d e (suc n) (x ∷ xs) [] l k = absurd (omega arith)
by_place f d e (suc n) (x ∷ xs) (y ∷ ys) l k =
    ap (λ r. f x y ∷ r) (counting_on (λ i. f (get_or (x ∷ xs) i d) (get_or (y ∷ ys) i e)) 0 n ∙ by_place f d e n xs ys (omega arith) (omega arith))

-- a round of marks
abbrev round : Slots → List Bool → List Bool → List Bool
round ts bs marks = together (λ t b. b || waits_on marks t) ts bs

spread_is : (ts : Slots) (bs : List Bool) → length ts ≡ 64 → length bs ≡ 64 → spread ts bs ≡ round ts bs bs
unfolding spread
spread_is ts bs l k = by_place (λ t b. b || waits_on bs t) None false 64 ts bs l k

length_spread : (ts : Slots) (bs : List Bool) → length (spread ts bs) ≡ 64
unfolding spread
length_spread ts bs = length-map-range_with_len (λ i. get_or bs i false || waits_on bs (get_or ts i None)) 0 64

mark_round : (ts : Slots) (bs marks : List Bool) (m : ℕ) → length bs ≡ length ts → mark_at ts (round ts bs marks) m ≡ (mark_at ts bs m || waits_on marks (find ts m))
mark_round [] bs marks m l = refl
mark_round (t ∷ ts) [] marks m l = absurd (omega arith)
mark_round (None ∷ ts) (b ∷ bs) marks m l = mark_round ts bs marks m (omega arith)
mark_round (Some t ∷ ts) (b ∷ bs) marks m l = go (eqb t.name m) (mark_round ts bs marks m (omega arith))
  where
    go : (c : Bool) → mark_at ts (round ts bs marks) m ≡ (mark_at ts bs m || waits_on marks (find ts m)) →
        cond c (b || meets t.waits marks) (mark_at ts (round ts bs marks) m) ≡ (cond c b (mark_at ts bs m) || waits_on marks (cond c (Some t) (find ts m)))
    go true r = refl
    go false r = r

mark_spread : (ts : Slots) (bs : List Bool) (m : ℕ) → length ts ≡ 64 → length bs ≡ 64 → mark_at ts (spread ts bs) m ≡ (mark_at ts bs m || waits_on bs (find ts m))
mark_spread ts bs m l k = ap (λ x. mark_at ts x m) (spread_is ts bs l k) ∙ mark_round ts bs bs m (k ∙ sym l)

abbrev marked : List Bool → ℕ
marked bs = count (λ b. b) bs

-- a round adds a mark, or changes nothing
grew : (ts : Slots) (bs marks : List Bool) → length bs ≡ length ts → (round ts bs marks ≡ bs) ⊎ (marked bs < marked (round ts bs marks))
grew [] [] marks l = inl refl
grew [] (b ∷ bs) marks l = absurd (omega arith)
grew (t ∷ ts) [] marks l = absurd (omega arith)
grew (t ∷ ts) (b ∷ bs) marks l = go b (waits_on marks t) (grew ts bs marks (omega arith))
  where
    go : (b c : Bool) → (round ts bs marks ≡ bs) ⊎ (marked bs < marked (round ts bs marks)) → (((b || c) ∷ round ts bs marks) ≡ (b ∷ bs)) ⊎ (marked (b ∷ bs) < marked ((b || c) ∷ round ts bs marks))
    go true c (inl e) = inl (ap (λ r. true ∷ r) e)
    go true c (inr h) = inr (omega arith)
    go false false (inl e) = inl (ap (λ r. false ∷ r) e)
    go false false (inr h) = inr h
    go false true (inl e) = inr (let q : marked (round ts bs marks) ≡ marked bs = ap marked e in omega arith)
    go false true (inr h) = inr (omega arith)

grows : (ts : Slots) (bs : List Bool) → length ts ≡ 64 → length bs ≡ 64 → (spread ts bs ≡ bs) ⊎ (marked bs < marked (spread ts bs))
grows ts bs l k = ⊎_elim (λ e. inl (spread_is ts bs l k ∙ e)) (λ h. inr (let q : marked (spread ts bs) ≡ marked (round ts bs bs) = ap marked (spread_is ts bs l k) in omega arith)) (grew ts bs bs (k ∙ sym l))

count_most : (bs : List Bool) → marked bs ≤ length bs
count_most [] = omega arith
count_most (true ∷ bs) = let h = count_most bs in omega arith
count_most (false ∷ bs) = let h = count_most bs in omega arith

length_for : (k : ℕ) (ts : Slots) (bs : List Bool) → length bs ≡ 64 → length (spread_for k ts bs) ≡ 64
length_for zero ts bs l = l
length_for (suc k) ts bs l = length_spread ts (spread_for k ts bs)

-- a round that adds none is the last
rounds : (k : ℕ) (ts : Slots) (bs : List Bool) → length ts ≡ 64 → length bs ≡ 64 → (spread ts (spread_for k ts bs) ≡ spread_for k ts bs) ⊎ (k ≤ marked (spread_for k ts bs))
rounds zero ts bs l h = inr (omega arith)
rounds (suc k) ts bs l h = go (rounds k ts bs l h)
  where
    go : (spread ts (spread_for k ts bs) ≡ spread_for k ts bs) ⊎ (k ≤ marked (spread_for k ts bs)) → (spread ts (spread ts (spread_for k ts bs)) ≡ spread ts (spread_for k ts bs)) ⊎ (suc k ≤ marked (spread ts (spread_for k ts bs)))
    go (inl e) = inl (ap (spread ts) e)
    go (inr g) = ⊎_elim (λ e. inl (ap (spread ts) e)) (λ m. inr (omega arith)) (grows ts (spread_for k ts bs) l (length_for k ts bs h))

named_is : (ts : Slots) (n : ℕ) → length ts ≡ 64 → named_marks ts n ≡ map (is_named n) ts
unfolding named_marks
named_is ts n l = sym (fill_by_all (λ i. is_named n (get_or ts i None)) (map (is_named n) ts) 64 false (length-map ts (is_named n) ∙ l) (λ k lt. get_or-map (is_named n) ts k None false (omega arith)))

length_named : (ts : Slots) (n : ℕ) → length (named_marks ts n) ≡ 64
unfolding named_marks
length_named ts n = length-map-range_with_len (λ i. is_named n (get_or ts i None)) 0 64

pub length_dragged : (ts : Slots) (n : ℕ) → length ts ≡ 64 → length (dragged ts n) ≡ length ts
unfolding dragged
length_dragged ts n l = length_for 64 ts (named_marks ts n) (length_named ts n) ∙ sym l

shut : (ts : Slots) (n : ℕ) → length ts ≡ 64 → spread ts (dragged ts n) ≡ dragged ts n
unfolding dragged
shut ts n l = go (spread_for 64 ts (named_marks ts n)) (length_for 64 ts (named_marks ts n) (length_named ts n)) (rounds 64 ts (named_marks ts n) l (length_named ts n))
  where
    go : (bs : List Bool) → length bs ≡ 64 → (spread ts bs ≡ bs) ⊎ (64 ≤ marked bs) → spread ts bs ≡ bs
    go bs k (inl e) = e
    go bs k (inr h) = ⊎_elim (λ e. e) (λ g. absurd (let a = count_most (spread ts bs) in let b = length_spread ts bs in omega arith)) (grows ts bs l k)

-- the place of the slot of that name
place : (ts : Slots) (m : ℕ) → stored ts m ≡ true → (i : ℕ) × ((i < length ts) × ((bs : List Bool) → mark_at ts bs m ≡ get_or bs i false))
place [] m e = absurd (false≢true e)
place (None ∷ ts) m e = let z = place ts m e in (suc z.0, (omega (arith, z.1.0), on z.0 z.1.1))
  where
    on : (i : ℕ) → ((bs : List Bool) → mark_at ts bs m ≡ get_or bs i false) → (bs : List Bool) → mark_at (None ∷ ts) bs m ≡ get_or bs (suc i) false
    on i h [] = refl
    on i h (b ∷ bs) = h bs
place (Some t ∷ ts) m e = go (eqb t.name m) refl e (place ts m)
  where
    first : eqb t.name m ≡ true → (bs : List Bool) → mark_at (Some t ∷ ts) bs m ≡ get_or bs 0 false
    first q [] = refl
    first q (b ∷ bs) = ap (λ c. cond c b (mark_at ts bs m)) q

    on : eqb t.name m ≡ false → (i : ℕ) → ((bs : List Bool) → mark_at ts bs m ≡ get_or bs i false) → (bs : List Bool) → mark_at (Some t ∷ ts) bs m ≡ get_or bs (suc i) false
    on q i h [] = refl
    on q i h (b ∷ bs) = ap (λ c. cond c b (mark_at ts bs m)) q ∙ h bs

    go : (c : Bool) → eqb t.name m ≡ c → is_some (cond c (Some t) (find ts m)) ≡ true → (stored ts m ≡ true → (i : ℕ) × ((i < length ts) × ((bs : List Bool) → mark_at ts bs m ≡ get_or bs i false))) →
        (i : ℕ) × ((i < suc (length ts)) × ((bs : List Bool) → mark_at (Some t ∷ ts) bs m ≡ get_or bs i false))
    go true q e r = (0, (omega arith, first q))
    go false q e r = let z = r e in (suc z.0, (omega (arith, z.1.0), on q z.0 z.1.1))

below_from : (f : ℕ → Bool) (n i : ℕ) → i < n → f i ≡ true → some_below f n ≡ true
below_from f zero i lt e = absurd (omega arith)
below_from f (suc n) i lt e = ⊎_elim (λ q. or_right (some_below f n) (f n) (ap f (sym q) ∙ e)) (λ d. or_left (some_below f n) (f n) (below_from f n i (let a = d in omega arith) e)) (cases_eq i n)

below_none : (f : ℕ → Bool) (n : ℕ) → ((i : ℕ) → f i ≡ false) → some_below f n ≡ false
below_none f zero h = refl
below_none f (suc n) h = or_from (some_below f n) (f n) (below_none f n h) (h n)

-- a slot marked on both sides
meets_from : (ts : Slots) (xs ys : List Bool) (m : ℕ) → length ts ≡ 64 → mark_at ts xs m ≡ true → mark_at ts ys m ≡ true → meets xs ys ≡ true
unfolding meets
meets_from ts xs ys m l e q =
    let z = place ts m (mark_stored ts xs m e) in
    below_from (λ i. get_or xs i false && get_or ys i false) 64 z.0 (omega (arith, z.1.0)) (and_from _ _ (sym (z.1.1 xs) ∙ e) (sym (z.1.1 ys) ∙ q))

meets_none : (xs ys : List Bool) → marked xs ≡ 0 → meets xs ys ≡ false
unfolding meets
meets_none xs ys e = below_none (λ i. get_or xs i false && get_or ys i false) 64 (λ i. and_left (get_or xs i false) (get_or ys i false) (unmarked xs i e))
  where
    unmarked : (xs : List Bool) (i : ℕ) → marked xs ≡ 0 → get_or xs i false ≡ false
    unmarked [] i e = refl
    unmarked (true ∷ xs) i e = absurd (omega arith)
    unmarked (false ∷ xs) zero e = refl
    unmarked (false ∷ xs) (suc i) e = unmarked xs i e

-- whoever waits on one that is dragged is dragged
pub dragged_closed : (ts : Slots) (n m x : ℕ) (u : Transaction) → length ts ≡ 64 → find ts m ≡ Some u → mark_at ts u.waits x ≡ true → mark_at ts (dragged ts n) x ≡ true → mark_at ts (dragged ts n) m ≡ true
dragged_closed ts n m x u l e w q =
    ap (λ bs. mark_at ts bs m) (sym (shut ts n l)) ∙ mark_spread ts (dragged ts n) m l (length_dragged ts n l ∙ l)
    ∙ or_right (mark_at ts (dragged ts n) m) (waits_on (dragged ts n) (find ts m)) (ap (waits_on (dragged ts n)) e ∙ meets_from ts u.waits (dragged ts n) x l w q)

mark_named : (ts : Slots) (n m : ℕ) → mark_at ts (map (is_named n) ts) m ≡ (stored ts m && eqb m n)
mark_named [] n m = refl
mark_named (None ∷ ts) n m = mark_named ts n m
mark_named (Some t ∷ ts) n m = go (eqb t.name m) refl (mark_named ts n m)
  where
    go : (c : Bool) → eqb t.name m ≡ c → mark_at ts (map (is_named n) ts) m ≡ (stored ts m && eqb m n) →
        cond c (eqb t.name n) (mark_at ts (map (is_named n) ts) m) ≡ (is_some (cond c (Some t) (find ts m)) && eqb m n)
    go true e r = ap (λ x. eqb x n) (eqb-true t.name m e)
    go false e r = r

stays_marked : (k : ℕ) (ts : Slots) (bs : List Bool) (m : ℕ) → length ts ≡ 64 → length bs ≡ 64 → mark_at ts bs m ≡ true → mark_at ts (spread_for k ts bs) m ≡ true
stays_marked zero ts bs m l h e = e
stays_marked (suc k) ts bs m l h e = mark_spread ts (spread_for k ts bs) m l (length_for k ts bs h) ∙ or_left (mark_at ts (spread_for k ts bs) m) _ (stays_marked k ts bs m l h e)

pub dragged_self : (ts : Slots) (n : ℕ) (u : Transaction) → length ts ≡ 64 → find ts n ≡ Some u → mark_at ts (dragged ts n) n ≡ true
unfolding dragged
dragged_self ts n u l e =
    stays_marked 64 ts (named_marks ts n) n l (length_named ts n)
    (ap (λ bs. mark_at ts bs n) (named_is ts n l) ∙ mark_named ts n n ∙ and_from (stored ts n) (eqb n n) (ap (λ o. is_some o) e) (eq-eqb n n refl))

never_marked : (k : ℕ) (ts : Slots) (bs : List Bool) (m : ℕ) (u : Transaction) → length ts ≡ 64 → length bs ≡ 64 → find ts m ≡ Some u → marked u.waits ≡ 0 → mark_at ts bs m ≡ false → mark_at ts (spread_for k ts bs) m ≡ false
never_marked zero ts bs m u l h e z q = q
never_marked (suc k) ts bs m u l h e z q =
    mark_spread ts (spread_for k ts bs) m l (length_for k ts bs h)
    ∙ or_from (mark_at ts (spread_for k ts bs) m) (waits_on (spread_for k ts bs) (find ts m)) (never_marked k ts bs m u l h e z q) (ap (waits_on (spread_for k ts bs)) e ∙ meets_none u.waits (spread_for k ts bs) z)

-- one that waits on nobody is not dragged along
pub dragged_only : (ts : Slots) (n m : ℕ) (u : Transaction) → length ts ≡ 64 → Single ts → find ts m ≡ Some u → Tidy ts u.waits → ((x : ℕ) → mark_at ts u.waits x ≡ false) → (m ≡ n → ⊥) → mark_at ts (dragged ts n) m ≡ false
unfolding dragged
dragged_only ts n m u l s e d z apart =
    never_marked 64 ts (named_marks ts n) m u l (length_named ts n) e (none_count ts u.waits s d z)
    (ap (λ bs. mark_at ts bs m) (named_is ts n l) ∙ mark_named ts n m ∙ and_right (stored ts m) (eqb m n) (ne_eqb m n apart))

-- what becomes of the marked
abbrev doomed : ℕ → Slots → List Bool → Slots
doomed n ts bs = together (λ t b. after_abort n b t) ts bs

doom_is : (n : ℕ) (ts : Slots) (bs : List Bool) → length ts ≡ 64 → length bs ≡ length ts → doom_marked n ts bs ≡ doomed n ts bs
unfolding doom_marked
doom_is n ts bs l k = by_place (λ t b. after_abort n b t) None false 64 ts bs l (k ∙ l)

alike_doomed : (n : ℕ) (ts : Slots) (bs : List Bool) → length bs ≡ length ts → Alike ts (doomed n ts bs)
alike_doomed n [] bs l = tt
alike_doomed n (t ∷ ts) [] l = absurd (omega arith)
alike_doomed n (None ∷ ts) (b ∷ bs) l = alike_doomed n ts bs (omega arith)
alike_doomed n (Some t ∷ ts) (b ∷ bs) l = (name (eqb t.name n) b, alike_doomed n ts bs (omega arith))
  where
    name : (c b : Bool) → t.name ≡ (cond c (abort_one t) (cond b (doom t) t)).name
    name true b = refl
    name false true = refl
    name false false = refl

same_doomed : (n : ℕ) (ts : Slots) (bs : List Bool) (u : Transaction) → length bs ≡ length ts → find ts n ≡ Some u → find (doomed n ts bs) n ≡ Some (abort_one u)
same_doomed n [] bs u l e = absurd (some_none (sym e))
same_doomed n (t ∷ ts) [] u l e = absurd (omega arith)
same_doomed n (None ∷ ts) (b ∷ bs) u l e = same_doomed n ts bs u (omega arith) e
same_doomed n (Some t ∷ ts) (b ∷ bs) u l e = go (eqb t.name n) refl e (same_doomed n ts bs u (omega arith))
  where
    go : (c : Bool) → eqb t.name n ≡ c → cond c (Some t) (find ts n) ≡ Some u → (find ts n ≡ Some u → find (doomed n ts bs) n ≡ Some (abort_one u)) →
        find (Some (cond c (abort_one t) (cond b (doom t) t)) ∷ doomed n ts bs) n ≡ Some (abort_one u)
    go true q e r = ap (λ c. cond c (Some (abort_one t)) (find (doomed n ts bs) n)) q ∙ ap (λ v. Some (abort_one v)) (some_injective e)
    go false q e r = ap (λ c. cond c (Some (cond b (doom t) t)) (find (doomed n ts bs) n)) (named b ∙ q) ∙ r e
      where
        named : (b : Bool) → eqb (cond b (doom t) t).name n ≡ eqb t.name n
        named true = refl
        named false = refl

other_doomed : (n : ℕ) (ts : Slots) (bs : List Bool) (m : ℕ) → length bs ≡ length ts → (m ≡ n → ⊥) → find (doomed n ts bs) m ≡ option_map (λ t. cond (mark_at ts bs m) (doom t) t) (find ts m)
other_doomed n [] bs m l d = refl
other_doomed n (t ∷ ts) [] m l d = absurd (omega arith)
other_doomed n (None ∷ ts) (b ∷ bs) m l d = other_doomed n ts bs m (omega arith) d
other_doomed n (Some t ∷ ts) (b ∷ bs) m l d = go (eqb t.name n) (eqb t.name m) refl refl (other_doomed n ts bs m (omega arith) d)
  where
    go : (c a : Bool) → eqb t.name n ≡ c → eqb t.name m ≡ a → find (doomed n ts bs) m ≡ option_map (λ t. cond (mark_at ts bs m) (doom t) t) (find ts m) →
        find (Some (cond c (abort_one t) (cond b (doom t) t)) ∷ doomed n ts bs) m ≡ option_map (λ t. cond (cond a b (mark_at ts bs m)) (doom t) t) (cond a (Some t) (find ts m))
    go true true p q r = absurd (d (sym (eqb-true t.name m q) ∙ eqb-true t.name n p))
    go true false p q r = ap (λ c. cond c (Some (abort_one t)) (find (doomed n ts bs) m)) q ∙ r
    go false a p q r = ap (λ c. cond c (Some (cond b (doom t) t)) (find (doomed n ts bs) m)) (named b ∙ q) ∙ at a r
      where
        named : (b : Bool) → eqb (cond b (doom t) t).name m ≡ eqb t.name m
        named true = refl
        named false = refl

        at : (a : Bool) → find (doomed n ts bs) m ≡ option_map (λ t. cond (mark_at ts bs m) (doom t) t) (find ts m) →
            cond a (Some (cond b (doom t) t)) (find (doomed n ts bs) m) ≡ option_map (λ t. cond (cond a b (mark_at ts bs m)) (doom t) t) (cond a (Some t) (find ts m))
        at true r = refl
        at false r = r

module _ (n : ℕ) (ts : Slots) (bs : List Bool) (full : length ts ≡ 64) (len : length bs ≡ length ts) where
  pub alike_doom : Alike ts (doom_marked n ts bs)
  alike_doom = subst (Alike ts) (sym (doom_is n ts bs full len)) (alike_doomed n ts bs len)

  pub find_doom_same : (u : Transaction) → find ts n ≡ Some u → find (doom_marked n ts bs) n ≡ Some (abort_one u)
  find_doom_same u e = ap (λ us. find us n) (doom_is n ts bs full len) ∙ same_doomed n ts bs u len e

  pub find_doom_other : (m : ℕ) → (m ≡ n → ⊥) → find (doom_marked n ts bs) m ≡ option_map (λ t. cond (mark_at ts bs m) (doom t) t) (find ts m)
  find_doom_other m d = ap (λ us. find us m) (doom_is n ts bs full len) ∙ other_doomed n ts bs m len d
