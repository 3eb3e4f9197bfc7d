-- Which marks the slots have, as slots and marks change. Assumes nothing.
use Rattle.std.proofs.Common.{◌≡◌, ℕ, zero, suc, ◌+◌, Bool, true, false, cond, not, ◌&&◌, ◌||◌, eqb, List, [], ◌∷◌, ◌++◌, map, length, set, replicate, is_some, Some, None, Option, sym, refl, ap, ◌∙◌, subst, ⊎_elim, arith}
use Rattle.std.proofs.lemmas.Bool.{false≢true, true≢false, cases_Bool, eqb-true, eqb-false, eq-eqb, ne_eqb, and_right, or_right}
use Rattle.std.specs.Option.{option_map, option_to_list}
use Rattle.seeing.specs.declared.Transaction.{Transaction}
use Rattle.seeing.specs.Slots.{Slots, find, found}
use Rattle.seeing.specs.Seeing.{waits_for}
use Rattle.rules.specs.Lists.{count, concat_map, any}
use Rattle.rules.specs.Slots.{with_waits, seat, unseat, mark, release}
use Rattle.rules.specs.Reaching.{Met, waits_after}
use Rattle.rules.proofs.Relation.{mark_at, Tidy, Single, stored}
use Rattle.rules.proofs.Slots.{some_none, Alike}

abbrev pub member : ℕ → List ℕ → Bool
member n ns = any (eqb n) ns

-- the marks by slot, and besides them those of the ones named
abbrev pub marked_too : Slots → List ℕ → List Bool → List Bool
marked_too ts [] ws = ws
marked_too ts (m ∷ names) ws = marked_too ts names (mark ts (Some m) ws)

-- the marks by slot, but for that of the one named
abbrev pub unmarked : Slots → ℕ → List Bool → List Bool
unmarked ts n ws = elim (found ts n 0) [ None ↦ ws | Some x ↦ set ws x.0 false ]

pub mark_alike : (ts us : Slots) (bs : List Bool) (m : ℕ) → Alike ts us → mark_at ts bs m ≡ mark_at us bs m
mark_alike [] [] bs m h = refl
mark_alike [] (u ∷ us) bs m h = absurd h
mark_alike (t ∷ ts) [] bs m h = absurd h
mark_alike (None ∷ ts) (None ∷ us) [] m h = refl
mark_alike (None ∷ ts) (None ∷ us) (b ∷ bs) m h = mark_alike ts us bs m h
mark_alike (None ∷ ts) (Some u ∷ us) bs m h = absurd h
mark_alike (Some t ∷ ts) (None ∷ us) bs m h = absurd h
mark_alike (Some t ∷ ts) (Some u ∷ us) [] m h = refl
mark_alike (Some t ∷ ts) (Some u ∷ us) (b ∷ bs) m h =
    ap (λ n. cond (eqb n m) b (mark_at ts bs m)) h.0 ∙ ap (λ r. cond (eqb u.name m) b r) (mark_alike ts us bs m h.1)

pub tidy_alike : (ts us : Slots) (bs : List Bool) → Alike ts us → Tidy ts bs → Tidy us bs
tidy_alike [] [] bs h t = t
tidy_alike [] (u ∷ us) bs h t = absurd h
tidy_alike (t ∷ ts) [] bs h d = absurd h
tidy_alike (None ∷ ts) (None ∷ us) [] h t = t
tidy_alike (None ∷ ts) (None ∷ us) (b ∷ bs) h t = (t.0, tidy_alike ts us bs h t.1)
tidy_alike (None ∷ ts) (Some u ∷ us) bs h t = absurd h
tidy_alike (Some t ∷ ts) (None ∷ us) bs h d = absurd h
tidy_alike (Some t ∷ ts) (Some u ∷ us) [] h d = d
tidy_alike (Some t ∷ ts) (Some u ∷ us) (b ∷ bs) h d = tidy_alike ts us bs h.1 d

-- a mark is at a slot that is taken
pub mark_stored : (ts : Slots) (bs : List Bool) (m : ℕ) → mark_at ts bs m ≡ true → stored ts m ≡ true
mark_stored [] bs m e = e
mark_stored (t ∷ ts) [] m e = absurd (false≢true e)
mark_stored (None ∷ ts) (b ∷ bs) m e = mark_stored ts bs m e
mark_stored (Some t ∷ ts) (b ∷ bs) m e = go (eqb t.name m) e (mark_stored ts bs m)
  where
    go : (c : Bool) → cond c b (mark_at ts bs m) ≡ true → (mark_at ts bs m ≡ true → stored ts m ≡ true) → is_some (cond c (Some t) (find ts m)) ≡ true
    go true e r = refl
    go false e r = r e

pub mark_unknown : (ts : Slots) (bs : List Bool) (m : ℕ) → find ts m ≡ None → mark_at ts bs m ≡ false
mark_unknown ts bs m e = ⊎_elim (λ h. absurd (true≢false (sym (mark_stored ts bs m h) ∙ ap (λ o. is_some o) e))) (λ h. h) (cases_Bool (mark_at ts bs m))

-- one more in the first free slot
module _ (t : Transaction) where
  pub mark_seat : (ts : Slots) (bs : List Bool) (m : ℕ) → find ts t.name ≡ None → Tidy ts bs → mark_at (seat t ts) bs m ≡ mark_at ts bs m
  mark_seat [] bs m q d = refl
  mark_seat (None ∷ ts) [] m q d = refl
  mark_seat (None ∷ ts) (b ∷ bs) m q d = go (eqb t.name m) refl
    where
      go : (c : Bool) → eqb t.name m ≡ c → cond c b (mark_at ts bs m) ≡ mark_at ts bs m
      go true e = d.0 ∙ sym (mark_unknown ts bs m (subst (λ x. find ts x ≡ None) (eqb-true t.name m e) q))
      go false e = refl
  mark_seat (Some u ∷ ts) [] m q d = refl
  mark_seat (Some u ∷ ts) (b ∷ bs) m q d = ap (λ r. cond (eqb u.name m) b r) (mark_seat ts bs m (rest (eqb u.name t.name) q) d)
    where
      rest : (c : Bool) → cond c (Some u) (find ts t.name) ≡ None → find ts t.name ≡ None
      rest true q = absurd (some_none q)
      rest false q = q

  pub tidy_seat : (ts : Slots) (bs : List Bool) → Tidy ts bs → Tidy (seat t ts) bs
  tidy_seat [] bs d = d
  tidy_seat (None ∷ ts) [] d = d
  tidy_seat (None ∷ ts) (b ∷ bs) d = d.1
  tidy_seat (Some u ∷ ts) [] d = d
  tidy_seat (Some u ∷ ts) (b ∷ bs) d = tidy_seat ts bs d

-- one less
module _ (n : ℕ) where
  pub mark_unseat : (ts : Slots) (bs : List Bool) (m : ℕ) → Single ts → mark_at ts bs n ≡ false → mark_at (unseat n ts) bs m ≡ mark_at ts bs m
  mark_unseat [] bs m s e = refl
  mark_unseat (None ∷ ts) [] m s e = refl
  mark_unseat (None ∷ ts) (b ∷ bs) m s e = mark_unseat ts bs m s e
  mark_unseat (Some t ∷ ts) [] m s e = go (eqb t.name n)
    where
      go : (c : Bool) → mark_at (cond c (None ∷ ts) (Some t ∷ unseat n ts)) [] m ≡ false
      go true = refl
      go false = refl
  mark_unseat (Some t ∷ ts) (b ∷ bs) m s e = go (eqb t.name n) refl e (mark_unseat ts bs m s.1)
    where
      go : (c : Bool) → eqb t.name n ≡ c → cond c b (mark_at ts bs n) ≡ false → (mark_at ts bs n ≡ false → mark_at (unseat n ts) bs m ≡ mark_at ts bs m) →
          mark_at (cond c (None ∷ ts) (Some t ∷ unseat n ts)) (b ∷ bs) m ≡ cond (eqb t.name m) b (mark_at ts bs m)
      go true q e r = at (eqb t.name m) refl
        where
          at : (c : Bool) → eqb t.name m ≡ c → mark_at ts bs m ≡ cond c b (mark_at ts bs m)
          at true z = mark_unknown ts bs m (subst (λ x. find ts x ≡ None) (eqb-true t.name m z) s.0) ∙ sym e
          at false z = refl
      go false q e r = ap (λ x. cond (eqb t.name m) b x) (r e)

  pub tidy_unseat : (ts : Slots) (bs : List Bool) → mark_at ts bs n ≡ false → Tidy ts bs → Tidy (unseat n ts) bs
  tidy_unseat [] bs e d = d
  tidy_unseat (None ∷ ts) [] e d = d
  tidy_unseat (None ∷ ts) (b ∷ bs) e d = (d.0, tidy_unseat ts bs e d.1)
  tidy_unseat (Some t ∷ ts) [] e d = absurd d
  tidy_unseat (Some t ∷ ts) (b ∷ bs) e d = go (eqb t.name n) e (tidy_unseat ts bs)
    where
      go : (c : Bool) → cond c b (mark_at ts bs n) ≡ false → (mark_at ts bs n ≡ false → Tidy ts bs → Tidy (unseat n ts) bs) → Tidy (cond c (None ∷ ts) (Some t ∷ unseat n ts)) (b ∷ bs)
      go true e r = (e, d)
      go false e r = r e d

-- the mark of the first of that name becomes v
abbrev by_name : Slots → ℕ → Bool → List Bool → List Bool
by_name [] n v bs = bs
by_name (t ∷ ts) n v [] = []
by_name (None ∷ ts) n v (b ∷ bs) = b ∷ by_name ts n v bs
by_name (Some t ∷ ts) n v (b ∷ bs) = cond (eqb t.name n) (v ∷ bs) (b ∷ by_name ts n v bs)

found_further : (ts : Slots) (n i : ℕ) → found ts n (i + 1) ≡ option_map (λ x. (x.0 + 1, x.1)) (found ts n i)
found_further [] n i = refl
found_further (None ∷ ts) n i = found_further ts n (i + 1)
found_further (Some t ∷ ts) n i = go (eqb t.name n) (found_further ts n (i + 1))
  where
    go : (c : Bool) → found ts n (i + 1 + 1) ≡ option_map (λ x. (x.0 + 1, x.1)) (found ts n (i + 1)) →
        cond c (Some (i + 1, t)) (found ts n (i + 1 + 1)) ≡ option_map (λ x. (x.0 + 1, x.1)) (cond c (Some (i, t)) (found ts n (i + 1)))
    go true r = refl
    go false r = r

abbrev set_mark : Option (ℕ × Transaction) → Bool → List Bool → List Bool
set_mark None v bs = bs
set_mark (Some x) v bs = set bs x.0 v

set_further : (b v : Bool) (bs : List Bool) (o : Option (ℕ × Transaction)) → set_mark (option_map (λ x. (x.0 + 1, x.1)) o) v (b ∷ bs) ≡ b ∷ set_mark o v bs
set_further b v bs None = refl
set_further b v bs (Some x) = let q : x.0 + 1 ≡ suc x.0 = omega arith in ap (λ k. set (b ∷ bs) k v) q

set_found : (ts : Slots) (n : ℕ) (v : Bool) (bs : List Bool) → set_mark (found ts n 0) v bs ≡ by_name ts n v bs
set_found [] n v bs = refl
set_found (t ∷ ts) n v [] = none (found (t ∷ ts) n 0)
  where
    none : (o : Option (ℕ × Transaction)) → set_mark o v [] ≡ []
    none None = refl
    none (Some x) = refl
set_found (None ∷ ts) n v (b ∷ bs) = ap (λ o. set_mark o v (b ∷ bs)) (found_further ts n 0) ∙ set_further b v bs (found ts n 0) ∙ ap (λ r. b ∷ r) (set_found ts n v bs)
set_found (Some t ∷ ts) n v (b ∷ bs) = go (eqb t.name n) (set_found ts n v bs)
  where
    go : (c : Bool) → set_mark (found ts n 0) v bs ≡ by_name ts n v bs → set_mark (cond c (Some (0, t)) (found ts n 1)) v (b ∷ bs) ≡ cond c (v ∷ bs) (b ∷ by_name ts n v bs)
    go true r = refl
    go false r = ap (λ o. set_mark o v (b ∷ bs)) (found_further ts n 0) ∙ set_further b v bs (found ts n 0) ∙ ap (λ l. b ∷ l) r

mark_is : (ts : Slots) (n : ℕ) (bs : List Bool) → mark ts (Some n) bs ≡ by_name ts n true bs
mark_is ts n bs = go (found ts n 0) ∙ set_found ts n true bs
  where
    go : (o : Option (ℕ × Transaction)) → elim o [ None ↦ bs | Some x ↦ set bs x.0 true ] ≡ set_mark o true bs
    go None = refl
    go (Some x) = refl

unmarked_is : (ts : Slots) (n : ℕ) (bs : List Bool) → unmarked ts n bs ≡ by_name ts n false bs
unmarked_is ts n bs = go (found ts n 0) ∙ set_found ts n false bs
  where
    go : (o : Option (ℕ × Transaction)) → elim o [ None ↦ bs | Some x ↦ set bs x.0 false ] ≡ set_mark o false bs
    go None = refl
    go (Some x) = refl

tidy_by_name : (ts : Slots) (n : ℕ) (v : Bool) (bs : List Bool) → Tidy ts bs → Tidy ts (by_name ts n v bs)
tidy_by_name [] n v bs d = d
tidy_by_name (t ∷ ts) n v [] d = absurd d
tidy_by_name (None ∷ ts) n v (b ∷ bs) d = (d.0, tidy_by_name ts n v bs d.1)
tidy_by_name (Some t ∷ ts) n v (b ∷ bs) d = go (eqb t.name n) (tidy_by_name ts n v bs d)
  where
    go : (c : Bool) → Tidy ts (by_name ts n v bs) → Tidy (Some t ∷ ts) (cond c (v ∷ bs) (b ∷ by_name ts n v bs))
    go true r = d
    go false r = r

-- one taken out of the marks
mark_out : (ts : Slots) (n : ℕ) (bs : List Bool) (m : ℕ) → mark_at ts (by_name ts n false bs) m ≡ (mark_at ts bs m && not (eqb m n))
mark_out [] n bs m = refl
mark_out (t ∷ ts) n [] m = refl
mark_out (None ∷ ts) n (b ∷ bs) m = mark_out ts n bs m
mark_out (Some t ∷ ts) n (b ∷ bs) m = go (eqb t.name n) (eqb t.name m) refl refl (mark_out ts n bs m)
  where
    kept : (a : Bool) → (m ≡ n → ⊥) → a ≡ (a && not (eqb m n))
    kept a d = at a ∙ ap (λ c. a && not c) (sym (ne_eqb m n d))
      where
        at : (a : Bool) → a ≡ (a && true)
        at true = refl
        at false = refl

    go : (c a : Bool) → eqb t.name n ≡ c → eqb t.name m ≡ a → mark_at ts (by_name ts n false bs) m ≡ (mark_at ts bs m && not (eqb m n)) →
        mark_at (Some t ∷ ts) (cond c (false ∷ bs) (b ∷ by_name ts n false bs)) m ≡ (cond a b (mark_at ts bs m) && not (eqb m n))
    go true true p q r = ap (λ c. cond c false (mark_at ts bs m)) q ∙ sym (and_right b (not (eqb m n)) (ap not (eq-eqb m n (sym (eqb-true t.name m q) ∙ eqb-true t.name n p))))
    go true false p q r = ap (λ c. cond c false (mark_at ts bs m)) q ∙ kept (mark_at ts bs m) (λ e. eqb-false t.name m q (eqb-true t.name n p ∙ sym e))
    go false true p q r = ap (λ c. cond c b (mark_at ts (by_name ts n false bs) m)) q ∙ kept b (λ e. eqb-false t.name n p (eqb-true t.name m q ∙ e))
    go false false p q r = ap (λ c. cond c b (mark_at ts (by_name ts n false bs) m)) q ∙ r

pub mark_unmarked : (ts : Slots) (n : ℕ) (bs : List Bool) (m : ℕ) → mark_at ts (unmarked ts n bs) m ≡ (mark_at ts bs m && not (eqb m n))
mark_unmarked ts n bs m = ap (λ l. mark_at ts l m) (unmarked_is ts n bs) ∙ mark_out ts n bs m

pub tidy_unmarked : (ts : Slots) (n : ℕ) (bs : List Bool) → Tidy ts bs → Tidy ts (unmarked ts n bs)
tidy_unmarked ts n bs d = subst (Tidy ts) (sym (unmarked_is ts n bs)) (tidy_by_name ts n false bs d)

-- one put into the marks
mark_in : (ts : Slots) (n : ℕ) (bs : List Bool) (m : ℕ) → Tidy ts bs → mark_at ts (by_name ts n true bs) m ≡ (mark_at ts bs m || (stored ts m && eqb m n))
mark_in [] n bs m d = refl
mark_in (t ∷ ts) n [] m d = absurd d
mark_in (None ∷ ts) n (b ∷ bs) m d = mark_in ts n bs m d.1
mark_in (Some t ∷ ts) n (b ∷ bs) m d = go (eqb t.name n) (eqb t.name m) refl refl (mark_in ts n bs m d)
  where
    kept : (a c : Bool) → (m ≡ n → ⊥) → a ≡ (a || (c && eqb m n))
    kept a c d = at a c ∙ ap (λ e. a || (c && e)) (sym (ne_eqb m n d))
      where
        at : (a c : Bool) → a ≡ (a || (c && false))
        at true c = refl
        at false true = refl
        at false false = refl

    go : (c a : Bool) → eqb t.name n ≡ c → eqb t.name m ≡ a → mark_at ts (by_name ts n true bs) m ≡ (mark_at ts bs m || (stored ts m && eqb m n)) →
        mark_at (Some t ∷ ts) (cond c (true ∷ bs) (b ∷ by_name ts n true bs)) m ≡ (cond a b (mark_at ts bs m) || (is_some (cond a (Some t) (find ts m)) && eqb m n))
    go true true p q r = ap (λ c. cond c true (mark_at ts bs m)) q ∙ sym (or_right b (eqb m n) (eq-eqb m n (sym (eqb-true t.name m q) ∙ eqb-true t.name n p)))
    go true false p q r = ap (λ c. cond c true (mark_at ts bs m)) q ∙ kept (mark_at ts bs m) (stored ts m) (λ e. eqb-false t.name m q (eqb-true t.name n p ∙ sym e))
    go false true p q r = ap (λ c. cond c b (mark_at ts (by_name ts n true bs) m)) q ∙ kept b true (λ e. eqb-false t.name n p (eqb-true t.name m q ∙ e))
    go false false p q r = ap (λ c. cond c b (mark_at ts (by_name ts n true bs) m)) q ∙ r

pub mark_mark : (ts : Slots) (n : ℕ) (bs : List Bool) (m : ℕ) → Tidy ts bs → mark_at ts (mark ts (Some n) bs) m ≡ (mark_at ts bs m || (stored ts m && eqb m n))
mark_mark ts n bs m d = ap (λ l. mark_at ts l m) (mark_is ts n bs) ∙ mark_in ts n bs m d

pub tidy_mark : (ts : Slots) (n : ℕ) (bs : List Bool) → Tidy ts bs → Tidy ts (mark ts (Some n) bs)
tidy_mark ts n bs d = subst (Tidy ts) (sym (mark_is ts n bs)) (tidy_by_name ts n true bs d)

-- several put into the marks
pub mark_marked_too : (ts : Slots) (names : List ℕ) (bs : List Bool) (m : ℕ) → Tidy ts bs → mark_at ts (marked_too ts names bs) m ≡ (mark_at ts bs m || (stored ts m && member m names))
mark_marked_too ts [] bs m d = go (mark_at ts bs m) (stored ts m)
  where
    go : (a b : Bool) → a ≡ (a || (b && false))
    go true b = refl
    go false true = refl
    go false false = refl
mark_marked_too ts (n ∷ names) bs m d =
    mark_marked_too ts names (mark ts (Some n) bs) m (tidy_mark ts n bs d) ∙ ap (λ b. b || (stored ts m && member m names)) (mark_mark ts n bs m d) ∙ go (mark_at ts bs m) (stored ts m) (eqb m n) (member m names)
  where
    go : (a b c e : Bool) → ((a || (b && c)) || (b && e)) ≡ (a || (b && (c || e)))
    go true b c e = refl
    go false true c e = refl
    go false false c e = refl

pub tidy_marked_too : (ts : Slots) (names : List ℕ) (bs : List Bool) → Tidy ts bs → Tidy ts (marked_too ts names bs)
tidy_marked_too ts [] bs d = d
tidy_marked_too ts (n ∷ names) bs d = tidy_marked_too ts names (mark ts (Some n) bs) (tidy_mark ts n bs d)

pub marked_more : (ts : Slots) (xs ys : List ℕ) (bs : List Bool) → marked_too ts (xs ++ ys) bs ≡ marked_too ts ys (marked_too ts xs bs)
marked_more ts [] ys bs = refl
marked_more ts (x ∷ xs) ys bs = marked_more ts xs ys (mark ts (Some x) bs)

pub mark_listed : (ts : Slots) (o : Option ℕ) (bs : List Bool) → mark ts o bs ≡ marked_too ts (option_to_list o) bs
mark_listed ts None bs = refl
mark_listed ts (Some n) bs = refl

-- the waits that a call enters, as names
pub waits_marked : {K V : Type 0} (ts : Slots) (n time : ℕ) (met : List (Met K V)) (bs : List Bool) → waits_after ts n time met bs ≡ marked_too ts (concat_map (λ x. option_to_list (waits_for ts n time x.1)) met) bs
waits_marked ts n time [] bs = refl
waits_marked ts n time (y ∷ ys) bs =
    waits_marked ts n time ys (mark ts (waits_for ts n time y.1) bs)
    ∙ ap (marked_too ts (concat_map (λ x. option_to_list (waits_for ts n time x.1)) ys)) (mark_listed ts (waits_for ts n time y.1) bs)
    ∙ sym (marked_more ts (option_to_list (waits_for ts n time y.1)) (concat_map (λ x. option_to_list (waits_for ts n time x.1)) ys) bs)

-- nobody waits on n any more
pub release_map : (n : ℕ) (ts : Slots) → release n ts ≡ map (option_map (λ t. with_waits (unmarked ts n t.waits) t)) ts
release_map n ts = go (found ts n 0)
  where
    same : (us : Slots) → us ≡ map (option_map (λ t. with_waits t.waits t)) us
    same [] = refl
    same (None ∷ us) = ap (λ r. None ∷ r) (same us)
    same (Some u ∷ us) = ap (λ r. Some u ∷ r) (same us)

    go : (o : Option (ℕ × Transaction)) →
        elim o [ None ↦ ts | Some x ↦ map (option_map (λ t. with_waits (set t.waits x.0 false) t)) ts ] ≡ map (option_map (λ t. with_waits (elim o [ None ↦ t.waits | Some x ↦ set t.waits x.0 false ]) t)) ts
    go None = same ts
    go (Some x) = refl

pub mark_nobody : (ts : Slots) (k m : ℕ) → mark_at ts (replicate k false) m ≡ false
mark_nobody [] k m = refl
mark_nobody (t ∷ ts) zero m = refl
mark_nobody (None ∷ ts) (suc k) m = mark_nobody ts k m
mark_nobody (Some t ∷ ts) (suc k) m = go (eqb t.name m) (mark_nobody ts k m)
  where
    go : (c : Bool) → mark_at ts (replicate k false) m ≡ false → cond c false (mark_at ts (replicate k false) m) ≡ false
    go true r = refl
    go false r = r

pub tidy_nobody : (ts : Slots) → Tidy ts (replicate (length ts) false)
tidy_nobody [] = tt
tidy_nobody (None ∷ ts) = (refl, tidy_nobody ts)
tidy_nobody (Some t ∷ ts) = tidy_nobody ts

-- no mark counted, none there
pub count_none : (ts : Slots) (bs : List Bool) (m : ℕ) → count (λ b. b) bs ≡ 0 → mark_at ts bs m ≡ false
count_none [] bs m e = refl
count_none (t ∷ ts) [] m e = refl
count_none (None ∷ ts) (true ∷ bs) m e = absurd (omega arith)
count_none (None ∷ ts) (false ∷ bs) m e = count_none ts bs m e
count_none (Some t ∷ ts) (true ∷ bs) m e = absurd (omega arith)
count_none (Some t ∷ ts) (false ∷ bs) m e = go (eqb t.name m) (count_none ts bs m e)
  where
    go : (c : Bool) → mark_at ts bs m ≡ false → cond c false (mark_at ts bs m) ≡ false
    go true r = refl
    go false r = r

pub none_count : (ts : Slots) (bs : List Bool) → Single ts → Tidy ts bs → ((m : ℕ) → mark_at ts bs m ≡ false) → count (λ b. b) bs ≡ 0
none_count [] [] s d h = refl
none_count [] (b ∷ bs) s d h = absurd d
none_count (t ∷ ts) [] s d h = absurd d
none_count (None ∷ ts) (true ∷ bs) s d h = absurd (true≢false d.0)
none_count (None ∷ ts) (false ∷ bs) s d h = none_count ts bs s d.1 h
none_count (Some t ∷ ts) (true ∷ bs) s d h = absurd (true≢false (sym (ap (λ c. cond c true (mark_at ts bs t.name)) (eq-eqb t.name t.name refl)) ∙ h t.name))
none_count (Some t ∷ ts) (false ∷ bs) s d h = none_count ts bs s.1 d (λ m. go m (eqb t.name m) refl (h m))
  where
    go : (m : ℕ) (c : Bool) → eqb t.name m ≡ c → cond c false (mark_at ts bs m) ≡ false → mark_at ts bs m ≡ false
    go m true e q = ⊎_elim (λ h. absurd (true≢false (sym (mark_stored ts bs m h) ∙ ap (λ o. is_some o) (subst (λ x. find ts x ≡ None) (eqb-true t.name m e) s.0)))) (λ h. h) (cases_Bool (mark_at ts bs m))
    go m false e q = q
