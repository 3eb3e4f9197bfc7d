-- A scan leaves a position good. Assumes nothing.
use Rattle.std.proofs.Common.{◌≡◌, ℕ, Bool, true, false, cond, not, ◌⊎◌, List, [], ◌∷◌, ◌++◌, length, take, drop, Some, None, Ok, Option, Ordering, Less, sym, refl, ap, ◌∙◌, subst, inl, inr, ⊎_elim}
use Rattle.std.proofs.lemmas.Bool.{false≢true, cases_Bool, and_parts, and_from, both_ways, not-true}
use Rattle.rules.specs.declared.Answer.TheVariants as answer
use Rattle.rules.specs.declared.BookCall.TheVariants as book
use Rattle.rules.specs.declared.Call.TheVariants as call
use Rattle.seeing.specs.declared.Transaction.{Transaction as Sitter}
use Rattle.rules.specs.declared.Noted.TheVariants as noted
use Rattle.rules.specs.declared.Row.{Row}
use Rattle.rules.specs.Keys.{same, within}
use Rattle.keys.specs.Laws.{TotalOrder}
use Rattle.rules.specs.Keys as keys
use Rattle.rules.specs.Index.{covering}
use Rattle.seeing.specs.Slots.{Slots, find}
use Rattle.seeing.specs.Seeing.{visible}
use Rattle.rules.specs.Worlds.{World, Choice, with_rows, Allowed}
use Rattle.rules.specs.Reaching.{Met, waits_after}
use Rattle.seeing.specs.Phases.{is_active}
use Rattle.rules.specs.BookRules.{row_of, same_last, shows, rows_from, conclude, scan_rule}
use Rattle.rules.specs.Runs.{Position}
use Rattle.serial.specs.Lists.{In, All, change}
use Rattle.serial.specs.Machine.{Transaction, State, play, view, below}
use Rattle.serial.proofs.Lists.{All_at, All_to, In_change}
use Rattle.serial.proofs.Kill.{All_in}
use Rattle.rules.proofs.Game.{game, same_true, below_trans, Rising, Rows, RightCall, same_from}
use Rattle.rules.proofs.Tables.{climbing_keep}
use Rattle.rules.proofs.Relation.{Climbing, Inv, Good}
use Rattle.rules.proofs.Slots.{some_injective}
use Rattle.rules.proofs.Checks.{Comes, bind, unless, is_sound}
use Rattle.rules.proofs.Calls.{after, worker}
use Rattle.rules.proofs.Reach.{Meets, all_reached, met_from, met_all}
use Rattle.rules.proofs.Sees.{looks, look_value, look_some, looks_back}
use Rattle.rules.proofs.Concluding.{concluded}
use Rattle.index.specs.Sets.{pair_order}
use Rattle.index.proofs.Pairs.{lt_parts}
use Rattle.std.specs.Ordering.{is_lt}

take_left : {A : Type 0} (xs ys : List A) → take (length xs) (xs ++ ys) ≡ xs
take_left [] [] = refl
take_left [] (y ∷ ys) = refl
take_left (x ∷ xs) ys = ap (λ l. x ∷ l) (take_left xs ys)

module _ {K V : Type 0} (order : K → K → Ordering) (total : TotalOrder order) where
  -- what is met rises by key and then place
  abbrev Mounts : List (Met K V) → Type 0
  Mounts [] = Unit {0}
  Mounts (x ∷ xs) = All (λ y. pair_order order (x.1.key, x.0) (y.1.key, y.0) ≡ Less) xs × Mounts xs

  mounts_from : (xs : List (Met K V)) → Climbing order (change (λ y. (y.1.key, y.0)) xs) → Mounts xs
  mounts_from [] h = tt
  mounts_from (x ∷ xs) h = (All_in _ xs (λ y i. All_at (λ z. pair_order order (x.1.key, x.0) z ≡ Less) (y.1.key, y.0) (change (λ y. (y.1.key, y.0)) xs) (In_change (λ y. (y.1.key, y.0)) y xs i) h.0), mounts_from xs h.1)

  -- the row is that of a version seen
  abbrev Shown : Slots → ℕ → Row K V → List (Met K V) → Type 0
  Shown ts n r xs = (y : Met K V) × (In y xs × ((visible ts n n y.1 ≡ true) × (row_of y.1 ≡ r)))

  row_from : (ts : Slots) (n : ℕ) (o : Option K) (r : Row K V) (xs : List (Met K V)) → In r (rows_from order ts n o xs) → Shown ts n r xs
  row_from ts n o r [] i = absurd i
  row_from ts n o r (x ∷ xs) i = go (shows order ts n o x.1) refl i (row_from ts n (Some x.1.key) r xs) (row_from ts n o r xs)
    where
      more : Shown ts n r xs → Shown ts n r (x ∷ xs)
      more z = (z.0, (inr z.1.0, z.1.1))

      go : (b : Bool) → shows order ts n o x.1 ≡ b → In r (cond b (row_of x.1 ∷ rows_from order ts n (Some x.1.key) xs) (rows_from order ts n o xs)) →
          (In r (rows_from order ts n (Some x.1.key) xs) → Shown ts n r xs) → (In r (rows_from order ts n o xs) → Shown ts n r xs) → Shown ts n r (x ∷ xs)
      go true e (inl q) f g = (x, (inl refl, ((and_parts _ _ e).0, q)))
      go true e (inr j) f g = more (f j)
      go false e j f g = more (g j)

  -- the key has a row, or is that of the row before
  abbrev HasRow : K → Option K → List (Row K V) → Type 0
  HasRow k o rows = (same_last order o k ≡ true) ⊎ ((r : Row K V) × (In r rows × (r.key ≡ k)))

  row_for : (ts : Slots) (n : ℕ) (o : Option K) (y : Met K V) (xs : List (Met K V)) → In y xs → visible ts n n y.1 ≡ true →
      HasRow y.1.key o (rows_from order ts n o xs)
  row_for ts n o y [] i v = absurd i
  row_for ts n o y (x ∷ xs) i v = go (shows order ts n o x.1) refl i (λ j. row_for ts n (Some x.1.key) y xs j v) (λ j. row_for ts n o y xs j v)
    where
      go : (b : Bool) → shows order ts n o x.1 ≡ b → In y (x ∷ xs) → (In y xs → HasRow y.1.key (Some x.1.key) (rows_from order ts n (Some x.1.key) xs)) → (In y xs → HasRow y.1.key o (rows_from order ts n o xs)) →
          HasRow y.1.key o (cond b (row_of x.1 ∷ rows_from order ts n (Some x.1.key) xs) (rows_from order ts n o xs))
      go true e (inl q) f g = inr (row_of x.1, (inl refl, ap (λ z. z.1.key) q))
      go true e (inr j) f g = ⊎_elim
          (λ z. inr (row_of x.1, (inl refl, same_true order total x.1.key y.1.key z)))
          (λ z. inr (z.0, (inr z.1.0, z.1.1))) (f j)
      go false e (inl q) f g = inl (ap (λ z. same_last order o z.1.key) (sym q) ∙ hidden)
        where
          hidden : same_last order o x.1.key ≡ true
          hidden = ⊎_elim (λ z. z) (λ z. absurd (false≢true (sym e ∙ and_from _ _ (ap (λ z. visible ts n n z.1) q ∙ v) (ap not z)))) (cases_Bool (same_last order o x.1.key))
      go false e (inr j) f g = g j

  abbrev After : K → Met K V → Type 0
  After l y = (keys.below order l y.1.key ≡ true) ⊎ (same order l y.1.key ≡ true)

  after_from : (x y : Met K V) → pair_order order (x.1.key, x.0) (y.1.key, y.0) ≡ Less → After x.1.key y
  after_from x y e = ⊎_elim (λ z. inl (ap is_lt z)) (λ z. inr (same_from order total x.1.key y.1.key z.0)) (lt_parts order total (x.1.key, x.0) (y.1.key, y.0) e)

  -- the rows after one of the key l are of higher keys
  rows_above : (ts : Slots) (n : ℕ) (l : K) (xs : List (Met K V)) → Mounts xs → All (After l) xs → All (λ r. keys.below order l r.key ≡ true) (rows_from order ts n (Some l) xs)
  rows_above ts n l [] m h = tt
  rows_above ts n l (x ∷ xs) m h = go (shows order ts n (Some l) x.1) refl h.0
      (rows_above ts n x.1.key xs m.1 (All_to _ _ (λ y e. after_from x y e) xs m.0)) (rows_above ts n l xs m.1 h.1)
    where
      go : (b : Bool) → shows order ts n (Some l) x.1 ≡ b → After l x → All (λ r. keys.below order x.1.key r.key ≡ true) (rows_from order ts n (Some x.1.key) xs) →
          All (λ r. keys.below order l r.key ≡ true) (rows_from order ts n (Some l) xs) →
          All (λ r. keys.below order l r.key ≡ true) (cond b (row_of x.1 ∷ rows_from order ts n (Some x.1.key) xs) (rows_from order ts n (Some l) xs))
      go true e (inl z) f g = (z, All_to _ _ (λ r q. below_trans order total l x.1.key r.key z q) (rows_from order ts n (Some x.1.key) xs) f)
      go true e (inr z) f g = absurd (both_ways _ (not-true _ (and_parts _ _ e).1) z)
      go false e z f g = g

  rising_rows : (ts : Slots) (n : ℕ) (o : Option K) (xs : List (Met K V)) → Mounts xs → Rising order (rows_from order ts n o xs)
  rising_rows ts n o [] m = tt
  rising_rows ts n o (x ∷ xs) m = go (shows order ts n o x.1) (rising_rows ts n (Some x.1.key) xs m.1) (rising_rows ts n o xs m.1)
    where
      go : (b : Bool) → Rising order (rows_from order ts n (Some x.1.key) xs) → Rising order (rows_from order ts n o xs) →
          Rising order (cond b (row_of x.1 ∷ rows_from order ts n (Some x.1.key) xs) (rows_from order ts n o xs))
      go true f g = (rows_above ts n x.1.key xs m.1 (All_to _ _ (λ y e. after_from x y e) xs m.0), f)
      go false f g = g

module _ {K : Type 0} (V : Type 0) (order : K → K → Ordering) (total : TotalOrder order) (p : Position K V) (s : State (game V order total)) (inv : Inv V order total p s) (c : Choice) (ok : Allowed c p.world) where
  abbrev Tx : Type 0
  Tx = Transaction (game V order total)

  abbrev w : World K V
  w = p.world

  abbrev ts : Slots
  ts = p.world.store.slots

  module _ (n : ℕ) (lower upper : K) (u : Sitter) (found : find ts n ≡ Some u) (t : Tx) (i : In t s.active) (q : t.name ≡ n) (met : List (Met K V)) (m : Meets order total w.versions (covering order w.index lower upper) met) where
    abbrev rows : List (Row K V)
    rows = rows_from order ts n None met

    -- what t has
    abbrev has : K → Option V
    has = play (game V order total) (view (game V order total) (below (game V order total) t.name s.line)) t.moves

    of_row : (r : Row K V) → In r rows → (within order lower upper r.key ≡ true) × (has r.key ≡ Some r.value)
    of_row r j =
        let y = row_from order total ts n None r met j in
        let f = met_from order total w inv.listed lower upper met m y.0 y.1.0 in
        let look = looks (game V order total) w.versions ts s inv.way inv.roll inv.shelf t i y.0.0 y.0.1 f.0 (subst (λ x. visible ts x x y.0.1 ≡ true) (sym q) y.1.1.0) in
        subst (λ (r : Row K V). (within order lower upper r.key ≡ true) × (has r.key ≡ Some r.value)) y.1.1.1
        (f.1, look_value (game V order total) w.versions ts s inv.way inv.roll inv.shelf t i y.0.0 y.0.1 f.0 look)

    every : (k : K) (x : V) → within order lower upper k ≡ true → has k ≡ Some x → In (record { key = k; value = x }) rows
    every k x e f =
        let z = look_some (game V order total) w.versions ts s inv.way inv.roll inv.shelf t i k x f in
        let vis = looks_back (game V order total) w.versions ts s inv.way inv.roll inv.shelf t i z.0 z.1.0 z.1.1.0 z.1.1.1.1 in
        ⊎_elim (λ b. absurd (false≢true b)) (λ r.
        let key : r.0.key ≡ k = r.1.1 ∙ z.1.1.1.0 in
        let value : r.0.value ≡ x = some_injective (sym (of_row r.0 r.1.0).1 ∙ ap has key ∙ f) in
        subst (λ r. In r rows) (λ j. record { key = key j; value = value j }) r.1.0)
        (row_for order total ts n None (z.0, z.1.0) met
        (met_all order total w inv.listed lower upper met m z.0 z.1.0 z.1.1.0 (ap (within order lower upper) z.1.1.1.0 ∙ e)) (subst (λ x. visible ts x x z.1.0 ≡ true) q vis))

    right : Rows order lower upper rows has
    right = record {
      rising = rising_rows order total ts n None met (mounts_from order total met (subst (Climbing order) (sym m.places) (climbing_keep order (λ x. within order lower upper x.0) w.index.pairs inv.listed.climbing)));
      each = All_in _ rows of_row;
      every = every;
    }

    scanned : (table : List (Row K V)) → take (length rows) table ≡ rows →
        Comes (λ r. Good V order total (after V order total p (call.Book n (book.Scan lower upper)) r)) (conclude c (with_rows w table) n u (Some (noted.Range lower upper)) (waits_after ts n n met u.waits) (answer.Number (length rows)))
    scanned table e = concluded V order total p s inv c ok n u found t i q lower upper met m (book.Scan lower upper) (answer.Number (length rows)) table (Some (noted.Range lower upper)) refl (λ j e. e)
        (subst (λ rs. RightCall order (book.Scan lower upper) (Ok (answer.Number (length rows))) rs has) (sym e) (refl, right))
        (λ ns h ser j e f. inl (lower, (upper, (e, h.made (noted.Range lower upper) refl ser))))

  pub scan_keeps : (n : ℕ) (k l : K) → Comes (λ r. Good V order total (after V order total p (call.Book n (book.Scan k l)) r)) (scan_rule order c w n k l)
  scan_keeps n k l = bind (is_sound w n is_active) (λ u h. unless _ _ refl (λ _. bind (all_reached order total w (covering order w.index k l)) (λ met m. unless _ _ refl (λ _.
      let z = worker (game V order total) ts s inv.way inv.roll n u h.0 h.1.0 h.1.1 in
      scanned n k l u h.0 z.0 z.1.0 z.1.1 met m _ (take_left (rows_from order ts n None met) (drop (length (rows_from order ts n None met)) w.rows))))))
