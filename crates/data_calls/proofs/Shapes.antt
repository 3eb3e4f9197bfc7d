-- The rules of the book calls, in the shape of the code. Assumes nothing.
use Rattle.std.proofs.Common.{◌≡◌, ℕ, Bool, List, length, set, Some, None, Ok, Err, Option, Ordering, sym, refl, ap, ◌∙◌, subst, arith}
use Rattle.rules.specs.declared.Entry.{Entry}
use Rattle.rules.specs.declared.Store.{Store}
use Rattle.seeing.specs.declared.Version.{Version}
use Rattle.rules.specs.declared.Note.{Note}
use Rattle.rules.specs.declared.Noted.{Noted}
use Rattle.rules.specs.declared.Row.{Row}
use Rattle.walks.specs.declared.Survey.{Survey}
use Rattle.seeing.specs.declared.Transaction.{Transaction}
use Rattle.rules.specs.declared.BookCall.{BookCall}
use Rattle.rules.specs.declared.Answer.{Answer}
use Rattle.rules.specs.declared.Refusal.{Refusal}
use Rattle.seeing.specs.Slots.{Slots, found}
use Rattle.rules.specs.Index.{Index, meaning, covering}
use Rattle.rules.specs.Worlds.{World, with_slots}
use Rattle.rules.specs.Slots.{change, answered}
use Rattle.rules.specs.Checks.{Checked, Outcome, ◌>>=◌, or_as_found, sound}
use Rattle.rules.specs.Reaching.{reach_all}
use Rattle.seeing.specs.Phases.{is_active}
use Rattle.rules.specs.BookRules.{noting, conclude, book_rule}
use Rattle.index.specs.Listed.{rest}
use Rattle.data_calls.specs.Calling.{world, picked, Answers, AnswersAround, AnswersFrom, AnswersFromAround, approached, concluding}
use Rattle.tables.specs.Naming.{located}
use Rattle.tables.proofs.Lookups.{found_name, sound_located, located_found}
use Rattle.tables.proofs.Picking.{picks_allowed}
use Rattle.walks.specs.Walk.{start, walk}
use Rattle.tables.specs.Steps.{Gives}
use Rattle.slots.proofs.Found.{change_found}
use Rattle.walks.proofs.Covering.{covering_rest}
use Rattle.tables.proofs.Steps.{go_on, give_up, left_as_found, came_to}
use Rattle.walks.proofs.Walking.{bind_bind, bind_same, surveyed, reach_walk}

module _ {K V : Type 0} (o : K → K → Ordering) (s : Store) (a b c n : ℕ) (vs : List (Entry (Version K V))) (ps : List (K × ℕ)) (k : Transaction → Survey K V → Outcome K V) where
  abbrev pub ruled : Outcome K V
  ruled = sound s a b c n is_active >>= (λ t. reach_all o s.slots vs ps >>= (λ met. k t (surveyed s.slots n (start t.waits) met)))

  pub shape : ruled ≡ (located s a b c n >>= (λ x. walk o s.slots vs n (start x.1.waits) ps >>= k x.1))
  shape =
      ap (λ m. m >>= (λ t. reach_all o s.slots vs ps >>= (λ met. k t (surveyed s.slots n (start t.waits) met)))) (sound_located s a b c n)
      ∙ bind_bind (located s a b c n) (λ x. Ok x.1) (λ t. reach_all o s.slots vs ps >>= (λ met. k t (surveyed s.slots n (start t.waits) met)))
      ∙ bind_same (located s a b c n) _ (λ x. walk o s.slots vs n (start x.1.waits) ps >>= k x.1)
      (λ x. go_on (λ t. reach_all o s.slots vs ps >>= (λ met. k t (surveyed s.slots n (start t.waits) met))) refl ∙ reach_walk o s.slots vs n x.1.waits ps (k x.1))

-- ---- what a call comes to

-- the free entries picked are allowed
module _ {K V : Type 0} (o : K → K → Ordering) (vh nh : ℕ) where
  chosen : (w w' : World K V) (n : ℕ) (a : BookCall K V) (r : Checked (Answer V)) → AnswersFrom o vh nh w w' n a r → Answers o w w' n a r
  chosen w w' n a r h = (picked vh nh w.versions w.notes, picks_allowed vh nh w, h)

  -- both clauses of a call, by the second; q is the answer, as r says it
  pub told : (w w' : World K V) (n : ℕ) (a : BookCall K V) (r q : Checked (Answer V)) → q ≡ r → AnswersFrom o vh nh w w' n a r → record { answers : Answers o w w' n a q; picks : AnswersFrom o vh nh w w' n a q }
  told w w' n a r q e h = let k : AnswersFrom o vh nh w w' n a q = h ∙ ap (λ z. (w', z)) (sym e) in record { answers = chosen w w' n a q k; picks = k }

  -- the same around a row table
  pub told_around : (w w' : List (Row K V) → World K V) (n : ℕ) (a : BookCall K V) (r q : Checked (Answer V)) → q ≡ r → AnswersFromAround o vh nh w w' n a r → record { answers : AnswersAround o w w' n a q; picks : AnswersFromAround o vh nh w w' n a q }
  told_around w w' n a r q e h = record { answers = λ rows. (told (w rows) (w' rows) n a r q e (h rows)).answers; picks = λ rows. (told (w rows) (w' rows) n a r q e (h rows)).picks }

module _ {K V : Type 0} (o : K → K → Ordering) (vh nh : ℕ) (w : World K V) (n : ℕ) (call : BookCall K V) (m : Outcome K V) (is : book_rule o (picked vh nh w.versions w.notes) w n call ≡ m) where
  pub answers_by : (w' : World K V) (r : Checked (Answer V)) → or_as_found w m ≡ (w', r) → AnswersFrom o vh nh w w' n call r
  answers_by w' r h = ap (or_as_found w) is ∙ h

  pub refused : (e : Refusal) → m ≡ Err e → AnswersFrom o vh nh w w n call (Err e)
  refused e h = answers_by w (Err e) (left_as_found w h)

  pub came : (w' : World K V) (r : Checked (Answer V)) → m ≡ Ok (w', r) → AnswersFrom o vh nh w w' n call r
  came w' r h = answers_by w' r (came_to w (w', r) h)

module _ {K V : Type 0} (rows : List (Row K V)) (s : Store) (vs : List (Entry (Version K V))) (ns : List (Entry (Note K))) (i : Index K) (p v n slot : ℕ) (t : Transaction) (what : Option (Noted K)) (ws : List Bool) (a : Answer V) (f : found s.slots n 0 ≡ Some (slot, t)) where
  abbrev concludes : Outcome K V
  concludes = conclude (record { version = v; note = p }) (world s vs ns rows i) n t what ws a

  concluded : concludes ≡ (concluding p n slot t what ws a (s, ns) >>= (λ z. Ok (world z.1.0 vs z.1.1 rows i, Ok z.0)))
  concluded =
      bind_same (noting p n t what ns) (λ x. Ok (world (with_slots s (change n (answered x.0 ws) s.slots)) vs x.1 rows i, Ok a))
      (λ x. Ok (a, (with_slots s (set s.slots slot (Some (answered x.0 ws t))), x.1)) >>= (λ z. Ok (world z.1.0 vs z.1.1 rows i, Ok z.0)))
      (λ x. ap {B = Outcome K V} (λ (ts : Slots). Ok (world (with_slots s ts) vs x.1 rows i, Ok a)) (change_found s.slots n slot t f (answered x.0 ws)) ∙ sym (go_on (λ z. Ok (world z.1.0 vs z.1.1 rows i, Ok z.0)) refl))
      ∙ sym (bind_bind (noting p n t what ns) (λ x. Ok (a, (with_slots s (set s.slots slot (Some (answered x.0 ws t))), x.1))) (λ z. Ok (world z.1.0 vs z.1.1 rows i, Ok z.0)))

  -- what the code's conclusion leaves is what the rule's does
  pub conclude_ends : (s' : Store) (ns' : List (Entry (Note K))) (r : Checked (Answer V)) → Gives (concluding p t.name slot t what ws a (s, ns)) (s, ns) (s', ns') r → or_as_found (world s vs ns rows i) concludes ≡ (world s' vs ns' rows i, r)
  conclude_ends s' ns' r g = go r (subst (λ (m : ℕ). Gives (concluding p m slot t what ws a (s, ns)) (s, ns) (s', ns') r) (found_name s.slots n 0 (slot, t) f) g)
    where
      go : (r : Checked (Answer V)) → Gives (concluding p n slot t what ws a (s, ns)) (s, ns) (s', ns') r → or_as_found (world s vs ns rows i) concludes ≡ (world s' vs ns' rows i, r)
      go (Ok b) g = came_to (world s vs ns rows i) (world s' vs ns' rows i, Ok b) (concluded ∙ go_on (λ z. Ok (world z.1.0 vs z.1.1 rows i, Ok z.0)) g)
      go (Err e) g =
          left_as_found (world s vs ns rows i) (concluded ∙ give_up (λ z. Ok (world z.1.0 vs z.1.1 rows i, Ok z.0)) g.0)
          ∙ (let q = g.1 in λ j. (world (sym q j).0 vs (sym q j).1 rows i, Err e))

module _ {K V : Type 0} where
  pub entered : (a : Answer V) (s s' : Store) (ns : List (Entry (Note K))) → s' ≡ s → ◌≡◌ {A = Checked (Answer V × (Store × List (Entry (Note K))))} (Ok (a, (s, ns))) (Ok (a, (s', ns)))
  entered a s s' ns e = λ j. Ok (a, (sym e j, ns))

-- ... where no note is called for
module _ {K V : Type 0} (rows : List (Row K V)) (s : Store) (vs : List (Entry (Version K V))) (ns : List (Entry (Note K))) (i : Index K) (p v n slot : ℕ) (t : Transaction) (ws : List Bool) (a : Answer V) (f : found s.slots n 0 ≡ Some (slot, t)) where
  pub conclude_done : conclude (record { version = v; note = p }) (world s vs ns rows i) n t None ws a ≡ Ok (world (with_slots s (set s.slots slot (Some (answered t.made ws t)))) vs ns rows i, Ok a)
  conclude_done = concluded rows s vs ns i p v n slot t None ws a f ∙ ap (λ m. m >>= (λ z. Ok (world z.1.0 vs z.1.1 rows i, Ok z.0))) (go_on _ refl) ∙ go_on _ refl

-- ---- a book call whose steps rest on the walk over the versions from lower to upper

module _ {K V : Type 0} (o : K → K → Ordering) (vh nh : ℕ) (rows : List (Row K V)) (s : Store) (vs : List (Entry (Version K V))) (ns : List (Entry (Note K))) (xs : List (K × ℕ)) (limit n : ℕ) (lower upper : K)
    (call : BookCall K V) (steps : Transaction → Survey K V → Outcome K V)
    (is : book_rule o (picked vh nh vs ns) (world s vs ns rows (meaning o xs limit)) n call
    ≡ ruled o s (length vs) (length ns) limit n vs (covering o (meaning o xs limit) lower upper) steps) where
  shaped : book_rule o (picked vh nh vs ns) (world s vs ns rows (meaning o xs limit)) n call ≡ (approached o s vs (length ns) xs limit n lower upper >>= (λ z. steps z.1 z.2))
  shaped =
      is ∙ ap (λ ps. ruled o s (length vs) (length ns) limit n vs ps steps) (covering_rest o lower upper xs limit)
      ∙ shape o s (length vs) (length ns) limit n vs (rest o lower 0 upper xs) steps
      ∙ sym
      (bind_bind (located s (length vs) (length ns) limit n) (λ x. walk o s.slots vs n (start x.1.waits) (rest o lower 0 upper xs) >>= (λ y. Ok (x.0, x.1, y))) (λ z. steps z.1 z.2)
      ∙ bind_same (located s (length vs) (length ns) limit n) _ (λ x. walk o s.slots vs n (start x.1.waits) (rest o lower 0 upper xs) >>= steps x.1)
      (λ x.
      bind_bind (walk o s.slots vs n (start x.1.waits) (rest o lower 0 upper xs)) (λ y. Ok (x.0, x.1, y)) (λ z. steps z.1 z.2)
      ∙ bind_same (walk o s.slots vs n (start x.1.waits) (rest o lower 0 upper xs)) _ (steps x.1) (λ y. go_on (λ (z : ℕ × Transaction × Survey K V). steps z.1 z.2) refl)))

  pub unapproached : (e : Refusal) → Err e ≡ approached o s vs (length ns) xs limit n lower upper → AnswersFrom o vh nh (world s vs ns rows (meaning o xs limit)) (world s vs ns rows (meaning o xs limit)) n call (Err e)
  unapproached e h = refused o vh nh (world s vs ns rows (meaning o xs limit)) n call _ refl e (shaped ∙ give_up _ (sym h))

  module _ (slot : ℕ) (t : Transaction) (y : Survey K V) (h : Ok (slot, t, y) ≡ approached o s vs (length ns) xs limit n lower upper) where
    pub goes_on : book_rule o (picked vh nh vs ns) (world s vs ns rows (meaning o xs limit)) n call ≡ steps t y
    goes_on = shaped ∙ go_on _ (sym h)

module _ {K V : Type 0} (o : K → K → Ordering) (s : Store) (vs : List (Entry (Version K V))) (notes : ℕ) (xs : List (K × ℕ)) (limit n : ℕ) (lower upper : K) where
  pub found_slot : (slot : ℕ) (t : Transaction) (y : Survey K V) → Ok (slot, t, y) ≡ approached o s vs notes xs limit n lower upper → found s.slots n 0 ≡ Some (slot, t)
  found_slot slot t y h = go (located s (length vs) notes limit n) refl h
    where
      at : (x : ℕ × Transaction) (m : Checked (Survey K V)) → ◌≡◌ {A = Checked (ℕ × Transaction × Survey K V)} (Ok (slot, t, y)) (m >>= (λ y. Ok (x.0, x.1, y))) → ◌≡◌ {A = ℕ × Transaction} x (slot, t)
      at x (Ok z) k = let q : ◌≡◌ {A = Checked (ℕ × Transaction × Survey K V)} (Ok (slot, t, y)) (Ok (x.0, x.1, z)) = k ∙ go_on _ refl in let q' : ◌≡◌ {A = ℕ × Transaction × Survey K V} (slot, t, y) (x.0, x.1, z) = cc in λ j. ((sym q' j).0, (sym q' j).1)
      at x (Err e) k = let q : ◌≡◌ {A = Checked (ℕ × Transaction × Survey K V)} (Ok (slot, t, y)) (Err e) = k ∙ give_up _ refl in let z : ◌≡◌ {A = ℕ} 0 1 = cc in absurd (omega arith)

      go : (m : Checked (ℕ × Transaction)) → located s (length vs) notes limit n ≡ m → ◌≡◌ {A = Checked (ℕ × Transaction × Survey K V)} (Ok (slot, t, y)) (m >>= (λ x. walk o s.slots vs n (start x.1.waits) (rest o lower 0 upper xs) >>= (λ y. Ok (x.0, x.1, y)))) → found s.slots n 0 ≡ Some (slot, t)
      go (Ok x) e k = located_found s (length vs) notes limit n x (sym e) ∙ ap Some (at x (walk o s.slots vs n (start x.1.waits) (rest o lower 0 upper xs)) (k ∙ go_on _ refl))
      go (Err e) q k = let q : ◌≡◌ {A = Checked (ℕ × Transaction × Survey K V)} (Ok (slot, t, y)) (Err e) = k ∙ give_up _ refl in let z : ◌≡◌ {A = ℕ} 0 1 = cc in absurd (omega arith)
