-- One whose tests have all passed may be validated. Assumes nothing.
use Rattle.std.proofs.Common.{◌≡◌, ℕ, ◌<◌, ◌≤◌, Bool, true, false, ◌||◌, ltb, ◌⊎◌, List, [], ◌∷◌, ◌++◌, Some, None, Option, Ordering, sym, refl, ap, ◌∙◌, subst, inl, inr, ⊎_elim, arith}
use mathlib.Core.Bool.{beq}
use Rattle.std.proofs.lemmas.Bool.{false≢true, true≢false, cases_Bool, cases_lt, and_parts, or_parts, or_from, leb-true, lt-ltb}
use Rattle.std.specs.Option.{option_to_list}
use Rattle.seeing.specs.declared.Version.{Version}
use Rattle.rules.specs.declared.Entry.{Entry}
use Rattle.rules.specs.declared.Noted.{Noted}
use Rattle.rules.specs.declared.Noted.TheVariants as noted
use Rattle.rules.specs.declared.Note.{Note}
use Rattle.rules.specs.Keys.{within}
use Rattle.keys.specs.Laws.{TotalOrder}
use Rattle.rules.specs.Index.{covering}
use Rattle.seeing.specs.Slots.{Slots}
use Rattle.seeing.specs.Seeing.{as_end, visible, waits_for}
use Rattle.rules.specs.Worlds.{World}
use Rattle.seeing.specs.Changing.{names, own_work}
use Rattle.rules.specs.Validating.{Test, passes, tests_of, notes_of, tests_for}
use Rattle.rules.specs.Runs.{Position}
use Rattle.serial.specs.Lists.{In, All, Each, change}
use Rattle.serial.specs.Machine.{Game, Transaction, State, preparing, pending, Pending, Leads, direct, through, touched, covered, below, view, Told, MayPass, InTurn, Step, validate, passed}
use Rattle.serial.proofs.Lists.{All_at, In_keep, In_right}
use Rattle.serial.proofs.Views.{told_same, play_untouched}
use Rattle.serial.proofs.Waits.{leads_more}
use Rattle.serial.proofs.Steps.{sound, Seen, Waiting}
use Rattle.serial.proofs.Names.{Apart, distinct, Stands, each_named}
use Rattle.serial.proofs.Kill.{All_in, waiting_line}
use Rattle.serial.proofs.Orders.{ordered, Turns}
use Rattle.rules.proofs.Game.{game}
use Rattle.rules.proofs.Times.{come, stamped, Ver, shown, last, latest, upto, Names}
use Rattle.rules.proofs.Relation.{stored, At, Shows, HasNote, Guarded, Inv}
use Rattle.rules.proofs.Slots.{some_injective, stored_some}
use Rattle.rules.proofs.Lines.{content, last_some, view_latest, latest_untouched, upto_below, In_left}
use Rattle.rules.proofs.Sight.{Any_of}
use Rattle.rules.proofs.Prepare.{names_begin, names_end, begin_touched, end_touched}
use Rattle.rules.proofs.Minding.{leads_inside, stands_of, stands_each, stands_sub, stands_lower, stands_upto, stands_below, RisingEnds}
use Rattle.rules.proofs.Looks.{visible_shown, Held, waits_known, wait_of}
use Rattle.rules.proofs.Reach.{In_concat, In_keep'}
use Rattle.rules.proofs.Trial.{In_map, notes_all, Passed, Asks, Tried}

pub beq_same : (a b : Bool) → beq a b ≡ true → a ≡ b
beq_same true true e = refl
beq_same true false e = absurd (false≢true e)
beq_same false true e = absurd (false≢true e)
beq_same false false e = refl

module _ (G : Game) where
  -- no writer of the key ends after the latest
  pub latest_bound : (l : List (Transaction G)) (x : Transaction G) (k : G.Key) (b : ℕ) (o : Option G.Value) → RisingEnds G l → In x l → touched G x.moves k ≡ true → latest G l k ≡ Some (b, o) → x.end ≤ b
  latest_bound [] x k b o r i touch e = absurd i
  latest_bound (t ∷ l) x k b o r (inl q) touch e =
      let z = last_some G t.moves k (ap (λ v. touched G v.moves k) q ∙ touch) in
      let w : ◌≡◌ {A = ℕ × Option G.Value} (t.end, z.0) (b, o) = some_injective (sym (ap (λ a. stamped t.end a (latest G l k)) z.1) ∙ e) in
      let y : t.end ≡ b = ap (λ (x : ℕ × Option G.Value). x.0) w in let y' : t.end ≡ x.end = ap (λ v. v.end) q in omega arith
  latest_bound (t ∷ l) x k b o r (inr i) touch e = go (last G t.moves k) e (latest_bound l x k b o r.1 i touch)
    where
      go : (a : Option (Option G.Value)) → stamped t.end a (latest G l k) ≡ Some (b, o) → (latest G l k ≡ Some (b, o) → x.end ≤ b) → x.end ≤ b
      go None e f = f e
      go (Some a) e f =
          let w : ◌≡◌ {A = ℕ × Option G.Value} (t.end, a) (b, o) = some_injective e in
          let y : t.end ≡ b = ap (λ (x : ℕ × Option G.Value). x.0) w in
          let z : x.end < t.end = All_at (λ u. u.end < t.end) x l i r.0 in omega arith

  -- where the same versions of the key are shown at two times, it holds the same at both
  module _ (vs : List (Entry (Ver G))) (l : List (Transaction G)) (R Q : ℕ) (at_R : Shows G vs l R) (at_Q : Shows G vs l Q) (k : G.Key) where
    pub both_shown : (p : ℕ) (v : Ver G) → At G vs p v → v.key ≡ k → shown G l R v ≡ true → shown G l Q v ≡ true → content (latest G (upto G R l) k) ≡ content (latest G (upto G Q l) k)
    both_shown p v a e r q =
        ap (λ k. content (latest G (upto G R l) k)) (sym e) ∙ ap content (at_R.sound p v a r).1.1 ∙ sym (ap content (at_Q.sound p v a q).1.1) ∙ ap (λ k. content (latest G (upto G Q l) k)) e

    pub same_shown : ((p : ℕ) (v : Ver G) → At G vs p v → v.key ≡ k → shown G l R v ≡ shown G l Q v) → content (latest G (upto G R l) k) ≡ content (latest G (upto G Q l) k)
    same_shown h = go (latest G (upto G R l) k) (latest G (upto G Q l) k) refl refl
      where
        by_R : (b : ℕ) (x : G.Value) → latest G (upto G R l) k ≡ Some (b, Some x) → content (latest G (upto G R l) k) ≡ content (latest G (upto G Q l) k)
        by_R b x e = let z = at_R.complete k b x e in both_shown z.0 z.1.0 z.1.1.0 z.1.1.1.0 z.1.1.1.1 (sym (h z.0 z.1.0 z.1.1.0 z.1.1.1.0) ∙ z.1.1.1.1)

        by_Q : (b : ℕ) (x : G.Value) → latest G (upto G Q l) k ≡ Some (b, Some x) → content (latest G (upto G R l) k) ≡ content (latest G (upto G Q l) k)
        by_Q b x e = let z = at_Q.complete k b x e in both_shown z.0 z.1.0 z.1.1.0 z.1.1.1.0 (h z.0 z.1.0 z.1.1.0 z.1.1.1.0 ∙ z.1.1.1.1) z.1.1.1.1

        go : (o o' : Option (ℕ × Option G.Value)) → latest G (upto G R l) k ≡ o → latest G (upto G Q l) k ≡ o' → content (latest G (upto G R l) k) ≡ content (latest G (upto G Q l) k)
        go (Some (b, Some x)) o' e e' = by_R b x e
        go None (Some (b, Some x)) e e' = by_Q b x e'
        go (Some (c, None)) (Some (b, Some x)) e e' = by_Q b x e'
        go None None e e' = ap content e ∙ sym (ap content e')
        go None (Some (b, None)) e e' = ap content e ∙ sym (ap content e')
        go (Some (c, None)) None e e' = ap content e ∙ sym (ap content e')
        go (Some (c, None)) (Some (b, None)) e e' = ap content e ∙ sym (ap content e')

module _ {K : Type 0} (V : Type 0) (order : K → K → Ordering) (total : TotalOrder order) (p : Position K V) (s : State (game V order total)) (inv : Inv V order total p s)
    (t : Transaction (game V order total)) (i : In t s.line) (prep : t.stage ≡ preparing) (W : List ℕ)
    (tested : t.ser ≡ true → Tried order total p.world t.name t.end (tests_for order p.world.index t.name p.world.notes) W)
    (untested : t.ser ≡ false → W ≡ []) where
  abbrev G : Game
  G = game V order total

  abbrev w : World K V
  w = p.world

  abbrev ts : Slots
  ts = p.world.store.slots

  abbrev vs : List (Entry (Version K V))
  vs = p.world.versions

  abbrev l : List (Transaction G)
  l = s.line

  abbrev n : ℕ
  n = t.name

  abbrev e : ℕ
  e = t.end

  behind : (before : List (Transaction G)) × Stands G t before l
  behind = stands_of G t l i

  abbrev before : List (Transaction G)
  before = behind.0

  rising : RisingEnds G l
  rising = (ordered G s inv.way).rising

  longer : n < e
  longer = All_at (λ t. t.name < t.end) t l i (ordered G s inv.way).longer

  sits : stored ts n ≡ true
  sits = let r = inv.roll.waiting t i (ap pending prep) in stored_some ts n r.0 r.1.0

  shows : (R : ℕ) → n ≤ R → Shows G vs l R
  shows R le = inv.shelf.shows R (inl (n, (sits, le)))

  into_before : (x : Transaction G) → In x l → x.end ≤ e → (x.name ≡ n → ⊥) → In x before
  into_before x j le d = stands_lower G t before l rising behind.1 x j le d

  from_before : (x : Transaction G) → In x before → In x l
  from_before x j = stands_sub G t before l behind.1 x j

  below_e : (x : Transaction G) → In x before → x.end < e
  below_e x j = All_at (λ u. u.end < e) x before j (stands_each G (λ t before. All (λ u. u.end < t.end) before) t before l behind.1 rising).0

  not_t : (x : Transaction G) → In x before → x.name ≡ n → ⊥
  not_t x j = All_at (λ u. u.name ≡ n → ⊥) x before j (stands_each G (Apart G) t before l behind.1 (distinct G s inv.way).line_apart).0

  waiting : All (Pending G before) t.waits × Each (Waiting G) before
  waiting = stands_each G (Waiting G) t before l behind.1 (sound G s inv.way).waiting'

  closed : (u : Transaction G) → In u before → All (Pending G before) u.waits
  closed u j = All_at (λ t. Waiting G t before) u before j (waiting_line G before waiting.1)

  inside : (ws : List ℕ) (x : ℕ) → All (Pending G before) ws → Leads G l ws x → Leads G before ws x
  inside ws x h r = leads_inside G l before (distinct G s inv.way).line_apart from_before closed ws x h r

  -- Tests.
  own_free : (q : ℕ) (v : Version K V) → At G vs q v → touched G t.moves v.key ≡ false → (names n (as_end v.begin) ≡ false) × (names n v.end ≡ false)
  own_free q v a free = (
    ⊎_elim (λ z. absurd (true≢false (sym (begin_touched G vs (stored ts) s inv.way inv.shelf q v t a (inl i) (names_begin n v.begin z)) ∙ free))) (λ z. z) (cases_Bool (names n (as_end v.begin))),
    ⊎_elim (λ z. absurd (true≢false (sym (end_touched G vs (stored ts) s inv.way inv.shelf q v t a (inl i) (names_end n v.end z)).0 ∙ free))) (λ z. z) (cases_Bool (names n v.end)),
  )

  sees : (q : ℕ) (v : Version K V) → At G vs q v → touched G t.moves v.key ≡ false → (R : ℕ) → visible ts n R v ≡ shown G l R v
  sees q v a free R = let z = own_free q v a free in visible_shown G ts s inv.way inv.roll vs inv.shelf n R q v a z.0 z.1

  abbrev tests : List (Test K)
  tests = tests_for order w.index n w.notes

  noted_in : (what : Noted K) (x : Test K) → HasNote w.notes n what → In x (tests_of order w.index what) → In x tests
  noted_in what x h j =
      let y : Note K = record { owner = n; number = h.1.0; noted = what } in
      In_concat (λ x. tests_of order w.index x.noted) x y (notes_of n w.notes) (notes_all n w.notes h.0 y h.1.1 refl) j

  -- a version that a test was of
  tested_at : t.ser ≡ true → (b : Bool) (k : K) (q : ℕ) (v : Version K V) → In (record { must_show = b; pair = (k, q) }) tests → At G vs q v → touched G t.moves v.key ≡ false →
      (shown G l e v ≡ (b || shown G l n v)) × ((y : ℕ) → In y (option_to_list (waits_for ts n e v)) → In y W)
  tested_at ser b k q v j a free = go ((tested ser).passed (record { must_show = b; pair = (k, q) }) j)
    where
      go : Passed order total w n e (record { must_show = b; pair = (k, q) }) W → (shown G l e v ≡ (b || shown G l n v)) × ((y : ℕ) → In y (option_to_list (waits_for ts n e v)) → In y W)
      go (u, (at, inl own)) =
          let same : u ≡ v = some_injective (sym at ∙ a) in let z = own_free q v a free in
          absurd (true≢false (sym own ∙ ap (own_work n) same ∙ or_from _ _ z.0 z.1))
      go (u, (at, inr h)) =
          let same : u ≡ v = some_injective (sym at ∙ a) in (
            sym (sees q v a free e) ∙ beq_same _ _ (subst (λ u. passes ts n e b u ≡ true) same h.0) ∙ ap (λ c. b || c) (sees q v a free n),
            subst (λ u. (y : ℕ) → In y (option_to_list (waits_for ts n e u)) → In y W) same h.1,
          )

  range_at : t.ser ≡ true → (lower upper k : K) → within order lower upper k ≡ true → HasNote w.notes n (noted.Range lower upper) → touched G t.moves k ≡ false →
      (q : ℕ) (v : Version K V) → At G vs q v → v.key ≡ k → (shown G l e v ≡ shown G l n v) × ((y : ℕ) → In y (option_to_list (waits_for ts n e v)) → In y W)
  range_at ser lower upper k inside h free q v a same =
      tested_at ser false v.key q v
      (noted_in (noted.Range lower upper) (record { must_show = false; pair = (v.key, q) }) h
      (In_map (λ x. record { must_show = false; pair = x }) (v.key, q) (covering order w.index lower upper) (In_keep' (λ x. within order lower upper x.0) (v.key, q) w.index.pairs (ap (within order lower upper) same ∙ inside) (inv.listed.into q v a))))
      a (ap (touched G t.moves) same ∙ free)

  version_at : t.ser ≡ true → (k : K) (q : ℕ) (v : Version K V) → HasNote w.notes n (noted.Version k q) → At G vs q v → v.key ≡ k → touched G t.moves k ≡ false → shown G l e v ≡ true
  version_at ser k q v h a same free = (tested_at ser true k q v (noted_in (noted.Version k q) (record { must_show = true; pair = (k, q) }) h (inl refl)) a (ap (touched G t.moves) same ∙ free)).0

  -- Told.
  upto_e : upto G e l ≡ t ∷ before
  upto_e = stands_upto G t before l rising behind.1

  upto_n : upto G n l ≡ below G n l
  upto_n = upto_below G n l (All_at (λ t. All (λ x. x.end ≡ t.name → ⊥) l) t l i (ordered G s inv.way).once')

  turn : (k : K) → touched G t.moves k ≡ true → InTurn G n before k
  turn = (stands_each G (Turns G) t before l behind.1 (ordered G s inv.way).turns').0

  guarded_same : t.ser ≡ true → (k : K) → touched G t.moves k ≡ false → Guarded V order total w.notes vs l n k → content (latest G (upto G e l) k) ≡ content (latest G (upto G n l) k)
  guarded_same ser k free (inl (lower, (upper, (inside, h)))) =
      same_shown G vs l e n (shows e (omega (arith, longer))) (shows n (omega arith)) k (λ q v a same. (range_at ser lower upper k inside h free q v a same).0)
  guarded_same ser k free (inr (q, (v, (h, (a, (same, sh)))))) =
      both_shown G vs l e n (shows e (omega (arith, longer))) (shows n (omega arith)) k q v a same (version_at ser k q v h a same free) sh

  agree : t.ser ≡ true → (k : K) → covered G t.moves k ≡ true → view G (below G n l) k ≡ view G before k
  agree ser k cov = go (cases_Bool (touched G t.moves k))
    where
      go : (touched G t.moves k ≡ true) ⊎ (touched G t.moves k ≡ false) → view G (below G n l) k ≡ view G before k
      go (inl touch) = ap (λ z. view G z k) (stands_below G n t before l rising behind.1 (omega (arith, longer))) ∙ sym (turn k touch).same
      go (inr free) =
          ap (λ z. view G z k) (sym upto_n) ∙ view_latest G (upto G n l) k
          ∙ sym (guarded_same ser k free (inv.guards.preparing t i prep ser k cov free))
          ∙ sym (view_latest G (upto G e l) k) ∙ ap (λ z. view G z k) upto_e ∙ play_untouched G (view G before) t.moves k free

  seen : Seen G l t
  seen = All_at (Seen G l) t l i (sound G s inv.way).sees'

  tells : t.ser ≡ true → Told G (view G before) t.moves
  tells ser = told_same G (view G (below G n l)) (view G before) t.moves (agree ser) seen.0

  -- Minds.
  more : (x : ℕ) → Leads G before t.waits x → Leads G before (W ++ t.waits) x
  more x r = leads_more G before before (λ u. u) (λ u j. j) (λ u. refl) (λ u y j. j) t.waits (W ++ t.waits) (λ y j. In_right y W t.waits j) x r

  early : (x : Transaction G) → In x before → pending x.stage ≡ true → (k : K) → covered G t.moves k ≡ true → touched G x.moves k ≡ true → x.end < n → Leads G before (W ++ t.waits) x.name
  early x j pend k cov touch lt =
      more x.name (inside t.waits x.name waiting.0
      (All_at _ x (below G n l) (In_keep (λ t. ltb t.end n) x l (lt-ltb x.end n lt) (from_before x j)) seen.1 pend k cov touch))

  late : t.ser ≡ true → (x : Transaction G) → In x before → pending x.stage ≡ true → (k : K) → touched G x.moves k ≡ true → touched G t.moves k ≡ false → n ≤ x.end →
      Guarded V order total w.notes vs l n k → Leads G before (W ++ t.waits) x.name
  late ser x j pend k touch free le (inl (lower, (upper, (inside_range, h)))) = go mark
    where
      mark : (q : ℕ) × ((v : Ver G) × (At G vs q v × ((v.key ≡ k) × Names G x.name v)))
      mark = inv.shelf.marked' x (from_before x j) pend k touch

      go : (q : ℕ) × ((v : Ver G) × (At G vs q v × ((v.key ≡ k) × Names G x.name v))) → Leads G before (W ++ t.waits) x.name
      go (q, (v, (a, (same, named)))) = by held
        where
          none : (names n (as_end v.begin) ≡ false) × (names n v.end ≡ false)
          none = own_free q v a (ap (touched G t.moves) same ∙ free)

          held : Held G ts s inv.way inv.roll vs inv.shelf n e v x
          held = wait_of G ts s inv.way inv.roll vs inv.shelf n e q v a none.0 none.1 x (from_before x j) pend (let z = below_e x j in omega arith) (not_t x j) (ap (touched G x.moves) same ∙ touch) named

          by : Held G ts s inv.way inv.roll vs inv.shelf n e v x → Leads G before (W ++ t.waits) x.name
          by (y, (at, (lo, (apart, (waits, inl eq))))) = direct (In_left x.name W t.waits (subst (λ m. In m W) eq ((range_at ser lower upper k inside_range h free q v a same).1 y.name waits)))
          by (y, (at, (lo, (apart, (waits, inr leads))))) =
              let k' = into_before y at lo apart in
              through y k' (In_left y.name W t.waits ((range_at ser lower upper k inside_range h free q v a same).1 y.name waits)) (inside y.waits x.name (closed y k') leads)
  late ser x j pend k touch free le (inr (q, (v, (h, (a, (same, sh)))))) =
      let r = (shows e (omega (arith, longer))).sound q v a (version_at ser k q v h a same free) in
      let bound : x.end ≤ r.0 = latest_bound G before x k r.0 (Some v.value)
      (stands_each G (λ t before. All (λ u. u.end < t.end) before) t before l behind.1 rising).1 j touch
      (sym (latest_untouched G t before k free) ∙ ap (λ z. latest G z k) (sym upto_e) ∙ ap (latest G (upto G e l)) (sym same) ∙ r.1.1) in
      let soon : r.0 ≤ n = leb-true r.0 n (sym (ap (come n) r.1.0) ∙ (and_parts _ _ sh).0) in
      let d : x.end ≡ n → ⊥ = All_at (λ x. x.end ≡ n → ⊥) x l (from_before x j) (All_at (λ t. All (λ x. x.end ≡ t.name → ⊥) l) t l i (ordered G s inv.way).once') in
      absurd (d (omega arith))

  minds_one : t.ser ≡ true → (x : Transaction G) → In x before → pending x.stage ≡ true → (k : K) → covered G t.moves k ≡ true → touched G x.moves k ≡ true → Leads G before (W ++ t.waits) x.name
  minds_one ser x j pend k cov touch = ⊎_elim (λ lt. early x j pend k cov touch lt) (λ ge. go ge (cases_Bool (touched G t.moves k))) (cases_lt x.end n)
    where
      go : n ≤ x.end → (touched G t.moves k ≡ true) ⊎ (touched G t.moves k ≡ false) → Leads G before (W ++ t.waits) x.name
      go ge (inl mine) = early x j pend k cov touch (All_at (λ x. pending x.stage ≡ true → touched G x.moves k ≡ true → x.end < n) x before j (turn k mine).early pend touch)
      go ge (inr free) = late ser x j pend k touch free ge (inv.guards.preparing t i prep ser k cov free)

  -- Known.
  from_tests : t.ser ≡ true → (y : ℕ) → In y W → Pending G before y
  from_tests ser y j = go ((tested ser).asked y j)
    where
      go : Asks order total w n e y → Pending G before y
      go (q, (v, (a, (own, waits)))) =
          let parts = or_parts _ _ own in
          let z = waits_known G ts s inv.way inv.roll vs inv.shelf n e q v a parts.0 parts.1 y waits in
          subst (Pending G before) z.1.1.0 (Any_of G before z.0 (into_before z.0 z.1.0 z.1.1.1.1.0 z.1.1.1.1.1) z.1.1.1.0)

  known : (y : ℕ) → In y W → Pending G before y
  known y j = ⊎_elim (λ ser. from_tests ser y j) (λ snap. absurd (subst (In y) (untested snap) j)) (cases_Bool t.ser)

  may : MayPass G W t before
  may = record {
    was = prep;
    known = All_in (Pending G before) W known;
    told = tells;
    minds = λ ser. All_in _ before (λ x j. minds_one ser x j);
  }

  -- whom n waits on now is pending in the line
  pub known_line : (y : ℕ) → In y W → Pending G l y
  known_line y j =
      let z = Rattle.serial.proofs.Kill.Any_in (λ t. (t.name ≡ y) × (pending t.stage ≡ true)) before (known y j) in
      subst (Pending G l) z.1.1.0 (Any_of G l z.0 (from_before z.0 z.1.0) z.1.1.1)

  pub validate_step : Step G s (record { clock = s.clock; active = s.active; line = change (passed G n W) l })
  validate_step = validate n W (each_named G (MayPass G W) t before l (distinct G s inv.way).line_apart behind.1 may)
