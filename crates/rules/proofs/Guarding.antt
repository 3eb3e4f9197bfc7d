-- What the tests before a write say: the key is as it was at the writer's begin, and nobody else is at it. Assumes nothing.
use Rattle.std.proofs.Common.{◌≡◌, ℕ, ◌<◌, ◌≤◌, true, false, not, eqb, ltb, leb, ◌⊎◌, List, Some, None, Option, sym, refl, ap, ◌∙◌, subst, inl, inr, ⊎_elim, arith}
use Rattle.std.proofs.lemmas.Bool.{false≢true, true≢false, cases_Bool, cases_eq, eqb-true, ne_eqb, and_parts, and_from, and_cases, not-true, not-false, not_from_false, le-leb, leb-true, leb-false, ltb-false}
use Rattle.seeing.specs.declared.Begin.{Begin}
use Rattle.seeing.specs.declared.Begin.TheVariants as begin
use Rattle.seeing.specs.declared.End.{End}
use Rattle.seeing.specs.declared.End.TheVariants as end
use Rattle.seeing.specs.declared.Transaction.{Transaction as Sitter}
use Rattle.seeing.specs.Slots.{Slots, find, seen_phase}
use Rattle.seeing.specs.Seeing.{as_end}
use Rattle.seeing.specs.Changing.{too_new, ends_at, not_writable}
use Rattle.seeing.specs.Phases.{busy_after, is_aborted}
use Rattle.serial.specs.Lists.{In, All}
use Rattle.serial.specs.Machine.{Game, Transaction, State, Stage, active, preparing, validated, committed, pending, view, below, touched, InTurn, Reached}
use Rattle.serial.proofs.Lists.{All_at}
use Rattle.serial.proofs.Kill.{All_in}
use Rattle.serial.proofs.Steps.{sound}
use Rattle.serial.proofs.Names.{distinct}
use Rattle.serial.proofs.Orders.{ordered, Turns}
use Rattle.rules.proofs.Times.{come, Ver, ending, time, shown, latest, upto, Here, Names, BegunBy}
use Rattle.rules.proofs.Relation.{stored, Roll, Late, At, Shelf}
use Rattle.rules.proofs.Slots.{some_injective, stored_found}
use Rattle.rules.proofs.Lines.{content, view_latest, latest_top, upto_all, ending_in, ending_none, ending_some}
use Rattle.rules.proofs.Sight.{Known, others_phase, across, seen_active, seen_line}
use Rattle.rules.proofs.Prepare.{end_touched}
use Rattle.rules.specs.declared.Entry.{Entry}
use Rattle.rules.proofs.Looks.{known_begin, known_end}
use Rattle.rules.proofs.Sees.{there_self, self_time, upto_self, Look, content_some}

pub come_some : (R : ℕ) (o : Option ℕ) → come R o ≡ true → (b : ℕ) × ((o ≡ Some b) × (b ≤ R))
come_some R None e = absurd (false≢true e)
come_some R (Some b) e = (b, (refl, leb-true b R e))

pub come_sooner : (R S : ℕ) (o : Option ℕ) → S ≤ R → come R o ≡ false → come S o ≡ false
come_sooner R S None le e = refl
come_sooner R S (Some b) le e = ⊎_elim (λ z. absurd (true≢false (sym (le-leb b R (let y = leb-true b S z in omega arith)) ∙ e))) (λ z. z) (cases_Bool (leb b S))

ends_at_true : (c : ℕ) (x : End) → ends_at c x ≡ true → x ≡ end.Stamp c
ends_at_true c (end.Stamp d) e = ap end.Stamp (eqb-true d c e)
ends_at_true c (end.Owner m) e = absurd (false≢true e)
ends_at_true c end.Open e = absurd (false≢true e)

busy_stage : (n : ℕ) (st : Stage) (e : ℕ) → (st ≡ active → ⊥) → busy_after n (others_phase st e) ≡ ltb n e
busy_stage n active e d = absurd (d refl)
busy_stage n preparing e d = refl
busy_stage n validated e d = refl
busy_stage n committed e d = refl

not_aborted : (st : Stage) (e : ℕ) → is_aborted (others_phase st e) ≡ false
not_aborted active e = refl
not_aborted preparing e = refl
not_aborted validated e = refl
not_aborted committed e = refl

less : (a b : ℕ) → a ≤ b → (a ≡ b → ⊥) → a < b
less a b le ne = ⊎_elim (λ z. absurd (ne z)) (λ z. omega arith) (cases_eq a b)

module _ (G : Game) (vs : List (Entry (Ver G))) (ts : Slots) (s : State G) (way : Reached G s) (roll : Roll G ts s) (h : Shelf G vs (stored ts) s)
    (t : Transaction G) (i : In t s.active) (k : G.Key) where
  -- no end stamp is t's begin stamp
  not_once : (x : Transaction G) → In x s.line → x.end ≡ t.name → ⊥
  not_once x j = All_at (λ x. x.end ≡ t.name → ⊥) x s.line j (All_at (λ u. All (λ x. x.end ≡ u.name → ⊥) s.line) t s.active i (ordered G s way).once)

  -- where t has changed the key before, it came to it in turn and alone
  pub turn_again : touched G t.moves k ≡ true → InTurn G t.name s.line k
  turn_again e = All_at (λ u. Turns G u s.line) t s.active i (ordered G s way).turns k e

  pub alone_again : touched G t.moves k ≡ true → (u : Transaction G) → In u s.active → touched G u.moves k ≡ true → u.name ≡ t.name
  alone_again e u j f = (ordered G s way).alone k u t j i f e

  clock_late : t.name ≤ s.clock
  clock_late = All_at (λ u. u.name ≤ s.clock) t s.active i (sound G s way).begun

  upto_clock : upto G s.clock s.line ≡ s.line
  upto_clock = upto_all G s.clock s.line (ordered G s way).given_out

  late : (R : ℕ) → t.name ≤ R → Late G s (stored ts) R
  late R le = inl (t.name, (there_self G vs ts s way roll h t i, le))

  -- Nothing of the key is seen, and no version of it is too new.
  module _ (none : (p : ℕ) (v : Ver G) → At G vs p v → v.key ≡ k → Look G vs ts s way roll h t i v → ⊥)
      (old : (p : ℕ) (v : Ver G) → At G vs p v → v.key ≡ k → too_new ts t.name v.begin v.end ≡ false) where
    begin_late : (p : ℕ) (v : Ver G) → At G vs p v → v.key ≡ k → (b : ℕ) → time G s.line (as_end v.begin) ≡ Some b → (b ≤ t.name) ⊎ ((v.begin ≡ begin.Stamp b) × (v.end ≡ end.Stamp b))
    begin_late p v a e b q = go v.begin refl (known_begin G ts s way roll vs h p v a) (old p v a e) q
      where
        go : (x : Begin) → v.begin ≡ x → Known ts (as_end x) → too_new ts t.name x v.end ≡ false → time G s.line (as_end x) ≡ Some b → (b ≤ t.name) ⊎ ((v.begin ≡ begin.Stamp b) × (v.end ≡ end.Stamp b))
        go (begin.Stamp c) is known f q = ⊎_elim
            (λ z. inl (subst (λ x. x ≤ t.name) (some_injective q) (ltb-false t.name c z)))
            (λ z. inr (is ∙ ap begin.Stamp (some_injective q), ends_at_true c v.end (not-false _ z) ∙ ap end.Stamp (some_injective q)))
            (and_cases (ltb t.name c) (not (ends_at c v.end)) f)
        go (begin.Owner m) is known f q =
            let y = ending_some G s.line m b q in
            let u = stored_found ts m known in
            let apart : m ≡ t.name → ⊥ = λ z. across G ts s way roll y.0 t y.1.0 i (y.1.1.0 ∙ z) in
            let phase : seen_phase (find ts m) ≡ others_phase y.0.stage y.0.end =
            ap (λ x. seen_phase (find ts x)) (sym y.1.1.0) ∙ seen_line G ts s way roll y.0 u.0 y.1.0 (ap (find ts) y.1.1.0 ∙ u.1) in
            let busy : busy_after t.name (seen_phase (find ts m)) ≡ ltb t.name b =
            ap (busy_after t.name) phase ∙ busy_stage t.name y.0.stage y.0.end (roll.lined y.0 y.1.0) ∙ ap (ltb t.name) y.1.1.1 in
            ⊎_elim (λ z. absurd (true≢false (sym (not_from_false _ (ne_eqb m t.name apart)) ∙ z))) (λ z. inl (ltb-false t.name b (sym busy ∙ z)))
            (and_cases (not (eqb m t.name)) (busy_after t.name (seen_phase (find ts m))) f)

    begin_busy : (p : ℕ) (v : Ver G) → At G vs p v → v.key ≡ k → (u : Transaction G) → In u s.active → v.begin ≡ begin.Owner u.name → u.name ≡ t.name
    begin_busy p v a e u j q = ⊎_elim (λ z. z) (λ d. absurd (true≢false (sym (and_from _ _ (not_from_false _ (ne_eqb u.name t.name d)) (ap (busy_after t.name) (seen_active G ts s way roll u j)))
        ∙ ap (λ x. too_new ts t.name x v.end) (sym q) ∙ old p v a e))) (cases_eq u.name t.name)

    -- what has begun by n has ended by n
    seen_not : touched G t.moves k ≡ false → (p : ℕ) (v : Ver G) → At G vs p v → v.key ≡ k → shown G s.line t.name v ≡ true → ⊥
    seen_not free p v a e q = none p v a e (inr (λ z. false≢true (sym (ap (come t.name) (ap (λ x. time G s.line (as_end x)) z ∙ self_time G vs ts s way roll h t i)) ∙ (and_parts _ _ q).0), (ap (touched G t.moves) e ∙ free, q)))

    hidden : touched G t.moves k ≡ false → (R p : ℕ) (v : Ver G) → t.name ≤ R → At G vs p v → v.key ≡ k → shown G s.line R v ≡ true → ⊥
    hidden free R p v le a e q =
        let y = and_parts _ _ q in
        let b = come_some R (time G s.line (as_end v.begin)) y.0 in
        ⊎_elim
        (λ z. seen_not free p v a e (and_from _ _ (ap (come t.name) b.1.0 ∙ le-leb b.0 t.name z) (not_from_false _ (come_sooner R t.name (time G s.line v.end) le (not-true _ y.1)))))
        (λ z. true≢false (sym (ap (λ x. come R (time G s.line x)) z.1 ∙ le-leb b.0 R b.1.1) ∙ not-true _ y.1))
        (begin_late p v a e b.0 b.1.0)

    pub closing_insert : (R p : ℕ) (v : Ver G) → t.name ≤ R → At G vs p v → v.key ≡ k → shown G s.line R v ≡ true → v.end ≡ end.Owner t.name
    closing_insert R p v le a e q = ⊎_elim (λ z. h.ended t i R p v le a (ap (touched G t.moves) e ∙ z) q) (λ z. absurd (hidden z R p v le a e q)) (cases_Bool (touched G t.moves k))

    -- the version that x has ended, and did not make, has begun by n
    ended_shown : (p : ℕ) (v : Ver G) (m b : ℕ) → At G vs p v → v.key ≡ k → v.end ≡ end.Owner m → come t.name (ending G s.line m) ≡ false → time G s.line (as_end v.begin) ≡ Some b → shown G s.line t.name v ≡ true
    ended_shown p v m b a e q c f = ⊎_elim
        (λ z. and_from _ _ (ap (come t.name) f ∙ le-leb b t.name z) (not_from_false _ (ap (λ x. come t.name (time G s.line x)) q ∙ c)))
        (λ z. absurd (clash z.1)) (begin_late p v a e b f)
      where
        clash : v.end ≡ end.Stamp b → ⊥
        clash o = let z : ◌≡◌ {A = ℕ} 0 1 = cc in omega arith

    pub turn_insert : (touched G t.moves k ≡ false → view G (below G t.name s.line) k ≡ None) → InTurn G t.name s.line k
    turn_insert bare = ⊎_elim turn_again fresh (cases_Bool (touched G t.moves k))
      where
        fresh : touched G t.moves k ≡ false → InTurn G t.name s.line k
        fresh free = record { early = All_in _ s.line early; same = now (view G s.line k) refl ∙ sym (bare free) }
          where
            early : (x : Transaction G) → In x s.line → pending x.stage ≡ true → touched G x.moves k ≡ true → x.end < t.name
            early x j p e = names z.1.1.1.1
              where
                z : (p : ℕ) × ((v : Ver G) × (At G vs p v × ((v.key ≡ k) × Names G x.name v)))
                z = h.marked' x j p k e

                v : Ver G
                v = z.1.0

                stamp : time G s.line (end.Owner x.name) ≡ Some x.end
                stamp = ending_in G s.line x (distinct G s way).line_apart j

                by_begin : v.begin ≡ begin.Owner x.name → x.end < t.name
                by_begin b = ⊎_elim (λ le. less x.end t.name le (not_once x j)) (λ y. absurd (clash y.0)) (begin_late z.0 v z.1.1.0 z.1.1.1.0 x.end (ap (λ c. time G s.line (as_end c)) b ∙ stamp))
                  where
                    clash : v.begin ≡ begin.Stamp x.end → ⊥
                    clash o = let z : ◌≡◌ {A = ℕ} 0 1 = cc in omega arith

                by_end : v.end ≡ end.Owner x.name → BegunBy G s.line x.name v → x.end < t.name
                by_end q c = ⊎_elim (λ y. let w = leb-true x.end t.name y in less x.end t.name w (not_once x j))
                    (λ y. absurd (seen_not free z.0 v z.1.1.0 z.1.1.1.0 (ended_shown z.0 v x.name c.0 z.1.1.0 z.1.1.1.0 q (ap (come t.name) stamp ∙ y) c.1.0)))
                    (cases_Bool (leb x.end t.name))

                names : Names G x.name v → x.end < t.name
                names (inl b) = by_begin b
                names (inr b) = ⊎_elim by_begin (by_end b) (end_touched G vs (stored ts) s way h z.0 v x z.1.1.0 (inl j) b).1

            now : (o : Option G.Value) → view G s.line k ≡ o → view G s.line k ≡ None
            now None q = q
            now (Some x) q =
                let y = content_some (latest G (upto G s.clock s.line) k) x (ap (λ l. content (latest G l k)) upto_clock ∙ sym (view_latest G s.line k) ∙ q) in
                let z = (h.shows s.clock (late s.clock clock_late)).complete k y.0 x y.1 in
                absurd (hidden free s.clock z.0 z.1.0 clock_late z.1.1.0 z.1.1.1.0 z.1.1.1.1)

    pub alone_insert : (u : Transaction G) → In u s.active → touched G u.moves k ≡ true → u.name ≡ t.name
    alone_insert u j e = ⊎_elim (λ f. alone_again f u j e) (λ f. names f z.1.1.1.1) (cases_Bool (touched G t.moves k))
      where
        z : (p : ℕ) × ((v : Ver G) × (At G vs p v × ((v.key ≡ k) × Names G u.name v)))
        z = h.marked u j k e

        v : Ver G
        v = z.1.0

        by_end : touched G t.moves k ≡ false → v.end ≡ end.Owner u.name → BegunBy G s.line u.name v → u.name ≡ t.name
        by_end f q c = absurd (seen_not f z.0 v z.1.1.0 z.1.1.1.0 (ended_shown z.0 v u.name c.0 z.1.1.0 z.1.1.1.0 q
            (ap (come t.name) (ending_none G s.line u.name (λ x l d. across G ts s way roll x u l j d))) c.1.0))

        names : touched G t.moves k ≡ false → Names G u.name v → u.name ≡ t.name
        names f (inl b) = begin_busy z.0 v z.1.1.0 z.1.1.1.0 u j b
        names f (inr b) = ⊎_elim (λ c. begin_busy z.0 v z.1.1.0 z.1.1.1.0 u j c) (by_end f b) (end_touched G vs (stored ts) s way h z.0 v u z.1.1.0 (inr j) b).1

  -- The version shown at n is open, or was ended by one that is dead.
  module _ (p : ℕ) (v : Ver G) (a : At G vs p v) (at_key : v.key ≡ k) (free : touched G t.moves k ≡ false) (sh : shown G s.line t.name v ≡ true) (writable : not_writable ts v.end ≡ false) where
    pub nobody_ends : (u : Transaction G) → Here G s u → v.end ≡ end.Owner u.name → ⊥
    nobody_ends u j q = here j (stored_found ts u.name (subst (Known ts) q (known_end G ts s way roll vs h p v a)))
      where
        open' : not (is_aborted (seen_phase (find ts u.name))) ≡ false
        open' = ap (not_writable ts) (sym q) ∙ writable

        here : Here G s u → (x : Sitter) × (find ts u.name ≡ Some x) → ⊥
        here (inl l) f = true≢false (sym (not_from_false _ (ap is_aborted (seen_line G ts s way roll u f.0 l f.1) ∙ not_aborted u.stage u.end)) ∙ open')
        here (inr l) f = true≢false (sym (not_from_false _ (ap is_aborted (seen_active G ts s way roll u l))) ∙ open')

    pub no_end : time G s.line v.end ≡ None
    no_end = go v.end refl writable
      where
        go : (x : End) → v.end ≡ x → not_writable ts x ≡ false → time G s.line x ≡ None
        go (end.Stamp c) q e = absurd (true≢false e)
        go end.Open q e = refl
        go (end.Owner m) q e = ending_none G s.line m (λ u l d. nobody_ends u (inl l) (q ∙ ap end.Owner (sym d)))

    pub begun_then : BegunBy G s.line t.name v
    begun_then = come_some t.name (time G s.line (as_end v.begin)) (and_parts _ _ sh).0

    pub shown_on : (R : ℕ) → t.name ≤ R → shown G s.line R v ≡ true
    shown_on R le =
        let b = begun_then in let w : b.0 ≤ t.name = b.1.1 in
        and_from _ _ (ap (come R) b.1.0 ∙ le-leb b.0 R (omega arith)) (not_from_false _ (ap (come R) no_end))

    pub closing_one : (R q : ℕ) (u : Ver G) → t.name ≤ R → At G vs q u → u.key ≡ k → shown G s.line R u ≡ true → q ≡ p
    closing_one R q u le b e f = (h.shows R (late R le)).unique q p u v b a (e ∙ sym at_key) f (shown_on R le)

    -- the latest to write the key is the one that was so at n
    latest_on : (R : ℕ) → t.name ≤ R → latest G (upto G R s.line) k ≡ Some (begun_then.0, Some v.value)
    latest_on R le =
        let z = (h.shows R (late R le)).sound p v a (shown_on R le) in
        ap (latest G (upto G R s.line)) (sym at_key) ∙ z.1.1 ∙ ap (λ x. Some (x, Some v.value)) (some_injective (sym z.1.0 ∙ begun_then.1.0))

    pub turn_one : InTurn G t.name s.line k
    turn_one = record {
      early = All_in _ s.line early;
      same = view_latest G s.line k ∙ ap (λ l. content (latest G l k)) (sym upto_clock) ∙ ap content (latest_on s.clock clock_late ∙ sym (latest_on t.name (omega arith)))
          ∙ ap (λ l. content (latest G l k)) (upto_self G vs ts s way roll h t i) ∙ sym (view_latest G (below G t.name s.line) k);
    }
      where
        early : (x : Transaction G) → In x s.line → pending x.stage ≡ true → touched G x.moves k ≡ true → x.end < t.name
        early x j q e = ⊎_elim (λ y. let w = leb-true x.end t.name y in less x.end t.name w (not_once x j)) (λ y. absurd (later y)) (cases_Bool (leb x.end t.name))
          where
            later : leb x.end t.name ≡ false → ⊥
            later y =
                let w : t.name < x.end = leb-false x.end t.name y in
                let z = latest_top G s.line x k (ordered G s way).rising j e in
                let q : x.end ≡ begun_then.0 = first x.end z.0 (sym z.1 ∙ latest_on x.end (omega arith)) in
                let u : begun_then.0 ≤ t.name = begun_then.1.1 in
                omega arith
              where
                first : (b : ℕ) (o : Option G.Value) → ◌≡◌ {A = Option (ℕ × Option G.Value)} (Some (b, o)) (Some (begun_then.0, Some v.value)) → b ≡ begun_then.0
                first b o e = ap (λ (x : ℕ × Option G.Value). x.0) (some_injective e)

    pub alone_one : (u : Transaction G) → In u s.active → touched G u.moves k ≡ true → u.name ≡ t.name
    alone_one u j e = absurd (⊎_elim (λ y. go t.name (omega arith) (leb-true u.name t.name y)) (λ y. let w = leb-false u.name t.name y in go u.name (omega arith) (omega arith)) (cases_Bool (leb u.name t.name)))
      where
        go : (R : ℕ) → t.name ≤ R → u.name ≤ R → ⊥
        go R l r = nobody_ends u (inr j) (h.ended u j R p v r a (ap (touched G u.moves) at_key ∙ e) (shown_on R l))
