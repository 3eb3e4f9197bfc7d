-- What one at work sees of a key, and whom it then waits on. Assumes nothing.
use Rattle.std.proofs.Common.{◌≡◌, ℕ, ◌<◌, ◌≤◌, Bool, true, false, cond, not, ◌&&◌, ◌||◌, ltb, leb, ◌⊎◌, List, [], Some, None, Option, sym, refl, ap, ◌∙◌, subst, inl, inr, ⊎_elim, arith}
use Rattle.std.proofs.lemmas.Bool.{false≢true, true≢false, cases_Bool, le-leb, lt-ltb, eqb-false, leb-true}
use Rattle.std.specs.Option.{option_to_list}
use Rattle.seeing.specs.declared.Begin.{Begin}
use Rattle.seeing.specs.declared.Begin.TheVariants as begin
use Rattle.seeing.specs.declared.End.{End}
use Rattle.seeing.specs.declared.End.TheVariants as end
use Rattle.seeing.specs.Slots.{Slots}
use Rattle.seeing.specs.Seeing.{as_end, preparing_other, begun, ended, visible, waits_for}
use Rattle.seeing.specs.Changing.{names}
use Rattle.serial.specs.Lists.{In}
use Rattle.serial.specs.Machine.{Game, Transaction, State, committed, pending, Leads, touched, covered, Reached}
use Rattle.serial.proofs.Lists.{All_at}
use Rattle.serial.proofs.Waits.{leads_none}
use Rattle.serial.proofs.Fits.{pending_unless}
use Rattle.serial.proofs.Steps.{sound, Seen}
use Rattle.serial.proofs.Orders.{ordered, All_unkept, touched_covered}
use Rattle.rules.proofs.Times.{come, Ver, ending, time, shown, Here, Names, BegunBy}
use Rattle.rules.proofs.Relation.{stored, Begins, Ends, At, Shelf, Roll}
use Rattle.rules.proofs.Slots.{some_injective}
use Rattle.rules.proofs.Lines.{ending_in, ending_some}
use Rattle.rules.proofs.Sight.{Known, happened_time, on_waits, waits_on}
use Rattle.rules.specs.declared.Entry.{Entry}
use Rattle.rules.proofs.Prepare.{names_begin, names_end, begin_touched, end_touched}
use Rattle.serial.proofs.Names.{distinct}
use Rattle.serial.proofs.Kill.{Any_in}

module _ (G : Game) (ts : Slots) (s : State G) (way : Reached G s) (roll : Roll G ts s) (vs : List (Entry (Ver G))) (h : Shelf G vs (stored ts) s) where
  pub known_begin : (p : ℕ) (v : Ver G) → At G vs p v → Known ts (as_end v.begin)
  known_begin p v a = go v.begin (h.begins p v a)
    where
      go : (x : Begin) → Begins G s (stored ts) v x → Known ts (as_end x)
      go (begin.Owner m) q = q.0
      go (begin.Stamp b) q = tt

  pub known_end : (p : ℕ) (v : Ver G) → At G vs p v → Known ts v.end
  known_end p v a = go v.end (h.ends p v a)
    where
      go : (x : End) → Ends G s (stored ts) v x → Known ts x
      go (end.Owner m) q = q.0
      go (end.Stamp b) q = tt
      go end.Open q = tt

  pub begun_is : (n R p : ℕ) (v : Ver G) → At G vs p v → begun ts n R v ≡ (names n (as_end v.begin) || come R (time G s.line (as_end v.begin)))
  begun_is n R p v a = happened_time G ts s way roll n R (as_end v.begin) (known_begin p v a)

  pub ended_is : (n R p : ℕ) (v : Ver G) → At G vs p v → ended ts n R v ≡ (names n v.end || come R (time G s.line v.end))
  ended_is n R p v a = happened_time G ts s way roll n R v.end (known_end p v a)

  -- of a key that the reader has not changed it sees what is shown
  pub visible_shown : (n R p : ℕ) (v : Ver G) → At G vs p v → names n (as_end v.begin) ≡ false → names n v.end ≡ false → visible ts n R v ≡ shown G s.line R v
  visible_shown n R p v a nb ne =
      ap (λ b. b && not (ended ts n R v)) (begun_is n R p v a ∙ ap (λ b. b || come R (time G s.line (as_end v.begin))) nb)
      ∙ ap (λ b. come R (time G s.line (as_end v.begin)) && not b) (ended_is n R p v a ∙ ap (λ b. b || come R (time G s.line v.end)) ne)

  -- no version of a key that it has not changed names it
  pub unnamed : (t : Transaction G) (p : ℕ) (v : Ver G) → Here G s t → At G vs p v → touched G t.moves v.key ≡ false → (names t.name (as_end v.begin) ≡ false) × (names t.name v.end ≡ false)
  unnamed t p v i a free = (
    ⊎_elim (λ e. absurd (true≢false (sym (begin_touched G vs (stored ts) s way h p v t a i (names_begin t.name v.begin e)) ∙ free))) (λ e. e) (cases_Bool (names t.name (as_end v.begin))),
    ⊎_elim (λ e. absurd (true≢false (sym (end_touched G vs (stored ts) s way h p v t a i (names_end t.name v.end e)).0 ∙ free))) (λ e. e) (cases_Bool (names t.name v.end)),
  )

  -- whoever covers a key leads to all that are pending and changed it before its begin
  pub led_to : (y x : Transaction G) (k : G.Key) → In y s.line → covered G y.moves k ≡ true → In x s.line → pending x.stage ≡ true → touched G x.moves k ≡ true → x.end ≤ y.name → Leads G s.line y.waits x.name
  led_to y x k j cov i p touch le =
      All_at _ x s.line i (All_unkept _ (λ x. ltb x.end y.name) s.line (All_at (Seen G s.line) y s.line j (sound G s way).sees').1)
      (lt-ltb x.end y.name (let d = All_at (λ x. x.end ≡ y.name → ⊥) x s.line i (All_at _ y s.line j (ordered G s way).once') in omega arith)) p k cov touch

  -- a settled one leads to nobody, so it comes after no pending one that changed what it covers
  pub settled_clear : (y x : Transaction G) (k : G.Key) → In y s.line → y.stage ≡ committed → covered G y.moves k ≡ true → In x s.line → pending x.stage ≡ true → touched G x.moves k ≡ true → x.end ≤ y.name → ⊥
  settled_clear y x k j st cov i p touch le = leads_none G s.line y.waits x.name (All_at _ y s.line j (sound G s way).free st) (led_to y x k j cov i p touch le)

  -- Held n R v x: n, once it has tested v at R, waits on one that is x or leads to x
  abbrev pub Held : ℕ → ℕ → Ver G → Transaction G → Type 0
  Held n R v x = (y : Transaction G) × (In y s.line × ((y.end ≤ R) × ((y.name ≡ n → ⊥) × (In y.name (option_to_list (waits_for ts n R v)) × ((y.name ≡ x.name) ⊎ Leads G s.line y.waits x.name)))))

  module _ (n R p : ℕ) (v : Ver G) (a : At G vs p v) (nb : names n (as_end v.begin) ≡ false) (ne : names n v.end ≡ false) where
    begun_come : begun ts n R v ≡ come R (time G s.line (as_end v.begin))
    begun_come = begun_is n R p v a ∙ ap (λ b. b || come R (time G s.line (as_end v.begin))) nb

    ended_come : ended ts n R v ≡ come R (time G s.line v.end)
    ended_come = ended_is n R p v a ∙ ap (λ b. b || come R (time G s.line v.end)) ne

    into : (c : Bool) (y : ℕ) → begun ts n R v ≡ true → ended ts n R v ≡ c → In y (option_to_list (preparing_other ts n (cond c v.end (as_end v.begin)))) → In y (option_to_list (waits_for ts n R v))
    into c y b e i =
        subst (λ b. In y (option_to_list (cond b (preparing_other ts n (cond (ended ts n R v) v.end (as_end v.begin))) None))) (sym b)
        (subst (λ c. In y (option_to_list (preparing_other ts n (cond c v.end (as_end v.begin))))) (sym e) i)

    -- all whom the test has n wait on are pending in the line by R
    pub waits_known : (y : ℕ) → In y (option_to_list (waits_for ts n R v)) → (z : Transaction G) × (In z s.line × ((z.name ≡ y) × ((pending z.stage ≡ true) × ((z.end ≤ R) × (z.name ≡ n → ⊥)))))
    waits_known y i = go (begun ts n R v) (ended ts n R v) refl refl i
      where
        from : (m : End) → come R (time G s.line m) ≡ true → In y (option_to_list (preparing_other ts n m)) → (z : Transaction G) × (In z s.line × ((z.name ≡ y) × ((pending z.stage ≡ true) × ((z.end ≤ R) × (z.name ≡ n → ⊥)))))
        from m c j =
            let w = waits_on G ts s way roll n y m j in
            let z = Any_in (λ t. (t.name ≡ y) × (pending t.stage ≡ true)) s.line w.1.1 in
            let q : leb z.0.end R ≡ true =
            sym (ap (come R) (ap (time G s.line) w.0 ∙ ap (ending G s.line) (sym z.1.1.0) ∙ ending_in G s.line z.0 (distinct G s way).line_apart z.1.0)) ∙ c in
            (z.0, (z.1.0, (z.1.1.0, (z.1.1.1, (leb-true z.0.end R q, λ e. w.1.0 (sym z.1.1.0 ∙ e))))))

        go : (b c : Bool) → begun ts n R v ≡ b → ended ts n R v ≡ c → In y (option_to_list (cond b (preparing_other ts n (cond c v.end (as_end v.begin))) None)) → (z : Transaction G) × (In z s.line × ((z.name ≡ y) × ((pending z.stage ≡ true) × ((z.end ≤ R) × (z.name ≡ n → ⊥)))))
        go false c p q i = absurd i
        go true true p q i = from v.end (sym ended_come ∙ q) i
        go true false p q i = from (as_end v.begin) (sym begun_come ∙ p) i

    wait_begin : (x : Transaction G) → In x s.line → pending x.stage ≡ true → x.end ≤ R → (x.name ≡ n → ⊥) → touched G x.moves v.key ≡ true → v.begin ≡ begin.Owner x.name → Held n R v x
    wait_begin x i pend le d touch b = begins (ended ts n R v) refl
      where
        time_x : time G s.line (as_end v.begin) ≡ Some x.end
        time_x = ap (λ m. time G s.line (as_end m)) b ∙ ending_in G s.line x (distinct G s way).line_apart i

        began : begun ts n R v ≡ true
        began = begun_come ∙ ap (come R) time_x ∙ le-leb x.end R le

        -- one that ended it begins after x ends
        later : (y : ℕ) → BegunBy G s.line y v → x.end ≤ y
        later y z = let q : x.end ≡ z.0 = some_injective (sym time_x ∙ z.1.0) in let r : z.0 ≤ y = z.1.1 in omega arith

        by_end : (m : End) → v.end ≡ m → ended ts n R v ≡ true → come R (time G s.line m) ≡ true → Held n R v x
        by_end end.Open e en c = absurd (false≢true c)
        by_end (end.Stamp b0) e en c = go (subst (Ends G s (stored ts) v) e (h.ends p v a)).1
          where
            go : (v.begin ≡ begin.Stamp b0) ⊎ ((t : Transaction G) × (In t s.line × ((t.stage ≡ committed) × ((t.end ≡ b0) × ((touched G t.moves v.key ≡ true) × BegunBy G s.line t.name v))))) → Held n R v x
            go (inl q) = absurd (let w : begin.Owner x.name ≡ begin.Stamp b0 = sym b ∙ q in let z : ◌≡◌ {A = ℕ} 0 1 = cc in omega arith)
            go (inr z) = absurd (leads_none G s.line z.0.waits x.name (All_at (λ t. t.stage ≡ committed → t.waits ≡ []) z.0 s.line z.1.0 (sound G s way).free z.1.1.0)
                (led_to z.0 x v.key z.1.0 (touched_covered G z.0.moves v.key z.1.1.1.1.0) i pend touch (later z.0.name z.1.1.1.1.1)))
        by_end (end.Owner m) e en c = go (ending G s.line m) refl c
          where
            go : (o : Option ℕ) → ending G s.line m ≡ o → come R o ≡ true → Held n R v x
            go None q c = absurd (false≢true c)
            go (Some f) q c = which ends.1
              where
                found : (t : Transaction G) × (In t s.line × ((t.name ≡ m) × (t.end ≡ f)))
                found = ending_some G s.line m f q

                ends : (touched G found.0.moves v.key ≡ true) × ((v.begin ≡ begin.Owner m) ⊎ BegunBy G s.line m v)
                ends = (subst (Ends G s (stored ts) v) e (h.ends p v a)).1 found.0 (inl found.1.0) found.1.1.0

                which : (v.begin ≡ begin.Owner m) ⊎ BegunBy G s.line m v → Held n R v x
                which (inl z) =
                    let w : begin.Owner x.name ≡ begin.Owner m = sym b ∙ z in let same : x.name ≡ m = cc in
                    (x, (i, (le, (d, (into true x.name began en (subst (λ m. In x.name (option_to_list (preparing_other ts n m))) (sym (e ∙ ap end.Owner (sym same))) (on_waits G ts s way roll n x i pend d)), inl refl)))))
                which (inr z) =
                    let y = found.0 in
                    let leads : Leads G s.line y.waits x.name = led_to y x v.key found.1.0 (touched_covered G y.moves v.key ends.0) i pend touch (subst (λ k. x.end ≤ k) (sym found.1.1.0) (later m z)) in
                    let apart : y.name ≡ n → ⊥ = λ w. eqb-false m n (sym (ap (names n) e) ∙ ne) (sym found.1.1.0 ∙ w) in
                    let still : pending y.stage ≡ true = pending_unless y.stage (λ w. leads_none G s.line y.waits x.name (All_at (λ t. t.stage ≡ committed → t.waits ≡ []) y s.line found.1.0 (sound G s way).free w) leads) in
                    let early : y.end ≤ R = leb-true y.end R (ap (λ k. leb k R) found.1.1.1 ∙ c) in
                    (y, (found.1.0, (early, (apart, (into true y.name began en (subst (λ m. In y.name (option_to_list (preparing_other ts n m))) (sym (e ∙ ap end.Owner (sym found.1.1.0))) (on_waits G ts s way roll n y found.1.0 still apart)), inr leads)))))

        begins : (c : Bool) → ended ts n R v ≡ c → Held n R v x
        begins false q = (x, (i, (le, (d, (into false x.name began q (subst (λ m. In x.name (option_to_list (preparing_other ts n (as_end m)))) (sym b) (on_waits G ts s way roll n x i pend d)), inl refl)))))
        begins true q = by_end v.end refl q (sym ended_come ∙ q)

    -- whoever is pending, has changed the key by R and is named by the version: n waits on it, or on one that leads to it
    pub wait_of : (x : Transaction G) → In x s.line → pending x.stage ≡ true → x.end ≤ R → (x.name ≡ n → ⊥) → touched G x.moves v.key ≡ true → Names G x.name v → Held n R v x
    wait_of x i pend le d touch (inl b) = wait_begin x i pend le d touch b
    wait_of x i pend le d touch (inr e) = ends ((subst (Ends G s (stored ts) v) e (h.ends p v a)).1 x (inl i) refl).1
      where
        ends : (v.begin ≡ begin.Owner x.name) ⊎ BegunBy G s.line x.name v → Held n R v x
        ends (inl b) = wait_begin x i pend le d touch b
        ends (inr z) =
            let long : x.name < x.end = All_at (λ t. t.name < t.end) x s.line i (ordered G s way).longer in
            let began : begun ts n R v ≡ true = begun_come ∙ ap (come R) z.1.0 ∙ le-leb z.0 R (let q : z.0 ≤ x.name = z.1.1 in omega arith) in
            let over : ended ts n R v ≡ true = ended_come ∙ ap (come R) (ap (time G s.line) e ∙ ending_in G s.line x (distinct G s way).line_apart i) ∙ le-leb x.end R le in
            (x, (i, (le, (d, (into true x.name began over (subst (λ m. In x.name (option_to_list (preparing_other ts n m))) (sym e) (on_waits G ts s way roll n x i pend d)), inl refl)))))
