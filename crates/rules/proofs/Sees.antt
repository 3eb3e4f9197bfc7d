-- What one at work sees at its begin stamp, and whom it waits on for it. Assumes nothing.
use Rattle.std.proofs.Common.{◌≡◌, ℕ, Bool, true, false, not, ◌||◌, ◌⊎◌, List, Some, None, Option, sym, refl, ap, ◌∙◌, inl, inr, ⊎_elim, arith}
use Rattle.std.proofs.lemmas.Bool.{false≢true, true≢false, cases_Bool, both_ways, or_left, or_right, or_parts, or_from, and_parts, and_from, not-true, not_from_false}
use Rattle.seeing.specs.declared.Begin.TheVariants as begin
use Rattle.seeing.specs.declared.End.TheVariants as end
use Rattle.seeing.specs.Slots.{Slots}
use Rattle.seeing.specs.Seeing.{as_end, happened, begun, ended, visible}
use Rattle.seeing.specs.Changing.{names}
use Rattle.serial.specs.Lists.{In, All}
use Rattle.serial.specs.Machine.{Game, Transaction, State, play, view, below, touched, stays, Reached}
use Rattle.serial.proofs.Lists.{All_at}
use Rattle.serial.proofs.Views.{play_untouched}
use Rattle.serial.proofs.Orders.{ordered}
use Rattle.rules.proofs.Times.{come, Ver, ending, time, shown, last, latest, upto}
use Rattle.rules.proofs.Relation.{stored, Roll, At, Shows, Shelf}
use Rattle.rules.proofs.Slots.{some_none, stored_some}
use Rattle.rules.proofs.Lines.{content, given_last, play_last, view_latest, upto_below, ending_none}
use Rattle.rules.proofs.Sight.{across}
use Rattle.rules.specs.declared.Entry.{Entry}
use Rattle.rules.proofs.Looks.{begun_is, ended_is}
use Rattle.rules.proofs.Prepare.{names_begin, names_end, names_owner, end_touched}

pub content_some : {A : Type 0} (o : Option (ℕ × Option A)) (x : A) → content o ≡ Some x → (b : ℕ) × (o ≡ Some (b, Some x))
content_some None x e = absurd (some_none (sym e))
content_some (Some (b, o)) x e = (b, ap (λ y. Some (b, y)) e)

module _ (G : Game) (vs : List (Entry (Ver G))) (ts : Slots) (s : State G) (way : Reached G s) (roll : Roll G ts s) (h : Shelf G vs (stored ts) s)
    (t : Transaction G) (i : In t s.active) where
  pub there_self : stored ts t.name ≡ true
  there_self = let r = roll.at_work t i in stored_some ts t.name r.1.0 r.1.1.0

  pub begun_time : (R p : ℕ) (v : Ver G) → At G vs p v → begun ts t.name R v ≡ (names t.name (as_end v.begin) || come R (time G s.line (as_end v.begin)))
  begun_time R p v a = begun_is G ts s way roll vs h t.name R p v a

  pub ended_time : (R p : ℕ) (v : Ver G) → At G vs p v → ended ts t.name R v ≡ (names t.name v.end || come R (time G s.line v.end))
  ended_time R p v a = ended_is G ts s way roll vs h t.name R p v a

  pub at_self : Shows G vs s.line t.name
  at_self = h.shows t.name (inl (t.name, (there_self, omega arith)))

  pub self_time : ending G s.line t.name ≡ None
  self_time = ending_none G s.line t.name (λ x l e. across G ts s way roll x t l i e)

  pub self_hidden : (R : ℕ) (v : Ver G) → v.begin ≡ begin.Owner t.name → shown G s.line R v ≡ true → ⊥
  self_hidden R v e q = false≢true (sym (ap (come R) (ap (λ x. time G s.line (as_end x)) e ∙ self_time)) ∙ (and_parts _ _ q).0)

  pub upto_self : upto G t.name s.line ≡ below G t.name s.line
  upto_self = upto_below G t.name s.line (All_at (λ u. All (λ x. x.end ≡ u.name → ⊥) s.line) t s.active i (ordered G s way).once)

  -- v is what t put last, or is shown at t's begin and not t's to change
  abbrev pub Look : Ver G → Type 0
  Look v =
      ((v.begin ≡ begin.Owner t.name) × ((v.end ≡ end.Open) × (last G t.moves v.key ≡ Some (Some v.value))))
      ⊎ ((v.begin ≡ begin.Owner t.name → ⊥) × ((touched G t.moves v.key ≡ false) × (shown G s.line t.name v ≡ true)))

  pub looks : (p : ℕ) (v : Ver G) → At G vs p v → visible ts t.name t.name v ≡ true → Look v
  looks p v a e = go (names t.name (as_end v.begin)) refl
    where
      parts : (begun ts t.name t.name v ≡ true) × (not (ended ts t.name t.name v) ≡ true)
      parts = and_parts _ _ e

      open' : (names t.name v.end ≡ false) × (come t.name (time G s.line v.end) ≡ false)
      open' = or_parts _ _ (sym (ended_time t.name p v a) ∙ not-true _ parts.1)

      go : (b : Bool) → names t.name (as_end v.begin) ≡ b → Look v
      go true q =
          let b = names_begin t.name v.begin q in
          inl (b, ⊎_elim (λ z. absurd (true≢false (sym (ap (names t.name) z ∙ names_owner t.name) ∙ open'.0))) (λ z. z) ((h.own t i).sound p v a b))
      go false q = inr (λ z. true≢false (sym (ap (λ x. names t.name (as_end x)) z ∙ names_owner t.name) ∙ q), (free, sh))
        where
          sh : shown G s.line t.name v ≡ true
          sh = and_from _ _ (sym (ap (λ b. b || come t.name (time G s.line (as_end v.begin))) q) ∙ sym (begun_time t.name p v a) ∙ parts.0) (not_from_false _ open'.1)

          free : touched G t.moves v.key ≡ false
          free = ⊎_elim (λ z. absurd (true≢false (sym (ap (names t.name) (h.ended t i t.name p v (omega arith) a z sh) ∙ names_owner t.name) ∙ open'.0))) (λ z. z) (cases_Bool (touched G t.moves v.key))

  pub looks_back : (p : ℕ) (v : Ver G) → At G vs p v → Look v → visible ts t.name t.name v ≡ true
  looks_back p v a (inl z) = and_from _ _
      (begun_time t.name p v a ∙ or_left _ _ (ap (λ x. names t.name (as_end x)) z.0 ∙ names_owner t.name))
      (not_from_false _ (ap (happened ts t.name t.name) z.1.0))
  looks_back p v a (inr z) = let q = and_parts _ _ z.1.1 in and_from _ _
      (begun_time t.name p v a ∙ or_right _ _ q.0)
      (not_from_false _ (ended_time t.name p v a ∙ or_from _ _ mine (not-true _ q.1)))
    where
      mine : names t.name v.end ≡ false
      mine = ⊎_elim (λ y. absurd (both_ways _ z.1.0 (end_touched G vs (stored ts) s way h p v t a (inr i) (names_end t.name v.end y)).0)) (λ y. y) (cases_Bool (names t.name v.end))

  -- what t is to be told of the key
  abbrev pub told_now : G.Key → Option G.Value
  told_now = play G (view G (below G t.name s.line)) t.moves

  pub look_value : (p : ℕ) (v : Ver G) → At G vs p v → Look v → told_now v.key ≡ Some v.value
  look_value p v a (inl z) = play_last G (view G (below G t.name s.line)) t.moves v.key ∙ ap (λ o. stays o (view G (below G t.name s.line) v.key)) z.1.1
  look_value p v a (inr z) =
      let r = at_self.sound p v a z.1.1 in
      play_untouched G (view G (below G t.name s.line)) t.moves v.key z.1.0
      ∙ view_latest G (below G t.name s.line) v.key ∙ ap (λ l. content (latest G l v.key)) (sym upto_self) ∙ ap content r.1.1

  pub look_some : (k : G.Key) (x : G.Value) → told_now k ≡ Some x → (p : ℕ) × ((v : Ver G) × (At G vs p v × ((v.key ≡ k) × Look v)))
  look_some k x e = go (last G t.moves k) refl (sym (play_last G (view G (below G t.name s.line)) t.moves k) ∙ e)
    where
      go : (o : Option (Option G.Value)) → last G t.moves k ≡ o → stays (last G t.moves k) (view G (below G t.name s.line) k) ≡ Some x → (p : ℕ) × ((v : Ver G) × (At G vs p v × ((v.key ≡ k) × Look v)))
      go None q f =
          let y = content_some (latest G (upto G t.name s.line) k) x (ap (λ l. content (latest G l k)) upto_self ∙ sym (view_latest G (below G t.name s.line) k) ∙ ap (λ o. stays o (view G (below G t.name s.line) k)) (sym q) ∙ f) in
          let z = at_self.complete k y.0 x y.1 in (
            z.0,
            (
              z.1.0,
              (
                z.1.1.0,
                (
                  z.1.1.1.0,
                  inr (
                    λ b. self_hidden t.name z.1.0 b z.1.1.1.1,
                    (sym (given_last G t.moves z.1.0.key) ∙ ap Rattle.serial.specs.Machine.given (ap (last G t.moves) z.1.1.1.0 ∙ q), z.1.1.1.1),
                  ),
                ),
              ),
            ),
          )
      go (Some o) q f =
          let z = (h.own t i).complete k x (q ∙ ap Some (ap (λ o. stays o (view G (below G t.name s.line) k)) (sym q) ∙ f)) in
          let y = (h.own t i).sound z.0 z.1.0 z.1.1.0 z.1.1.1.1.0 in
          (z.0, (z.1.0, (z.1.1.0, (z.1.1.1.0, inl (z.1.1.1.1.0, (z.1.1.1.1.1, ⊎_elim (λ c. absurd (closed z.1.0 z.1.1.1.1.1 c)) (λ c. c.1) y))))))
        where
          closed : (v : Ver G) → v.end ≡ end.Open → v.end ≡ end.Owner t.name → ⊥
          closed v a b = let z : ◌≡◌ {A = ℕ} 0 1 = cc in omega arith
