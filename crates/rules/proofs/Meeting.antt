-- What the index leads to, and what one at work sees there and waits for. Assumes nothing.
use Rattle.std.proofs.Common.{◌≡◌, ℕ, Bool, true, false, List, [], ◌∷◌, ◌++◌, Some, None, Option, Ordering, sym, refl, ap, ◌∙◌, inl, inr}
use Rattle.std.proofs.lemmas.Bool.{both_ways, or_parts}
use Rattle.std.specs.Option.{option_to_list}
use Rattle.seeing.specs.declared.Version.{Version}
use Rattle.rules.specs.Keys.{within}
use Rattle.keys.specs.Laws.{TotalOrder}
use Rattle.rules.specs.Tables.{entry}
use Rattle.rules.specs.Lists.{any}
use Rattle.rules.specs.Index.{covering}
use Rattle.seeing.specs.Seeing.{visible, waits_for}
use Rattle.rules.specs.Worlds.{World}
use Rattle.rules.specs.Reaching.{Met}
use Rattle.serial.specs.Lists.{In, All}
use Rattle.serial.specs.Machine.{Transaction, State, pending, Pending, Leads, below, touched, Reached}
use Rattle.serial.proofs.Kill.{All_in}
use Rattle.rules.proofs.Game.{game}
use Rattle.rules.proofs.Relation.{stored, Roll, Shelf, Listed}
use Rattle.rules.proofs.Sees.{Look, looks, looks_back, look_value, look_some, told_now}
use Rattle.rules.proofs.Moves.{called_pending, look_minds}
use Rattle.rules.proofs.Reach.{Meets, met_from, met_all, In_concat, concat_In, waits_of}

module _ {A : Type 0} where
  pub any_none : (f : A → Bool) (xs : List A) → any f xs ≡ false → (x : A) → In x xs → f x ≡ false
  any_none f [] e x i = absurd i
  any_none f (y ∷ xs) e x (inl q) = ap f (sym q) ∙ (or_parts (f y) (any f xs) e).0
  any_none f (y ∷ xs) e x (inr i) = any_none f xs (or_parts (f y) (any f xs) e).1 x i

module _ {K V : Type 0} (order : K → K → Ordering) (total : TotalOrder order) (w : World K V) where
  module _ (lower upper : K) (met : List (Met K V)) (m : Meets order total w.versions (covering order w.index lower upper) met) (listed : Listed order w.versions w.index.pairs) where
    pub met_in : (p : ℕ) (v : Version K V) → In (p, v) met → (entry w.versions p ≡ Some v) × (within order lower upper v.key ≡ true)
    met_in p v i = met_from order total w listed lower upper met m (p, v) i

    pub met_on : (p : ℕ) (v : Version K V) → entry w.versions p ≡ Some v → within order lower upper v.key ≡ true → In (p, v) met
    met_on p v a e = met_all order total w listed lower upper met m p v a e

    module _ (s : State (game V order total)) (way : Reached (game V order total) s) (roll : Roll (game V order total) w.store.slots s)
        (h : Shelf (game V order total) w.versions (stored w.store.slots) s) (t : Transaction (game V order total)) (i : In t s.active) where
      -- nobody is waited on but the pending
      pub waits_pending : All (Pending (game V order total) s.line) (waits_of w t.name t.name met)
      waits_pending = All_in _ _ (λ x j.
          let z = concat_In (λ (y : Met K V). option_to_list (waits_for w.store.slots t.name t.name y.1)) x met j in
          called_pending (game V order total) w.store.slots s way roll w.versions h t.name t.name x z.0.1 z.1.1)

      -- t minds whoever of the pending has changed what was looked at
      pub waits_mind : (k : K) → within order lower upper k ≡ true → (x : Transaction (game V order total)) → In x (below (game V order total) t.name s.line) → pending x.stage ≡ true →
          touched (game V order total) x.moves k ≡ true → Leads (game V order total) s.line (waits_of w t.name t.name met ++ t.waits) x.name
      waits_mind k e x j p c =
          look_minds (game V order total) w.store.slots s way roll w.versions h t i (waits_of w t.name t.name met) k
          (λ q v a f y l. In_concat (λ y. option_to_list (waits_for w.store.slots t.name t.name y.1)) y (q, v) met (met_on q v a (ap (within order lower upper) f ∙ e)) l) x j p c

      abbrev pub telling : K → Option V
      telling = told_now (game V order total) w.versions w.store.slots s way roll h t i

      -- nothing of the key is seen: it has no value
      pub seen_none : (k : K) → within order lower upper k ≡ true → ((p : ℕ) (v : Version K V) → In (p, v) met → v.key ≡ k → visible w.store.slots t.name t.name v ≡ false) → telling k ≡ None
      seen_none k e none = go (telling k) refl
        where
          go : (o : Option V) → telling k ≡ o → telling k ≡ None
          go None q = q
          go (Some x) q =
              let z = look_some (game V order total) w.versions w.store.slots s way roll h t i k x q in
              absurd (both_ways _ (none z.0 z.1.0 (met_on z.0 z.1.0 z.1.1.0 (ap (within order lower upper) z.1.1.1.0 ∙ e)) z.1.1.1.0)
              (looks_back (game V order total) w.versions w.store.slots s way roll h t i z.0 z.1.0 z.1.1.0 z.1.1.1.1))

      -- a version seen is what t is to be told
      pub seen_some : (p : ℕ) (v : Version K V) → In (p, v) met → visible w.store.slots t.name t.name v ≡ true →
          Look (game V order total) w.versions w.store.slots s way roll h t i v × (telling v.key ≡ Some v.value)
      seen_some p v j e =
          let a = (met_in p v j).0 in
          let z = looks (game V order total) w.versions w.store.slots s way roll h t i p v a e in
          (z, look_value (game V order total) w.versions w.store.slots s way roll h t i p v a z)
