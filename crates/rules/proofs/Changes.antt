-- The changes that writes make to the table, and what they leave of the writer's own versions and of the notes. Assumes nothing.
use Rattle.std.proofs.Common.{◌≡◌, ℕ, Bool, true, false, cond, eqb, ◌⊎◌, List, ◌∷◌, set, Some, None, Option, Ordering, sym, ap, ◌∙◌, subst, inl, inr, ⊎_elim}
use Rattle.std.proofs.lemmas.Bool.{true≢false, cases_eq, eq-eqb, or_cases, or_parts}
use Rattle.seeing.specs.declared.Begin.TheVariants as since
use Rattle.seeing.specs.declared.End.TheVariants as till
use Rattle.seeing.specs.declared.Version.{Version}
use Rattle.rules.specs.declared.Entry.{Entry}
use Rattle.rules.specs.declared.Note.{Note}
use Rattle.keys.specs.Laws.{TotalOrder}
use Rattle.rules.specs.Tables.{entry, is_free, filled}
use Rattle.serial.specs.Lists.{In, change}
use Rattle.serial.specs.Machine.{Game, Transaction, State, touched, covered, given, moved, Reached}
use Rattle.serial.proofs.Orders.{In_changed}
use Rattle.rules.proofs.Game.{game}
use Rattle.rules.proofs.Times.{either, Ver, last}
use Rattle.rules.proofs.Relation.{At, Own, Shelf, Guarded, Guards}
use Rattle.rules.proofs.Slots.{some_injective}
use Rattle.rules.proofs.Writes.{Changed, Fresh, Image, changed_self, shown_changed}
use Rattle.rules.proofs.Tables.{free_used}
use Rattle.rules.proofs.Reach.{entry_set_other, entry_set_same, entry_set_free}

module _ (G : Game) (s : State G) (n : ℕ) (k : G.Key) where
  pub image_self : (vs : List (Entry (Ver G))) → Image G s n k vs vs
  image_self vs = record { back = λ p v a. inr (v, (a, changed_self G s n k v)); on = λ p v a. (v, (a, changed_self G s n k v)) }

  -- one entry is changed
  pub image_set : (vs : List (Entry (Ver G))) (p : ℕ) (v v' : Ver G) → At G vs p v → Changed G s n k v v' → Image G s n k vs (set vs p (filled v'))
  image_set vs p v v' a c = record { back = back; on = on }
    where
      back : (q : ℕ) (u' : Ver G) → At G (set vs p (filled v')) q u' → Fresh G n k u' ⊎ ((u : Ver G) × (At G vs q u × Changed G s n k u u'))
      back q u' b = inr (⊎_elim
          (λ z. (v, (ap (entry vs) z ∙ a, subst (Changed G s n k v) (some_injective (sym (entry_set_same vs p (filled v') v a) ∙ ap (entry (set vs p (filled v'))) (sym z) ∙ b)) c)))
          (λ d. (u', (sym (entry_set_other vs p q (filled v') d) ∙ b, changed_self G s n k u'))) (cases_eq q p))

      on : (q : ℕ) (u : Ver G) → At G vs q u → (u' : Ver G) × (At G (set vs p (filled v')) q u' × Changed G s n k u u')
      on q u b = ⊎_elim
          (λ z. (v', (ap (entry (set vs p (filled v'))) z ∙ entry_set_same vs p (filled v') v a, subst (λ x. Changed G s n k x v') (some_injective (sym a ∙ ap (entry vs) (sym z) ∙ b)) c)))
          (λ d. (u, (entry_set_other vs p q (filled v') d ∙ b, changed_self G s n k u))) (cases_eq q p)

  -- and one is added
  pub image_add : (vs vs₁ : List (Entry (Ver G))) (q : ℕ) (new : Ver G) → Image G s n k vs vs₁ → is_free vs₁ q ≡ true → Fresh G n k new → Image G s n k vs (set vs₁ q (filled new))
  image_add vs vs₁ q new m free f = record { back = back; on = on }
    where
      back : (p : ℕ) (u' : Ver G) → At G (set vs₁ q (filled new)) p u' → Fresh G n k u' ⊎ ((u : Ver G) × (At G vs p u × Changed G s n k u u'))
      back p u' b = ⊎_elim
          (λ z. inl (subst (Fresh G n k) (some_injective (sym (entry_set_free vs₁ q (filled new) free) ∙ ap (entry (set vs₁ q (filled new))) (sym z) ∙ b)) f))
          (λ d. m.back p u' (sym (entry_set_other vs₁ q p (filled new) d) ∙ b)) (cases_eq p q)

      on : (p : ℕ) (u : Ver G) → At G vs p u → (u' : Ver G) × (At G (set vs₁ q (filled new)) p u' × Changed G s n k u u')
      on p u b = let z = m.on p u b in (z.0, (entry_set_other vs₁ q p (filled new) (λ y. free_used vs₁ p q z.0 free z.1.0 (sym y)) ∙ z.1.0, z.1.1))

module _ (G : Game) (n : ℕ) (k : G.Key) (m : G.Move) (W : List ℕ) (o : Option G.Value) (hit : G.effect m k ≡ Some o)
    (miss : (j : G.Key) → (j ≡ k → ⊥) → G.effect m j ≡ None) (dec : (a b : G.Key) → (a ≡ b) ⊎ (a ≡ b → ⊥)) (t : Transaction G) (named : t.name ≡ n) where
  moves_now : (moved G n m W t).moves ≡ (m ∷ t.moves)
  moves_now = ap (λ b. cond b (m ∷ t.moves) t.moves) (eq-eqb t.name n named)

  last_here : last G (moved G n m W t).moves k ≡ Some o
  last_here = ap (λ ms. last G ms k) moves_now ∙ ap (λ x. either x (last G t.moves k)) hit

  last_there : (j : G.Key) → (j ≡ k → ⊥) → last G (moved G n m W t).moves j ≡ last G t.moves j
  last_there j d = ap (λ ms. last G ms j) moves_now ∙ ap (λ x. either x (last G t.moves j)) (miss j d)

  -- the writer's own versions, by key: those of k are as told, and those of others as before
  pub own_write : (vs vs' : List (Entry (Ver G))) → Own G vs t →
      ((p : ℕ) (v : Ver G) → v.begin ≡ since.Owner n → (v.key ≡ k → ⊥) → (At G vs' p v → At G vs p v) × (At G vs p v → At G vs' p v)) →
      ((p : ℕ) (v : Ver G) → At G vs' p v → v.begin ≡ since.Owner n → v.key ≡ k → (v.end ≡ till.Owner n) ⊎ ((v.end ≡ till.Open) × (o ≡ Some v.value))) →
      ((p q : ℕ) (v u : Ver G) → At G vs' p v → At G vs' q u → v.key ≡ k → u.key ≡ k → v.begin ≡ since.Owner n → u.begin ≡ since.Owner n → v.end ≡ till.Open → u.end ≡ till.Open → p ≡ q) →
      ((x : G.Value) → o ≡ Some x → (p : ℕ) × ((v : Ver G) × (At G vs' p v × ((v.key ≡ k) × ((v.begin ≡ since.Owner n) × (v.end ≡ till.Open)))))) →
      Own G vs' (moved G n m W t)
  own_write vs vs' h others sound' unique' complete' = record {
    sound = λ p v a e. ⊎_elim
        (λ c. ⊎_elim (λ z. inl (z ∙ ap till.Owner (sym named))) (λ z. inr (z.0, ap (last G (moved G n m W t).moves) c ∙ last_here ∙ ap Some z.1)) (sound' p v a (mine v e) c))
        (λ c. ⊎_elim (λ z. inl z) (λ z. inr (z.0, last_there v.key c ∙ z.1)) (h.sound p v ((others p v (mine v e) c).0 a) e)) (dec v.key k);
    unique = λ p q v u a b c e f x y. ⊎_elim
        (λ z. unique' p q v u a b z (sym c ∙ z) (mine v e) (mine u f) x y)
        (λ z. h.unique p q v u ((others p v (mine v e) z).0 a) ((others q u (mine u f) (λ w. z (c ∙ w))).0 b) c e f x y) (dec v.key k);
    complete = λ j x e. ⊎_elim
        (λ c. let z = complete' x (some_injective (sym last_here ∙ ap (last G (moved G n m W t).moves) (sym c) ∙ e)) in
        (z.0, (z.1.0, (z.1.1.0, (z.1.1.1.0 ∙ sym c, (z.1.1.1.1.0 ∙ ap since.Owner (sym named), z.1.1.1.1.1))))))
        (λ c. let z = h.complete j x (sym (last_there j c) ∙ e) in
        (z.0, (z.1.0, ((others z.0 z.1.0 (mine z.1.0 z.1.1.1.1.0) (λ w. c (sym z.1.1.1.0 ∙ w))).1 z.1.1.0, z.1.1.1)))) (dec j k);
  }
    where
      mine : (v : Ver G) → v.begin ≡ since.Owner t.name → v.begin ≡ since.Owner n
      mine v e = e ∙ ap since.Owner named

module _ {K : Type 0} (V : Type 0) (order : K → K → Ordering) (total : TotalOrder order) (ns : List (Entry (Note K))) (vs vs' : List (Entry (Version K V))) (there : ℕ → Bool) (s : State (game V order total))
    (way : Reached (game V order total) s) (h : Shelf (game V order total) vs there s) (n : ℕ) (k : K) (m : (game V order total).Move) (W : List ℕ) (o : Option V) (hit : (game V order total).effect m k ≡ Some o)
    (t : Transaction (game V order total)) (i : In t s.active) (named : t.name ≡ n) (image : Image (game V order total) s n k vs vs') (alone : (j : K) → (game V order total).covers m j ≡ true → j ≡ k) where
  guarded_on : (x : ℕ) (j : K) → Guarded V order total ns vs s.line x j → Guarded V order total ns vs' s.line x j
  guarded_on x j (inl z) = inl z
  guarded_on x j (inr z) =
      let y = image.on z.0 z.1.0 z.1.1.1.0 in
      inr (z.0, (y.0, (z.1.1.0, (y.1.0, (y.1.1.key ∙ z.1.1.1.1.0, shown_changed (game V order total) vs vs' there s way h n k m W o hit t i named image x z.1.0 y.0 y.1.1 ∙ z.1.1.1.1.1)))))

  pub guards_write : Guards V order total ns vs s → Guards V order total ns vs' (record { clock = s.clock; active = change (moved (game V order total) n m W) s.active; line = s.line })
  guards_write g = record {
    at_work = λ u' j ser x c f. let z = In_changed (moved (game V order total) n m W) u' s.active j in
        guarded_on u'.name x (subst (λ y. Guarded V order total ns vs s.line y x) (ap (λ v. v.name) z.1.1)
        (let r = old z.0 x (eqb z.0.name n) (ap (λ v. covered (game V order total) v.moves x) z.1.1 ∙ c) (ap (λ v. touched (game V order total) v.moves x) z.1.1 ∙ f) in
        g.at_work z.0 z.1.0 (ap (λ v. v.ser) z.1.1 ∙ ser) x r.0 r.1));
    preparing = λ u j st ser x c f. guarded_on u.name x (g.preparing u j st ser x c f);
  }
    where
      old : (u : Transaction (game V order total)) (x : K) (b : Bool) → covered (game V order total) (cond b (m ∷ u.moves) u.moves) x ≡ true → touched (game V order total) (cond b (m ∷ u.moves) u.moves) x ≡ false →
          (covered (game V order total) u.moves x ≡ true) × (touched (game V order total) u.moves x ≡ false)
      old u x false c f = (c, f)
      old u x true c f =
          let q = or_parts (given ((game V order total).effect m x)) (touched (game V order total) u.moves x) f in
          (⊎_elim (λ y. absurd (true≢false (sym (ap given hit) ∙ ap (λ j. given ((game V order total).effect m j)) (sym (alone x y)) ∙ q.0))) (λ y. y) (or_cases ((game V order total).covers m x) (covered (game V order total) u.moves x) c), q.1)
