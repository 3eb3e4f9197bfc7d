-- The writer's own versions after each kind of write. Assumes nothing.
use Rattle.std.proofs.Common.{◌≡◌, ℕ, true, ◌⊎◌, List, set, Some, None, Option, sym, refl, ap, ◌∙◌, subst, inl, inr, ⊎_elim}
use Rattle.std.proofs.lemmas.Bool.{cases_eq}
use Rattle.seeing.specs.declared.Begin.TheVariants as since
use Rattle.seeing.specs.declared.End.TheVariants as till
use Rattle.rules.specs.declared.Entry.{Entry}
use Rattle.rules.specs.Tables.{entry, is_free, filled}
use Rattle.serial.specs.Machine.{Game, Transaction, moved}
use Rattle.rules.proofs.Times.{Ver}
use Rattle.rules.proofs.Relation.{At, Own}
use Rattle.rules.proofs.Slots.{some_injective, some_none}
use Rattle.rules.proofs.Tables.{free_used}
use Rattle.rules.proofs.Reach.{entry_set_other, entry_set_same, entry_set_free}
use Rattle.rules.proofs.Changes.{own_write}

module _ (G : Game) (k : G.Key) (m : G.Move) (W : List ℕ) (o : Option G.Value) (hit : G.effect m k ≡ Some o)
    (miss : (j : G.Key) → (j ≡ k → ⊥) → G.effect m j ≡ None) (dec : (a b : G.Key) → (a ≡ b) ⊎ (a ≡ b → ⊥)) (t : Transaction G) (vs : List (Entry (Ver G))) (h : Own G vs t) where
  -- the own versions are the same in both tables
  abbrev pub SameOwn : List (Entry (Ver G)) → Type 0
  SameOwn vs₁ = (p : ℕ) (v : Ver G) → v.begin ≡ since.Owner t.name → (At G vs₁ p v → At G vs p v) × (At G vs p v → At G vs₁ p v)

  -- of k no own version is open
  abbrev pub NoneOpen : Type 0
  NoneOpen = (p : ℕ) (v : Ver G) → At G vs p v → v.begin ≡ since.Owner t.name → v.key ≡ k → v.end ≡ till.Open → ⊥

  pub same_skip : (p : ℕ) (v v' : Ver G) → At G vs p v → (v.begin ≡ since.Owner t.name → ⊥) → v'.begin ≡ v.begin → SameOwn (set vs p (filled v'))
  same_skip p v v' a d e q u b = (
    λ c. ⊎_elim (λ z. absurd (d (sym e ∙ ap (λ x. x.begin) (some_injective (sym (entry_set_same vs p (filled v') v a) ∙ ap (entry (set vs p (filled v'))) (sym z) ∙ c)) ∙ b))) (λ z. sym (entry_set_other vs p q (filled v') z) ∙ c) (cases_eq q p),
    λ c. ⊎_elim (λ z. absurd (d (ap (λ x. x.begin) (some_injective (sym a ∙ ap (entry vs) (sym z) ∙ c)) ∙ b))) (λ z. entry_set_other vs p q (filled v') z ∙ c) (cases_eq q p),
  )

  pub own_add : (vs₁ : List (Entry (Ver G))) → SameOwn vs₁ → NoneOpen → (q : ℕ) → is_free vs₁ q ≡ true → (new : Ver G) → new.key ≡ k → new.begin ≡ since.Owner t.name → new.end ≡ till.Open → o ≡ Some new.value →
      Own G (set vs₁ q (filled new)) (moved G t.name m W t)
  own_add vs₁ same none q free new nk nb ne nv = own_write G t.name k m W o hit miss dec t refl vs (set vs₁ q (filled new)) h
      (λ p v b d. (λ a. (same p v b).0 (⊎_elim (λ z. absurd (d (ap (λ x. x.key) (sym (is_new p v a z)) ∙ nk))) (λ z. sym (entry_set_other vs₁ q p (filled new) z) ∙ a) (cases_eq p q)), λ a. on p v b a))
      (λ p v a b c. ⊎_elim (λ z. inr (ap (λ x. x.end) (sym (is_new p v a z)) ∙ ne, nv ∙ ap (λ x. Some x.value) (is_new p v a z))) (λ z. ⊎_elim (λ y. inl y) (λ y. absurd (none p v (old p v b a z) b c y.0)) (h.sound p v (old p v b a z) b)) (cases_eq p q))
      (λ p r v u a b c d e f x y. place p v a c e x ∙ sym (place r u b d f y))
      (λ x e. (q, (new, (entry_set_free vs₁ q (filled new) free, (nk, (nb, ne))))))
    where
      is_new : (p : ℕ) (v : Ver G) → At G (set vs₁ q (filled new)) p v → p ≡ q → new ≡ v
      is_new p v a z = some_injective (sym (entry_set_free vs₁ q (filled new) free) ∙ ap (entry (set vs₁ q (filled new))) (sym z) ∙ a)

      old : (p : ℕ) (v : Ver G) → v.begin ≡ since.Owner t.name → At G (set vs₁ q (filled new)) p v → (p ≡ q → ⊥) → At G vs p v
      old p v b a z = (same p v b).0 (sym (entry_set_other vs₁ q p (filled new) z) ∙ a)

      on : (p : ℕ) (v : Ver G) → v.begin ≡ since.Owner t.name → At G vs p v → At G (set vs₁ q (filled new)) p v
      on p v b a = let c = (same p v b).1 a in entry_set_other vs₁ q p (filled new) (λ z. free_used vs₁ p q v free c (sym z)) ∙ c

      place : (p : ℕ) (v : Ver G) → At G (set vs₁ q (filled new)) p v → v.key ≡ k → v.begin ≡ since.Owner t.name → v.end ≡ till.Open → p ≡ q
      place p v a c b x = ⊎_elim (λ z. z) (λ z. absurd (none p v (old p v b a z) b c x)) (cases_eq p q)

  -- nothing is added, and k is left with none
  pub own_none : (vs₁ : List (Entry (Ver G))) → SameOwn vs₁ → NoneOpen → o ≡ None → Own G vs₁ (moved G t.name m W t)
  own_none vs₁ same none e = own_write G t.name k m W o hit miss dec t refl vs vs₁ h
      (λ p v b d. same p v b)
      (λ p v a b c. ⊎_elim (λ y. inl y) (λ y. absurd (none p v ((same p v b).0 a) b c y.0)) (h.sound p v ((same p v b).0 a) b))
      (λ p r v u a b c d f g x y. absurd (none p v ((same p v f).0 a) f c x))
      (λ x q. absurd (some_none (sym q ∙ e)))

  -- the own open version of k is changed
  pub own_at : (p : ℕ) (v v' : Ver G) → At G vs p v → v.key ≡ k → v.begin ≡ since.Owner t.name → v.end ≡ till.Open → v'.key ≡ v.key → v'.begin ≡ v.begin →
      (v'.end ≡ till.Owner t.name) ⊎ ((v'.end ≡ till.Open) × (o ≡ Some v'.value)) → ((x : G.Value) → o ≡ Some x → v'.end ≡ till.Open) → Own G (set vs p (filled v')) (moved G t.name m W t)
  own_at p v v' a vk vb ve key begin at_p full = own_write G t.name k m W o hit miss dec t refl vs (set vs p (filled v')) h
      (λ q u b d. (
        λ c. ⊎_elim (λ z. absurd (d (ap (λ x. x.key) (sym (is_v' q u c z)) ∙ key ∙ vk))) (λ z. sym (entry_set_other vs p q (filled v') z) ∙ c) (cases_eq q p),
        λ c. ⊎_elim (λ z. absurd (d (ap (λ x. x.key) (sym (some_injective (sym a ∙ ap (entry vs) (sym z) ∙ c))) ∙ vk))) (λ z. entry_set_other vs p q (filled v') z ∙ c) (cases_eq q p),
      ))
      (λ q u c b d. ⊎_elim (λ z. subst (λ x. (x.end ≡ till.Owner t.name) ⊎ ((x.end ≡ till.Open) × (o ≡ Some x.value))) (is_v' q u c z) at_p)
      (λ z. ⊎_elim (λ y. inl y) (λ y. absurd (z (there q u (sym (entry_set_other vs p q (filled v') z) ∙ c) d b y.0))) (h.sound q u (sym (entry_set_other vs p q (filled v') z) ∙ c) b)) (cases_eq q p))
      (λ q r x y b c d e f g i j. place q x b d f i ∙ sym (place r y c e g j))
      (λ x e. (p, (v', (entry_set_same vs p (filled v') v a, (key ∙ vk, (begin ∙ vb, full x e))))))
    where
      is_v' : (q : ℕ) (u : Ver G) → At G (set vs p (filled v')) q u → q ≡ p → v' ≡ u
      is_v' q u c z = some_injective (sym (entry_set_same vs p (filled v') v a) ∙ ap (entry (set vs p (filled v'))) (sym z) ∙ c)

      there : (q : ℕ) (u : Ver G) → At G vs q u → u.key ≡ k → u.begin ≡ since.Owner t.name → u.end ≡ till.Open → q ≡ p
      there q u c d b e = h.unique q p u v c a (d ∙ sym vk) b vb e ve

      place : (q : ℕ) (u : Ver G) → At G (set vs p (filled v')) q u → u.key ≡ k → u.begin ≡ since.Owner t.name → u.end ≡ till.Open → q ≡ p
      place q u c d b e = ⊎_elim (λ z. z) (λ z. there q u (sym (entry_set_other vs p q (filled v') z) ∙ c) d b e) (cases_eq q p)
