-- What stands behind one in the line. Assumes nothing.
use Rattle.std.proofs.Common.{◌≡◌, ℕ, ◌<◌, ◌≤◌, true, cond, List, [], ◌∷◌, sym, refl, ap, ◌∙◌, subst, inl, inr, arith}
use Rattle.std.proofs.lemmas.Bool.{le-leb, lt-leb, le-ltb}
use Rattle.serial.specs.Lists.{In, All, Each}
use Rattle.serial.specs.Machine.{Game, Transaction, pending, Pending, Leads, direct, through, below}
use Rattle.serial.proofs.Lists.{All_at, All_to}
use Rattle.serial.proofs.Names.{Apart, Stands}
use Rattle.serial.proofs.Kill.{Any_in, unique}
use Rattle.rules.proofs.Times.{upto}
use Rattle.rules.proofs.Lines.{upto_all}

module _ (G : Game) where
  -- a part of the line that holds all that its own wait for holds every way that starts in it
  pub leads_inside : (l before : List (Transaction G)) → Each (Apart G) l → ((u : Transaction G) → In u before → In u l) → ((u : Transaction G) → In u before → All (Pending G before) u.waits) →
      (ws : List ℕ) (x : ℕ) → All (Pending G before) ws → Leads G l ws x → Leads G before ws x
  leads_inside l before apart sub closed ws x h (direct i) = direct i
  leads_inside l before apart sub closed ws x h (through u i m r) =
      let z = Any_in (λ t. (t.name ≡ u.name) × (pending t.stage ≡ true)) before (All_at (Pending G before) u.name ws m h) in
      let e : z.0 ≡ u = unique G z.0 u l apart (sub z.0 z.1.0) i z.1.1.0 in
      let j : In u before = subst (λ t. In t before) e z.1.0 in
      through u j m (leads_inside l before apart sub closed u.waits x (closed u j) r)

  -- one of the line, and those behind it
  pub stands_of : (t : Transaction G) (l : List (Transaction G)) → In t l → (before : List (Transaction G)) × Stands G t before l
  stands_of t [] i = absurd i
  stands_of t (u ∷ l) (inl e) = (l, inl (e, refl))
  stands_of t (u ∷ l) (inr i) = let r = stands_of t l i in (r.0, inr r.1)

  pub stands_each : (P : Transaction G → List (Transaction G) → Type 0) (t : Transaction G) (before l : List (Transaction G)) → Stands G t before l → Each P l → P t before × Each P before
  stands_each P t before [] i h = absurd i
  stands_each P t before (u ∷ l) (inl e) h = (subst (λ x. P x before) e.0 (subst (P u) e.1 h.0), subst (Each P) e.1 h.1)
  stands_each P t before (u ∷ l) (inr i) h = stands_each P t before l i h.1

  pub stands_sub : (t : Transaction G) (before l : List (Transaction G)) → Stands G t before l → (x : Transaction G) → In x before → In x l
  stands_sub t before [] i x j = absurd i
  stands_sub t before (u ∷ l) (inl e) x j = inr (subst (In x) (sym e.1) j)
  stands_sub t before (u ∷ l) (inr i) x j = inr (stands_sub t before l i x j)

  abbrev pub RisingEnds : List (Transaction G) → Type 0
  RisingEnds l = Each (λ t before. All (λ u. u.end < t.end) before) l

  end_of : (u t : Transaction G) → u ≡ t → u.end ≡ t.end
  end_of u t e = ap (λ v. v.end) e

  stands_in : (t : Transaction G) (before l : List (Transaction G)) → Stands G t before l → In t l
  stands_in t before [] i = absurd i
  stands_in t before (u ∷ l) (inl e) = inl e.0
  stands_in t before (u ∷ l) (inr i) = inr (stands_in t before l i)

  -- all of a lower end stamp are among them
  pub stands_lower : (t : Transaction G) (before l : List (Transaction G)) → RisingEnds l → Stands G t before l → (x : Transaction G) → In x l → x.end ≤ t.end → (x.name ≡ t.name → ⊥) → In x before
  stands_lower t before [] r i x j le d = absurd i
  stands_lower t before (u ∷ l) r (inl e) x (inl q) le d = absurd (d (ap (λ v. v.name) (sym q ∙ e.0)))
  stands_lower t before (u ∷ l) r (inl e) x (inr j) le d = subst (In x) e.1 j
  stands_lower t before (u ∷ l) r (inr i) x (inl q) le d =
      absurd (let a : t.end < u.end = All_at (λ v. v.end < u.end) t l (stands_in t before l i) r.0 in let b = end_of u x q in omega arith)
  stands_lower t before (u ∷ l) r (inr i) x (inr j) le d = stands_lower t before l r.1 i x j le d

  pub stands_upto : (t : Transaction G) (before l : List (Transaction G)) → RisingEnds l → Stands G t before l → upto G t.end l ≡ t ∷ before
  stands_upto t before [] r i = absurd i
  stands_upto t before (u ∷ l) r (inl e) =
      let q = end_of u t e.0 in
      ap (λ b. cond b (u ∷ upto G t.end l) (upto G t.end l)) (le-leb u.end t.end (omega arith))
      ∙ ap (λ z. u ∷ z) (upto_all G t.end l (All_to _ _ (λ v lt. let z : v.end < u.end = lt in omega arith) l r.0))
      ∙ ap (λ z. z ∷ l) e.0 ∙ ap (λ z. t ∷ z) e.1
  stands_upto t before (u ∷ l) r (inr i) =
      ap (λ b. cond b (u ∷ upto G t.end l) (upto G t.end l)) (lt-leb u.end t.end (All_at (λ v. v.end < u.end) t l (stands_in t before l i) r.0))
      ∙ stands_upto t before l r.1 i

  pub stands_below : (n : ℕ) (t : Transaction G) (before l : List (Transaction G)) → RisingEnds l → Stands G t before l → n ≤ t.end → below G n l ≡ below G n before
  stands_below n t before [] r i le = absurd i
  stands_below n t before (u ∷ l) r (inl e) le =
      let q = end_of u t e.0 in
      ap (λ b. cond b (u ∷ below G n l) (below G n l)) (le-ltb u.end n (omega arith)) ∙ ap (below G n) e.1
  stands_below n t before (u ∷ l) r (inr i) le =
      ap (λ b. cond b (u ∷ below G n l) (below G n l)) (le-ltb u.end n (let a : t.end < u.end = All_at (λ v. v.end < u.end) t l (stands_in t before l i) r.0 in omega arith))
      ∙ stands_below n t before l r.1 i le
