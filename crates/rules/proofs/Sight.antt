-- What the rules' tests of marks say of the machine's line. Assumes nothing.
use Rattle.std.proofs.Common.{◌≡◌, ℕ, Bool, true, false, cond, not, ◌&&◌, ◌||◌, eqb, leb, ◌⊎◌, List, [], ◌∷◌, Some, None, Option, sym, refl, ap, ◌∙◌, subst, inl, inr}
use Rattle.std.proofs.lemmas.Bool.{false≢true, eqb-false, ne_eqb, and_from, not_from_false}
use Rattle.std.specs.Option.{option_to_list}
use Rattle.seeing.specs.declared.End.{End}
use Rattle.seeing.specs.declared.End.TheVariants as end
use Rattle.seeing.specs.declared.Phase.{Phase}
use Rattle.seeing.specs.declared.Phase.TheVariants.{Active, Preparing, Committed}
use Rattle.seeing.specs.declared.Transaction.{Transaction as Sitter}
use Rattle.seeing.specs.Slots.{Slots, find, seen_phase}
use Rattle.seeing.specs.Phases.{phase_to_others, stamped_by, is_preparing}
use Rattle.seeing.specs.Seeing.{happened, preparing_other}
use Rattle.seeing.specs.Changing.{names}
use Rattle.serial.specs.Lists.{In}
use Rattle.serial.specs.Machine.{Game, Transaction, State, Stage, active, preparing, validated, committed, pending, Pending, Reached}
use Rattle.serial.proofs.Lists.{All_at}
use Rattle.serial.proofs.Names.{Apart, distinct}
use Rattle.serial.proofs.Kill.{unique}
use Rattle.rules.proofs.Times.{come, ending, time, Here}
use Rattle.rules.proofs.Relation.{stored, phase_of, Suits, Fallen, Roll}
use Rattle.rules.proofs.Slots.{some_none, stored_found}
use Rattle.rules.proofs.Lines.{ending_in, ending_some}

-- the phase as others take one in that stage
abbrev pub others_phase : Stage → ℕ → Phase
others_phase active e = Active
others_phase preparing e = Preparing e
others_phase validated e = Preparing e
others_phase committed e = Committed e

others : (st : Stage) (e : ℕ) → phase_to_others false (phase_of st e) ≡ others_phase st e
others active e = refl
others preparing e = refl
others validated e = refl
others committed e = refl

-- a name that a mark holds is that of one in the store
abbrev pub Known : Slots → End → Type 0
Known ts (end.Stamp s) = Unit {0}
Known ts (end.Owner m) = stored ts m ≡ true
Known ts end.Open = Unit {0}

module _ (G : Game) where
  pub Any_of : (l : List (Transaction G)) (t : Transaction G) → In t l → pending t.stage ≡ true → Pending G l t.name
  Any_of [] t i p = absurd i
  Any_of (u ∷ l) t (inl e) p = inl (ap (λ v. v.name) e, ap (λ v. pending v.stage) e ∙ p)
  Any_of (u ∷ l) t (inr i) p = inr (Any_of l t i p)

module _ (G : Game) (ts : Slots) (s : State G) (way : Reached G s) (roll : Roll G ts s) where
  pub across : (t u : Transaction G) → In t s.line → In u s.active → t.name ≡ u.name → ⊥
  across t u i j = All_at (λ v. v.name ≡ u.name → ⊥) t s.line i (All_at (λ a. Apart G a s.line) u s.active j (distinct G s way).across)

  pub same_line : (t u : Transaction G) → In t s.line → In u s.line → t.name ≡ u.name → t ≡ u
  same_line t u i j e = unique G t u s.line (distinct G s way).line_apart i j e

  pub same_active : (t u : Transaction G) → In t s.active → In u s.active → t.name ≡ u.name → t ≡ u
  same_active t u i j e = unique G t u s.active (distinct G s way).active_apart i j e

  pub seen_suits : (t : Transaction G) (u : Sitter) → Suits G ts t u → seen_phase (Some u) ≡ others_phase t.stage t.end
  seen_suits t u h = ap (λ d. phase_to_others d u.phase) h.not_doomed ∙ ap (phase_to_others false) h.phase ∙ others t.stage t.end

  pub seen_active : (t : Transaction G) → In t s.active → seen_phase (find ts t.name) ≡ Active
  seen_active t i =
      let r = roll.at_work t i in
      ap seen_phase r.1.1.0 ∙ seen_suits t r.1.0 r.1.1.1 ∙ ap (λ st. others_phase st t.end) r.0

  pub seen_line : (t : Transaction G) (u : Sitter) → In t s.line → find ts t.name ≡ Some u → seen_phase (find ts t.name) ≡ others_phase t.stage t.end
  seen_line t u i e = ap seen_phase e ∙ seen_suits t u (roll.done t u i e)

  stamped_stage : (R : ℕ) (st : Stage) (e : ℕ) → (st ≡ active → ⊥) → stamped_by R (others_phase st e) ≡ leb e R
  stamped_stage R active e d = absurd (d refl)
  stamped_stage R preparing e d = refl
  stamped_stage R validated e d = refl
  stamped_stage R committed e d = refl

  pub stamped_time : (R m : ℕ) (u : Sitter) → find ts m ≡ Some u → stamped_by R (seen_phase (find ts m)) ≡ come R (ending G s.line m)
  stamped_time R m u e = go (ending G s.line m) refl
    where
      known : Fallen G ts u ⊎ ((t : Transaction G) × (Here G s t × (t.name ≡ m))) → ending G s.line m ≡ None → stamped_by R (seen_phase (find ts m)) ≡ false
      known (inl f) q = ap (stamped_by R) (ap seen_phase e ∙ f.0)
      known (inr (z)) q = here z.1.0
        where
          here : Here G s z.0 → stamped_by R (seen_phase (find ts m)) ≡ false
          here (inl i) = absurd (some_none (sym (ending_in G s.line z.0 (distinct G s way).line_apart i) ∙ ap (ending G s.line) z.1.1 ∙ q))
          here (inr i) = ap (stamped_by R) (ap (λ x. seen_phase (find ts x)) (sym z.1.1) ∙ seen_active z.0 i)

      go : (o : Option ℕ) → ending G s.line m ≡ o → stamped_by R (seen_phase (find ts m)) ≡ come R o
      go None q = known (roll.known m u e) q
      go (Some b) q =
          let z = ending_some G s.line m b q in
          ap (λ x. stamped_by R (seen_phase (find ts x))) (sym z.1.1.0)
          ∙ ap (stamped_by R) (seen_line z.0 u z.1.0 (ap (find ts) z.1.1.0 ∙ e))
          ∙ stamped_stage R z.0.stage z.0.end (roll.lined z.0 z.1.0)
          ∙ ap (λ x. leb x R) z.1.1.1

  pub happened_time : (n R : ℕ) (m : End) → Known ts m → happened ts n R m ≡ (names n m || come R (time G s.line m))
  happened_time n R (end.Stamp b) k = refl
  happened_time n R (end.Owner m) k = let z = stored_found ts m k in ap (λ b. eqb m n || b) (stamped_time R m z.0 z.1)
  happened_time n R end.Open k = refl

  preparing_stage : (st : Stage) (e : ℕ) → (st ≡ active → ⊥) → is_preparing (others_phase st e) ≡ pending st
  preparing_stage active e d = absurd (d refl)
  preparing_stage preparing e d = refl
  preparing_stage validated e d = refl
  preparing_stage committed e d = refl

  -- whom a mark has one wait on
  pub waits_on : (n x : ℕ) (m : End) → In x (option_to_list (preparing_other ts n m)) → (m ≡ end.Owner x) × ((x ≡ n → ⊥) × Pending G s.line x)
  waits_on n x (end.Stamp b) i = absurd i
  waits_on n x end.Open i = absurd i
  waits_on n x (end.Owner m) i = go (eqb m n) (is_preparing (seen_phase (find ts m))) refl refl i
    where
      found : (o : Option Sitter) → find ts m ≡ o → is_preparing (seen_phase o) ≡ true → Pending G s.line m
      found None e p = absurd (false≢true p)
      found (Some u) e p = known (roll.known m u e)
        where
          known : Fallen G ts u ⊎ ((t : Transaction G) × (Here G s t × (t.name ≡ m))) → Pending G s.line m
          known (inl f) = absurd (false≢true (sym (ap is_preparing f.0) ∙ p))
          known (inr z) = here z.1.0
            where
              here : Here G s z.0 → Pending G s.line m
              here (inl i) = subst (Pending G s.line) z.1.1 (Any_of G s.line z.0 i
                  (sym (preparing_stage z.0.stage z.0.end (roll.lined z.0 i)) ∙ sym (ap is_preparing (seen_suits z.0 u (roll.done z.0 u i (ap (find ts) z.1.1 ∙ e)))) ∙ p))
              here (inr i) = absurd (false≢true (sym (ap is_preparing (seen_active z.0 i)) ∙ ap (λ x. is_preparing (seen_phase (find ts x))) z.1.1 ∙ ap (λ o. is_preparing (seen_phase o)) e ∙ p))

      go : (a b : Bool) → eqb m n ≡ a → is_preparing (seen_phase (find ts m)) ≡ b → In x (option_to_list (cond (not a && b) (Some m) None)) → (end.Owner m ≡ end.Owner x) × ((x ≡ n → ⊥) × Pending G s.line x)
      go true b p q i = absurd i
      go false false p q i = absurd i
      go false true p q (inl e) = (ap end.Owner e, (λ z. eqb-false m n p (e ∙ z), subst (Pending G s.line) e (found (find ts m) refl q)))
      go false true p q (inr i) = absurd i

  pub on_waits : (n : ℕ) (t : Transaction G) → In t s.line → pending t.stage ≡ true → (t.name ≡ n → ⊥) → In t.name (option_to_list (preparing_other ts n (end.Owner t.name)))
  on_waits n t i p d =
      let r = roll.waiting t i p in
      let q : is_preparing (seen_phase (find ts t.name)) ≡ true =
      ap is_preparing (seen_line t r.0 i r.1.0) ∙ preparing_stage t.stage t.end (roll.lined t i) ∙ p in
      subst (λ b. In t.name (option_to_list (cond b (Some t.name) None))) (sym (and_from (not (eqb t.name n)) _ (not_from_false _ (ne_eqb t.name n d)) q)) (inl refl)
