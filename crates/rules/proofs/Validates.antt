-- Validation keeps positions good. Assumes nothing.
use Rattle.std.proofs.Common.{◌≡◌, ℕ, Bool, true, false, cond, List, [], ◌∷◌, is_some, Some, Ok, Ordering, sym, refl, ap, ◌∙◌, subst}
use Rattle.std.proofs.lemmas.Bool.{false≢true, true≢false}
use Rattle.seeing.specs.declared.Phase.TheVariants.{Preparing}
use Rattle.seeing.specs.declared.Transaction.{Transaction as Sitter}
use Rattle.seeing.specs.Phases.{is_over, is_serializable, if_preparing}
use Rattle.seeing.specs.Slots.{Slots, find}
use Rattle.keys.specs.Laws.{TotalOrder}
use Rattle.rules.specs.declared.Call.TheVariants as call
use Rattle.rules.specs.Worlds.{World, with_store, with_slots}
use Rattle.rules.specs.Slots.{change}
use Rattle.rules.specs.Validating.{tests_for, test_all, validated, validate_rule}
use Rattle.rules.specs.Runs as runs
use Rattle.rules.specs.Runs.{Position}
use Rattle.serial.specs.Lists.{In}
use Rattle.serial.specs.Machine.{Transaction, State, preparing}
use Rattle.rules.proofs.Game.{game}
use Rattle.rules.proofs.Relation.{Inv, Good}
use Rattle.rules.proofs.Slots.{some_injective}
use Rattle.rules.proofs.Checks.{Comes, comes, bind, some_bind, by_option, to, is_sound}
use Rattle.rules.proofs.Calls.{after}
use Rattle.rules.proofs.Kills.{kill_keeps}
use Rattle.rules.proofs.Trial.{Tried, all_tried}
use Rattle.rules.proofs.Validate.{preparing_phase, found_preparing, good_validated}
use Rattle.rules.proofs.Marks.{marked_too}

module _ {K : Type 0} (V : Type 0) (order : K → K → Ordering) (total : TotalOrder order) (p : Position K V) (s : State (game V order total)) (inv : Inv V order total p s) where
  abbrev w : World K V
  w = p.world

  abbrev ts : Slots
  ts = p.world.store.slots

  abbrev Tx : Type 0
  Tx = Transaction (game V order total)

  -- the marks ws' are ws and those of the waits that the tests call for, if there are tests
  abbrev Judged : ℕ → ℕ → Bool → List Bool → List Bool → Type 0
  Judged n e ser ws ws' = (W : List ℕ) × ((ws' ≡ marked_too ts W ws) × ((ser ≡ true → Tried order total w n e (tests_for order w.index n w.notes) W) × (ser ≡ false → W ≡ [])))

  judged : (n e : ℕ) (ser : Bool) (ws : List Bool) →
      Comes (λ o. (ws' : List Bool) → o ≡ Some ws' → Judged n e ser ws ws') (cond ser (test_all order ts w.versions n e (tests_for order w.index n w.notes) ws) (Ok (Some ws)))
  judged n e true ws = to (λ o r ws' q. let z = r ws' q in (z.0, (z.1.0, (λ _. z.1.1, λ f. absurd (true≢false f))))) (all_tried order total w n e (tests_for order w.index n w.notes) ws)
  judged n e false ws = comes (λ ws' q. ([], (sym (some_injective q), (λ f. absurd (false≢true f), λ _. refl))))

  abbrev Leaves : ℕ → ℕ → List Bool → Type 0
  Leaves n e ws = Good V order total (record { world = with_store w (with_slots w.store (change n (validated e ws) ts)); history = (n, runs.Validated) ∷ p.history })

  passes_good : (n e : ℕ) (u : Sitter) → find ts n ≡ Some u → u.doomed ≡ false → u.phase ≡ Preparing e → (ws : List Bool) → Judged n e (is_serializable u.level) u.waits ws → Leaves n e ws
  passes_good n e u found live ph ws (W, (marks, (tested, untested))) = go (found_preparing V order total p s inv n e u found live ph)
    where
      go : (t : Tx) × (In t s.line × ((t.name ≡ n) × ((t.end ≡ e) × ((t.stage ≡ preparing) × (is_serializable u.level ≡ t.ser))))) → Leaves n e ws
      go (t, (i, (named, (ends, (prep, level))))) =
          subst (λ m. Leaves m e ws) named (subst (λ f. Leaves t.name f ws) ends
          (good_validated V order total p s inv t i prep u (ap (find ts) named ∙ found) W
          (λ ser. subst (λ m. Tried order total w m t.end (tests_for order w.index m w.notes) W) (sym named)
          (subst (λ f. Tried order total w n f (tests_for order w.index n w.notes) W) (sym ends) (tested (level ∙ ser))))
          (λ snap. untested (level ∙ snap)) ws marks))

  pub validate_keeps : (n : ℕ) → Comes (λ r. Good V order total (after V order total p (call.Validate n) r)) (validate_rule order w n)
  validate_keeps n = bind (is_sound w n (λ ph. is_some (if_preparing ph))) (λ u h. some_bind _ _ refl (λ e q.
      let ph = preparing_phase u.phase e q in
      bind (judged n e (is_serializable u.level) u.waits) (λ o r. by_option o
      (λ _. comes (kill_keeps V order total p s inv n u h.0 (ap is_over ph)))
      (λ ws is. comes (passes_good n e u h.0 h.1.1 ph ws (r ws is))))))
