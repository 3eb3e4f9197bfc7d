-- The rule of validate: notes in the order made, versions by key and then place. Assumes nothing.
use Rattle.std.specs.Prelude.{ℕ, Bool, true, false, cond, ◌||◌, List, [], ◌∷◌, map, is_some, Some, None, Ok, Err, Option, ◌==◌, nat_le}
use Rattle.std.specs.declared.cmp.Ordering.{Ordering}
use Rattle.std.specs.Bool.{beq}
use Rattle.seeing.specs.declared.Phase.TheVariants.{Validated}
use Rattle.seeing.specs.declared.Transaction.{Transaction}
use Rattle.seeing.specs.declared.Version.{Version}
use Rattle.seeing.specs.Phases.{is_serializable, if_preparing}
use Rattle.seeing.specs.Slots.{Slots}
use Rattle.seeing.specs.Seeing.{visible, waits_for}
use Rattle.seeing.specs.Changing.{own_work}
use Rattle.rules.specs.declared.Entry.{Entry}
use Rattle.rules.specs.declared.Noted.{Noted}
use Rattle.rules.specs.declared.Noted.TheVariants as noted
use Rattle.rules.specs.declared.Note.{Note}
use Rattle.rules.specs.declared.Answer.TheVariants as answer
use Rattle.rules.specs.declared.Refusal.TheVariants as refusal
use Rattle.rules.specs.Lists.{concat_map}
use Rattle.rules.specs.Tables.{items}
use Rattle.rules.specs.Index.{Index, covering}
use Rattle.rules.specs.Worlds.{World, with_store, with_slots}
use Rattle.rules.specs.Checks.{Checked, ◌>>=◌, some_or, Outcome, sound_in}
use Rattle.rules.specs.Slots.{change, mark, with_phase, with_waits}
use Rattle.rules.specs.Reaching.{reached}
use Rattle.rules.specs.BookRules.{aborted}

module _ {K : Type 0} where
  -- the note before the first of a higher number
  abbrev pub place_note : Note K → List (Note K) → List (Note K)
  place_note x [] = x ∷ []
  place_note x (y ∷ ys) = cond (nat_le x.number y.number) (x ∷ y ∷ ys) (y ∷ place_note x ys)

  -- those of the owner n, in the order made
  abbrev pub in_order_made : ℕ → List (Note K) → List (Note K)
  in_order_made n [] = []
  in_order_made n (x ∷ xs) = cond (x.owner == n) (place_note x (in_order_made n xs)) (in_order_made n xs)

  abbrev pub notes_of : ℕ → List (Entry (Note K)) → List (Note K)
  notes_of n ns = in_order_made n (items ns)

-- n passes: it has the end stamp e and waits on those
abbrev pub validated : ℕ → List Bool → Transaction → Transaction
validated e ws t = with_phase (Validated e) (with_waits ws t)

-- what is tested: the version that a pair leads to, and whether it has to be visible at the end stamp (a version note) or as visible as at the begin stamp (a range note)
pub record Test (K : Type 0) : Type 0 where
  pub must_show : Bool
  pub pair : K × ℕ

module _ {K V : Type 0} where
  -- the version passes the test of n, which ends at e
  abbrev pub passes : Slots → ℕ → ℕ → Bool → Version K V → Bool
  passes ts n e must_show v = beq (visible ts n e v) (must_show || visible ts n n v)

module _ {K : Type 0} (order : K → K → Ordering) where
  -- what a note has validation test
  abbrev pub tests_of : Index K → Noted K → List (Test K)
  tests_of i (noted.Version k p) = record { must_show = true; pair = (k, p) } ∷ []
  tests_of i (noted.Range lower upper) = map (λ x. record { must_show = false; pair = x }) (covering order i lower upper)

  abbrev pub tests_for : Index K → ℕ → List (Entry (Note K)) → List (Test K)
  tests_for i n ns = concat_map (λ x. tests_of i x.noted) (notes_of n ns)

module _ {K V : Type 0} (order : K → K → Ordering) where
  -- the marks of those waited on once all tests are passed, or none at the first version that tells against n
  abbrev pub test_all : Slots → List (Entry (Version K V)) → ℕ → ℕ → List (Test K) → List Bool → Checked (Option (List Bool))
  test_all ts vs n e [] ws = Ok (Some ws)
  test_all ts vs n e (x ∷ xs) ws = do
    y ← reached order ts vs x.pair
    cond (own_work n y.1) (test_all ts vs n e xs ws)
        (cond (passes ts n e x.must_show y.1) (test_all ts vs n e xs (mark ts (waits_for ts n e y.1) ws)) (Ok None))

  abbrev pub validate_rule : World K V → ℕ → Outcome K V
  validate_rule w n = do
    t ← sound_in w n (λ p. is_some (if_preparing p))
    e ← some_or refusal.Phase (if_preparing t.phase)
    verdict ← cond (is_serializable t.level) (test_all w.store.slots w.versions n e (tests_for order w.index n w.notes) t.waits) (Ok (Some t.waits))
    elim verdict [
      | None ↦ Ok (aborted w n, Err refusal.Validation)
      | Some ws ↦ Ok (with_store w (with_slots w.store (change n (validated e ws) w.store.slots)), Ok answer.Done)
    ]
