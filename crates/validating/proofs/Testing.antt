-- The tests that notes ask for, one after another. Assumes nothing.
use Rattle.std.proofs.Common.{◌≡◌, ℕ, ◌^◌, ◌<◌, Bool, true, false, cond, List, [], ◌∷◌, ◌++◌, length, map, Some, None, Ok, Err, Option, Ordering, sym, refl, ap, ◌∙◌}
use Rattle.index.specs.Listed.{rest, up_to_max}
use Rattle.seeing.specs.declared.Version.{Version}
use Rattle.seeing.specs.Slots.{Slots}
use Rattle.seeing.specs.Seeing.{waits_for}
use Rattle.seeing.specs.Changing.{own_work}
use Rattle.rules.specs.declared.Entry.{Entry}
use Rattle.rules.specs.declared.Note.{Note}
use Rattle.rules.specs.declared.Noted.{Noted}
use Rattle.rules.specs.declared.Noted.TheVariants as noted
use Rattle.rules.specs.Lists.{concat_map}
use Rattle.rules.specs.Index.{meaning}
use Rattle.rules.specs.Checks.{Checked, ◌>>=◌}
use Rattle.rules.specs.Slots.{mark}
use Rattle.rules.specs.Reaching.{Met, reached}
use Rattle.rules.specs.Validating.{Test, passes, tests_of, tests_for, test_all}
use Rattle.validating.specs.Order.{left_after}
use Rattle.validating.specs.Walk.{must_show, covered}
use Rattle.validating.specs.Tested.{judged, one_test}
use Rattle.walks.proofs.Covering.{covering_rest}
use Rattle.walks.proofs.Stopping.{stops_at_max}
use Rattle.validating.proofs.Nexts.{all_left}

-- ---- what the notes left ask for

abbrev pub test_at : {K : Type 0} → Bool → K × ℕ → Test K
test_at show x = record { must_show = show; pair = x }

module _ {K : Type 0} (o : K → K → Ordering) (xs : List (K × ℕ)) where
  -- the tests of the notes left
  abbrev pub tests_left : ℕ → ℕ → Option (ℕ × ℕ) → List (Entry (Note K)) → List (Test K)
  tests_left limit n last ns = concat_map (λ x. tests_of o (meaning o xs limit) x.noted) (left_after n last ns)

  pub tests_at_first : (limit n : ℕ) (ns : List (Entry (Note K))) → tests_for o (meaning o xs limit) n ns ≡ tests_left limit n None ns
  tests_at_first limit n ns = ap (concat_map (λ x. tests_of o (meaning o xs limit) x.noted)) (all_left n 0 ns)

-- ---- one test more

module _ {K V : Type 0} (o : K → K → Ordering) (ts : Slots) (vs : List (Entry (Version K V))) (n e : ℕ) where
  -- what comes after a test
  abbrev pub after : List (Test K) → Option (List Bool) → Checked (Option (List Bool))
  after left (Some ws) = test_all o ts vs n e left ws
  after left None = Ok None

  after_one : (show : Bool) (left : List (Test K)) (v : Version K V) (ws : List Bool) →
      cond (own_work n v) (test_all o ts vs n e left ws) (cond (passes ts n e show v) (test_all o ts vs n e left (mark ts (waits_for ts n e v) ws)) (Ok None))
      ≡ after left (judged ts n e show v ws)
  after_one show left v ws = go (own_work n v) (passes ts n e show v)
    where
      go : (a b : Bool) →
          cond a (test_all o ts vs n e left ws) (cond b (test_all o ts vs n e left (mark ts (waits_for ts n e v) ws)) (Ok None))
          ≡ after left (cond a (Some ws) (cond b (Some (mark ts (waits_for ts n e v) ws)) None))
      go true b = refl
      go false true = refl
      go false false = refl

  pub one_more : (show : Bool) (x : K × ℕ) (left : List (Test K)) (ws : List Bool) →
      test_all o ts vs n e (record { must_show = show; pair = x } ∷ left) ws ≡ (one_test o ts vs n e show x ws >>= after left)
  unfolding ◌>>=◌
  one_more show x left ws = go (reached o ts vs x)
    where
      go : (m : Checked (Met K V)) →
          (m >>= (λ y. cond (own_work n y.1) (test_all o ts vs n e left ws) (cond (passes ts n e show y.1) (test_all o ts vs n e left (mark ts (waits_for ts n e y.1) ws)) (Ok None))))
          ≡ ((m >>= (λ y. Ok (judged ts n e show y.1 ws))) >>= after left)
      go (Ok y) = after_one show left y.1 ws
      go (Err r) = refl

  -- ---- the pairs of one note

  module _ (small : length vs < 2 ^ 64) (others : List (Test K)) where
    -- those after a pair at usize::MAX make no difference, since that is refused
    tests_alike : (show : Bool) (ps : List (K × ℕ)) (ws : List Bool) → test_all o ts vs n e (map (test_at show) (up_to_max ps) ++ others) ws ≡ test_all o ts vs n e (map (test_at show) ps ++ others) ws
    tests_alike show [] ws = refl
    tests_alike show (x ∷ xs) ws =
        stops_at_max o ts vs small x xs
        (λ ps y. cond (own_work n y.1) (test_all o ts vs n e (map (test_at show) ps ++ others) ws) (cond (passes ts n e show y.1) (test_all o ts vs n e (map (test_at show) ps ++ others) (mark ts (waits_for ts n e y.1) ws)) (Ok None)))
        (λ y i. cond (own_work n y.1) (tests_alike show xs ws i) (cond (passes ts n e show y.1) (tests_alike show xs (mark ts (waits_for ts n e y.1) ws) i) (Ok None)))

    pub asked : (xs : List (K × ℕ)) (limit : ℕ) (x : Noted K) (ws : List Bool) → test_all o ts vs n e (tests_of o (meaning o xs limit) x ++ others) ws ≡ test_all o ts vs n e (map (test_at (must_show x)) (covered o xs x) ++ others) ws
    asked xs limit (noted.Version k p) ws = refl
    asked xs limit (noted.Range lower upper) ws =
        ap (λ ps. test_all o ts vs n e (map (test_at false) ps ++ others) ws) (covering_rest o lower upper xs limit) ∙ sym (tests_alike false (rest o lower 0 upper xs) ws)
