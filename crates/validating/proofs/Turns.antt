-- The turns of the walk over notes and pairs. Assumes nothing.
use Rattle.std.proofs.Common.{◌≡◌, ℕ, ◌^◌, ◌<◌, Bool, List, ◌∷◌, ◌++◌, length, map, Some, None, Ok, Err, Option, Ordering, sym, ap, ◌∙◌}
use Rattle.seeing.specs.declared.Version.{Version}
use Rattle.seeing.specs.Slots.{Slots}
use Rattle.rules.specs.declared.Entry.{Entry}
use Rattle.rules.specs.declared.Note.{Note}
use Rattle.rules.specs.declared.Refusal.{Refusal}
use Rattle.rules.specs.Lists.{concat_map}
use Rattle.rules.specs.Index.{meaning}
use Rattle.rules.specs.Checks.{Checked, ◌>>=◌}
use Rattle.rules.specs.Validating.{tests_of, tests_for, test_all}
use Rattle.tables.proofs.Steps.{go_on, give_up}
use Rattle.validating.specs.Order.{left_after}
use Rattle.validating.specs.Walk.{must_show, covered}
use Rattle.validating.specs.Tested.{one_test}
use Rattle.validating.proofs.Testing.{test_at, tests_left, tests_at_first, after, one_more, asked}

module _ {K V : Type 0} (o : K → K → Ordering) (ts : Slots) (vs : List (Entry (Version K V))) (n e : ℕ) (xs : List (K × ℕ)) (limit : ℕ) (ns : List (Entry (Note K))) (waits : List Bool) where
  abbrev all : Checked (Option (List Bool))
  all = test_all o ts vs n e (tests_for o (meaning o xs limit) n ns) waits

  -- the tests of the notes left, and before them of the pairs of one note that are ahead
  abbrev pub notes_from : Option (ℕ × ℕ) → List Bool → Checked (Option (List Bool))
  notes_from last ws = test_all o ts vs n e (tests_left o xs limit n last ns) ws

  abbrev pub pairs_from : Bool → List (K × ℕ) → Option (ℕ × ℕ) → List Bool → Checked (Option (List Bool))
  pairs_from show ps last ws = test_all o ts vs n e (map (test_at show) ps ++ tests_left o xs limit n last ns) ws

  pub notes_begin : all ≡ notes_from None waits
  notes_begin = ap (λ ys. test_all o ts vs n e ys waits) (tests_at_first o xs limit n ns)

  module _ (last : Option (ℕ × ℕ)) (ws : List Bool) (inv : all ≡ notes_from last ws) where
    -- no note is left
    -- the pairs of the next note
    pub pairs_begin : length vs < 2 ^ 64 → (x : Note K) (p : ℕ) (show : Bool) (ps : List (K × ℕ)) → left_after n last ns ≡ x ∷ left_after n (Some (x.number, p)) ns → show ≡ must_show x.noted → ps ≡ covered o xs x.noted →
        all ≡ pairs_from show ps (Some (x.number, p)) ws
    pairs_begin small x p show ps next s h =
        inv
        ∙ ap (λ ys. test_all o ts vs n e (concat_map (λ x. tests_of o (meaning o xs limit) x.noted) ys) ws) next
        ∙ asked o ts vs n e small (tests_left o xs limit n (Some (x.number, p)) ns) xs limit x.noted ws
        ∙ (λ i. pairs_from (sym s i) (sym h i) (Some (x.number, p)) ws)

  module _ (show : Bool) (ps : List (K × ℕ)) (last : Option (ℕ × ℕ)) (ws : List Bool) (inv : all ≡ pairs_from show ps last ws) where
    -- no pair is left
    module _ (x : K × ℕ) (left : List (K × ℕ)) (next : ps ≡ x ∷ left) where
      one_ahead : all ≡ (one_test o ts vs n e show x ws >>= after o ts vs n e (map (test_at show) left ++ tests_left o xs limit n last ns))
      one_ahead = inv ∙ ap (λ qs. pairs_from show qs last ws) next ∙ one_more o ts vs n e show x (map (test_at show) left ++ tests_left o xs limit n last ns) ws

      pub pair_refused : (r : Refusal) → Err r ≡ one_test o ts vs n e show x ws → Err r ≡ all
      pair_refused r says = sym (one_ahead ∙ give_up _ (sym says))

      pub pair_judged : (v : Option (List Bool)) → Ok v ≡ one_test o ts vs n e show x ws → all ≡ after o ts vs n e (map (test_at show) left ++ tests_left o xs limit n last ns) v
      pair_judged v says = one_ahead ∙ go_on _ (sym says)
