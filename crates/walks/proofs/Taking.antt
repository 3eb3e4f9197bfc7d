-- A new version in a free entry and in the index. Assumes nothing.
use Rattle.std.proofs.Common.{◌≡◌, ℕ, true, false, cond, not, leb, List, length, set, Ok, Err, Result, is_ok, true≢false, Ordering, sym, ap, ◌∙◌, arith}
use Rattle.std.specs.List.{IsDistinct}
use Rattle.std.specs.Result.{MatchResult}
use Rattle.std.proofs.lemmas.Bool.{le-leb, lt-leb, and_from, and_left, and_right, not_from_true, not_from_false}
use Rattle.keys.specs.Laws.{TotalOrder}
use Rattle.index.specs.Sets.{tie, holds}
use Rattle.index.specs.Answers.{PutSays}
use Rattle.index.specs.Listed.{listed, with_pair}
use Rattle.index.specs.declared.IndexFault.{IndexFault}
use Rattle.index.specs.declared.Put.{Put}
use Rattle.index.specs.declared.Put.TheVariants as put
use Rattle.index.proofs.Listing.{listed_at, listed_length, listed_put}
use Rattle.rules.specs.declared.Entry.{Entry}
use Rattle.seeing.specs.declared.Version.{Version}
use Rattle.rules.specs.declared.Refusal.TheVariants as refusal
use Rattle.rules.specs.Tables.{any_free, is_free, filled}
use Rattle.rules.specs.Index as index
use Rattle.rules.specs.BookRules.{adding}
use Rattle.seeing.specs.Changing.{new_version}
use Rattle.rules.specs.Index.{meaning}
use Rattle.walks.specs.declared.FaultFor.{FaultFor}
use Rattle.walks.specs.Faults.{full_for}
use Rattle.tables.specs.Places.{pick}
use Rattle.tables.proofs.Steps.{pass, stop}
use Rattle.tables.proofs.Picking.{some_free}

module _ {K V : Type 0} (o : K → K → Ordering) (hint n : ℕ) (k : K) (x : V) (vs : List (Entry (Version K V))) (i : index.Index K) where
  pub none_to_add : any_free vs ≡ false → adding o (pick hint vs) n k x (vs, i) ≡ Err refusal.Versions
  none_to_add e = stop (not (any_free vs)) refusal.Versions _ (ap not e)

module _ {K V : Type 0} (o : K → K → Ordering) (laws : TotalOrder o) (xs ys : List (K × ℕ)) (dx : IsDistinct (tie o) xs) (dy : IsDistinct (tie o) ys) (limit limit' : ℕ) (kept : limit' ≡ limit)
    (hint n : ℕ) (k : K) (x : V) (vs : List (Entry (Version K V))) (p : ℕ) (e : (p ≡ pick hint vs) × (is_free vs p ≡ true)) where
  full_to_add : (m : IndexFault) → PutSays o xs ys limit (k, p) (Err m) →
      (adding o (pick hint vs) n k x (vs, meaning o xs limit) ≡ Err (refusal.Full n m)) × (◌≡◌ {A = List (Entry (Version K V)) × index.Index K} (vs, meaning o ys limit') (vs, meaning o xs limit))
  full_to_add m says = (
    ap (λ (q : ℕ). adding o q n k x (vs, meaning o xs limit)) (sym e.0)
        ∙ pass (not (any_free vs)) refusal.Versions _ (ap not (some_free vs p e.1))
        ∙ stop (index.says_full o (meaning o xs limit) k p) (refusal.Full n (record { capacity = limit })) _
        (and_from (not (holds o (listed o xs) (k, p))) (leb limit (length (listed o xs))) (not_from_false _ (listed_at o laws xs (k, p) ∙ says.0))
        (le-leb limit (length (listed o xs)) (omega (arith, listed_length o laws xs, says.1))))
        ∙ (let q = sym says.2 in λ j. Err (refusal.Full n (record { capacity = q j }))),
    (let s = says.3 in λ j. (vs, meaning o (s j) (kept j))),
  )

  put_in : (r : Put) → PutSays o xs ys limit (k, p) (Ok r) → (index.says_full o (meaning o xs limit) k p ≡ false) × (index.put o (meaning o xs limit) k p ≡ meaning o ys limit')
  put_in put.Added says =
      let none : holds o (listed o xs) (k, p) ≡ false = listed_at o laws xs (k, p) ∙ says.0 in
      let new : with_pair o (k, p) (listed o xs) ≡ listed o ys = sym (listed_put o laws xs ys (k, p) dx dy says.0 says.2) in (
        and_right (not (holds o (listed o xs) (k, p))) (leb limit (length (listed o xs))) (lt-leb limit (length (listed o xs)) (omega (arith, listed_length o laws xs, says.1))),
        λ j. record { pairs = (ap (λ b. cond b (listed o xs) (with_pair o (k, p) (listed o xs))) none ∙ new) j; capacity = sym kept j },
      )
  put_in put.Present says =
      let some : holds o (listed o xs) (k, p) ≡ true = listed_at o laws xs (k, p) ∙ says.0 in (
        and_left (not (holds o (listed o xs) (k, p))) (leb limit (length (listed o xs))) (not_from_true _ some),
        λ j. record { pairs = (ap (λ b. cond b (listed o xs) (with_pair o (k, p) (listed o xs))) some ∙ ap (listed o) (sym says.1)) j; capacity = sym kept j },
      )

  -- what the fault of a put comes to at the exit of `?`
  pub refused_to_add : (r : Result Put IndexFault) (y : FaultFor) (Made : IndexFault → Type 0) → ((e : IndexFault) → Made e → y ≡ record { transaction = n; fault = e }) → false ≡ is_ok r → MatchResult r (λ z. ◌≡◌ {A = Result Put FaultFor} (Err y) (Ok z)) Made → PutSays o xs ys limit (k, p) r →
      (adding o (pick hint vs) n k x (vs, meaning o xs limit) ≡ Err (full_for y)) × (◌≡◌ {A = List (Entry (Version K V)) × index.Index K} (vs, meaning o ys limit') (vs, meaning o xs limit))
  refused_to_add (Ok z) y Made made none is says = absurd (true≢false (sym none))
  refused_to_add (Err m) y Made made none is says = let f = full_to_add m says in (f.0 ∙ ap (λ b. Err (full_for b)) (sym (made m is)), f.1)

  -- and what the rest of the call leaves
  pub added : (r : Result Put IndexFault) (v : Version K V) (vs' : List (Entry (Version K V))) → true ≡ is_ok r → PutSays o xs ys limit (k, p) r → v ≡ new_version n k x → vs' ≡ set vs p (filled v) →
      adding o (pick hint vs) n k x (vs, meaning o xs limit) ≡ Ok (vs', meaning o ys limit')
  added (Ok w) v vs' is says ev es =
      let q = put_in w says in
      ap (λ (q : ℕ). adding o q n k x (vs, meaning o xs limit)) (sym e.0)
      ∙ pass (not (any_free vs)) refusal.Versions _ (ap not (some_free vs p e.1))
      ∙ pass (index.says_full o (meaning o xs limit) k p) (refusal.Full n (record { capacity = limit })) _ q.0
      ∙ (let q₁ = q.1 in let f = sym (es ∙ ap (λ (w : Version K V). set vs p (filled w)) ev) in λ j. Ok (f j, q₁ j))
  added (Err m) v vs' is says ev es = absurd (true≢false is)
