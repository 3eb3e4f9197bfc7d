-- A scan, exit by exit. Assumes nothing.
use Rattle.std.proofs.Common.{[], ◌≡◌, ℕ, Bool, true, false, ltb, List, ◌++◌, length, drop, set, Some, None, Ok, Err, Ordering, sym, refl, ap, ◌∙◌, subst, ⊎_elim, zero-add, arith}
use Rattle.std.proofs.lemmas.Bool.{lt-ltb, le-ltb}
use Rattle.std.proofs.lemmas.List.Edits.{sets-eq}
use Rattle.rules.specs.declared.Row.{Row}
use Rattle.rules.specs.Keys.{above}
use Rattle.rules.specs.declared.Entry.{Entry}
use Rattle.rules.specs.declared.Store.{Store}
use Rattle.seeing.specs.declared.Version.{Version}
use Rattle.rules.specs.declared.Note.{Note}
use Rattle.rules.specs.declared.Noted.TheVariants as noted
use Rattle.walks.specs.declared.Survey.{Survey}
use Rattle.seeing.specs.declared.Transaction.{Transaction}
use Rattle.rules.specs.declared.BookCall.TheVariants as book
use Rattle.rules.specs.declared.Answer.{Answer}
use Rattle.rules.specs.declared.Answer.TheVariants as answer
use Rattle.rules.specs.declared.Refusal.{Refusal}
use Rattle.rules.specs.declared.Refusal.TheVariants as refusal
use Rattle.rules.specs.Index.{meaning}
use Rattle.rules.specs.Worlds.{World, with_slots}
use Rattle.rules.specs.Slots.{answered, change}
use Rattle.rules.specs.Checks.{Checked, Outcome, ◌>>=◌, ◌>>◌, refuse_if, sound}
use Rattle.rules.specs.Reaching.{Met, reach_all, waits_after}
use Rattle.rules.specs.BookRules.{conclude, book_rule, rows_from, noting}
use Rattle.seeing.specs.Phases.{is_active}
use Rattle.tables.specs.Places.{pick}
use Rattle.data_calls.specs.Calling.{world, picked, AnswersFrom}
use Rattle.tables.specs.declared.lengths.Sizes.{Sizes}
use Rattle.tables.specs.Naming.{located}
use Rattle.tables.proofs.Lookups.{located_at, sound_located, located_found}
use Rattle.walks.specs.Walk.{start, walk}
use Rattle.walks.specs.Rows.{listing, Listed}
use Rattle.tables.proofs.Steps.{go_on, give_up, pass, stop}
use Rattle.index.specs.Listed.{rest}
use Rattle.slots.proofs.Found.{change_found}
use Rattle.walks.proofs.Covering.{covering_rest}
use Rattle.walks.proofs.Walking.{surveyed, walk_is}
use Rattle.walks.proofs.Listing.{reaches, Fits, fits}
use Rattle.data_calls.proofs.Shapes.{refused, came}

module _ {A B : Type 0} where
  bind_err : (m : Checked A) (g : A → B) (e : Refusal) → (m >>= (λ a. Ok (g a))) ≡ Err e → m ≡ Err e
  unfolding ◌>>=◌
  bind_err (Ok a) g e k = let z : ◌≡◌ {A = ℕ} 0 1 = cc in absurd (omega arith)
  bind_err (Err r) g e k = cc

  bind_ok : (m : Checked A) (g : A → B) (b : B) → (m >>= (λ a. Ok (g a))) ≡ Ok b → (a : A) × (m ≡ Ok a) × (g a ≡ b)
  unfolding ◌>>=◌
  bind_ok (Ok a) g b k = (a, refl, cc)
  bind_ok (Err r) g b k = let z : ◌≡◌ {A = ℕ} 0 1 = cc in absurd (omega arith)

module _ {K V : Type 0} (o : K → K → Ordering) (vh nh : ℕ) (s : Store) (vs : List (Entry (Version K V))) (ns : List (Entry (Note K))) (rows : List (Row K V)) (xs : List (K × ℕ)) (limit : ℕ) (z : Sizes) (ez : z ≡ record { versions = length vs; notes = length ns; capacity = limit }) (n : ℕ) (lower upper : K) where
  abbrev at_rows : List (Row K V) → World K V
  at_rows rs = world s vs ns rs (meaning o xs limit)

  abbrev listed_rows : List (Met K V) → List (Row K V)
  listed_rows met = rows_from o s.slots n None met

  abbrev ends : Transaction → List (Met K V) → Outcome K V
  ends t met = conclude (picked vh nh vs ns) (at_rows (listed_rows met ++ drop (length (listed_rows met)) rows)) n t (Some (noted.Range lower upper)) (waits_after s.slots n n met t.waits) (answer.Number (length (listed_rows met)))

  abbrev tail : Transaction → List (Met K V) → Outcome K V
  tail t met = refuse_if (ltb (length rows) (length (listed_rows met))) refusal.Rows >> ends t met

  abbrev after : Transaction → Outcome K V
  after t = refuse_if (above o lower upper) refusal.Keys >> (reach_all o s.slots vs (rest o lower 0 upper xs) >>= tail t)

  abbrev call : Outcome K V
  call = book_rule o (picked vh nh vs ns) (at_rows rows) n (book.Scan lower upper)

  call_is : call ≡ (sound s (length vs) (length ns) limit n is_active >>= after)
  call_is = ap (λ ps. sound s (length vs) (length ns) limit n is_active >>= (λ t. refuse_if (above o lower upper) refusal.Keys >> (reach_all o s.slots vs ps >>= tail t))) (covering_rest o lower upper xs limit)

  abbrev To : World K V → Checked (Answer V) → Type 0
  To w' r = AnswersFrom o vh nh (at_rows rows) w' n (book.Scan lower upper) r

  abbrev at : located s z.versions z.notes z.capacity n ≡ located s (length vs) (length ns) limit n
  at = located_at z (length vs) (length ns) limit ez s n

  refuse : (e : Refusal) → call ≡ Err e → To (at_rows rows) (Err e)
  refuse e h = refused o vh nh (at_rows rows) n (book.Scan lower upper) call refl e h

  pub refuses : (e : Refusal) → Err e ≡ located s z.versions z.notes z.capacity n → To (at_rows rows) (Err e)
  refuses e h = refuse e (call_is ∙ give_up after (sound_located s (length vs) (length ns) limit n ∙ give_up _ (sym (h ∙ at))))

  module _ (slot : ℕ) (t : Transaction) (h : Ok (slot, t) ≡ located s z.versions z.notes z.capacity n) where
    sounds : sound s (length vs) (length ns) limit n is_active ≡ Ok t
    sounds = sound_located s (length vs) (length ns) limit n ∙ go_on _ (sym (h ∙ at))

    pub wrong_keys : true ≡ above o lower upper → To (at_rows rows) (Err refusal.Keys)
    wrong_keys g = refuse refusal.Keys (call_is ∙ go_on after sounds ∙ stop (above o lower upper) refusal.Keys _ (sym g))

    module _ (ng : false ≡ above o lower upper) where
      reaching : call ≡ (reach_all o s.slots vs (rest o lower 0 upper xs) >>= tail t)
      reaching = call_is ∙ go_on after sounds ∙ pass (above o lower upper) refusal.Keys _ (sym ng)

      pub faulty : (e : Refusal) → Err e ≡ walk o s.slots vs n (start t.waits) (rest o lower 0 upper xs) → To (at_rows rows) (Err e)
      faulty e f = refuse e (reaching ∙ give_up (tail t) (bind_err (reach_all o s.slots vs (rest o lower 0 upper xs)) (surveyed s.slots n (start t.waits)) e (sym (walk_is o s.slots vs n (start t.waits) (rest o lower 0 upper xs)) ∙ sym f)))

      module _ (y : Survey K V) (f : Ok y ≡ walk o s.slots vs n (start t.waits) (rest o lower 0 upper xs)) where
        met_so : (met : List (Met K V)) × (reach_all o s.slots vs (rest o lower 0 upper xs) ≡ Ok met) × (surveyed s.slots n (start t.waits) met ≡ y)
        met_so = bind_ok (reach_all o s.slots vs (rest o lower 0 upper xs)) (surveyed s.slots n (start t.waits)) y (sym (walk_is o s.slots vs n (start t.waits) (rest o lower 0 upper xs)) ∙ sym f)

        -- with room for as many rows as the row table has entries, into a table
        abbrev lists : List (Row K V) → Checked (Listed K V)
        lists table = listing o s.slots vs n (length rows) (record { last = None; count = 0; table = table }) (rest o lower 0 upper xs)

        fit : (table : List (Row K V)) → Fits o s.slots vs n (length rows) (record { last = None; count = 0; table = table }) (listed_rows met_so.0) (lists table)
        fit table = fits o s.slots vs n (length rows) (reaches o s.slots vs (rest o lower 0 upper xs) met_so.0 met_so.1) (record { last = None; count = 0; table = table }) (omega arith)

        pub too_many : (e : Refusal) → lists [] ≡ Err e → To (at_rows rows) (Err e)
        too_many e m =
            ⊎_elim
            (λ r. let k = r.1.1 in let z : ◌≡◌ {A = ℕ} 0 1 = cc in absurd (omega arith))
            (λ r. let k = r.1 in let q : refusal.Rows ≡ e = cc in refuse e (reaching ∙ go_on (tail t) met_so.1 ∙ stop _ refusal.Rows _ (lt-ltb (length rows) (length (listed_rows met_so.0)) (omega (arith, r.0))) ∙ ap Err q))
            (fit [])

        module _ (l : Listed K V) (m : lists [] ≡ Ok l) where
          concluding_so : call ≡ ends t met_so.0
          concluding_so =
              reaching ∙ go_on (tail t) met_so.1
              ∙ ⊎_elim (λ r. pass _ refusal.Rows _ (le-ltb (length rows) (length (listed_rows met_so.0)) (omega (arith, r.0)))) (λ r. let k = r.1 in let z : ◌≡◌ {A = ℕ} 0 1 = cc in absurd (omega arith)) (fit [])

          pub no_note : (e : Refusal) (ns' : List (Entry (Note K))) → noting (pick nh ns) n t (Some (noted.Range lower upper)) ns ≡ Err e → ns' ≡ ns → To (world s vs ns' rows (meaning o xs limit)) (Err e)
          no_note e ns' k a = subst (λ (z : List (Entry (Note K))). To (world s vs z rows (meaning o xs limit)) (Err e)) (sym a) (refuse e (concluding_so ∙ give_up _ k))

          pub not_twice : (e : Refusal) → lists rows ≡ Err e → ⊥
          not_twice e m' =
              ⊎_elim
              (λ r. let k₁ = r.1.1 in let z : ◌≡◌ {A = ℕ} 0 1 = cc in omega arith)
              (λ r. ⊎_elim (λ q. omega (arith, r.0, q.0)) (λ q. let k₁ = q.1 in let z : ◌≡◌ {A = ℕ} 0 1 = cc in omega arith) (fit []))
              (fit rows)

          pub done : (made count : ℕ) (ns' : List (Entry (Note K))) (rows' : List (Row K V)) (s' : Store) (l' : Listed K V) →
              noting (pick nh ns) n t (Some (noted.Range lower upper)) ns ≡ Ok (made, ns') → lists rows ≡ Ok l' → l'.count ≡ count → l'.table ≡ rows' →
              s' ≡ with_slots s (set s.slots slot (Some (answered made y.waits t))) → To (world s' vs ns' rows' (meaning o xs limit)) (Ok (answer.Number count))
          done made count ns' rows' s' l' k m' ecount et es =
              came o vh nh (at_rows rows) n (book.Scan lower upper) call refl (world s' vs ns' rows' (meaning o xs limit)) (Ok (answer.Number count))
              (concluding_so ∙ go_on _ k
              ∙ (λ j. Ok (world (st j) vs ns' (both.1 j) (meaning o xs limit), Ok (answer.Number (both.0 j)))))
            where
              both : (length (listed_rows met_so.0) ≡ count) × (listed_rows met_so.0 ++ drop (length (listed_rows met_so.0)) rows ≡ rows')
              both =
                  ⊎_elim
                  (λ r.
                  let k₁ = r.1.1 in let q : r.1.0 ≡ l' = cc in
                  let c₁ = ap (λ (z : Listed K V). z.count) q in (
                    omega (arith, r.1.2, ecount, c₁),
                    (let sq = sets-eq (listed_rows met_so.0) rows 0 (omega (arith, r.0)) in sym (sq ∙ ap (λ (i : ℕ). listed_rows met_so.0 ++ drop i rows) (zero-add (length (listed_rows met_so.0))))) ∙ sym r.1.3 ∙ ap (λ (z : Listed K V). z.table) q ∙ et,
                  ))
                  (λ r. let k₁ = r.1 in let z : ◌≡◌ {A = ℕ} 0 1 = cc in absurd (omega arith))
                  (fit rows)

              st : with_slots s (change n (answered made (waits_after s.slots n n met_so.0 t.waits)) s.slots) ≡ s'
              st =
                  ap (λ (ws : List Bool). with_slots s (change n (answered made ws) s.slots)) (ap (λ (z : Survey K V). z.waits) met_so.2)
                  ∙ ap (with_slots s) (change_found s.slots n slot t (located_found s (length vs) (length ns) limit n (slot, t) (h ∙ at)) (answered made y.waits)) ∙ sym es
