-- A listing of rows: its turns. Assumes nothing.
use Rattle.std.proofs.Common.{◌≡◌, ℕ, ◌+◌, ◌<◌, ◌≤◌, Bool, true, false, cond, leb, ◌⊎◌, List, [], ◌∷◌, length, set, Some, Ok, Err, Ordering, sym, refl, ap, ◌∙◌, subst, inl, inr, ⊎_elim, add-one, arith}
use Rattle.std.proofs.lemmas.List.Edits.{sets}
use Rattle.rules.specs.declared.Row.{Row}
use Rattle.std.proofs.lemmas.Bool.{le-leb, lt-leb, cases_lt}
use Rattle.rules.specs.declared.Entry.{Entry}
use Rattle.seeing.specs.declared.Version.{Version}
use Rattle.rules.specs.declared.Refusal.{Refusal}
use Rattle.rules.specs.declared.Refusal.TheVariants as refusal
use Rattle.seeing.specs.Slots.{Slots}
use Rattle.rules.specs.Checks.{Checked, ◌>>=◌, ◌>>◌, refuse_if}
use Rattle.rules.specs.Reaching.{Met, reached, reach_all}
use Rattle.rules.specs.BookRules.{shows, row_of, rows_from}
use Rattle.walks.specs.Rows.{Listed, listing, one_row}
use Rattle.tables.proofs.Steps.{pass, stop, go_on, give_up}

module _ {K V : Type 0} (o : K → K → Ordering) (ts : Slots) (vs : List (Entry (Version K V))) (n room : ℕ) (all : Checked (Listed K V)) (l : Listed K V) (ps : List (K × ℕ)) (inv : all ≡ listing o ts vs n room l ps) where
  pub list_ends : ps ≡ [] → all ≡ Ok l
  list_ends e = inv ∙ ap (listing o ts vs n room l) e

  module _ (x : K × ℕ) (left : List (K × ℕ)) (next : ps ≡ x ∷ left) where
    abbrev turn : Met K V → Checked (Listed K V)
    turn y = cond (shows o ts n l.last y.1) (refuse_if (leb room l.count) refusal.Rows >> listing o ts vs n room (one_row y.1 l) left) (listing o ts vs n room l left)

    pub list_stops : (e : Refusal) → Err e ≡ reached o ts vs x → all ≡ Err e
    list_stops e h = inv ∙ ap (listing o ts vs n room l) next ∙ give_up turn (sym h)

    module _ (y : Met K V) (h : Ok y ≡ reached o ts vs x) (b : Bool) (is : b ≡ shows o ts n l.last y.1) where
      turned : all ≡ cond b (refuse_if (leb room l.count) refusal.Rows >> listing o ts vs n room (one_row y.1 l) left) (listing o ts vs n room l left)
      turned =
          inv ∙ ap (listing o ts vs n room l) next ∙ go_on turn (sym h)
          ∙ ap (λ (b : Bool). cond b (refuse_if (leb room l.count) refusal.Rows >> listing o ts vs n room (one_row y.1 l) left) (listing o ts vs n room l left)) (sym is)

      pub list_passes : (l' : Listed K V) → b ≡ false → l' ≡ l → all ≡ listing o ts vs n room l' left
      list_passes l' e f =
          turned ∙ ap (λ (b : Bool). cond b (refuse_if (leb room l.count) refusal.Rows >> listing o ts vs n room (one_row y.1 l) left) (listing o ts vs n room l left)) e
          ∙ ap (λ (q : Listed K V). listing o ts vs n room q left) (sym f)

      pub list_full : b ≡ true → room ≤ l.count → all ≡ Err refusal.Rows
      list_full e f =
          turned ∙ ap (λ (b : Bool). cond b (refuse_if (leb room l.count) refusal.Rows >> listing o ts vs n room (one_row y.1 l) left) (listing o ts vs n room l left)) e
          ∙ stop _ _ _ (le-leb room l.count f)

      pub list_writes : (l' : Listed K V) → b ≡ true → l.count < room → l' ≡ one_row y.1 l → all ≡ listing o ts vs n room l' left
      list_writes l' e f q =
          turned ∙ ap (λ (b : Bool). cond b (refuse_if (leb room l.count) refusal.Rows >> listing o ts vs n room (one_row y.1 l) left) (listing o ts vs n room l left)) e
          ∙ pass _ _ _ (lt-leb room l.count f) ∙ ap (λ (q : Listed K V). listing o ts vs n room q left) (sym q)

-- ---- what it comes to where all versions are reached

pub data Reaches {K V : Type 0} (o : K → K → Ordering) (ts : Slots) (vs : List (Entry (Version K V))) : List (K × ℕ) → List (Met K V) → Type 0 where
  none : Reaches o ts vs [] []
  one : {x : K × ℕ} {xs : List (K × ℕ)} {y : Met K V} {ys : List (Met K V)} → reached o ts vs x ≡ Ok y → Reaches o ts vs xs ys → Reaches o ts vs (x ∷ xs) (y ∷ ys)

module _ {K V : Type 0} (o : K → K → Ordering) (ts : Slots) (vs : List (Entry (Version K V))) where
  pub reaches : (ps : List (K × ℕ)) (met : List (Met K V)) → reach_all o ts vs ps ≡ Ok met → Reaches o ts vs ps met
  unfolding ◌>>=◌
  reaches [] met e = let q : [] ≡ met = cc in subst (Reaches o ts vs []) q none
  reaches (x ∷ xs) met e = go (reached o ts vs x) refl (reach_all o ts vs xs) refl e (reaches xs)
    where
      go : (m : Checked (Met K V)) → reached o ts vs x ≡ m → (ms : Checked (List (Met K V))) → reach_all o ts vs xs ≡ ms → (m >>= (λ y. ms >>= (λ ys. Ok (y ∷ ys)))) ≡ Ok met →
          ((ys : List (Met K V)) → reach_all o ts vs xs ≡ Ok ys → Reaches o ts vs xs ys) → Reaches o ts vs (x ∷ xs) met
      go (Ok y) a (Ok ys) b k ih = let q : y ∷ ys ≡ met = cc in subst (Reaches o ts vs (x ∷ xs)) q (one a (ih ys b))
      go (Ok y) a (Err r) b k ih = let z : ◌≡◌ {A = ℕ} 0 1 = cc in absurd (omega arith)
      go (Err r) a ms b k ih = let z : ◌≡◌ {A = ℕ} 0 1 = cc in absurd (omega arith)

  module _ (n room : ℕ) where
    -- all rows fit and are listed, or there are more than fit
    abbrev pub Fits : Listed K V → List (Row K V) → Checked (Listed K V) → Type 0
    Fits l rows m =
        ((l.count + length rows ≤ room) × ((l' : Listed K V) × (m ≡ Ok l') × (l'.count ≡ l.count + length rows) × (l'.table ≡ sets l.table l.count rows)))
        ⊎ ((room < l.count + length rows) × (m ≡ Err refusal.Rows))

    pub fits : {ps : List (K × ℕ)} {met : List (Met K V)} → Reaches o ts vs ps met → (l : Listed K V) → l.count ≤ room → Fits l (rows_from o ts n l.last met) (listing o ts vs n room l ps)
    fits none l h = inl (omega arith, (l, refl, omega arith, refl))
    fits (one {x} {xs} {y} {ys} a rest) l h = go (shows o ts n l.last y.1) refl (fits rest l h) (fits rest (one_row y.1 l))
      where
        go : (b : Bool) → shows o ts n l.last y.1 ≡ b → Fits l (rows_from o ts n l.last ys) (listing o ts vs n room l xs) →
            (l.count + 1 ≤ room → Fits (one_row y.1 l) (rows_from o ts n (Some y.1.key) ys) (listing o ts vs n room (one_row y.1 l) xs)) →
            Fits l (cond b (row_of y.1 ∷ rows_from o ts n (Some y.1.key) ys) (rows_from o ts n l.last ys)) (listing o ts vs n room l (x ∷ xs))
        go false s ih ih' = subst (Fits l (rows_from o ts n l.last ys)) (sym (list_passes o ts vs n room _ l (x ∷ xs) refl x xs refl y (sym a) false (sym s) l refl refl)) ih
        go true s ih ih' =
            ⊎_elim
            (λ (lt : l.count < room).
            let m = list_writes o ts vs n room _ l (x ∷ xs) refl x xs refl y (sym a) true (sym s) (one_row y.1 l) refl lt refl in
            ⊎_elim
            (λ (r : (l.count + 1 + length (rows_from o ts n (Some y.1.key) ys) ≤ room) × ((l' : Listed K V) × (listing o ts vs n room (one_row y.1 l) xs ≡ Ok l') × (l'.count ≡ l.count + 1 + length (rows_from o ts n (Some y.1.key) ys)) × (l'.table ≡ sets (one_row y.1 l).table (l.count + 1) (rows_from o ts n (Some y.1.key) ys)))).
            inl (omega (arith, r.0), (r.1.0, m ∙ r.1.1, omega (arith, r.1.2), r.1.3 ∙ ap (λ (j : ℕ). sets (set l.table l.count (row_of y.1)) j (rows_from o ts n (Some y.1.key) ys)) (add-one l.count))))
            (λ (r : (room < l.count + 1 + length (rows_from o ts n (Some y.1.key) ys)) × (listing o ts vs n room (one_row y.1 l) xs ≡ Err refusal.Rows)).
            inr (omega (arith, r.0), m ∙ r.1))
            (ih' (omega arith)))
            (λ (ge : room ≤ l.count).
            inr (omega arith, list_full o ts vs n room _ l (x ∷ xs) refl x xs refl y (sym a) true (sym s) refl ge))
            (cases_lt l.count room)
