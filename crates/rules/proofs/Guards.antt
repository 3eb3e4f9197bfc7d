-- The notes go on standing for what their makers have looked at. Assumes nothing.
use Rattle.std.proofs.Common.{◌≡◌, ℕ, ◌+◌, ◌≤◌, Bool, true, false, not, ◌&&◌, eqb, List, ◌∷◌, Some, Ordering, sym, refl, ap, ◌∙◌, subst, inl, inr}
use Rattle.std.proofs.lemmas.Bool.{false≢true}
use Rattle.seeing.specs.declared.Version.{Version}
use Rattle.rules.specs.declared.Entry.{Entry}
use Rattle.rules.specs.declared.Note.{Note}
use Rattle.seeing.specs.declared.End.{End}
use Rattle.seeing.specs.declared.End.TheVariants as end
use Rattle.keys.specs.Laws.{TotalOrder}
use Rattle.rules.specs.Tables.{entry}
use Rattle.seeing.specs.Seeing.{as_end}
use Rattle.serial.specs.Lists.{In, All, keep, change}
use Rattle.serial.specs.Machine.{Transaction, State, Stage, preparing, committed, touched, covered, retag, prepared, newborn, Spared, Reached}
use Rattle.serial.proofs.Lists.{All_at}
use Rattle.serial.proofs.Steps.{sound}
use Rattle.serial.proofs.Orders.{In_kept, In_changed}
use Rattle.rules.proofs.Game.{game}
use Rattle.rules.proofs.Times.{come, time, shown, Here}
use Rattle.rules.proofs.Relation.{Guarded, Guards, Shelf}
use Rattle.rules.proofs.Lines.{ending_retag}
use Rattle.rules.proofs.Prepare as prep
use Rattle.rules.proofs.Death as death

module _ {K : Type 0} (V : Type 0) (order : K → K → Ordering) (total : TotalOrder order) (ns : List (Entry (Note K))) (vs : List (Entry (Version K V))) where
  abbrev Tx : Type 0
  Tx = Transaction (game V order total)

  pub guarded_by : (l l' : List Tx) (n : ℕ) (k : K) → ((p : ℕ) (v : Version K V) → entry vs p ≡ Some v → v.key ≡ k → shown (game V order total) l n v ≡ true → shown (game V order total) l' n v ≡ true) → Guarded V order total ns vs l n k → Guarded V order total ns vs l' n k
  guarded_by l l' n k f (inl z) = inl z
  guarded_by l l' n k f (inr z) = inr (z.0, (z.1.0, (z.1.1.0, (z.1.1.1.0, (z.1.1.1.1.0, f z.0 z.1.0 z.1.1.1.0 z.1.1.1.1.0 z.1.1.1.1.1)))))

  module _ (s : State (game V order total)) (g : Guards V order total ns vs s) where
    pub guards_begin : (n : ℕ) (b : Bool) → Guards V order total ns vs (record { clock = n; active = newborn (game V order total) n b ∷ s.active; line = s.line })
    guards_begin n b = record { at_work = work; preparing = g.preparing }
      where
        work : (t : Tx) → In t (newborn (game V order total) n b ∷ s.active) → t.ser ≡ true → (k : K) → covered (game V order total) t.moves k ≡ true → touched (game V order total) t.moves k ≡ false → Guarded V order total ns vs s.line t.name k
        work t (inl e) ser k c f = absurd (false≢true (ap (λ v. covered (game V order total) v.moves k) e ∙ c))
        work t (inr i) ser k c f = g.at_work t i ser k c f

    -- stages change and waits, and none is preparing that was not
    pub guards_retag : (f : Tx → Stage) (w w' : Tx → List ℕ) → ((t : Tx) → In t s.line → f t ≡ preparing → t.stage ≡ preparing) →
        Guards V order total ns vs (record { clock = s.clock; active = change (λ t. retag (game V order total) t.stage (w' t) t) s.active; line = change (λ t. retag (game V order total) (f t) (w t) t) s.line })
    guards_retag f w w' back = record { at_work = work; preparing = prepares }
      where
        line' : List Tx
        line' = change (λ t. retag (game V order total) (f t) (w t) t) s.line

        times : (m : End) → time (game V order total) (change (λ t. retag (game V order total) (f t) (w t) t) s.line) m ≡ time (game V order total) s.line m
        times (end.Stamp b) = refl
        times (end.Owner m) = ending_retag (game V order total) f w s.line m
        times end.Open = refl

        same : (R : ℕ) (v : Version K V) → shown (game V order total) s.line R v ≡ true → shown (game V order total) (change (λ t. retag (game V order total) (f t) (w t) t) s.line) R v ≡ true
        same R v e = ap (λ o. come R o && not (come R (time (game V order total) line' v.end))) (times (as_end v.begin)) ∙ ap (λ o. come R (time (game V order total) s.line (as_end v.begin)) && not (come R o)) (times v.end) ∙ e

        work : (t : Tx) → In t (change (λ t. retag (game V order total) t.stage (w' t) t) s.active) → t.ser ≡ true → (k : K) → covered (game V order total) t.moves k ≡ true → touched (game V order total) t.moves k ≡ false → Guarded V order total ns vs line' t.name k
        work t i ser k c f' =
            let z = In_changed (λ t. retag (game V order total) t.stage (w' t) t) t s.active i in
            subst (λ n. Guarded V order total ns vs line' n k) (ap (λ v. v.name) z.1.1) (guarded_by s.line line' z.0.name k (λ p v a q e. same z.0.name v e)
            (g.at_work z.0 z.1.0 (ap (λ v. v.ser) z.1.1 ∙ ser) k (ap (λ v. covered (game V order total) v.moves k) z.1.1 ∙ c) (ap (λ v. touched (game V order total) v.moves k) z.1.1 ∙ f')))

        prepares : (t : Tx) → In t line' → t.stage ≡ preparing → t.ser ≡ true → (k : K) → covered (game V order total) t.moves k ≡ true → touched (game V order total) t.moves k ≡ false → Guarded V order total ns vs line' t.name k
        prepares t i st ser k c f' =
            let z = In_changed (λ t. retag (game V order total) (f t) (w t) t) t s.line i in
            subst (λ n. Guarded V order total ns vs line' n k) (ap (λ v. v.name) z.1.1) (guarded_by s.line line' z.0.name k (λ p v a q e. same z.0.name v e)
            (g.preparing z.0 z.1.0 (back z.0 z.1.0 (ap (λ v. v.stage) z.1.1 ∙ st)) (ap (λ v. v.ser) z.1.1 ∙ ser) k (ap (λ v. covered (game V order total) v.moves k) z.1.1 ∙ c) (ap (λ v. touched (game V order total) v.moves k) z.1.1 ∙ f')))

    module _ (there : ℕ → Bool) (way : Reached (game V order total) s) (h : Shelf (game V order total) vs there s) where
      pub guards_prepare : (t : Tx) (i : In t s.active) → Guards V order total ns vs (prep.after (game V order total) vs there s way h t i)
      guards_prepare t i = record {
        at_work = λ u j ser k c f. let z = In_kept (λ u. not (eqb u.name t.name)) u s.active j in
            guarded_by s.line now.line u.name k (λ p v a q e. prep.shown_old (game V order total) vs there s way h t i u.name v (All_at (λ t. t.name ≤ s.clock) u s.active z.0 (sound (game V order total) s way).begun) ∙ e) (g.at_work u z.0 ser k c f);
        preparing = λ u j st ser k c f. line u j st ser k c f;
      }
        where
          now : State (game V order total)
          now = prep.after (game V order total) vs there s way h t i

          line : (u : Tx) → In u (prepared (game V order total) (s.clock + 1) t ∷ s.line) → u.stage ≡ preparing → u.ser ≡ true → (k : K) → covered (game V order total) u.moves k ≡ true → touched (game V order total) u.moves k ≡ false → Guarded V order total ns vs (prepared (game V order total) (s.clock + 1) t ∷ s.line) u.name k
          line u (inl e) st ser k c f =
              subst (λ n. Guarded V order total ns vs (prepared (game V order total) (s.clock + 1) t ∷ s.line) n k) (ap (λ v. v.name) e)
              (guarded_by s.line (prepared (game V order total) (s.clock + 1) t ∷ s.line) t.name k (λ p v a q e. prep.shown_old (game V order total) vs there s way h t i t.name v (All_at (λ t. t.name ≤ s.clock) t s.active i (sound (game V order total) s way).begun) ∙ e)
              (g.at_work t i (ap (λ v. v.ser) e ∙ ser) k (ap (λ v. covered (game V order total) v.moves k) e ∙ c) (ap (λ v. touched (game V order total) v.moves k) e ∙ f)))
          line u (inr j) st ser k c f =
              guarded_by s.line (prepared (game V order total) (s.clock + 1) t ∷ s.line) u.name k (λ p v a q e. prep.shown_old (game V order total) vs there s way h t i u.name v (All_at (λ t. t.name ≤ s.clock) u s.line j (sound (game V order total) s way).begun') ∙ e) (g.preparing u j st ser k c f)

      pub guards_kill : (alive : ℕ → Bool) (lasts : All (λ t. t.stage ≡ committed → alive t.name ≡ true) s.line) (spared : All (Spared (game V order total) alive) s.active) (spared' : All (Spared (game V order total) alive) s.line) →
          Guards V order total ns vs (death.left (game V order total) vs there s way h alive lasts spared spared')
      guards_kill alive lasts spared spared' = record {
        at_work = λ u j ser k c f. let z = In_kept (λ u. alive u.name) u s.active j in still u k (inr z.0) z.1 c (g.at_work u z.0 ser k c f);
        preparing = λ u j st ser k c f. let z = In_kept (λ u. alive u.name) u s.line j in still u k (inl z.0) z.1 c (g.preparing u z.0 st ser k c f);
      }
        where
          still : (u : Tx) (k : K) → Here (game V order total) s u → alive u.name ≡ true → covered (game V order total) u.moves k ≡ true → Guarded V order total ns vs s.line u.name k → Guarded V order total ns vs (keep (λ t. alive t.name) s.line) u.name k
          still u k here life c = guarded_by s.line (keep (λ t. alive t.name) s.line) u.name k
              (λ p v a q e. death.shown_cut (game V order total) vs there s way h alive lasts spared spared' u.name u.name p v a
              (subst (λ x. death.Cut (game V order total) vs there s way h alive lasts spared spared' x u.name u.name) (sym q) (death.cut_begin (game V order total) vs there s way h alive lasts spared spared' u here life k c)) ∙ e)
