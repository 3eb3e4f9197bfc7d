-- The history after one more event. Assumes nothing.
use Rattle.std.proofs.Common.{◌≡◌, ℕ, true, false, ◌⊎◌, [], ◌∷◌, ◌++◌, Some, Ordering, sym, refl, ap, ◌∙◌, subst, ⊎_elim}
use Rattle.std.proofs.lemmas.Bool.{cases_eq}
use Rattle.seeing.specs.declared.Phase.TheVariants.{Committed, Aborted}
use Rattle.seeing.specs.declared.Transaction.{Transaction as Sitter}
use Rattle.keys.specs.Laws.{TotalOrder}
use Rattle.seeing.specs.Slots.{Slots, find}
use Rattle.rules.specs.Runs.{History, Event, life, lived}
use Rattle.rules.specs.Law.{stamp_of, sorted_names, commits_in, commit_in, serial_order, end_stamp, is_doomed}
use Rattle.serial.specs.Lists.{In}
use Rattle.serial.specs.Machine.{Transaction, State, committed, pending}
use Rattle.rules.proofs.Game.{game}
use Rattle.rules.proofs.Times.{Here}
use Rattle.rules.proofs.Relation.{forward, life_of, Tale}
use Rattle.rules.proofs.Tales.{life_other, life_same, sorted_agree, committed_sorted, done, In_done}

module _ {K : Type 0} (V : Type 0) (order : K → K → Ordering) (total : TotalOrder order) (h : History K V) (ts ts' : Slots) (s s' : State (game V order total)) (tale : Tale V order total h ts s) where
  abbrev Tx : Type 0
  Tx = Transaction (game V order total)

  -- the same events
  pub tale_same : ((t' : Tx) → Here (game V order total) s' t' → (t : Tx) × (Here (game V order total) s t × ((t.name ≡ t'.name) × (life_of V order total t ≡ life_of V order total t')))) → s'.line ≡ s.line →
      ((n e : ℕ) → (life h n).stamp ≡ Some e → (life h n).aborted ≡ false → is_doomed (find ts' n) ≡ false → (is_doomed (find ts n) ≡ false) ⊎ ((t : Tx) × (In t s.line × (t.name ≡ n)))) →
      ((m : ℕ) (u' : Sitter) → find ts' m ≡ Some u' → (u : Sitter) × ((find ts m ≡ Some u) × (u.phase ≡ u'.phase))) → Tale V order total h ts' s'
  tale_same back line doomed sat = record {
    lives = λ t' i. let z = back t' i in ap (life h) (sym z.1.1.0) ∙ tale.lives z.0 z.1.0 ∙ z.1.1.1;
    committed = λ n e. let z = tale.committed n e in (z.0, (subst (In z.0) (sym line) z.1.0, z.1.1));
    prepared = λ n e a b c. ⊎_elim (λ d. let z = tale.prepared n e a b d in (z.0, (subst (In z.0) (sym line) z.1.0, z.1.1))) (λ z. (z.0, (subst (In z.0) (sym line) z.1.0, z.1.1))) (doomed n e a b c);
    aborted = λ m u e q. let z = sat m u e in tale.aborted m z.0 z.1.0 (z.1.1 ∙ q);
    settled = λ m e u f q. let z = sat m u f in tale.settled m e z.0 z.1.0 (z.1.1 ∙ q);
    serial = tale.serial ∙ ap (λ l. forward (done (game V order total) l)) (sym line);
  }

  -- whose commit was told is in the line
  pub committed_in : (m : ℕ) → In m (commits_in h) → (t : Tx) × (In t s.line × ((t.name ≡ m) × (pending t.stage ≡ false)))
  committed_in m i = In_done (game V order total) m s.line (committed_sorted h m (done (game V order total) s.line) tale.serial i)

  module _ (n : ℕ) (d : Event K V) where
    -- an event that is no commit, and leaves the stamps of the committed
    pub serial_quiet : commit_in (n, d) ≡ [] → ((m : ℕ) → In m (commits_in h) → m ≡ n → end_stamp (lived (life h m) d).stamp ≡ stamp_of h m) → done (game V order total) s'.line ≡ done (game V order total) s.line →
        serial_order ((n, d) ∷ h) ≡ forward (done (game V order total) s'.line)
    serial_quiet quiet same line =
        ap (λ c. sorted_names ((n, d) ∷ h) (c ++ commits_in h)) quiet
        ∙ sorted_agree h ((n, d) ∷ h) (commits_in h) (λ m i. ⊎_elim (λ e. ap (λ l. end_stamp l.stamp) (life_same h n m d (sym e)) ∙ same m i e) (λ a. ap (λ l. end_stamp l.stamp) (life_other h n m d (λ e. a (sym e)))) (cases_eq m n))
        ∙ tale.serial ∙ ap forward (sym line)

    pub tale_deed :
        ((t' : Tx) → Here (game V order total) s' t' → t'.name ≡ n → lived (life h n) d ≡ life_of V order total t') →
        ((t' : Tx) → Here (game V order total) s' t' → (t'.name ≡ n → ⊥) → (t : Tx) × (Here (game V order total) s t × ((t.name ≡ t'.name) × (life_of V order total t ≡ life_of V order total t')))) →
        ((lived (life h n) d).committed ≡ true → (t : Tx) × (In t s'.line × ((t.name ≡ n) × (t.stage ≡ committed)))) →
        ((t : Tx) → In t s.line → (t.name ≡ n → ⊥) → t.stage ≡ committed → (t' : Tx) × (In t' s'.line × ((t'.name ≡ t.name) × (t'.stage ≡ committed)))) →
        ((e : ℕ) → (lived (life h n) d).stamp ≡ Some e → (lived (life h n) d).aborted ≡ false → is_doomed (find ts' n) ≡ false → (t : Tx) × (In t s'.line × (t.name ≡ n))) →
        ((m : ℕ) → (m ≡ n → ⊥) → is_doomed (find ts' m) ≡ false → is_doomed (find ts m) ≡ false) →
        ((t : Tx) → In t s.line → (t.name ≡ n → ⊥) → is_doomed (find ts' t.name) ≡ false → (t' : Tx) × (In t' s'.line × (t'.name ≡ t.name))) →
        ((u' : Sitter) → find ts' n ≡ Some u' → (u'.phase ≡ Aborted → (lived (life h n) d).aborted ≡ true) × ((e : ℕ) → u'.phase ≡ Committed e → (lived (life h n) d).committed ≡ true)) →
        ((m : ℕ) (u' : Sitter) → (m ≡ n → ⊥) → find ts' m ≡ Some u' → (u : Sitter) × ((find ts m ≡ Some u) × (u.phase ≡ u'.phase))) →
        serial_order ((n, d) ∷ h) ≡ forward (done (game V order total) s'.line) → Tale V order total ((n, d) ∷ h) ts' s'
    tale_deed lives_n lives_o com_n com_o prep_n doomed prep_o phase_n phase_o serial = record {
      lives = λ t' i. ⊎_elim (λ e. ap (λ m. life ((n, d) ∷ h) m) e ∙ life_same h n n d refl ∙ lives_n t' i e)
          (λ a. life_other h n t'.name d (λ e. a (sym e)) ∙ (let z = lives_o t' i a in ap (life h) (sym z.1.1.0) ∙ tale.lives z.0 z.1.0 ∙ z.1.1.1)) (cases_eq t'.name n);
      committed = λ m e. ⊎_elim
          (λ q. let z = com_n (ap (λ l. l.committed) (sym (life_same h n n d refl)) ∙ ap (λ x. (life ((n, d) ∷ h) x).committed) (sym q) ∙ e) in (z.0, (z.1.0, (z.1.1.0 ∙ sym q, z.1.1.1))))
          (λ a. let z = tale.committed m (ap (λ l. l.committed) (sym (life_other h n m d (λ e. a (sym e)))) ∙ e) in let y = com_o z.0 z.1.0 (λ q. a (sym z.1.1.0 ∙ q)) z.1.1.1 in (y.0, (y.1.0, (y.1.1.0 ∙ z.1.1.0, y.1.1.1)))) (cases_eq m n);
      prepared = λ m e a b c. ⊎_elim
          (λ q. let z = prep_n e (ap (λ l. l.stamp) (sym (life_same h n n d refl)) ∙ ap (λ x. (life ((n, d) ∷ h) x).stamp) (sym q) ∙ a) (ap (λ l. l.aborted) (sym (life_same h n n d refl)) ∙ ap (λ x. (life ((n, d) ∷ h) x).aborted) (sym q) ∙ b) (ap (λ x. is_doomed (find ts' x)) (sym q) ∙ c) in
          (z.0, (z.1.0, z.1.1 ∙ sym q)))
          (λ x. let l = life_other h n m d (λ e. x (sym e)) in
          let z = tale.prepared m e (ap (λ l. l.stamp) (sym l) ∙ a) (ap (λ l. l.aborted) (sym l) ∙ b) (doomed m x c) in
          let y = prep_o z.0 z.1.0 (λ q. x (sym z.1.1 ∙ q)) (ap (λ k. is_doomed (find ts' k)) z.1.1 ∙ c) in (y.0, (y.1.0, y.1.1 ∙ z.1.1))) (cases_eq m n);
      aborted = λ m u e q. ⊎_elim
          (λ y. ap (λ l. l.aborted) (life_same h n m d (sym y)) ∙ ap (λ x. (lived (life h x) d).aborted) y ∙ (phase_n u (ap (find ts') (sym y) ∙ e)).0 q)
          (λ y. ap (λ l. l.aborted) (life_other h n m d (λ e. y (sym e))) ∙ (let z = phase_o m u y e in tale.aborted m z.0 z.1.0 (z.1.1 ∙ q))) (cases_eq m n);
      settled = λ m e u f q. ⊎_elim
          (λ y. ap (λ l. l.committed) (life_same h n m d (sym y)) ∙ ap (λ x. (lived (life h x) d).committed) y ∙ (phase_n u (ap (find ts') (sym y) ∙ f)).1 e q)
          (λ y. ap (λ l. l.committed) (life_other h n m d (λ e. y (sym e))) ∙ (let z = phase_o m u y f in tale.settled m e z.0 z.1.0 (z.1.1 ∙ q))) (cases_eq m n);
      serial = serial;
    }
