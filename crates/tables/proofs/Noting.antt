-- No note, a note refused, and a note made. Assumes nothing.
use Rattle.std.proofs.Common.{◌≡◌, ℕ, Bool, true, false, cond, not, List, set, IsErrAnd, Some, None, Ok, Err, Option, Result, MatchOption, sym, refl, ap, ◌∙◌, subst}
use Rattle.seeing.specs.declared.Transaction.{Transaction}
use Rattle.rules.specs.declared.Entry.{Entry}
use Rattle.rules.specs.declared.Note.{Note}
use Rattle.rules.specs.declared.Noted.{Noted}
use Rattle.rules.specs.declared.Refusal.{Refusal}
use Rattle.rules.specs.declared.Refusal.TheVariants as refusal
use Rattle.rules.specs.Tables.{any_free, is_free, filled}
use Rattle.rules.specs.Slots.{one_more}
use Rattle.seeing.specs.Phases.{is_serializable}
use Rattle.rules.specs.Checks.{Checked, ◌>>◌, refuse_if}
use Rattle.rules.specs.BookRules.{noting}
use Rattle.tables.specs.Places.{pick}
use Rattle.tables.specs.Steps.{Gives}
use Rattle.std.proofs.lemmas.Option.{MatchOption-at_some, MatchOption-at_none}
use Rattle.tables.proofs.Steps.{pass, stop, exit}
use Rattle.tables.proofs.Picking.{some_free}

module _ {K : Type 0} (n : ℕ) (t : Transaction) (ns : List (Entry (Note K))) where
  -- the rule, once it is known what is to be noted
  abbrev noting_it : ℕ → Option (Noted K) → Checked (ℕ × List (Entry (Note K)))
  noting_it p None = Ok (t.made, ns)
  noting_it p (Some what) = do
    refuse_if (not (any_free ns)) refusal.Notes
    Ok (one_more t.made, set ns p (filled (record { owner = n; number = t.made; noted = what })))

  noting_noted : (p : ℕ) (wanted : Option (Noted K)) → noting p n t wanted ns ≡ noting_it p (cond (is_serializable t.level) wanted None)
  noting_noted p None = go (is_serializable t.level)
    where
      go : (b : Bool) → Ok (t.made, ns) ≡ noting_it p (cond b None None)
      go true = refl
      go false = refl
  noting_noted p (Some what) = go (is_serializable t.level)
    where
      go : (b : Bool) → cond b (noting_it p (Some what)) (Ok (t.made, ns)) ≡ noting_it p (cond b (Some what) None)
      go true = refl
      go false = refl

module _ {K : Type 0} (n : ℕ) (t : Transaction) (wanted : Option (Noted K)) (ns : List (Entry (Note K))) where
  module _ (hint : ℕ) (what : Noted K) (is : Some what ≡ cond (is_serializable t.level) wanted None) where
    note_refused : any_free ns ≡ false → noting (pick hint ns) n t wanted ns ≡ Err refusal.Notes
    note_refused e = noting_noted n t ns (pick hint ns) wanted ∙ ap (noting_it n t ns (pick hint ns)) (sym is) ∙ stop (not (any_free ns)) refusal.Notes _ (ap not e)

    -- none is free: what the `?` gives
    pub note_unplaced : (o : Option ℕ) (r : Result ℕ Refusal) → MatchOption o (any_free ns ≡ false) (λ p. (p ≡ pick hint ns) × (is_free ns p ≡ true)) → o ≡ None → IsErrAnd r (λ y. y ≡ refusal.Notes) → Gives (noting (pick hint ns) n t wanted ns) ns ns r
    note_unplaced o r free none h = subst (Gives (noting (pick hint ns) n t wanted ns) ns ns) (sym (exit r refusal.Notes h)) (note_refused (MatchOption-at_none _ _ none free), refl)

    pub note_made : (o : Option ℕ) (p made : ℕ) (after : List (Entry (Note K))) → MatchOption o (any_free ns ≡ false) (λ p. (p ≡ pick hint ns) × (is_free ns p ≡ true)) → o ≡ Some p → made ≡ one_more t.made → after ≡ set ns p (filled (record { owner = n; number = t.made; noted = what })) → noting (pick hint ns) n t wanted ns ≡ Ok (made, after)
    note_made o p made after free some m a =
        let e = MatchOption-at_some (any_free ns ≡ false) (λ p. (p ≡ pick hint ns) × (is_free ns p ≡ true)) p some free in
        noting_noted n t ns (pick hint ns) wanted ∙ ap (noting_it n t ns (pick hint ns)) (sym is)
        ∙ pass (not (any_free ns)) refusal.Notes _ (ap not (some_free ns p e.1))
        ∙ (let f = e.0 in λ i. Ok (sym m i, set ns (sym f i) (filled (record { owner = n; number = t.made; noted = what }))))
        ∙ (λ i. Ok (made, sym a i))
