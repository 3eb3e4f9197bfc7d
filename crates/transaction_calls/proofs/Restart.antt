-- Open and tally, from check to check. Assumes nothing.
use Rattle.rules.specs.Worlds.{around}
use Rattle.std.proofs.Common.{◌≡◌, ℕ, Bool, true, false, cond, not, ltb, List, [], length, replicate, Ok, Err, Ordering, sym, refl, ap, ◌∙◌}
use Rattle.seeing.specs.declared.Version.{Version}
use Rattle.rules.specs.declared.Entry.{Entry}
use Rattle.rules.specs.declared.Store.{Store}
use Rattle.rules.specs.declared.Note.{Note}
use Rattle.rules.specs.declared.Answer.{Answer}
use Rattle.rules.specs.declared.Answer.TheVariants as answer
use Rattle.rules.specs.declared.Refusal.TheVariants as refusal
use Rattle.rules.specs.Tables.{emptied}
use Rattle.rules.specs.Index.{Index, meaning}
use Rattle.rules.specs.Checks.{Checked, largest, allowed, still_allowed, Comes}
use Rattle.rules.specs.TransactionRules.{tally_rule}
use Rattle.rules.specs.TableRules.{open_rule, opened_store}
use Rattle.tables.specs.declared.lengths.Sizes.{Sizes}
use Rattle.tables.proofs.Steps.{pass, stop}
use Rattle.tables.proofs.Lookups.{order_is}
use Rattle.transaction_calls.proofs.Calling.{refused, refused_by, comes}

module _ {K V : Type 0} (o : K → K → Ordering) (s : Store) (vs : List (Entry (Version K V))) (ns : List (Entry (Note K))) (xs : List (K × ℕ)) (limit : ℕ) (z : Sizes) (ez : z ≡ record { versions = length vs; notes = length ns; capacity = limit }) (stamp : ℕ) where
  abbrev Opens : Store → List (Entry (Version K V)) → List (Entry (Note K)) → List (K × ℕ) → ℕ → Checked (Answer V) → Type 0
  Opens s' vs' ns' ys limit' r = Comes (λ w. open_rule o w stamp) (around s vs ns (meaning o xs limit)) (around s' vs' ns' (meaning o ys limit')) r

  allowed_is : (b : Bool) → b ≡ allowed z.versions z.notes z.capacity → not (allowed (length vs) (length ns) limit) ≡ not b
  allowed_is b h = ap not (sym (h ∙ ap (λ (y : Sizes). allowed y.versions y.notes y.capacity) ez))

  pub open_lengths : false ≡ allowed z.versions z.notes z.capacity → Opens s vs ns xs limit (Err refusal.Lengths)
  open_lengths h = refused (λ w. open_rule o w stamp) _ _ (λ rows. stop _ _ _ (allowed_is false h))

  module _ (h : true ≡ allowed z.versions z.notes z.capacity) where
    pub open_stamp : true ≡ ltb largest stamp → Opens s vs ns xs limit (Err refusal.OpeningStamp)
    open_stamp l = refused (λ w. open_rule o w stamp) _ _ (λ rows. pass _ _ _ (allowed_is true h) ∙ stop _ _ _ (sym l))

    pub opened : false ≡ ltb largest stamp → (s' : Store) (vs' : List (Entry (Version K V))) (ns' : List (Entry (Note K))) (ys : List (K × ℕ)) (limit' : ℕ) →
        s' ≡ opened_store (length vs) (length ns) stamp → vs' ≡ replicate (length vs) emptied → ns' ≡ replicate (length ns) emptied → ys ≡ [] → limit' ≡ limit →
        Opens s' vs' ns' ys limit' (Ok answer.Done)
    opened l s' vs' ns' ys limit' es ev en ey el =
        comes (λ w. open_rule o w stamp) _ _ _
        (λ rows. pass _ _ _ (allowed_is true h) ∙ pass _ _ _ (sym l) ∙ (λ j. Ok (around (sym es j) (sym ev j) (sym en j) (meaning o (sym ey j) (sym el j)) rows, Ok answer.Done)))

module _ {K V : Type 0} (s : Store) (vs : List (Entry (Version K V))) (ns : List (Entry (Note K))) (i : Index K) (z : Sizes) (ez : z ≡ record { versions = length vs; notes = length ns; capacity = i.capacity }) where
  pub tallied : (r : Checked (Answer V)) → r ≡ cond (still_allowed s.opened z.versions z.notes z.capacity) (Ok (answer.Tallied s.commits s.aborts)) (Err refusal.Lengths) → Comes tally_rule (around s vs ns i) (around s vs ns i) r
  tallied r e = go (still_allowed s.opened z.versions z.notes z.capacity) refl e
    where
      go : (b : Bool) → b ≡ still_allowed s.opened z.versions z.notes z.capacity → r ≡ cond b (Ok (answer.Tallied s.commits s.aborts)) (Err refusal.Lengths) → Comes tally_rule (around s vs ns i) (around s vs ns i) r
      go true o q = comes tally_rule _ _ _ (λ rows. pass _ _ _ (order_is z (length vs) (length ns) i.capacity ez s.opened true o) ∙ (λ j. Ok (around s vs ns i rows, sym q j)))
      go false o q = refused_by tally_rule _ r refusal.Lengths q (λ rows. stop _ _ _ (order_is z (length vs) (length ns) i.capacity ez s.opened false o))
