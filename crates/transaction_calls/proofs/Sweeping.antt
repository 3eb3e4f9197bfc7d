-- A sweep: a place swept, and the call from check to check. Assumes nothing.
use Rattle.rules.specs.Worlds.{around}
use Rattle.std.proofs.Common.{◌≡◌, ℕ, true, false, not, List, map, length, set, Some, None, Ok, Err, Option, Ordering, sym, ap, ◌∙◌}
use Rattle.seeing.specs.declared.Version.{Version}
use Rattle.seeing.specs.Slots.{Slots}
use Rattle.index.specs.Listed.{keep, listed}
use Rattle.rules.specs.declared.Entry.{Entry}
use Rattle.rules.specs.declared.Store.{Store}
use Rattle.rules.specs.declared.Note.{Note}
use Rattle.rules.specs.declared.Answer.{Answer}
use Rattle.rules.specs.declared.Answer.TheVariants as answer
use Rattle.rules.specs.declared.Refusal.TheVariants as refusal
use Rattle.rules.specs.Lists.{count}
use Rattle.rules.specs.Tables.{entry}
use Rattle.rules.specs.Index.{meaning}
use Rattle.rules.specs.Checks.{Checked, still_allowed, Comes}
use Rattle.rules.specs.TableRules.{to_sweep, swept_entry, sweeps_pair, sweep_rule}
use Rattle.tables.specs.declared.lengths.Sizes.{Sizes}
use Rattle.tables.proofs.Steps.{pass, stop}
use Rattle.tables.proofs.Lookups.{order_is}
use Rattle.transaction_calls.specs.Sweeping.{key_to_sweep, freed_at}
use Rattle.transaction_calls.proofs.Calling.{refused, comes}

module _ {K V : Type 0} where
  pub swept_key : (ts : Slots) (vs : List (Entry (Version K V))) (p : ℕ) (h : Option (Version K V)) (q : Option K) → h ≡ entry vs p → q ≡ key_to_sweep ts h → q ≡ key_to_sweep ts (entry vs p)
  swept_key ts vs p h q e k = k ∙ ap (key_to_sweep ts) e

  pub freed_here : (p : ℕ) (k : K) (q : Option K) (vs ws : List (Entry (Version K V))) (x : Entry (Version K V)) → Some k ≡ q → x.held ≡ None → ws ≡ set vs p x → ws ≡ freed_at p q vs
  freed_here p k q vs ws x e f h = h ∙ (λ j. set vs p (record { held = f j })) ∙ ap (λ (r : Option K). freed_at p r vs) e

module _ {K V : Type 0} (o : K → K → Ordering) (s : Store) (vs : List (Entry (Version K V))) (ns : List (Entry (Note K))) (xs : List (K × ℕ)) (limit : ℕ) (z : Sizes) (ez : z ≡ record { versions = length vs; notes = length ns; capacity = limit }) where
  abbrev Sweeps : List (Entry (Version K V)) → List (K × ℕ) → ℕ → Checked (Answer V) → Type 0
  Sweeps vs' ys limit' r = Comes (sweep_rule o) (around s vs ns (meaning o xs limit)) (around s vs' ns (meaning o ys limit')) r

  pub sweep_lengths : false ≡ still_allowed s.opened z.versions z.notes z.capacity → Sweeps vs xs limit (Err refusal.Lengths)
  sweep_lengths h = refused (sweep_rule o) _ _ (λ rows. stop _ _ _ (order_is z (length vs) (length ns) limit ez s.opened false h))

  pub swept : true ≡ still_allowed s.opened z.versions z.notes z.capacity → (vs' : List (Entry (Version K V))) (ys : List (K × ℕ)) (limit' n : ℕ) →
      n ≡ count (λ x. to_sweep s.slots x.held) vs → vs' ≡ map (swept_entry s.slots) vs → listed o ys ≡ keep (λ x. not (sweeps_pair o s.slots vs x)) (listed o xs) → limit' ≡ limit →
      Sweeps vs' ys limit' (Ok (answer.Number n))
  swept h vs' ys limit' n en ev ey el =
      comes (sweep_rule o) _ _ _
      (λ rows. pass _ _ _ (order_is z (length vs) (length ns) limit ez s.opened true h)
      ∙ (λ j. Ok (around s (sym ev j) ns (record { pairs = sym ey j; capacity = sym el j }) rows, Ok (answer.Number (sym en j)))))
