-- The rules of open, finish and sweep, which go through whole tables. Assumes nothing.
use Rattle.std.specs.Prelude.{ℕ, Bool, false, cond, not, ◌&&◌, ltb, List, map, length, replicate, Some, None, Ok, Option, ◌==◌, nat_lt}
use Rattle.std.specs.declared.cmp.Ordering.{Ordering}
use Rattle.std.specs.Option.{option_map}
use Rattle.seeing.specs.declared.End.{End}
use Rattle.seeing.specs.declared.End.TheVariants as end
use Rattle.seeing.specs.declared.Phase.{Phase}
use Rattle.seeing.specs.declared.Version.{Version}
use Rattle.seeing.specs.Phases.{is_over}
use Rattle.seeing.specs.Slots.{Slots}
use Rattle.seeing.specs.Changing.{settle}
use Rattle.rules.specs.declared.Entry.{Entry}
use Rattle.rules.specs.declared.Store.{Store}
use Rattle.rules.specs.declared.Note.{Note}
use Rattle.rules.specs.declared.Answer.TheVariants as answer
use Rattle.rules.specs.declared.Refusal.TheVariants as refusal
use Rattle.rules.specs.Lists.{all, count, used}
use Rattle.rules.specs.Tables.{entry, emptied}
use Rattle.rules.specs.Keys.{same}
use Rattle.rules.specs.Index.{clear}
use Rattle.index.specs.Listed.{keep}
use Rattle.rules.specs.Worlds.{World, with_slots}
use Rattle.rules.specs.Checks.{Outcome, ◌>>=◌, ◌>>◌, refuse_if, largest, allowed, in_order, named_in}
use Rattle.rules.specs.Slots.{unseat}

-- a store just opened, with tables of those lengths
abbrev pub opened_store : ℕ → ℕ → ℕ → Store
opened_store versions notes stamp = record { opened = Some (record { versions = versions; notes = notes }); last = stamp; commits = 0; aborts = 0; slots = replicate 64 None }

-- the End is a stamp below every begin stamp in the store
abbrev pub is_past : Slots → End → Bool
is_past ts (end.Stamp s) = all (λ t. ltb s t.name) (used ts)
is_past ts (end.Owner m) = false
is_past ts end.Open = false

module _ {K : Type 0} where
  abbrev pub not_of : ℕ → Option (Note K) → Option (Note K)
  not_of n None = None
  not_of n (Some x) = cond (x.owner == n) None (Some x)

  -- the entry without a note of n
  abbrev pub without_note : ℕ → Entry (Note K) → Entry (Note K)
  without_note n x = record { held = not_of n x.held }

module _ {K V : Type 0} where
  abbrev pub settle_entry : ℕ → ℕ → Phase → Entry (Version K V) → Entry (Version K V)
  settle_entry last n phase x = record { held = option_map (settle last n phase) x.held }

  abbrev pub finish_rule : World K V → ℕ → Outcome K V
  finish_rule w n = do
    t ← named_in w n is_over
    Ok (
      record {
        store = with_slots w.store (unseat n w.store.slots);
        versions = map (settle_entry w.store.last n t.phase) w.versions;
        notes = map (without_note n) w.notes;
        rows = w.rows;
        index = w.index;
      },
      Ok answer.Done,
    )

  -- the version is to be swept
  abbrev pub to_sweep : Slots → Option (Version K V) → Bool
  to_sweep ts None = false
  to_sweep ts (Some v) = is_past ts v.end

  abbrev pub swept_entry : Slots → Entry (Version K V) → Entry (Version K V)
  swept_entry ts x = cond (to_sweep ts x.held) emptied x

module _ {K V : Type 0} (order : K → K → Ordering) where
  abbrev pub open_rule : World K V → ℕ → Outcome K V
  open_rule w stamp = do
    refuse_if (not (allowed (length w.versions) (length w.notes) w.index.capacity)) refusal.Lengths
    refuse_if (nat_lt largest stamp) refusal.OpeningStamp
    Ok (
      record {
        store = opened_store (length w.versions) (length w.notes) stamp;
        versions = replicate (length w.versions) emptied;
        notes = replicate (length w.notes) emptied;
        rows = w.rows;
        index = clear order w.index;
      },
      Ok answer.Done,
    )

  -- the pair is that of a version to be swept, by its key and place
  abbrev pub sweeps_pair : Slots → List (Entry (Version K V)) → K × ℕ → Bool
  sweeps_pair ts vs x = elim (entry vs x.1) [ None ↦ false | Some v ↦ same order x.0 v.key && is_past ts v.end ]

  abbrev pub sweep_rule : World K V → Outcome K V
  sweep_rule w = do
    refuse_if (not (in_order w)) refusal.Lengths
    Ok (
      record {
        store = w.store;
        versions = map (swept_entry w.store.slots) w.versions;
        notes = w.notes;
        rows = w.rows;
        index = record { pairs = keep (λ x. not (sweeps_pair w.store.slots w.versions x)) w.index.pairs; capacity = w.index.capacity };
      },
      Ok (answer.Number (count (λ x. to_sweep w.store.slots x.held) w.versions)),
    )
