-- The versions that a call reaches, and what it makes of them. Assumes nothing.
use Rattle.std.specs.Prelude.{ℕ, Bool, not, ◌&&◌, List, [], ◌∷◌, Ok, Option}
use Rattle.std.specs.declared.cmp.Ordering.{Ordering}
use Rattle.seeing.specs.declared.Version.{Version}
use Rattle.seeing.specs.Slots.{Slots}
use Rattle.seeing.specs.Seeing.{as_end, visible, waits_for}
use Rattle.seeing.specs.Changing.{known, too_new}
use Rattle.rules.specs.declared.Entry.{Entry}
use Rattle.rules.specs.declared.Refusal.TheVariants as refusal
use Rattle.rules.specs.Lists.{any, first}
use Rattle.rules.specs.Tables.{entry}
use Rattle.rules.specs.Keys.{same}
use Rattle.rules.specs.Index.{covering}
use Rattle.rules.specs.Worlds.{World}
use Rattle.rules.specs.Checks.{Checked, ◌>>=◌, ◌>>◌, some_or, refuse_if}
use Rattle.rules.specs.Slots.{mark}

-- a version met, with its place
abbrev pub Met : Type 0 → Type 0 → Type 0
Met K V = ℕ × Version K V

module _ {K V : Type 0} (order : K → K → Ordering) where
  -- the version is under the key, and names no unknown transaction
  abbrev pub fitting : Slots → K → Version K V → Bool
  fitting ts k v = same order k v.key && (known ts (as_end v.begin) && known ts v.end)

  -- the version that a pair of the index, or a note, leads to
  abbrev pub reached : Slots → List (Entry (Version K V)) → K × ℕ → Checked (Met K V)
  reached ts vs x = do
    v ← some_or refusal.Version (entry vs x.1)
    refuse_if (not (fitting ts x.0 v)) refusal.Version
    Ok (x.1, v)

  abbrev pub reach_all : Slots → List (Entry (Version K V)) → List (K × ℕ) → Checked (List (Met K V))
  reach_all ts vs [] = Ok []
  reach_all ts vs (x ∷ xs) = do
    y ← reached ts vs x
    ys ← reach_all ts vs xs
    Ok (y ∷ ys)

  -- all versions of the keys from lower to upper, by key and then place
  abbrev pub reach : World K V → K → K → Checked (List (Met K V))
  reach w lower upper = reach_all w.store.slots w.versions (covering order w.index lower upper)

module _ {K V : Type 0} where
  -- what n sees at its begin stamp: the first, by key and then place
  abbrev pub first_seen : Slots → ℕ → List (Met K V) → Option (Met K V)
  first_seen ts n met = first (λ y. visible ts n n y.1) met

  -- the marks of those that n waits on, once it has tested the versions at the time
  abbrev pub waits_after : Slots → ℕ → ℕ → List (Met K V) → List Bool → List Bool
  waits_after ts n time [] ws = ws
  waits_after ts n time (y ∷ ys) ws = waits_after ts n time ys (mark ts (waits_for ts n time y.1) ws)

  -- one of them tells against an insert by n
  abbrev pub any_newer : Slots → ℕ → List (Met K V) → Bool
  any_newer ts n met = any (λ y. too_new ts n y.1.begin y.1.end) met
