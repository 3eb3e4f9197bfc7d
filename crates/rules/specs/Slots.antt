-- Single changes of the transactions in the slots, and of what the store counts. Assumes nothing.
use Rattle.std.specs.Prelude.{ℕ, ◌+◌, ◌-◌, ◌^◌, min, Bool, true, false, cond, List, [], ◌∷◌, map, replicate, Some, None, Option, ◌==◌, slice_set}
use Rattle.std.specs.Option.{option_map}
use Rattle.seeing.specs.declared.Level.{Level}
use Rattle.seeing.specs.declared.Phase.{Phase}
use Rattle.seeing.specs.declared.Phase.TheVariants.{Active}
use Rattle.seeing.specs.declared.Transaction.{Transaction}
use Rattle.seeing.specs.Slots.{Slots, found}
use Rattle.rules.specs.declared.Store.{Store}

-- one more, as far as 64 bits go
abbrev pub one_more : ℕ → ℕ
one_more n = min (n + 1) (2 ^ 64 - 1)

-- the store with one more stamp given
abbrev pub with_stamp : Store → Store
with_stamp s = record { opened = s.opened; last = s.last + 1; commits = s.commits; aborts = s.aborts; slots = s.slots }

abbrev pub one_more_commit : Store → Store
one_more_commit s = record { opened = s.opened; last = s.last; commits = one_more s.commits; aborts = s.aborts; slots = s.slots }

abbrev pub one_more_abort : Store → Store
one_more_abort s = record { opened = s.opened; last = s.last; commits = s.commits; aborts = one_more s.aborts; slots = s.slots }

-- marks by slot, none set
abbrev pub nobody : List Bool
nobody = replicate 64 false

-- a new transaction
abbrev pub fresh : ℕ → Level → Transaction
fresh n level = record { name = n; level = level; phase = Active; doomed = false; made = 0; waits = nobody }

abbrev pub with_phase : Phase → Transaction → Transaction
with_phase p t = record { name = t.name; level = t.level; phase = p; doomed = t.doomed; made = t.made; waits = t.waits }

abbrev pub with_waits : List Bool → Transaction → Transaction
with_waits ws t = record { name = t.name; level = t.level; phase = t.phase; doomed = t.doomed; made = t.made; waits = ws }

-- a transaction once it has an answer: with so many notes, waiting on those
abbrev pub answered : ℕ → List Bool → Transaction → Transaction
answered made ws t = record { name = t.name; level = t.level; phase = t.phase; doomed = t.doomed; made = made; waits = ws }

-- the transaction of that name changed
abbrev pub change : ℕ → (Transaction → Transaction) → Slots → Slots
change n f [] = []
change n f (None ∷ ts) = None ∷ change n f ts
change n f (Some t ∷ ts) = cond (t.name == n) (Some (f t) ∷ ts) (Some t ∷ change n f ts)

-- the new transaction in the first free slot
abbrev pub seat : Transaction → Slots → Slots
seat t [] = []
seat t (None ∷ ts) = Some t ∷ ts
seat t (Some u ∷ ts) = Some u ∷ seat t ts

-- the slot of that name freed
abbrev pub unseat : ℕ → Slots → Slots
unseat n [] = []
unseat n (None ∷ ts) = None ∷ unseat n ts
unseat n (Some t ∷ ts) = cond (t.name == n) (None ∷ ts) (Some t ∷ unseat n ts)

-- the marks by slot, and besides them that of the one named
abbrev pub mark : Slots → Option ℕ → List Bool → List Bool
mark ts None ws = ws
mark ts (Some m) ws = elim (found ts m 0) [ None ↦ ws | Some x ↦ slice_set ws x.0 true ]

-- nobody waits on the one named
abbrev pub release : ℕ → Slots → Slots
release n ts = elim (found ts n 0) [ None ↦ ts | Some x ↦ map (option_map (λ t. with_waits (slice_set t.waits x.0 false) t)) ts ]
