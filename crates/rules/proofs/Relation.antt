-- What ties the store's tables and the run's history to a state of the abstract machine. Assumes nothing.
use Rattle.std.proofs.Common.{◌≡◌, ℕ, ◌≤◌, Bool, true, false, cond, not, eqb, ◌⊎◌, List, [], ◌∷◌, ◌++◌, length, is_some, Some, None, Option, Ordering, Less}
use Rattle.seeing.specs.declared.Begin.{Begin}
use Rattle.seeing.specs.declared.Begin.TheVariants as begin
use Rattle.seeing.specs.declared.End.{End}
use Rattle.seeing.specs.declared.End.TheVariants as end
use Rattle.seeing.specs.declared.Level.{Level}
use Rattle.seeing.specs.declared.Level.TheVariants.{Serializable, Snapshot}
use Rattle.seeing.specs.declared.Phase.{Phase}
use Rattle.seeing.specs.declared.Phase.TheVariants.{Active, Preparing, Validated, Committed, Aborted}
use Rattle.seeing.specs.declared.Transaction.{Transaction as Sitter}
use Rattle.seeing.specs.declared.Version.{Version}
use Rattle.rules.specs.declared.Entry.{Entry}
use Rattle.rules.specs.declared.Noted.{Noted}
use Rattle.rules.specs.declared.Noted.TheVariants as noted
use Rattle.rules.specs.declared.Note.{Note}
use Rattle.rules.specs.Keys.{within}
use Rattle.keys.specs.Laws.{TotalOrder}
use Rattle.rules.specs.Tables.{entry}
use Rattle.seeing.specs.Slots.{Slots, find, seen_phase}
use Rattle.seeing.specs.Seeing.{as_end}
use Rattle.seeing.specs.Phases.{is_serializable}
use Rattle.rules.specs.Checks.{in_order}
use Rattle.rules.specs.Runs.{History, Life, life, Position}
use Rattle.rules.specs.Law.{serial_order, is_doomed}
use Rattle.serial.specs.Lists.{In, All, change, keep}
use Rattle.serial.specs.Machine.{Game, Transaction, State, Stage, active, preparing, validated, committed, pending, touched, covered, Reached}
use Rattle.rules.proofs.Game.{game}
use Rattle.rules.proofs.Times.{Ver, time, shown, last, latest, upto, Here, Names, BegunBy}
use Rattle.index.specs.Sets.{pair_order}

-- Slots.

-- the mark of the slot that the one named m sits in
abbrev pub mark_at : Slots → List Bool → ℕ → Bool
mark_at [] bs m = false
mark_at (t ∷ ts) [] m = false
mark_at (None ∷ ts) (b ∷ bs) m = mark_at ts bs m
mark_at (Some t ∷ ts) (b ∷ bs) m = cond (eqb t.name m) b (mark_at ts bs m)

-- as many marks as slots, and none at a free slot
abbrev pub Tidy : Slots → List Bool → Type 0
Tidy [] [] = Unit {0}
Tidy [] (b ∷ bs) = ⊥
Tidy (t ∷ ts) [] = ⊥
Tidy (None ∷ ts) (b ∷ bs) = (b ≡ false) × Tidy ts bs
Tidy (Some t ∷ ts) (b ∷ bs) = Tidy ts bs

-- no two slots hold one name
abbrev pub Single : Slots → Type 0
Single [] = Unit {0}
Single (None ∷ ts) = Single ts
Single (Some t ∷ ts) = (find ts t.name ≡ None) × Single ts

abbrev pub stored : Slots → ℕ → Bool
stored ts n = is_some (find ts n)

abbrev pub phase_of : Stage → ℕ → Phase
phase_of active e = Active
phase_of preparing e = Preparing e
phase_of validated e = Validated e
phase_of committed e = Committed e

module _ (G : Game) where
  -- the sitter u is the machine's t
  pub record Suits (ts : Slots) (t : Transaction G) (u : Sitter) : Type 0 where
    pub not_doomed : u.doomed ≡ false
    pub level : is_serializable u.level ≡ t.ser
    pub phase : u.phase ≡ phase_of t.stage t.end
    pub waits : (m : ℕ) → (mark_at ts u.waits m ≡ true → In m t.waits) × (In m t.waits → mark_at ts u.waits m ≡ true)

  abbrev pub Seated : Slots → Transaction G → Type 0
  Seated ts t = (u : Sitter) × ((find ts t.name ≡ Some u) × Suits ts t u)

  -- to others aborted, and it waits on nobody
  abbrev pub Fallen : Slots → Sitter → Type 0
  Fallen ts u = (seen_phase (Some u) ≡ Aborted) × ((m : ℕ) → mark_at ts u.waits m ≡ false)

  pub record Roll (ts : Slots) (s : State G) : Type 0 where
    pub full : length ts ≡ 64
    pub single : Single ts
    pub old : (m : ℕ) (u : Sitter) → find ts m ≡ Some u → m ≤ s.clock
    pub tidy : (m : ℕ) (u : Sitter) → find ts m ≡ Some u → Tidy ts u.waits
    pub at_work : (t : Transaction G) → In t s.active → (t.stage ≡ active) × Seated ts t
    pub waiting : (t : Transaction G) → In t s.line → pending t.stage ≡ true → Seated ts t
    pub lined : (t : Transaction G) → In t s.line → t.stage ≡ active → ⊥
    pub done : (t : Transaction G) (u : Sitter) → In t s.line → find ts t.name ≡ Some u → Suits ts t u
    pub known : (m : ℕ) (u : Sitter) → find ts m ≡ Some u → Fallen ts u ⊎ ((t : Transaction G) × (Here G s t × (t.name ≡ m)))

  -- Versions.
  abbrev pub SettledAt : State G → ℕ → G.Key → Type 0
  SettledAt s e k = (t : Transaction G) × (In t s.line × ((t.stage ≡ committed) × ((t.end ≡ e) × (touched G t.moves k ≡ true))))

  abbrev pub Begins : State G → (ℕ → Bool) → Ver G → Begin → Type 0
  Begins s there v (begin.Owner m) = (there m ≡ true) × ((t : Transaction G) → Here G s t → t.name ≡ m → touched G t.moves v.key ≡ true)
  Begins s there v (begin.Stamp b) = (b ≤ s.clock) × ((v.end ≡ end.Stamp b) ⊎ SettledAt s b v.key)

  abbrev pub Ends : State G → (ℕ → Bool) → Ver G → End → Type 0
  Ends s there v (end.Owner m) =
      (there m ≡ true) × ((t : Transaction G) → Here G s t → t.name ≡ m → (touched G t.moves v.key ≡ true) × ((v.begin ≡ begin.Owner m) ⊎ BegunBy G s.line m v))
  Ends s there v (end.Stamp e) =
      (e ≤ s.clock) × ((v.begin ≡ begin.Stamp e) ⊎ ((t : Transaction G) × (In t s.line × ((t.stage ≡ committed) × ((t.end ≡ e) × ((touched G t.moves v.key ≡ true) × BegunBy G s.line t.name v))))))
  Ends s there v end.Open = Unit {0}

  -- no time that matters to a transaction of the store is before R
  abbrev pub Late : State G → (ℕ → Bool) → ℕ → Type 0
  Late s there R = ((n : ℕ) × ((there n ≡ true) × (n ≤ R))) ⊎ (s.clock ≤ R)

  module _ (vs : List (Entry (Ver G))) where
    abbrev pub At : ℕ → Ver G → Type 0
    At p v = entry vs p ≡ Some v

    -- the versions shown at R are what the line has put there by R
    pub record Shows (l : List (Transaction G)) (R : ℕ) : Type 0 where
      pub sound : (p : ℕ) (v : Ver G) → At p v → shown G l R v ≡ true → (b : ℕ) × ((time G l (as_end v.begin) ≡ Some b) × (latest G (upto G R l) v.key ≡ Some (b, Some v.value)))
      pub unique : (p q : ℕ) (v u : Ver G) → At p v → At q u → v.key ≡ u.key → shown G l R v ≡ true → shown G l R u ≡ true → p ≡ q
      pub complete : (k : G.Key) (b : ℕ) (x : G.Value) → latest G (upto G R l) k ≡ Some (b, Some x) → (p : ℕ) × ((v : Ver G) × (At p v × ((v.key ≡ k) × (shown G l R v ≡ true))))

    -- t's own versions that it has not ended are what it has put last
    pub record Own (t : Transaction G) : Type 0 where
      pub sound : (p : ℕ) (v : Ver G) → At p v → v.begin ≡ begin.Owner t.name → (v.end ≡ end.Owner t.name) ⊎ ((v.end ≡ end.Open) × (last G t.moves v.key ≡ Some (Some v.value)))
      pub unique : (p q : ℕ) (v u : Ver G) → At p v → At q u → v.key ≡ u.key → v.begin ≡ begin.Owner t.name → u.begin ≡ begin.Owner t.name → v.end ≡ end.Open → u.end ≡ end.Open → p ≡ q
      pub complete : (k : G.Key) (x : G.Value) → last G t.moves k ≡ Some (Some x) → (p : ℕ) × ((v : Ver G) × (At p v × ((v.key ≡ k) × ((v.begin ≡ begin.Owner t.name) × (v.end ≡ end.Open)))))

    -- from its begin on, all that is shown of a key that t, at work, has changed is ended by t
    abbrev pub Ended : List (Transaction G) → Transaction G → Type 0
    Ended l t = (R p : ℕ) (v : Ver G) → t.name ≤ R → At p v → touched G t.moves v.key ≡ true → shown G l R v ≡ true → v.end ≡ end.Owner t.name

    -- whatever key t has changed, a version of it names t
    abbrev pub Marked : Transaction G → Type 0
    Marked t = (k : G.Key) → touched G t.moves k ≡ true → (p : ℕ) × ((v : Ver G) × (At p v × ((v.key ≡ k) × Names G t.name v)))

    pub record Shelf (there : ℕ → Bool) (s : State G) : Type 0 where
      pub begins : (p : ℕ) (v : Ver G) → At p v → Begins s there v v.begin
      pub ends : (p : ℕ) (v : Ver G) → At p v → Ends s there v v.end
      pub shows : (R : ℕ) → Late s there R → Shows s.line R
      pub ended : (t : Transaction G) → In t s.active → Ended s.line t
      pub own : (t : Transaction G) → In t s.active → Own t
      pub marked : (t : Transaction G) → In t s.active → Marked t
      pub marked' : (t : Transaction G) → In t s.line → pending t.stage ≡ true → Marked t

module _ {K : Type 0} (order : K → K → Ordering) where
  abbrev pub Climbing : List (K × ℕ) → Type 0
  Climbing [] = Unit {0}
  Climbing (x ∷ xs) = All (λ y. pair_order order x y ≡ Less) xs × Climbing xs

module _ {K V : Type 0} (order : K → K → Ordering) where
  -- the index holds exactly the key and place of each used entry
  pub record Listed (vs : List (Entry (Version K V))) (pairs : List (K × ℕ)) : Type 0 where
    pub into : (p : ℕ) (v : Version K V) → entry vs p ≡ Some v → In (v.key, p) pairs
    pub from : (k : K) (p : ℕ) → In (k, p) pairs → (v : Version K V) × ((entry vs p ≡ Some v) × (v.key ≡ k))
    pub climbing : Climbing order pairs

module _ {K : Type 0} where
  abbrev pub HasNote : List (Entry (Note K)) → ℕ → Noted K → Type 0
  HasNote ns n what = (q : ℕ) × ((i : ℕ) × (entry ns q ≡ Some (record { owner = n; number = i; noted = what })))

module _ {K : Type 0} (V : Type 0) (order : K → K → Ordering) (total : TotalOrder order) where
  -- a note of n stands for the key: a range around it, or the version of it that is shown at n
  abbrev pub Guarded : List (Entry (Note K)) → List (Entry (Version K V)) → List (Transaction (game V order total)) → ℕ → K → Type 0
  Guarded ns vs l n k =
      ((lower : K) × ((upper : K) × ((within order lower upper k ≡ true) × HasNote ns n (noted.Range lower upper))))
      ⊎ ((p : ℕ) × ((v : Version K V) × (HasNote ns n (noted.Version k p) × ((entry vs p ≡ Some v) × ((v.key ≡ k) × (shown (game V order total) l n v ≡ true))))))

  -- each key that a serializable one has looked at and not changed, up to its validation
  pub record Guards (ns : List (Entry (Note K))) (vs : List (Entry (Version K V))) (s : State (game V order total)) : Type 0 where
    pub at_work : (t : Transaction (game V order total)) → In t s.active → t.ser ≡ true → (k : K) →
        covered (game V order total) t.moves k ≡ true → touched (game V order total) t.moves k ≡ false → Guarded ns vs s.line t.name k
    pub preparing : (t : Transaction (game V order total)) → In t s.line → t.stage ≡ preparing → t.ser ≡ true → (k : K) →
        covered (game V order total) t.moves k ≡ true → touched (game V order total) t.moves k ≡ false → Guarded ns vs s.line t.name k

-- History.

-- the oldest first
abbrev pub forward : {A : Type 0} → List A → List A
forward [] = []
forward (x ∷ xs) = forward xs ++ (x ∷ [])

abbrev pub level_of : Bool → Level
level_of true = Serializable
level_of false = Snapshot

abbrev pub prepared_at : Stage → ℕ → Option ℕ
prepared_at active e = None
prepared_at preparing e = Some e
prepared_at validated e = Some e
prepared_at committed e = Some e

abbrev pub is_checked : Stage → Bool
is_checked active = false
is_checked preparing = false
is_checked validated = true
is_checked committed = true

module _ {K : Type 0} (V : Type 0) (order : K → K → Ordering) (total : TotalOrder order) where
  abbrev pub life_of : Transaction (game V order total) → Life K V
  life_of t = record {
    level = level_of t.ser;
    transcript = forward t.moves;
    stamp = prepared_at t.stage t.end;
    validated = is_checked t.stage;
    committed = not (pending t.stage);
    aborted = false;
  }

  pub record Tale (h : History K V) (ts : Slots) (s : State (game V order total)) : Type 0 where
    pub lives : (t : Transaction (game V order total)) → Here (game V order total) s t → life h t.name ≡ life_of t
    pub committed : (n : ℕ) → (life h n).committed ≡ true → (t : Transaction (game V order total)) × (In t s.line × ((t.name ≡ n) × (t.stage ≡ committed)))
    pub prepared : (n e : ℕ) → (life h n).stamp ≡ Some e → (life h n).aborted ≡ false → is_doomed (find ts n) ≡ false → (t : Transaction (game V order total)) × (In t s.line × (t.name ≡ n))
    pub aborted : (m : ℕ) (u : Sitter) → find ts m ≡ Some u → u.phase ≡ Aborted → (life h m).aborted ≡ true
    pub settled : (m e : ℕ) (u : Sitter) → find ts m ≡ Some u → u.phase ≡ Committed e → (life h m).committed ≡ true
    pub serial : serial_order h ≡ forward (change (λ t. t.name) (keep (λ t. not (pending t.stage)) s.line))

  pub record Inv (p : Position K V) (s : State (game V order total)) : Type 0 where
    pub way : Reached (game V order total) s
    pub fit : in_order p.world ≡ true
    pub clock : p.world.store.last ≡ s.clock
    pub roll : Roll (game V order total) p.world.store.slots s
    pub shelf : Shelf (game V order total) p.world.versions (stored p.world.store.slots) s
    pub listed : Listed order p.world.versions p.world.index.pairs
    pub guards : Guards V order total p.world.notes p.world.versions s
    pub tale : Tale p.history p.world.store.slots s

  -- the position is that of some state of the machine
  abbrev pub Good : Position K V → Type 0
  Good p = (s : State (game V order total)) × Inv p s
