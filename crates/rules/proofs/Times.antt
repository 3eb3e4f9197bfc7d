-- When marks take effect, and what the line has last put under a key. Assumes nothing.
use Rattle.std.proofs.Common.{◌≡◌, ℕ, ◌≤◌, Bool, false, cond, not, ◌&&◌, eqb, leb, ◌⊎◌, List, [], ◌∷◌, Some, None, Option}
use Rattle.seeing.specs.declared.Begin.TheVariants as begin
use Rattle.seeing.specs.declared.End.{End}
use Rattle.seeing.specs.declared.End.TheVariants as end
use Rattle.seeing.specs.declared.Version.{Version}
use Rattle.seeing.specs.Seeing.{as_end}
use Rattle.serial.specs.Lists.{In, keep}
use Rattle.serial.specs.Machine.{Game, Transaction, State}

-- the time has come, if there is one
abbrev pub come : ℕ → Option ℕ → Bool
come R None = false
come R (Some e) = leb e R

abbrev pub either : {A : Type 0} → Option A → Option A → Option A
either None o = o
either (Some a) o = Some a

abbrev pub stamped : {A : Type 0} → ℕ → Option A → Option (ℕ × A) → Option (ℕ × A)
stamped e None rest = rest
stamped e (Some a) rest = Some (e, a)

module _ (G : Game) where
  abbrev pub Ver : Type 0
  Ver = Version G.Key G.Value

  -- the end stamp of the one of that name in the line
  abbrev pub ending : List (Transaction G) → ℕ → Option ℕ
  ending [] m = None
  ending (t ∷ l) m = cond (eqb t.name m) (Some t.end) (ending l m)

  -- the time of a mark: of a stamp itself, of the name of one in the line its end stamp
  abbrev pub time : List (Transaction G) → End → Option ℕ
  time l (end.Stamp s) = Some s
  time l (end.Owner m) = ending l m
  time l end.Open = None

  -- the version has begun by R and has not ended, by the times of its marks
  abbrev pub shown : List (Transaction G) → ℕ → Ver → Bool
  shown l R v = come R (time l (as_end v.begin)) && not (come R (time l v.end))

  -- what the moves have last put under the key, if any did
  abbrev pub last : List G.Move → G.Key → Option (Option G.Value)
  last [] k = None
  last (m ∷ ms) k = either (G.effect m k) (last ms k)

  -- who in the line has last put something under the key: its end stamp, and what it put
  abbrev pub latest : List (Transaction G) → G.Key → Option (ℕ × Option G.Value)
  latest [] k = None
  latest (t ∷ l) k = stamped t.end (last t.moves k) (latest l k)

  abbrev pub upto : ℕ → List (Transaction G) → List (Transaction G)
  upto R = keep (λ t. leb t.end R)

  abbrev pub Here : State G → Transaction G → Type 0
  Here s t = In t s.line ⊎ In t s.active

  -- the version's Begin or End names n
  abbrev pub Names : ℕ → Ver → Type 0
  Names n v = (v.begin ≡ begin.Owner n) ⊎ (v.end ≡ end.Owner n)

  -- its Begin has a time, not after n
  abbrev pub BegunBy : List (Transaction G) → ℕ → Ver → Type 0
  BegunBy l n v = (b : ℕ) × ((time l (as_end v.begin) ≡ Some b) × (b ≤ n))
