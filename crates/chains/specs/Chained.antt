-- What a chain index holds. Assumes nothing.
--     held s, nexts s      the pairs and the links, as they stand
--     bucket h k      the chain of the key k: there are 256
--     numbers h xs      the chain of each pair
--     last_of c cs n      one more than the last position below n that is in the chain c, or 0
--     Right cs ls hs      the links ls and the heads hs are those of the chains cs
use Rattle.std.specs.Prelude.{◌≡◌, ℕ, zero, suc, ◌%◌, ◌<◌, cond, List, map, length, vec_items, ◌==◌, slice_index, slice_index_or}
use Rattle.std.specs.declared.cmp.Ordering.{Ordering}
use Rattle.std.specs.List.{IsDistinct}
use Rattle.keys.specs.declared.Key.{Ghosts}
use Rattle.index.specs.Sets.{tie}
use Rattle.chains.specs.declared.arena.Arena.{Arena}

abbrev pub held : {K : Type 0} {g : Ghosts K} → Arena K g → List (K × ℕ)
held s = vec_items s.pairs

abbrev pub nexts : {K : Type 0} {g : Ghosts K} → Arena K g → List ℕ
nexts s = vec_items s.links

abbrev pub bucket : {K : Type 0} → (K → ℕ) → K → ℕ
bucket h k = h k % 256

abbrev pub numbers : {K : Type 0} → (K → ℕ) → List (K × ℕ) → List ℕ
numbers h xs = map (λ x. bucket h x.0) xs

-- 256 is no chain: a position past the end has it, and one that is unlinked
abbrev pub last_of : ℕ → List ℕ → ℕ → ℕ
last_of c cs zero = 0
last_of c cs (suc n) = cond (slice_index_or cs n 256 == c) (suc n) (last_of c cs n)

-- each position in a chain has the link to the last one before it in the chain
abbrev pub Linked : List ℕ → List ℕ → Type 0
Linked cs ls = (j : ℕ) → slice_index_or cs j 256 < 256 → slice_index ls j ≡ last_of (slice_index_or cs j 256) cs j

-- each chain has the link to its last position
abbrev pub Headed : List ℕ → List ℕ → Type 0
Headed cs hs = (c : ℕ) → c < 256 → slice_index hs c ≡ last_of c cs (length cs)

pub record Right (cs ls hs : List ℕ) : Type 0 where
  pub even : length ls ≡ length cs
  pub fixed : length hs ≡ 256
  pub links : Linked cs ls
  pub heads : Headed cs hs

-- what a chain index says of its arena: each pair stands once, and the chains are right
abbrev pub Once : {K : Type 0} {g : Ghosts K} → (K → K → Ordering) → Arena K g → Type 0
Once o s = IsDistinct (tie o) (held s)

abbrev pub LinksRight : {K : Type 0} {g : Ghosts K} → (K → ℕ) → Arena K g → Type 0
LinksRight h s = Linked (numbers h (held s)) (nexts s)

abbrev pub HeadsRight : {K : Type 0} {g : Ghosts K} → (K → ℕ) → Arena K g → Type 0
HeadsRight h s = Headed (numbers h (held s)) s.heads

-- the chains of the arena are cs
abbrev pub Wired : {K : Type 0} {g : Ghosts K} → List ℕ → Arena K g → Type 0
Wired cs s = Right cs (nexts s) s.heads
