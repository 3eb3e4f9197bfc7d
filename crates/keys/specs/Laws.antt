-- What a kind of key owes. Assumes nothing.
use Rattle.std.specs.Prelude.{◌≡◌, ℕ, Bool, true}
use Rattle.std.specs.declared.cmp.Ordering.TheVariants.{Less, Equal}
use Rattle.std.specs.declared.cmp.Ordering.{Ordering}
use Rattle.std.specs.Ordering.{ordering_reverse, is_eq}

-- the equality that an order gives
abbrev pub equal_by : {K : Type 0} → (K → K → Ordering) → K → K → Bool
equal_by order x y = is_eq (order x y)

pub record TotalOrder {K : Type 0} (order : K → K → Ordering) : Type 0 where
  -- a key compares equal to itself
  pub itself : (x : K) → order x x ≡ Equal
  -- and to no other
  pub same : (x y : K) → order x y ≡ Equal → x ≡ y
  -- swapping two keys turns the order round
  pub flip : (x y : K) → order x y ≡ ordering_reverse (order y x)
  pub trans : (x y z : K) → order x y ≡ Less → order y z ≡ Less → order x z ≡ Less

pub record KeyLaws {K : Type 0} (order : K → K → Ordering) (equal : K → K → Bool) (hashed : K → ℕ) : Type 0 where
  pub total : TotalOrder order
  -- keys compare equal exactly where the kind's own equality says so
  pub agrees : (x y : K) → equal x y ≡ is_eq (order x y)
  -- equal keys have equal hash numbers
  pub hashes : (x y : K) → equal x y ≡ true → hashed x ≡ hashed y
