-- Orders by numbers that the items carry. Assumes nothing.
use Rattle.std.specs.Prelude.{ℕ, Bool, ◌&&◌, ◌||◌, ◌==◌, nat_lt}

module _ {X : Type 0} where
  -- by a number, the smaller first
  abbrev pub by : (X → ℕ) → X → X → Bool
  by key a b = nat_lt (key a) (key b)

  -- by a number, and among equals by another order
  abbrev pub by_then : (X → ℕ) → (X → X → Bool) → X → X → Bool
  by_then key rest a b = nat_lt (key a) (key b) || (key a == key b && rest a b)
