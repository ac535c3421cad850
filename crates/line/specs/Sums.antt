-- Sums over a table, by the place in it. Assumes nothing.
use Rattle.std.specs.Prelude.{ℕ, zero, suc, ◌+◌}

-- amount 0 + .. + amount (n - 1)
unfoldable pub sum_below : (ℕ → ℕ) → ℕ → ℕ
sum_below amount zero = 0
sum_below amount (suc n) = sum_below amount n + amount n
