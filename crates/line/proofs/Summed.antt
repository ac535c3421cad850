-- Sums over places: one place more, and a change at one place. Assumes nothing.
use Rattle.std.proofs.Common.{◌≡◌, ℕ, zero, suc, ◌+◌, ◌<◌, ◌≤◌, List, [], ◌∷◌, length, get_or, refl, ap, ⊎_elim, add-one, arith}
use Rattle.std.specs.Prelude.{sum_by}
use Rattle.std.proofs.lemmas.Bool.{cases_eq}
use Rattle.std.proofs.lemmas.List.Sums.{sum_by-cons}
use Rattle.line.specs.Sums.{sum_below}

pub sum_none : (amount : ℕ → ℕ) → sum_below amount 0 ≡ 0
unfolding sum_below
sum_none amount = refl

pub sum_more : (amount : ℕ → ℕ) (n : ℕ) → sum_below amount (n + 1) ≡ sum_below amount n + amount n
unfolding sum_below
sum_more amount n = rw (add-one n)

-- amounts that agree everywhere below n have one sum
pub sum_same : (f g : ℕ → ℕ) (n : ℕ) → ((k : ℕ) → k < n → g k ≡ f k) → sum_below g n ≡ sum_below f n
unfolding sum_below
sum_same f g zero same = refl
sum_same f g (suc n) same = omega (arith, sum_same f g n (λ k below. same k (omega arith)), same n (omega arith))

-- amounts of at most 1 have a sum of at most their number
pub sum_at_most : (amount : ℕ → ℕ) (n : ℕ) → ((k : ℕ) → amount k ≤ 1) → sum_below amount n ≤ n
unfolding sum_below
sum_at_most amount zero one = omega arith
sum_at_most amount (suc n) one = omega (arith, sum_at_most amount n one, one n)

-- amounts that agree everywhere but at one place differ in their sums by what they differ there
pub sum_changed : (f g : ℕ → ℕ) (at n : ℕ) → at < n → ((k : ℕ) → (k ≡ at → ⊥) → g k ≡ f k) → sum_below g n + f at ≡ sum_below f n + g at
unfolding sum_below
sum_changed f g at zero below same = absurd (omega arith)
sum_changed f g at (suc n) below same =
    ⊎_elim
    (λ here. omega (arith, here, sum_same f g n (λ k under. same k (λ e. omega arith)), ap f here, ap g here))
    (λ other. omega (arith, other, sum_changed f g at n (omega (arith, other)) same, same n other))
    (cases_eq n at)

-- the first amount and the others
sum_first : (amount : ℕ → ℕ) (n : ℕ) → sum_below amount (suc n) ≡ amount 0 + sum_below (λ k. amount (suc k)) n
unfolding sum_below
sum_first amount zero = omega arith
sum_first amount (suc n) = omega (arith, sum_first amount n)

-- a sum over a list is the sum of its amounts by place
pub by_place : {X : Type 0} (f : X → ℕ) (xs : List X) (d : X) → sum_by f xs ≡ sum_below (λ k. f (get_or xs k d)) (length xs)
by_place f [] d = rw sum_none
by_place f (x ∷ xs) d = omega (arith, sum_by-cons f x xs, sum_first (λ k. f (get_or (x ∷ xs) k d)) (length xs), by_place f xs d)
