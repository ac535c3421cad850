-- What the search for the most urgent finds. Assumes nothing.
use Rattle.std.proofs.Common.{◌≡◌, ℕ, zero, suc, ◌+◌, ◌<◌, Bool, None, Option, refl, add-one, arith}
use Rattle.urgency.specs.Urgency.{Connected, Asymmetric, Transitive, sooner, most_urgent, First}

module _ {X : Type 0} (before : X → X → Bool) where
  pub most_none : (at : ℕ → Option X) → most_urgent before at 0 ≡ None
  unfolding most_urgent
  most_none at = refl

  pub most_more : (at : ℕ → Option X) (n : ℕ) → most_urgent before at (n + 1) ≡ sooner before (most_urgent before at n) (at n)
  unfolding most_urgent
  most_more at n = rw (add-one n)

  -- candidates that agree everywhere below n have one most urgent
  pub most_same : (f g : ℕ → Option X) (n : ℕ) → ((k : ℕ) → k < n → g k ≡ f k) → most_urgent before g n ≡ most_urgent before f n
  unfolding most_urgent
  most_same f g zero same = refl
  most_same f g (suc n) same = grind (arith, most_same f g n)

  module _ (asymmetric : Asymmetric before) (transitive : Transitive before) where
    -- the sooner of the first so far and the next candidate is the first of all these
    first_more : Connected before → (at : ℕ → Option X) (n : ℕ) (best : Option X) → First before at n best → First before at (suc n) (sooner before best (at n))
    first_more connected at n best first = grind arith

    pub found : Connected before → (at : ℕ → Option X) (n : ℕ) → First before at n (most_urgent before at n)
    unfolding most_urgent
    found connected at zero = grind arith
    found connected at (suc n) = first_more connected at n (most_urgent before at n) (found connected at n)
