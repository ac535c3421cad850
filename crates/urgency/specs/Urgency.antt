-- Which of some candidates is the most urgent, under any order of the items. Assumes nothing.
use Rattle.std.specs.Prelude.{◌≡◌, ℕ, zero, suc, ◌<◌, Bool, IsTrue, IsFalse, if◌then◌else◌, ◌⊎◌, Some, None, Option, ◌≢◌}

module _ {X : Type 0} (before : X → X → Bool) where
  -- ---- the laws of an order

  -- any two different items are told apart
  abbrev pub Connected : Type 0
  Connected = (a b : X) → (a ≢ b) → IsTrue (before a b) ⊎ IsTrue (before b a)

  -- never both ways round
  abbrev pub Asymmetric : Type 0
  Asymmetric = (a b : X) → IsTrue (before a b) → IsFalse (before b a)

  -- two steps in a row hold end to end
  abbrev pub Transitive : Type 0
  Transitive = (a b c : X) → IsTrue (before a b) → IsTrue (before b c) → IsTrue (before a c)

  -- ---- the search

  -- the more urgent of two, where either may be missing
  abbrev pub sooner : Option X → Option X → Option X
  sooner None next = next
  sooner (Some best) None = Some best
  sooner (Some best) (Some next) = if before next best then Some next else Some best

  -- the most urgent of the candidates in the places below n
  unfoldable pub most_urgent : (ℕ → Option X) → ℕ → Option X
  most_urgent at zero = None
  most_urgent at (suc n) = sooner (most_urgent at n) (at n)

  -- ---- what it finds

  -- none exactly if no place below n has a candidate, and else the candidate that is before every other
  abbrev pub First : (ℕ → Option X) → ℕ → Option X → Type 0
  First at n None = (place : ℕ) → place < n → at place ≡ None
  First at n (Some first) = ((place : ℕ) × ((place < n) × (at place ≡ Some first))) × ((place : ℕ) → place < n → (other : X) → at place ≡ Some other → (other ≢ first) → IsTrue (before first other))
