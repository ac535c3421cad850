-- What a verdict tells of the rows it came from. Assumes nothing.
use Rattle.std.proofs.Common.{◌≡◌, ℕ, ◌≤◌, Bool, true, ◌&&◌, List, [], ◌∷◌, OnOk, Ok, Result, arith}
use Rattle.std.specs.Prelude.{nat_le}
use Rattle.std.proofs.lemmas.Bool.Decides.{nat_tests}
use Rattle.std.specs.Result.{result_err}
use Rattle.line.specs.declared.refusals.Refusal.{Refusal}
use Rattle.line.specs.Refusals.{Row, number_of, verdict, settled, Applies, Smallest}

-- the numbers of the rows rise from n on
abbrev pub rising : ℕ → List Row → Bool
rising n [] = true
rising n (r ∷ rs) = nat_le n (number_of r.refusal) && rising (number_of r.refusal) rs

pub above : (n : ℕ) (rows : List Row) → rising n rows ≡ true → (x : Refusal) → Applies rows x → n ≤ number_of x
above n [] up x no_row = absurd no_row
above n (r ∷ rs) up x applies = grind (arith, nat_tests, above (number_of r.refusal) rs)

-- of rows in rising order, the first that applies has the smallest number
smallest : (n : ℕ) (rows : List Row) → rising n rows ≡ true → Smallest rows (result_err (verdict rows))
smallest n [] up = λ x applies. applies
smallest n (r ∷ rs) up = grind (arith, nat_tests, above (number_of r.refusal) rs, smallest (number_of r.refusal) rs)

-- the same of a call that answers by its rows
pub answers_smallest : (rows : List Row) (r : Result (Unit {0}) Refusal) → rising 1 rows ≡ true → r ≡ verdict rows → Smallest rows (result_err r)
answers_smallest rows r up answer = rw answer (smallest 1 rows up)

-- a change that only a good verdict makes keeps what it keeps under one
pub settled_keeps : {X : Type 0} (P : X → Type 0) (v : Result (Unit {0}) Refusal) (changed same : X) → (v ≡ Ok tt → P changed) → P same → P (settled v changed same)
settled_keeps P v changed same good old = grind arith

-- what a change makes true where the verdict is good, is told where the call is done
pub told_if_done : {X : Type 0} (P : X → Type 0) (answer v : Result (Unit {0}) Refusal) (after changed same : X) → answer ≡ v → after ≡ settled v changed same → (v ≡ Ok tt → P changed) → OnOk answer (P after)
told_if_done P answer v after changed same answered ruled good = grind arith
