-- The fifteen refusals: their numbers, their words, and which one is returned where several apply. Assumes nothing.
use Rattle.std.specs.Prelude.{◌≡◌, ℕ, ◌≤◌, Bool, IsTrue, if◌then◌else◌, ◌⊎◌, List, [], ◌∷◌, Some, None, Ok, Err, codes, Option, Result}
use Rattle.line.specs.declared.refusals.Refusal.{Refusal}
use Rattle.line.specs.declared.refusals.Refusal.TheVariants.{NoSuchService, NoSuchPoint, ServiceTaken, BadPeriod, BadBudget, BadStretch, LineFull, ServiceUnknown, PointTaken, PointUnknown, StillWaiting, SilentWire, ClockSpent, BadLine, WrongSize}

abbrev pub number_of : Refusal → ℕ
number_of NoSuchService = 1
number_of NoSuchPoint = 2
number_of ServiceTaken = 3
number_of BadPeriod = 4
number_of BadBudget = 5
number_of BadStretch = 6
number_of LineFull = 7
number_of ServiceUnknown = 8
number_of PointTaken = 9
number_of PointUnknown = 10
number_of StillWaiting = 11
number_of SilentWire = 12
number_of ClockSpent = 13
number_of BadLine = 14
number_of WrongSize = 15

abbrev pub words_of : Refusal → List ℕ
words_of NoSuchService = codes "no such service"
words_of NoSuchPoint = codes "no such point"
words_of ServiceTaken = codes "service taken"
words_of BadPeriod = codes "bad period"
words_of BadBudget = codes "bad budget"
words_of BadStretch = codes "bad stretch"
words_of LineFull = codes "line full"
words_of ServiceUnknown = codes "service unknown"
words_of PointTaken = codes "point taken"
words_of PointUnknown = codes "point unknown"
words_of StillWaiting = codes "still waiting"
words_of SilentWire = codes "silent wire"
words_of ClockSpent = codes "clock spent"
words_of BadLine = codes "bad line"
words_of WrongSize = codes "wrong size"

-- a call's refusals, each with the test by which it applies
pub record Row : Type 0 where
  pub refusal : Refusal
  pub applies : Bool

abbrev pub row : Refusal → Bool → Row
row refusal applies = record { refusal = refusal; applies = applies }

-- the first that applies, or that the call is done
abbrev pub verdict : List Row → Result (Unit {0}) Refusal
verdict [] = Ok tt
verdict (r ∷ rs) = if r.applies then Err r.refusal else verdict rs

-- what a call leaves: the change where it is done, and else everything as it was
abbrev pub settled : {X : Type 0} → Result (Unit {0}) Refusal → X → X → X
settled (Ok done) changed same = changed
settled (Err refusal) changed same = same

-- ---- the law of refusals

-- a refusal applies to a call with these rows
abbrev pub Applies : List Row → Refusal → Type 0
Applies [] refusal = ⊥
Applies (r ∷ rs) refusal = ((r.refusal ≡ refusal) × IsTrue r.applies) ⊎ Applies rs refusal

-- what is returned of these rows: nothing exactly if none applies, and else the one of smallest number that does
abbrev pub Smallest : List Row → Option Refusal → Type 0
Smallest rows None = (refusal : Refusal) → Applies rows refusal → ⊥
Smallest rows (Some returned) = Applies rows returned × ((other : Refusal) → Applies rows other → number_of returned ≤ number_of other)
