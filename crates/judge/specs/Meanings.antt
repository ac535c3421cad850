-- What a judge means: the stretch that a point's next job gets, from the result of its latest job. Assumes nothing.
use Rattle.std.specs.Prelude.{ℕ, ◌+◌, ◌-◌, ◌/◌, ◌≤◌, min, if◌then◌else◌, ℤ, pos, ◌-ℤ◌, Some, None, Option, ◌==◌, int_le, unsigned_abs}

-- from the result, the result before it or none, the point's threshold and the largest stretch of its service
abbrev pub Meaning : Type 0
Meaning = ℤ → Option ℤ → ℤ → ℕ → ℕ

-- a stretch is never 0 and never above the largest, whichever of 1 to 16 that is
abbrev pub InRange : Meaning → Type 0
InRange meaning = (result : ℤ) (before : Option ℤ) (threshold : ℤ) (most : ℕ) → 1 ≤ most → most ≤ 16 → (1 ≤ meaning result before threshold most) × (meaning result before threshold most ≤ most)

-- every job is important
abbrev pub always_important : Meaning
always_important result before threshold most = 1

-- important from the threshold upwards
abbrev pub from_threshold : Meaning
from_threshold result before threshold most = if int_le threshold result then 1 else most

-- how far two results lie apart
abbrev pub distance : ℤ → ℤ → ℕ
distance a b = unsigned_abs (a -ℤ b)

-- important where nothing came before, or where the result moved by the threshold or more
abbrev pub by_slope : Meaning
by_slope result None threshold most = 1
by_slope result (Some earlier) threshold most = if int_le threshold (pos (distance result earlier)) then 1 else most

-- the width of a grade, 0 counting as 1
abbrev pub grade_width : ℕ → ℕ
grade_width width = if width == 0 then 1 else width

-- important from the threshold upwards; 2 within the first width below it, 3 within the second, and so on, up to the most
abbrev pub by_grades : ℕ → Meaning
by_grades width result before threshold most =
    if int_le threshold result then 1 else min most (2 + (distance threshold result - 1) / grade_width width)
