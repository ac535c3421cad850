-- The rules at their borders: worked examples on both sides of each limit, as one statement. Assumes nothing.
use Rattle.std.specs.Prelude.{◌≡◌, ℕ, pos, Some, None, Ok, Err}
use Rattle.judge.specs.Meanings.{from_threshold, by_slope, by_grades}
use Rattle.line.specs.declared.events.Event.TheVariants.{Request}
use Rattle.line.specs.declared.refusals.Refusal.{Refusal}
use Rattle.line.specs.declared.refusals.Refusal.TheVariants.{BadPeriod, BadBudget, BadStretch, LineFull}
use Rattle.line.specs.declared.schedule.Schedule.{Schedule}
use Rattle.line.specs.declared.services.Reservation.{Reservation}
use Rattle.line.specs.declared.services.Service.{Service}
use Rattle.line.specs.declared.services.State.{State}
use Rattle.line.specs.declared.services.State.TheVariants.{Empty, Active, ShortWait, LongWait}
use Rattle.line.specs.Calls.{fresh, reserve_answer, after_reserve}
use Rattle.line.specs.Events.{after_event}
use Rattle.line.specs.Services.{shares_of}

-- so many slots in every period, with jobs stretched so far
abbrev plan : ℕ → ℕ → ℕ → Reservation
plan budget period most = record { budget = budget; period = period; max_stretch = most }

-- a reservation is taken, or refused
abbrev Taken : Schedule → ℕ → ℕ → ℕ → ℕ → Type 0
Taken line number budget period most = reserve_answer line number (plan budget period most) ≡ Ok tt

abbrev Refused : Refusal → Schedule → ℕ → ℕ → ℕ → ℕ → Type 0
Refused refusal line number budget period most = reserve_answer line number (plan budget period most) ≡ Err refusal

-- a line of two services with 5 slots in 10 each
abbrev pub halves : Schedule
halves = after_reserve (after_reserve fresh 0 (plan 5 10 1)) 1 (plan 5 10 1)

-- a service as it stands, with stretches up to 16 and nothing served
abbrev standing : ℕ → ℕ → ℕ → ℕ → State → Service
standing budget period remaining deadline state =
    record { reservation = plan budget period 16; remaining = remaining; deadline = deadline; served = 0; state = state }

-- a service that gets a job of this stretch at this clock becomes another
abbrev Becomes : Service → ℕ → ℕ → Service → Type 0
Becomes before stretch clock after = after_event before (Request stretch) clock ≡ after

-- 10 in 100, due at 100, with so much left
abbrev tens : ℕ → State → Service
tens remaining state = standing 10 100 remaining 100 state

-- 2 in 10, due at 10, with nothing left
abbrev twos : State → Service
twos state = standing 2 10 0 10 state

pub record Borders : Type 0 where
  -- 16 divides 3600, and 7 does not
  pub period_16 : Taken fresh 0 1 16 1
  pub period_7 : Refused BadPeriod fresh 0 1 7 1
  -- a budget may fill its period, and then its share is the whole line
  pub budget_10 : Taken fresh 0 10 10 1
  pub share_10 : shares_of (after_reserve fresh 0 (plan 10 10 1)).services ≡ 3600
  pub budget_11 : Refused BadBudget fresh 0 11 10 1
  pub stretch_16 : Taken fresh 0 1 10 16
  pub stretch_17 : Refused BadStretch fresh 0 1 10 17
  -- two halves fill a line, and not one slot in an hour is left
  pub first_half : Taken fresh 0 5 10 1
  pub second_half : Taken (after_reserve fresh 0 (plan 5 10 1)) 1 5 10 1
  pub third : Refused LineFull halves 2 1 3600 1
  -- with 9 left of 10 in 100 a request resumes while 10 × 91 is above 9 × 100, and is replenished from there on
  pub resumed_at_9 : Becomes (tens 9 Empty) 1 9 (tens 9 Active)
  pub replenished_at_10 : Becomes (tens 9 Empty) 1 10 (standing 10 100 10 110 Active)
  -- no stretch enters that test
  pub stretched_resumes : Becomes (tens 1 Empty) 16 10 (tens 1 Active)
  -- with nothing left it waits up to the deadline, a stretched job longer, and is replenished from the deadline on
  pub important_waits : Becomes (twos Empty) 1 9 (twos (ShortWait 10))
  pub stretched_waits : Becomes (twos Empty) 3 9 (twos (LongWait 40))
  pub important_at_10 : Becomes (twos Empty) 1 10 (standing 2 10 2 20 Active)
  pub stretched_at_10 : Becomes (twos Empty) 3 10 (standing 2 10 2 40 Active)
  -- an important request shortens a long wait to one period, and never makes it longer
  pub shortened_at_12 : Becomes (twos (LongWait 40)) 1 12 (twos (ShortWait 22))
  pub kept_at_35 : Becomes (twos (LongWait 40)) 1 35 (twos (ShortWait 40))
  -- by threshold 50, with stretches up to 3
  pub at_threshold : from_threshold (pos 50) None (pos 50) 3 ≡ 1
  pub below_threshold : from_threshold (pos 49) None (pos 50) 3 ≡ 3
  -- by grades of 10 below it
  pub grade_49 : by_grades 10 (pos 49) None (pos 50) 3 ≡ 2
  pub grade_40 : by_grades 10 (pos 40) None (pos 50) 3 ≡ 2
  pub grade_39 : by_grades 10 (pos 39) None (pos 50) 3 ≡ 3
  pub grade_29 : by_grades 10 (pos 29) None (pos 50) 3 ≡ 3
  -- by a slope of 5 from 20, with stretches up to 4
  pub slope_up : by_slope (pos 25) (Some (pos 20)) (pos 5) 4 ≡ 1
  pub slope_down : by_slope (pos 15) (Some (pos 20)) (pos 5) 4 ≡ 1
  pub slope_flat : by_slope (pos 24) (Some (pos 20)) (pos 5) 4 ≡ 4
