-- A slot: the job that runs, what it leaves of its point and its service, and the services that wake. No call runs one yet. Assumes nothing.
use Rattle.std.specs.Prelude.{ℕ, zero, suc, ◌+◌, ◌-◌, ◌<◌, ◌≤◌, Bool, false, if◌then◌else◌, not, ◌&&◌, List, [], ◌∷◌, ℤ, is_some, Some, None, Ok, Err, Option, Result, ◌==◌, nat_le, slice_set}
use Rattle.std.specs.Option.{option_map}
use Rattle.judge.specs.Meanings.{Meaning}
use Rattle.line.specs.declared.events.Event.TheVariants.{Exhaustion, WakeUp}
use Rattle.line.specs.declared.jobs.Job.{Job}
use Rattle.line.specs.declared.points.Point.{Point}
use Rattle.line.specs.declared.refusals.Refusal.{Refusal}
use Rattle.line.specs.declared.refusals.Refusal.TheVariants.{SilentWire, ClockSpent}
use Rattle.line.specs.declared.schedule.Schedule.{Schedule}
use Rattle.line.specs.declared.services.Service.{Service}
use Rattle.line.specs.declared.services.State.{State}
use Rattle.line.specs.declared.services.State.TheVariants.{Empty, Active, ShortWait, LongWait}
use Rattle.line.specs.Bounds.{service_places, clock_end, deadline_end}
use Rattle.line.specs.Calls.{who_answer}
use Rattle.line.specs.Events.{in_state, after_event}
use Rattle.line.specs.Jobs.{head_of}
use Rattle.line.specs.Refusals.{Row, row, verdict, settled}
use Rattle.line.specs.Tables.{record_at}
use Rattle.line.specs.Services.{Services}
use Rattle.line.specs.Points.{Points}

-- ---- the service that runs

-- one slot of the budget is used, and counted
abbrev pub charged : Service → Service
charged service = record service { remaining = service.remaining - 1; served = service.served + 1 }

-- a service that has run a slot, with the head that waits then: empty without one, in a wait with nothing left, else active still
abbrev pub ran : Service → Option Job → ℕ → Service
ran service None clock = in_state (charged service) Empty
ran service (Some head) clock =
    if (charged service).remaining == 0 then after_event (charged service) (Exhaustion head.stretch) clock else charged service

-- the table after a slot of one of its services
abbrev pub with_run : Services → ℕ → Option Job → ℕ → Services
with_run services number head clock = record {
  records = slice_set services.records number (option_map (λ service. ran service head clock) (record_at services number));
}

-- ---- the services that wake

-- the wake moment has come
abbrev pub due_in : State → ℕ → Bool
due_in Empty clock = false
due_in Active clock = false
due_in (ShortWait wake) clock = nat_le wake clock
due_in (LongWait wake) clock = nat_le wake clock

-- a service with this head, replenished if its wake moment has come
abbrev pub woken : Service → Option Job → ℕ → Service
woken service None clock = service
woken service (Some head) clock = if due_in service.state clock then after_event service (WakeUp head.stretch) clock else service

-- the table with what stands in one place woken
abbrev pub wake_at : Services → Points → ℕ → ℕ → Services
wake_at services points clock number = record {
  records = slice_set services.records number (option_map (λ service. woken service (head_of points number) clock) (record_at services number));
}

-- the table with all in the places below n woken
unfoldable pub woken_below : Services → Points → ℕ → ℕ → Services
woken_below services points clock zero = services
woken_below services points clock (suc n) = wake_at (woken_below services points clock n) points clock n

abbrev pub all_woken : Services → Points → ℕ → Services
all_woken services points clock = woken_below services points clock service_places

-- ---- the point whose job ran

-- a point whose job has ended with this result: the judge gives its next stretch from the result before
abbrev pub ended : Meaning → ℕ → ℤ → Point → Point
ended meaning most result point = record point {
  result = Some result;
  stretch = meaning result point.result point.threshold most;
  job = None;
}

-- the table after the job of one of its points has ended
abbrev pub with_ended : Meaning → ℕ → ℤ → Points → ℕ → Points
with_ended meaning most result points number = record {
  records = slice_set points.records number (option_map (ended meaning most result) (record_at points number));
}

-- the largest stretch of a service
abbrev pub most_of : Option Service → ℕ
most_of None = 1
most_of (Some service) = service.reservation.max_stretch

-- the points after a slot of this service and this point, told the result with which the job ended, or none while it goes on
abbrev pub points_told : Meaning → Schedule → ℕ → ℕ → Option ℤ → Points
points_told meaning line service point None = line.points
points_told meaning line service point (Some result) = with_ended meaning (most_of (record_at line.services service)) result line.points point

abbrev pub with_points : Schedule → Points → Schedule
with_points line points = record line { points = points }

-- ---- the whole slot

abbrev pub slot_rows : Schedule → Option ℤ → List Row
slot_rows line told =
    row SilentWire (is_some told && not (is_some (who_answer line))) ∷
    row ClockSpent (nat_le clock_end line.clock) ∷
    []

-- a slot that is not refused answers what who said
abbrev pub answered : Result (Unit {0}) Refusal → Option (ℕ × ℕ) → Result (Option (ℕ × ℕ)) Refusal
answered (Ok done) next = Ok next
answered (Err refusal) next = Err refusal

abbrev pub slot_answer : Schedule → Option ℤ → Result (Option (ℕ × ℕ)) Refusal
slot_answer line told = answered (verdict (slot_rows line told)) (who_answer line)

-- the line after one job of a service ran: its point, and then the service with the head that waits now
abbrev pub run_slot : Meaning → Schedule → ℕ → ℕ → Option ℤ → Schedule
run_slot meaning line service point told = record line {
  services = with_run line.services service (head_of (points_told meaning line service point told) service) line.clock;
  points = points_told meaning line service point told;
}

-- the line after a slot that nobody used
abbrev pub unused_slot : Schedule → Schedule
unused_slot line = record line { unused = line.unused + 1 }

abbrev pub used : Meaning → Schedule → Option (ℕ × ℕ) → Option ℤ → Schedule
used meaning line None told = unused_slot line
used meaning line (Some named) told = run_slot meaning line named.0 named.1 told

-- the clock rises, and every service whose wake moment has come is replenished
abbrev pub ticked : Schedule → Schedule
ticked line = record line { clock = line.clock + 1; services = all_woken line.services line.points (line.clock + 1) }

abbrev pub after_slot : Meaning → Schedule → Option ℤ → Schedule
after_slot meaning line told = settled (verdict (slot_rows line told)) (ticked (used meaning line (who_answer line) told)) line

-- ---- what a slot needs of the numbers

-- a service can be charged for one slot more, and wait after it
pub record Chargeable (service : Service) : Type 0 where
  pub some : 0 < service.remaining
  pub few : service.served < clock_end
  pub early : service.deadline ≤ deadline_end

abbrev pub ChargeableAt : Option Service → Type 0
ChargeableAt None = Unit {0}
ChargeableAt (Some service) = Chargeable service
