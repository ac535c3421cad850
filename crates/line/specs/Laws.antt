-- What a call that is done changes, as the questions tell it. Assumes nothing.
use Rattle.std.specs.Prelude.{◌≡◌, ℕ, ◌+◌, ◌*◌, ◌<◌, ◌≤◌, true, false, IsTrue, IsFalse, IsOk, ◌⊎◌, ℤ, Some, None, Ok, Err, Option, Result, ◌≢◌}
use Rattle.line.specs.declared.events.Event.TheVariants.{Request}
use Rattle.line.specs.declared.points.Point.{Point}
use Rattle.line.specs.declared.points.PointRecord.{PointRecord}
use Rattle.line.specs.declared.refusals.Refusal.{Refusal}
use Rattle.line.specs.declared.schedule.Schedule.{Schedule}
use Rattle.line.specs.declared.services.Reservation.{Reservation}
use Rattle.line.specs.declared.services.Service.{Service}
use Rattle.line.specs.declared.services.State.TheVariants.{Empty, Active, ShortWait, LongWait}
use Rattle.line.specs.Calls.{who_answer, service_answer, point_answer}
use Rattle.line.specs.Events.{after_event}
use Rattle.line.specs.Services.{new_service, share_of, shares_of}
use Rattle.line.specs.Tables.{record_at}

-- what the question tells of a point that has just been enrolled
abbrev pub new_record : ℕ → ℤ → PointRecord
new_record service threshold = record { service = service; threshold = threshold; result = None; stretch = 1; waiting = false }

-- a reservation brings one service and its share, and changes nothing else
pub record Reserves (before after : Schedule) (number : ℕ) (asked : Reservation) : Type 0 where
  pub told : service_answer after number ≡ Ok (new_service asked before.clock)
  pub others : (other : ℕ) → (other ≢ number) → service_answer after other ≡ service_answer before other
  pub points : (point : ℕ) → point_answer after point ≡ point_answer before point
  pub shares : shares_of after.services ≡ shares_of before.services + share_of asked
  pub who : who_answer after ≡ who_answer before
  pub clock : after.clock ≡ before.clock
  pub unused : after.unused ≡ before.unused

-- an enrolment brings one point, and changes nothing else
pub record Enrols (before after : Schedule) (point service : ℕ) (threshold : ℤ) : Type 0 where
  pub told : point_answer after point ≡ Ok (new_record service threshold)
  pub others : (other : ℕ) → (other ≢ point) → point_answer after other ≡ point_answer before other
  pub services : (number : ℕ) → service_answer after number ≡ service_answer before number
  pub shares : shares_of after.services ≡ shares_of before.services
  pub who : who_answer after ≡ who_answer before
  pub clock : after.clock ≡ before.clock
  pub unused : after.unused ≡ before.unused

-- the same record, its job waiting
abbrev pub now_waiting : PointRecord → PointRecord
now_waiting point = record point { waiting = true }

-- a request brings one job to a point that had none, moves its service by the rule, and changes nothing else
pub record Requests (before after : Schedule) (number : ℕ) : Type 0 where
  pub point : PointRecord
  pub asked : point_answer before number ≡ Ok point
  pub idle : IsFalse point.waiting
  pub told : point_answer after number ≡ Ok (now_waiting point)
  pub others : (other : ℕ) → (other ≢ number) → point_answer after other ≡ point_answer before other
  pub service : Service
  pub served_by : service_answer before point.service ≡ Ok service
  pub moved : service_answer after point.service ≡ Ok (after_event service (Request point.stretch) before.clock)
  pub other_services : (other : ℕ) → (other ≢ point.service) → service_answer after other ≡ service_answer before other
  pub shares : shares_of after.services ≡ shares_of before.services
  pub clock : after.clock ≡ before.clock
  pub unused : after.unused ≡ before.unused

-- a point's record tells that a job of this service waits
abbrev pub Busy : Schedule → ℕ → Type 0
Busy line number = (place : ℕ) × ((point : PointRecord) × ((point_answer line place ≡ Ok point) × ((point.service ≡ number) × IsTrue point.waiting)))

-- what a service's record tells: it is empty exactly when no job of it waits, active only with something left of its budget, in a wait
-- only with nothing left, and due within its largest stretch
pub record Standing (line : Schedule) (number : ℕ) (service : Service) : Type 0 where
  pub idle : service.state ≡ Empty → (place : ℕ) (point : PointRecord) → point_answer line place ≡ Ok point → point.service ≡ number → IsFalse point.waiting
  pub busy : (service.state ≢ Empty) → Busy line number
  pub active : service.state ≡ Active → 0 < service.remaining
  pub spent : (wake : ℕ) → (service.state ≡ ShortWait wake) ⊎ (service.state ≡ LongWait wake) → service.remaining ≡ 0
  pub within : service.remaining ≤ service.reservation.budget
  pub due : service.deadline ≤ line.clock + service.reservation.max_stretch * service.reservation.period

abbrev pub Stands : Schedule → ℕ → Result Service Refusal → Type 0
Stands line number (Ok service) = Standing line number service
Stands line number (Err refusal) = Unit {0}

-- ---- who

-- by a first number, and among equals by a second
abbrev pub Earlier : ℕ → ℕ → ℕ → ℕ → Type 0
Earlier first second other_first other_second = (first < other_first) ⊎ ((first ≡ other_first) × (second < other_second))

-- the service that runs next: an active one, of the smallest deadline and then the smallest number among the active
pub record Runs (line : Schedule) (number : ℕ) : Type 0 where
  pub service : Service
  pub told : service_answer line number ≡ Ok service
  pub active : service.state ≡ Active
  pub before_others : (other : ℕ) (rival : Service) → (other ≢ number) → service_answer line other ≡ Ok rival → rival.state ≡ Active → Earlier service.deadline number rival.deadline other

-- the job of this point waits for this service, in this place in the order of requests
abbrev pub WaitsFor : Schedule → ℕ → ℕ → Point → ℕ → Type 0
WaitsFor line service number point order = (record_at line.points number ≡ Some point) × ((point.service ≡ service) × (point.job ≡ Some order))

-- the point of a service's head: its job has the smallest stretch, and was requested first among those of one stretch
pub record Heads (line : Schedule) (service number : ℕ) : Type 0 where
  pub point : Point
  pub order : ℕ
  pub waits : WaitsFor line service number point order
  pub before_others : (other : ℕ) (rival : Point) (place : ℕ) → (other ≢ number) → WaitsFor line service other rival place → Earlier point.stretch order rival.stretch place

-- whom the next slot runs: nobody exactly if no service is active
abbrev pub Named : Schedule → Option (ℕ × ℕ) → Type 0
Named line None = (number : ℕ) (service : Service) → service_answer line number ≡ Ok service → service.state ≢ Active
Named line (Some named) = Runs line named.0 × Heads line named.0 named.1

-- ---- the questions

-- the service that a point's record names can be asked for
abbrev pub Belongs : Schedule → Result PointRecord Refusal → Type 0
Belongs line (Ok point) = IsOk (service_answer line point.service)
Belongs line (Err refusal) = Unit {0}

-- the stretch of a point's next job is one that its service allows
abbrev pub Stretched : Schedule → Result PointRecord Refusal → Type 0
Stretched line (Ok point) = (service : Service) → service_answer line point.service ≡ Ok service → (1 ≤ point.stretch) × (point.stretch ≤ service.reservation.max_stretch)
Stretched line (Err refusal) = Unit {0}
