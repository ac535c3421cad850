-- What a call can do to one service, and to what a place of the table holds. Assumes nothing.
use Rattle.std.proofs.Common.{◌≡◌, ℕ, ◌+◌, ◌<◌, ◌≤◌, true, not, is_some, Some, None, Option}
use Rattle.line.specs.declared.events.Event.TheVariants.{Request}
use Rattle.line.specs.declared.jobs.Job.{Job}
use Rattle.line.specs.declared.services.Reservation.{Reservation}
use Rattle.line.specs.declared.services.Service.{Service}
use Rattle.line.specs.declared.services.State.{State}
use Rattle.line.specs.declared.services.State.TheVariants.{Empty, Active, ShortWait, LongWait}
use Rattle.line.specs.Events.{after_event}
use Rattle.line.specs.Services.{new_service, fit, empty_state, longest_wait}
use Rattle.line.specs.Slots.{ran, woken}

-- the stretch of a head is one that its service allows
abbrev pub Allows : Service → Option Job → Type 0
Allows service None = Unit {0}
Allows service (Some head) = (1 ≤ head.stretch) × (head.stretch ≤ service.reservation.max_stretch)

-- a service becomes another, from one clock to the next; the count is 1 if it ran a slot
pub data Move (clock : ℕ) (service : Service) (clock_after : ℕ) (after : Service) (count : ℕ) : Type 0 where
  -- it stays as it was, and so does the clock
  kept : clock_after ≡ clock → after ≡ service → count ≡ 0 → Move clock service clock_after after count
  -- a job of it is requested
  asked : (stretch : ℕ) → 1 ≤ stretch → stretch ≤ service.reservation.max_stretch → clock_after ≡ clock → after ≡ after_event service (Request stretch) clock → count ≡ 0 → Move clock service clock_after after count
  -- a slot passes in which it does not run
  passed : (head : Option Job) → empty_state service.state ≡ not (is_some head) → Allows service head → clock_after ≡ clock + 1 → after ≡ woken service head (clock + 1) → count ≡ 0 → Move clock service clock_after after count
  -- it runs a slot
  runs : (head : Option Job) → service.state ≡ Active → Allows service head → clock_after ≡ clock + 1 → after ≡ woken (ran service head clock) head (clock + 1) → count ≡ 1 → Move clock service clock_after after count

-- what a place of the table holds becomes something else
pub data MoveAt (clock : ℕ) (held : Option Service) (clock_after : ℕ) (after : Option Service) (count : ℕ) : Type 0 where
  missing : held ≡ None → after ≡ None → count ≡ 0 → MoveAt clock held clock_after after count
  reserved : (asked : Reservation) → held ≡ None → after ≡ Some (new_service asked clock) → fit (Some (new_service asked clock)) ≡ true → clock_after ≡ clock → count ≡ 0 → MoveAt clock held clock_after after count
  moved : (service service_after : Service) → held ≡ Some service → after ≡ Some service_after → Move clock service clock_after service_after count → MoveAt clock held clock_after after count

-- ---- where a deadline and a wake moment lie

abbrev pub timely_in : State → ℕ → ℕ → ℕ → Type 0
timely_in Empty clock deadline longest = Unit {0}
timely_in Active clock deadline longest = clock ≤ deadline
timely_in (ShortWait wake) clock deadline longest = (clock < wake) × (wake ≤ deadline + longest)
timely_in (LongWait wake) clock deadline longest = (clock < wake) × (wake ≤ deadline + longest)

-- an active service has its deadline not behind the clock; one in a wait has its wake moment ahead, and within its largest stretch of the deadline
abbrev pub Timely : ℕ → Service → Type 0
Timely clock service = timely_in service.state clock service.deadline (longest_wait service)

-- an active service has its deadline ahead by what remains
abbrev pub AheadOf : ℕ → Service → Type 0
AheadOf clock service = service.state ≡ Active → clock + service.remaining ≤ service.deadline
