-- What every line keeps, whatever is called on it. Assumes nothing.
use Rattle.std.specs.Prelude.{◌≡◌, ℕ, ◌+◌, ◌≤◌, not, IsTrue, length, is_some, ◌≢◌}
use Rattle.line.specs.declared.schedule.Schedule.{Schedule}
use Rattle.line.specs.Bounds.{full_share, service_places, point_places, clock_end}
use Rattle.line.specs.Jobs.{head_of, order_at, differ, given_out, jobs_of}
use Rattle.line.specs.Points.{has_service, allowed}
use Rattle.line.specs.Services.{shares_of, fit, idle, steady}
use Rattle.line.specs.Tables.{record_at}

-- the facts of a line's own invariant, as one
pub record Sound (line : Schedule) : Type 0 where
  -- no more slots are promised than there are
  pub within : shares_of line.services ≤ full_share
  -- each service could be reserved as it stands
  pub fits : (number : ℕ) → IsTrue (fit (record_at line.services number))
  -- each point belongs to a service that is reserved
  pub belongs : (number : ℕ) → IsTrue (has_service line.services (record_at line.points number))
  -- the clock has its end
  pub clock : line.clock ≤ clock_end
  -- each service has as much left of its budget as its state says, and is due within its largest stretch
  pub steadies : (number : ℕ) → IsTrue (steady line.clock (record_at line.services number))
  -- each point has a stretch that its service allows
  pub stretches : (number : ℕ) → IsTrue (allowed line.services (record_at line.points number))
  -- a service is empty exactly when no job of it waits
  pub empties : (number : ℕ) → idle (record_at line.services number) ≡ not (is_some (head_of line.points number))
  -- no two jobs have one place in the order of requests, and each has one that is given out
  pub orders : (a b : ℕ) → (a ≢ b) → IsTrue (differ (order_at line.points a) (order_at line.points b))
  pub given : (number : ℕ) → IsTrue (given_out line.requests (order_at line.points number))
  -- each request has had its slot, or its job waits
  pub requests : line.requests ≤ line.clock + jobs_of line.points
  -- the tables keep their sizes
  pub services : length line.services.records ≡ service_places
  pub points : length line.points.records ≡ point_places
