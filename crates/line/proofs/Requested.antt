-- What a request finds and leaves. Assumes nothing.
use Rattle.std.proofs.Common.{◌≡◌, ◌≢◌, ℕ, ◌+◌, ◌<◌, ◌≤◌, true, false, not, length, is_some, Some, None, Ok, Option, ⊎_elim, arith}
use Rattle.std.specs.Prelude.{nat_le}
use Rattle.std.specs.Option.{ForSome}
use Rattle.std.proofs.lemmas.List.{length-set}
use Rattle.std.proofs.lemmas.List.Sums.{count_by-le-length}
use Rattle.std.proofs.lemmas.Bool.{cases_eq}
use Rattle.std.proofs.lemmas.Bool.Decides.{nat_tests}
use Rattle.line.specs.declared.events.Event.TheVariants.{Request}
use Rattle.line.specs.declared.points.Point.{Point}
use Rattle.line.specs.declared.schedule.Schedule.{Schedule}
use Rattle.line.specs.declared.services.Service.{Service}
use Rattle.line.specs.Bounds.{point_places, clock_end}
use Rattle.line.specs.Calls.{request_answer, requested, after_request}
use Rattle.line.specs.Events.{InTime, after_event, with_event}
use Rattle.line.specs.Jobs.{job_at, head_of, differ, given_out}
use Rattle.line.specs.Points.{Points, waits, asking}
use Rattle.line.specs.Services.{Services, idle, empty_state}
use Rattle.line.specs.Sound.{Sound}
use Rattle.line.proofs.Fitting.{Steady, fitting, steadying, steadied, allowance, RoomAt, room}
use Rattle.line.proofs.Happened.{keeps_plan, request_busy, request_steady}
use Rattle.line.proofs.Heads.{head_same, head_there, jobs_changed}
use Rattle.line.proofs.Refused.{settled_keeps}
use Rattle.line.proofs.Shares.{shares_kept}
use Rattle.line.proofs.Soundness.{owed}
use Rattle.line.proofs.Records.{there_inside, placed}
use Rattle.line.specs.Tables.{record_at, with_record}

-- ---- what a request finds

-- the count of requests is never far beyond the clock's end
pub requests_bound : (line : Schedule) → Sound line → line.requests ≤ clock_end + point_places
requests_bound line sound = omega (arith, count_by-le-length waits line.points.records)

-- the service of a point is in the table, and takes the request
pub service_inside : (line : Schedule) (number : ℕ) (point : Point) → Sound line → record_at line.points number ≡ Some point → point.service < length line.services.records
service_inside line number point sound found = grind (arith, there_inside, sound.belongs number)

-- the numbers of a point's service and of its stretch are small
pub service_room : (line : Schedule) (number : ℕ) (point : Point) → Sound line → record_at line.points number ≡ Some point → RoomAt (record_at line.services point.service) point.stretch
service_room line number point sound found =
    room line.clock point.stretch (record_at line.services point.service) sound.clock (sound.fits point.service) (sound.steadies point.service) (grind (arith, sound.stretches number))

pub request_room : (line : Schedule) (number : ℕ) (point : Point) → Sound line → record_at line.points number ≡ Some point → ForSome (record_at line.services point.service) (λ service. InTime service line.clock)
request_room line number point sound found service there =
    let small = service_room line number point sound found in
    grind arith

-- the next place in the order of requests is no job's yet
newest : (requests : ℕ) (old : Option ℕ) → given_out requests old ≡ true → (differ (Some requests) old ≡ true) × (differ old (Some requests) ≡ true)
newest requests old given = grind arith

-- ---- what a request leaves

-- the point's job waits, and its service becomes another
module _ (line : Schedule) (sound : Sound line) (number : ℕ) (point : Point) (service after : Service)
    (inside : number < point_places) (found : record_at line.points number ≡ Some point) (quiet : point.job ≡ None)
    (served_by : record_at line.services point.service ≡ Some service) where
  abbrev moved_services : Services
  moved_services = with_record line.services point.service after

  abbrev moved_points : Points
  moved_points = with_record line.points number (asking point line.requests)

  service_in : point.service < length line.services.records
  service_in = service_inside line number point sound found

  -- other services have the jobs that they had
  other_jobs : (k : ℕ) → k ≢ point.service → (p : ℕ) → job_at moved_points k p ≡ job_at line.points k p
  other_jobs k other p = grind (arith, placed)

  moved_empties : empty_state after.state ≡ false → (k : ℕ) → idle (record_at moved_services k) ≡ not (is_some (head_of moved_points k))
  moved_empties busy k =
      ⊎_elim
      (λ here. grind (arith, placed, service_in, head_there moved_points k number inside))
      (λ other. grind (arith, placed, service_in, head_same line.points moved_points k (other_jobs k other), sound.empties k))
      (cases_eq k point.service)

  moved_sound : after.reservation ≡ service.reservation → empty_state after.state ≡ false → Steady line.clock after → Sound record line { requests = line.requests + 1; services = moved_services; points = moved_points }
  moved_sound same busy is = record {
    within = omega (arith, shares_kept line.services point.service after service_in (cc));
    fits = λ k. grind (arith, placed, service_in, sound.fits k);
    belongs = λ k. grind (arith, placed, service_in, sound.belongs k);
    clock = sound.clock;
    steadies = λ k. grind (arith, placed, service_in, sound.steadies k, steadied line.clock after is);
    stretches = λ k. grind (arith, placed, service_in, sound.stretches k);
    empties = moved_empties busy;
    orders = λ a b apart. grind (arith, placed, newest, sound.orders a b, sound.given a, sound.given b);
    given = λ k. grind (arith, nat_tests, placed, sound.given k);
    requests = grind (arith, jobs_changed line.points number (asking point line.requests));
    services = omega (arith, length-set {A = Option Service});
    points = omega (arith, length-set {A = Option Point});
  }

-- the request of this point meets this service
module _ (line : Schedule) (sound : Sound line) (number : ℕ) (point : Point) (service : Service)
    (inside : number < point_places) (found : record_at line.points number ≡ Some point) (quiet : point.job ≡ None)
    (served_by : record_at line.services point.service ≡ Some service) where
  abbrev after_service : Service
  after_service = after_event service (Request point.stretch) line.clock

  abbrev services_after : Services
  services_after = with_record line.services point.service after_service

  abbrev points_after : Points
  points_after = with_record line.points number (asking point line.requests)

  met : Sound record line { requests = line.requests + 1; services = services_after; points = points_after }
  met =
      moved_sound line sound number point service after_service inside found quiet served_by
      (keeps_plan service (Request point.stretch) line.clock).reservation
      (request_busy service point.stretch line.clock)
      (grind (arith, request_steady service point.stretch line.clock, fitting service.reservation, steadying line.clock service, allowance point.stretch service, sound.fits point.service, sound.steadies point.service, sound.stretches number))

  -- an event at a service that is there
  pub event_there : with_event line.services point.service (Request point.stretch) line.clock ≡ services_after
  event_there = rw served_by

  pub requested_sound : Sound (requested line number (Some point))
  requested_sound = rw event_there met

-- what a request that is done has passed
pub record Passed (line : Schedule) (number : ℕ) : Type 0 where
  pub inside : nat_le point_places number ≡ false
  pub known : is_some (record_at line.points number) ≡ true
  pub quiet : waits (record_at line.points number) ≡ false

pub request_passed : (line : Schedule) (number : ℕ) → request_answer line number ≡ Ok tt → Passed line number
request_passed line number done = grind arith

-- what a request that is done has met
pub record Asked (line : Schedule) (number : ℕ) : Type 0 where
  pub point : Point
  pub service : Service
  pub inside : number < point_places
  pub found : record_at line.points number ≡ Some point
  pub quiet : point.job ≡ None
  pub served_by : record_at line.services point.service ≡ Some service

pub asked : (line : Schedule) (number : ℕ) → Sound line → request_answer line number ≡ Ok tt → Asked line number
asked line number sound done = grind (arith, request_passed line number done, sound.belongs number)

-- what holds of a request wherever it meets a point without a job and its service, holds where it is done
pub at_request : (P : Schedule → Type 0) (line : Schedule) (number : ℕ) → Sound line → ((point : Point) (service : Service) → number < point_places → record_at line.points number ≡ Some point → point.job ≡ None → record_at line.services point.service ≡ Some service → P (requested line number (Some point))) → request_answer line number ≡ Ok tt → P (requested line number (record_at line.points number))
at_request P line number sound met done =
    let ok = asked line number sound done in
    rw ok.found (met ok.point ok.service ok.inside ok.found ok.quiet ok.served_by)

-- a line as the rule of a request says is sound again
pub request_sound : (line after : Schedule) (number : ℕ) → after ≡ after_request line number → Sound line → Sound after
request_sound line after number ruled sound =
    owed after _ ruled
    (settled_keeps Sound (request_answer line number) _ line
    (at_request Sound line number sound (λ point service. requested_sound line sound number point service))
    sound)
