-- The rule of each call: when it is refused, what it answers, and the whole schedule afterwards. Assumes nothing.
use Rattle.std.specs.Prelude.{ℕ, ◌+◌, if◌then◌else◌, not, List, [], ◌∷◌, ℤ, is_some, Some, None, Err, Option, Result, nat_le, nat_lt}
use Rattle.std.specs.Option.{ok_or, option_map}
use Rattle.line.specs.declared.events.Event.TheVariants.{Request}
use Rattle.line.specs.declared.jobs.Job.{Job}
use Rattle.line.specs.declared.points.Point.{Point}
use Rattle.line.specs.declared.points.PointRecord.{PointRecord}
use Rattle.line.specs.declared.refusals.Refusal.{Refusal}
use Rattle.line.specs.declared.refusals.Refusal.TheVariants.{NoSuchService, NoSuchPoint, ServiceTaken, BadPeriod, BadBudget, BadStretch, LineFull, ServiceUnknown, PointTaken, PointUnknown, StillWaiting}
use Rattle.line.specs.declared.schedule.Schedule.{Schedule}
use Rattle.line.specs.declared.services.Reservation.{Reservation}
use Rattle.line.specs.declared.services.Service.{Service}
use Rattle.line.specs.declared.turns.Turn.{Turn}
use Rattle.line.specs.Bounds.{full_share, service_places, point_places}
use Rattle.line.specs.Events.{with_event}
use Rattle.line.specs.Jobs.{head_of}
use Rattle.line.specs.Points.{Points, new_point, waits, asking, point_record}
use Rattle.line.specs.Refusals.{Row, row, verdict, settled}
use Rattle.line.specs.Services.{bad_period, bad_budget, bad_stretch, share_of, new_service, shares_of}
use Rattle.line.specs.Turns.{next_turn}
use Rattle.line.specs.Tables.{no_records, record_at, with_record}

-- ---- a fresh line

abbrev pub fresh : Schedule
fresh = record { clock = 0; unused = 0; requests = 0; services = no_records; points = no_records }

-- ---- reserve

abbrev pub reserve_rows : Schedule → ℕ → Reservation → List Row
reserve_rows line number asked =
    row NoSuchService (nat_le service_places number) ∷
    row ServiceTaken (is_some (record_at line.services number)) ∷
    row BadPeriod (bad_period asked.period) ∷
    row BadBudget (bad_budget asked.budget asked.period) ∷
    row BadStretch (bad_stretch asked.max_stretch) ∷
    row LineFull (nat_lt full_share (shares_of line.services + share_of asked)) ∷
    []

abbrev pub reserve_answer : Schedule → ℕ → Reservation → Result (Unit {0}) Refusal
reserve_answer line number asked = verdict (reserve_rows line number asked)

-- the line with one service more
abbrev pub reserved : Schedule → ℕ → Reservation → Schedule
reserved line number asked = record line { services = with_record line.services number (new_service asked line.clock) }

abbrev pub after_reserve : Schedule → ℕ → Reservation → Schedule
after_reserve line number asked = settled (reserve_answer line number asked) (reserved line number asked) line

-- ---- enrol

abbrev pub enrol_rows : Schedule → ℕ → ℕ → List Row
enrol_rows line point service =
    row NoSuchService (nat_le service_places service) ∷
    row NoSuchPoint (nat_le point_places point) ∷
    row ServiceUnknown (not (is_some (record_at line.services service))) ∷
    row PointTaken (is_some (record_at line.points point)) ∷
    []

abbrev pub enrol_answer : Schedule → ℕ → ℕ → Result (Unit {0}) Refusal
enrol_answer line point service = verdict (enrol_rows line point service)

-- the line with one point more
abbrev pub enrolled : Schedule → ℕ → ℕ → ℤ → Schedule
enrolled line point service threshold = record line { points = with_record line.points point (new_point service threshold) }

abbrev pub after_enrol : Schedule → ℕ → ℕ → ℤ → Schedule
after_enrol line point service threshold =
    settled (enrol_answer line point service) (enrolled line point service threshold) line

-- ---- request

abbrev pub request_rows : Schedule → ℕ → List Row
request_rows line point =
    row NoSuchPoint (nat_le point_places point) ∷
    row PointUnknown (not (is_some (record_at line.points point))) ∷
    row StillWaiting (waits (record_at line.points point)) ∷
    []

abbrev pub request_answer : Schedule → ℕ → Result (Unit {0}) Refusal
request_answer line point = verdict (request_rows line point)

-- the line with one job more, and its service as that leaves it
abbrev pub requested : Schedule → ℕ → Option Point → Schedule
requested line number None = line
requested line number (Some point) = record line {
  requests = line.requests + 1;
  services = with_event line.services point.service (Request point.stretch) line.clock;
  points = with_record line.points number (asking point line.requests);
}

abbrev pub after_request : Schedule → ℕ → Schedule
after_request line point = settled (request_answer line point) (requested line point (record_at line.points point)) line

-- ---- who

-- a service, and the point of its head
abbrev pub with_head : ℕ → Option Job → Option (ℕ × ℕ)
with_head service None = None
with_head service (Some head) = Some (service, head.point)

abbrev pub who_of : Points → Option Turn → Option (ℕ × ℕ)
who_of points None = None
who_of points (Some turn) = with_head turn.number (head_of points turn.number)

abbrev pub who_answer : Schedule → Option (ℕ × ℕ)
who_answer line = who_of line.points (next_turn line.services)

-- ---- the questions

abbrev pub service_rows : Schedule → ℕ → List Row
service_rows line number =
    row NoSuchService (nat_le service_places number) ∷
    row ServiceUnknown (not (is_some (record_at line.services number))) ∷
    []

abbrev pub service_answer : Schedule → ℕ → Result Service Refusal
service_answer line number =
    if nat_le service_places number then Err NoSuchService else ok_or (record_at line.services number) ServiceUnknown

abbrev pub point_rows : Schedule → ℕ → List Row
point_rows line number =
    row NoSuchPoint (nat_le point_places number) ∷
    row PointUnknown (not (is_some (record_at line.points number))) ∷
    []

abbrev pub point_answer : Schedule → ℕ → Result PointRecord Refusal
point_answer line number =
    if nat_le point_places number then Err NoSuchPoint else ok_or (option_map point_record (record_at line.points number)) PointUnknown
