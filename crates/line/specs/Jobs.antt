-- Waiting jobs: their order, and the head of a service. Assumes nothing.
use Rattle.std.specs.Prelude.{ℕ, Bool, true, if◌then◌else◌, not, count_by, Some, None, Option, ◌==◌, nat_lt}
use Rattle.std.specs.Option.{option_map}
use Rattle.urgency.specs.Keys.{by, by_then}
use Rattle.urgency.specs.Urgency.{most_urgent}
use Rattle.line.specs.declared.jobs.Job.{Job}
use Rattle.line.specs.declared.points.Point.{Point}
use Rattle.line.specs.Bounds.{point_places}
use Rattle.line.specs.Points.{Points, waits}
use Rattle.line.specs.Tables.{record_at}

-- the smaller stretch first, among equals the one requested first; the point, which never decides, makes any two jobs differ
abbrev pub job_before : Job → Job → Bool
job_before = by_then (λ job. job.stretch) (by_then (λ job. job.order) (by (λ job. job.point)))

-- a point's job in its place in the order of requests
abbrev pub job_of : Point → ℕ → ℕ → Job
job_of held point order = record { stretch = held.stretch; order = order; point = point }

-- what a place of the table has for this service
abbrev pub waiting_job : ℕ → ℕ → Option Point → Option Job
waiting_job service point None = None
waiting_job service point (Some held) = if held.service == service then option_map (job_of held point) held.job else None

abbrev pub job_at : Points → ℕ → ℕ → Option Job
job_at points service point = waiting_job service point (record_at points point)

-- the job that the next slot of a service runs
abbrev pub head_of : Points → ℕ → Option Job
head_of points service = most_urgent job_before (job_at points service) point_places

-- ---- the order of requests

-- the place of a point's waiting job in the order of requests
abbrev pub order_of : Option Point → Option ℕ
order_of None = None
order_of (Some point) = point.job

abbrev pub order_at : Points → ℕ → Option ℕ
order_at points number = order_of (record_at points number)

-- a place in the order that is given out already
abbrev pub given_out : ℕ → Option ℕ → Bool
given_out requests None = true
given_out requests (Some order) = nat_lt order requests

-- two jobs, or one and none, have not one place
abbrev pub differ : Option ℕ → Option ℕ → Bool
differ None other = true
differ (Some order) None = true
differ (Some order) (Some other) = not (order == other)

-- how many jobs wait
abbrev pub jobs_of : Points → ℕ
jobs_of points = count_by waits points.records
