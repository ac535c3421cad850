-- Points: one meter each, enrolled with a service, and the table of 256. Assumes nothing.
use Rattle.std.specs.Prelude.{ℕ, Bool, true, false, ◌&&◌, ℤ, is_some, Some, None, Option, nat_le}
use Rattle.line.specs.declared.points.Point.{Point}
use Rattle.line.specs.declared.points.PointRecord.{PointRecord}
use Rattle.line.specs.declared.services.Service.{Service}
use Rattle.line.specs.declared.tables.Table.{Table}
use Rattle.line.specs.Bounds.{point_places}
use Rattle.line.specs.Services.{Services}
use Rattle.line.specs.Tables.{record_at}

-- a point as it is enrolled: its first job is important, and no result is known
abbrev pub new_point : ℕ → ℤ → Point
new_point service threshold = record {
  service = service;
  threshold = threshold;
  result = None;
  stretch = 1;
  job = None;
}

-- the table of points
abbrev pub Points : Type 0
Points = Table Point point_places

-- what a record holds belongs to a service that is reserved
abbrev pub has_service : Services → Option Point → Bool
has_service services None = true
has_service services (Some point) = is_some (record_at services point.service)

-- the stretch of its next job is one that its service allows
abbrev pub stretch_within : ℕ → Option Service → Bool
stretch_within stretch None = true
stretch_within stretch (Some service) = nat_le 1 stretch && nat_le stretch service.reservation.max_stretch

abbrev pub allowed : Services → Option Point → Bool
allowed services None = true
allowed services (Some point) = stretch_within point.stretch (record_at services point.service)

-- what a record holds has a job waiting
abbrev pub waits : Option Point → Bool
waits None = false
waits (Some point) = is_some point.job

-- a point whose job is the one of this place in the order of requests
abbrev pub asking : Point → ℕ → Point
asking point order = record point { job = Some order }

-- what the question tells of a point
abbrev pub point_record : Point → PointRecord
point_record point = record {
  service = point.service;
  threshold = point.threshold;
  result = point.result;
  stretch = point.stretch;
  waiting = is_some point.job;
}
