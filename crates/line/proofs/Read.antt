-- What the answer to a question tells of the table. Assumes nothing.
use Rattle.std.proofs.Common.{◌≡◌, ℕ, ◌<◌, Some, Ok, Option, arith}
use Rattle.line.specs.declared.jobs.Job.{Job}
use Rattle.line.specs.declared.points.Point.{Point}
use Rattle.line.specs.declared.points.PointRecord.{PointRecord}
use Rattle.line.specs.declared.schedule.Schedule.{Schedule}
use Rattle.line.specs.declared.services.Service.{Service}
use Rattle.line.specs.declared.services.State.TheVariants.{Active}
use Rattle.line.specs.declared.turns.Turn.{Turn}
use Rattle.line.specs.Bounds.{service_places, point_places}
use Rattle.line.specs.Calls.{service_answer, point_answer}
use Rattle.line.specs.Jobs.{waiting_job}
use Rattle.line.specs.Points.{point_record}
use Rattle.line.specs.Turns.{turn_of}
use Rattle.line.specs.Tables.{record_at}

-- ---- services

pub service_read : (line : Schedule) (number : ℕ) (service : Service) → service_answer line number ≡ Ok service → (number < service_places) × (record_at line.services number ≡ Some service)
service_read line number service told = grind arith

-- an active service with its turn
pub record TurnRead (held : Option Service) (number : ℕ) (turn : Turn) : Type 0 where
  pub service : Service
  pub found : held ≡ Some service
  pub active : service.state ≡ Active
  pub deadline : turn.deadline ≡ service.deadline
  pub number_is : turn.number ≡ number

pub turn_read : (held : Option Service) (number : ℕ) (turn : Turn) → turn_of number held ≡ Some turn → TurnRead held number turn
turn_read held number turn told = grind arith

-- ---- points

pub point_read : (line : Schedule) (number : ℕ) (told : PointRecord) → point_answer line number ≡ Ok told → (point : Point) × ((number < point_places) × ((record_at line.points number ≡ Some point) × (told ≡ point_record point)))
point_read line number told answer = grind arith

-- a point with its waiting job
pub record JobRead (service number : ℕ) (held : Option Point) (job : Job) : Type 0 where
  pub point : Point
  pub found : held ≡ Some point
  pub belongs : point.service ≡ service
  pub waits : point.job ≡ Some job.order
  pub stretch : job.stretch ≡ point.stretch
  pub number_is : job.point ≡ number

pub job_read : (service number : ℕ) (held : Option Point) (job : Job) → waiting_job service number held ≡ Some job → JobRead service number held job
job_read service number held job told = grind arith
