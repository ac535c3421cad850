-- That a service is empty exactly when no job of it waits, as the questions tell it. Assumes nothing.
use Rattle.std.proofs.Common.{◌≡◌, ℕ, true, false, is_some, Some, None, Ok, Err, Option, Result, sym, arith}
use Rattle.urgency.specs.Urgency.{First}
use Rattle.line.specs.declared.jobs.Job.{Job}
use Rattle.line.specs.declared.points.PointRecord.{PointRecord}
use Rattle.line.specs.declared.refusals.Refusal.{Refusal}
use Rattle.line.specs.declared.schedule.Schedule.{Schedule}
use Rattle.line.specs.declared.services.Service.{Service}
use Rattle.line.specs.declared.services.State.TheVariants.{Empty}
use Rattle.line.specs.Bounds.{point_places}
use Rattle.line.specs.Calls.{service_answer, point_answer}
use Rattle.line.specs.Jobs.{job_before, job_at, head_of}
use Rattle.line.specs.Laws.{Busy, Standing, Stands}
use Rattle.line.specs.Points.{point_record}
use Rattle.line.specs.Sound.{Sound}
use Rattle.line.proofs.Fitting.{steadying}
use Rattle.line.proofs.Heads.{head_first}
use Rattle.line.proofs.Read.{service_read, point_read, job_read}
use Rattle.line.specs.Tables.{record_at}

-- a head is a job
some_job : (line : Schedule) (number : ℕ) (head : Option Job) → First job_before (job_at line.points number) point_places head → is_some head ≡ true → Busy line number
some_job line number None none there = cc
some_job line number (Some job) ((place, at), others) there =
    let read = job_read number place (record_at line.points place) job at.1 in
    (place, (point_record read.point, grind arith))

-- no job of an empty service waits
at_rest : (line : Schedule) (number : ℕ) (service : Service) → Sound line → service_answer line number ≡ Ok service → service.state ≡ Empty → (place : ℕ) (point : PointRecord) → point_answer line place ≡ Ok point → point.service ≡ number → point.waiting ≡ false
at_rest line number service sound told empty place point answer belongs =
    grind (arith, point_read line place point answer, service_read line number service told, sound.empties number, head_first line.points number)

standing : (line : Schedule) (number : ℕ) (service : Service) → Sound line → service_answer line number ≡ Ok service → Standing line number service
standing line number service sound told =
    let read = service_read line number service told in
    let kept = steadying line.clock service (grind (arith, sound.steadies number)) in
    record {
      idle = at_rest line number service sound told;
      busy = λ other. some_job line number (head_of line.points number) (head_first line.points number) (grind (arith, sound.empties number));
      active = λ is. grind arith;
      spent = λ wake is. grind arith;
      within = kept.within;
      due = kept.due;
    }

pub stands : (line : Schedule) (number : ℕ) (answer : Result Service Refusal) → Sound line → answer ≡ service_answer line number → Stands line number answer
stands line number (Ok service) sound ruled = standing line number service sound (sym ruled)
stands line number (Err refusal) sound ruled = tt
