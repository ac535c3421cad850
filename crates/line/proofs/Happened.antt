-- What an event leaves of a service, and what a request makes of it. Assumes nothing.
use Rattle.std.proofs.Common.{◌≡◌, ℕ, ◌≤◌, false, mul-le-mul_right, arith}
use Rattle.std.proofs.lemmas.Bool.Decides.{nat_tests}
use Rattle.line.specs.declared.events.Event.{Event}
use Rattle.line.specs.declared.events.Event.TheVariants.{Request}
use Rattle.line.specs.declared.services.Service.{Service}
use Rattle.line.specs.Events.{after_event}
use Rattle.line.specs.Services.{empty_state}
use Rattle.line.proofs.Fitting.{Fitting, Steady}

-- a service keeps its reservation and its count
pub record SamePlan (before after : Service) : Type 0 where
  pub reservation : after.reservation ≡ before.reservation
  pub served : after.served ≡ before.served

pub keeps_plan : (service : Service) (event : Event) (clock : ℕ) → SamePlan service (after_event service event clock)
keeps_plan service event clock = grind arith

-- a service that has got a job is not empty
pub request_busy : (service : Service) (stretch clock : ℕ) → empty_state (after_event service (Request stretch) clock).state ≡ false
request_busy service stretch clock = grind arith

-- a service that has got a job keeps as much as its state says
pub request_steady : (service : Service) (stretch clock : ℕ) → Fitting service.reservation → Steady clock service → stretch ≤ service.reservation.max_stretch → Steady clock (after_event service (Request stretch) clock)
request_steady service stretch clock fine is allowed =
    let longer = mul-le-mul_right service.reservation.period allowed in grind (arith, nat_tests)
