-- What happens to a service, and the state that follows. Assumes nothing.
use Rattle.std.specs.Prelude.{ℕ, ◌+◌, ◌-◌, ◌*◌, ◌≤◌, min, Bool, if◌then◌else◌, ◌||◌, ◌==◌, nat_le, nat_lt, slice_set}
use Rattle.std.specs.Option.{option_map}
use Rattle.line.specs.declared.events.Event.{Event}
use Rattle.line.specs.declared.events.Event.TheVariants.{Request, Exhaustion, WakeUp}
use Rattle.line.specs.declared.services.Service.{Service}
use Rattle.line.specs.declared.services.State.{State}
use Rattle.line.specs.declared.services.State.TheVariants.{Empty, Active, ShortWait, LongWait}
use Rattle.line.specs.Bounds.{clock_end, deadline_end}
use Rattle.line.specs.Tables.{record_at}
use Rattle.line.specs.Services.{Services}

-- its deadline and the clock are so small that periods can be added to each
pub record InTime (service : Service) (clock : ℕ) : Type 0 where
  pub deadline : service.deadline ≤ deadline_end
  pub early : clock ≤ clock_end

-- a service in another state, and else as it was
abbrev pub in_state : Service → State → Service
in_state service state = record service { state = state }

-- a service with its whole budget again, due in as many periods as the stretch says
abbrev pub replenished : Service → ℕ → ℕ → Service
replenished service stretch clock = record service {
  remaining = service.reservation.budget;
  deadline = clock + stretch * service.reservation.period;
  state = Active;
}

-- out of budget: an important head waits to the deadline, a stretched one as many periods longer
abbrev pub wait_of : Service → ℕ → State
wait_of service stretch =
    if stretch == 1 then ShortWait service.deadline else LongWait (service.deadline + stretch * service.reservation.period)

-- its deadline has come, or it has at least its share of the time that is left to it; no stretch enters
abbrev pub starts_anew : Service → ℕ → Bool
starts_anew service clock =
    nat_le service.deadline clock || nat_le (service.reservation.budget * (service.deadline - clock)) (service.remaining * service.reservation.period)

-- an empty service that gets a job of this stretch
abbrev pub started : Service → ℕ → ℕ → Service
started service stretch clock =
    if starts_anew service clock then replenished service stretch clock
    else (if nat_lt 0 service.remaining then in_state service Active else in_state service (wait_of service stretch))

-- a service in long wait that gets a job of this stretch: an important one shortens the wait
abbrev pub shortened : Service → ℕ → ℕ → ℕ → Service
shortened service wake stretch clock =
    if stretch == 1 then in_state service (ShortWait (min wake (clock + service.reservation.period))) else service

-- a service after an event at this clock, by its state
abbrev pub next : State → Event → Service → ℕ → Service
next Empty (Request stretch) service clock = started service stretch clock
next Empty (Exhaustion stretch) service clock = service
next Empty (WakeUp stretch) service clock = service
next Active (Request stretch) service clock = service
next Active (Exhaustion stretch) service clock = in_state service (wait_of service stretch)
next Active (WakeUp stretch) service clock = service
next (ShortWait wake) (Request stretch) service clock = service
next (ShortWait wake) (Exhaustion stretch) service clock = service
next (ShortWait wake) (WakeUp stretch) service clock = replenished service stretch clock
next (LongWait wake) (Request stretch) service clock = shortened service wake stretch clock
next (LongWait wake) (Exhaustion stretch) service clock = service
next (LongWait wake) (WakeUp stretch) service clock = replenished service stretch clock

abbrev pub after_event : Service → Event → ℕ → Service
after_event service event clock = next service.state event service clock

-- the table after an event at one of its services
abbrev pub with_event : Services → ℕ → Event → ℕ → Services
with_event services number event clock = record {
  records = slice_set services.records number (option_map (λ service. after_event service event clock) (record_at services number));
}
