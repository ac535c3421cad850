-- Services: a reservation of so many slots in every period, its share of the line, and the table of 32. Assumes nothing.
use Rattle.std.specs.Prelude.{ℕ, ◌+◌, ◌*◌, ◌/◌, ◌%◌, Bool, true, false, not, ◌&&◌, ◌||◌, List, ◌++◌, sum_by, Some, None, codes, decimal, Option, ◌==◌, nat_le, nat_lt}
use Rattle.line.specs.declared.services.Reservation.{Reservation}
use Rattle.line.specs.declared.services.Service.{Service}
use Rattle.line.specs.declared.services.State.{State}
use Rattle.line.specs.declared.services.State.TheVariants.{Empty, Active, ShortWait, LongWait}
use Rattle.line.specs.declared.tables.Table.{Table}
use Rattle.line.specs.Bounds.{full_share, service_places, stretch_limit}

-- a period is a divisor of the full share
abbrev pub bad_period : ℕ → Bool
bad_period period = period == 0 || not (full_share % period == 0)

-- a budget is some slots of the period, at most all
abbrev pub bad_budget : ℕ → ℕ → Bool
bad_budget budget period = budget == 0 || nat_lt period budget

-- a largest stretch is 1 to the limit
abbrev pub bad_stretch : ℕ → Bool
bad_stretch most = most == 0 || nat_lt stretch_limit most

-- what is asked could be reserved
abbrev pub good : Reservation → Bool
good asked = not (bad_period asked.period) && (not (bad_budget asked.budget asked.period) && not (bad_stretch asked.max_stretch))

-- the part of the full share that its budget in every period comes to
unfoldable pub share_of : Reservation → ℕ
share_of asked = asked.budget * (full_share / asked.period)

-- the table of services
abbrev pub Services : Type 0
Services = Table Service service_places

-- a service as it is reserved: no job waits, nothing is left of its budget, and its deadline is now
abbrev pub new_service : Reservation → ℕ → Service
new_service asked clock = record {
  reservation = asked;
  remaining = 0;
  deadline = clock;
  served = 0;
  state = Empty;
}

abbrev pub record_share : Option Service → ℕ
record_share None = 0
record_share (Some service) = share_of service.reservation

-- the shares of all services, added up
abbrev pub shares_of : Services → ℕ
shares_of services = sum_by record_share services.records

-- the slots that a record tells as had
abbrev pub record_served : Option Service → ℕ
record_served None = 0
record_served (Some service) = service.served

-- the slots had by all services, added up
abbrev pub served_of : Services → ℕ
served_of services = sum_by record_served services.records

-- what a record holds could be reserved
abbrev pub fit : Option Service → Bool
fit None = true
fit (Some service) = good service.reservation

-- no job waits for what a record holds
abbrev pub empty_state : State → Bool
empty_state Empty = true
empty_state Active = false
empty_state (ShortWait wake) = false
empty_state (LongWait wake) = false

abbrev pub idle : Option Service → Bool
idle None = true
idle (Some service) = empty_state service.state

-- a service is active with something left of its budget, and waits with nothing
abbrev pub left_in : State → ℕ → Bool
left_in Empty remaining = true
left_in Active remaining = nat_lt 0 remaining
left_in (ShortWait wake) remaining = remaining == 0
left_in (LongWait wake) remaining = remaining == 0

-- the time that its largest stretch can add to a wait
abbrev pub longest_wait : Service → ℕ
longest_wait service = service.reservation.max_stretch * service.reservation.period

-- what a record holds has no more than its budget left, as its state says, and is due within its largest stretch
abbrev pub steady : ℕ → Option Service → Bool
steady clock None = true
steady clock (Some service) = nat_le service.remaining service.reservation.budget && (left_in service.state service.remaining && nat_le service.deadline (clock + longest_wait service))

-- a state as it is printed
abbrev pub state_words : State → List ℕ
state_words Empty = codes "empty"
state_words Active = codes "active"
state_words (ShortWait wake) = codes "short wait to " ++ decimal wake
state_words (LongWait wake) = codes "long wait to " ++ decimal wake
