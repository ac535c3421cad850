-- The tests on a service's record, read as facts on its numbers. Assumes nothing.
use Rattle.std.proofs.Common.{◌≡◌, ℕ, ◌+◌, ◌≤◌, true, Some, None, Option, mod-eq_of_lt, mul-le-mul, arith}
use Rattle.line.specs.declared.services.Reservation.{Reservation}
use Rattle.line.specs.declared.services.Service.{Service}
use Rattle.line.specs.Bounds.{full_share, stretch_limit, clock_end, deadline_end}
use Rattle.line.specs.Points.{stretch_within}
use Rattle.line.specs.Services.{good, fit, left_in, longest_wait, steady}

-- what can be reserved has
pub record Fitting (asked : Reservation) : Type 0 where
  pub short_period : asked.period ≤ full_share
  pub within : asked.budget ≤ asked.period
  pub some_budget : 1 ≤ asked.budget
  pub some_stretch : 1 ≤ asked.max_stretch
  pub short_stretch : asked.max_stretch ≤ stretch_limit

-- a good period is within the full share, since it divides that
pub fitting : (asked : Reservation) → good asked ≡ true → Fitting asked
fitting asked fits = grind (arith, mod-eq_of_lt)

-- what a service keeps of its budget and its deadline
pub record Steady (clock : ℕ) (service : Service) : Type 0 where
  pub within : service.remaining ≤ service.reservation.budget
  pub left : left_in service.state service.remaining ≡ true
  pub due : service.deadline ≤ clock + longest_wait service

pub steadying : (clock : ℕ) (service : Service) → steady clock (Some service) ≡ true → Steady clock service
steadying clock service is = grind arith

pub steadied : (clock : ℕ) (service : Service) → Steady clock service → steady clock (Some service) ≡ true
steadied clock service is = grind arith

-- a stretch that a service allows
pub allowance : (stretch : ℕ) (service : Service) → stretch_within stretch (Some service) ≡ true → (1 ≤ stretch) × (stretch ≤ service.reservation.max_stretch)
allowance stretch service is = grind arith

-- the numbers of a service are small at an event with a stretch that it allows
pub record Room (service : Service) (stretch : ℕ) : Type 0 where
  pub deadline : service.deadline ≤ deadline_end
  pub period : service.reservation.period ≤ full_share
  pub stretched : stretch ≤ stretch_limit

abbrev pub RoomAt : Option Service → ℕ → Type 0
RoomAt None stretch = Unit {0}
RoomAt (Some service) stretch = Room service stretch

pub room : (clock stretch : ℕ) (held : Option Service) → clock ≤ clock_end → fit held ≡ true → steady clock held ≡ true → stretch_within stretch held ≡ true → RoomAt held stretch
room clock stretch held early fits is allowed = grind (arith, fitting, steadying, allowance, mul-le-mul)
