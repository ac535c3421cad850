-- The limits on slots, as one statement over every life and every judge. No slot runs yet, so no contract makes it and no proof shows it.
-- Assumes nothing.
use Rattle.std.specs.Prelude.{◌≡◌, ℕ, ◌+◌, ◌-◌, ◌*◌, ◌≤◌, List, IsErr, Ok}
use Rattle.judge.specs.Meanings.{Meaning, InRange}
use Rattle.line.specs.declared.services.Service.{Service}
use Rattle.line.specs.declared.services.State.TheVariants.{Active}
use Rattle.line.specs.Calls.{fresh, service_answer}
use Rattle.line.specs.Laws.{Busy}
use Rattle.line.specs.Lives.{Call, after_calls, life, slots_in, count_in, AfterEach}

-- Slots in a row are those of some calls one after another, wherever these begin and end: a life has its calls before them, and
-- then those among which the slots are. The service is the one that its question tells when they begin.
module _ (meaning : Meaning) where
  -- a service is reserved, with this record, after these calls of a life
  abbrev pub Told : List Call → ℕ → Service → Type 0
  Told calls number service = service_answer (life meaning calls) number ≡ Ok service

  -- in any slots in a row since the reservation
  abbrev pub Ceiling : Type 0
  Ceiling = (before during : List Call) (number : ℕ) (service : Service) → Told before number service →
      count_in meaning number (life meaning before) during * service.reservation.period
      ≤ service.reservation.budget * (slots_in meaning (life meaning before) during + 2 * (service.reservation.period - service.reservation.budget))

  -- over (2 × n + 1) × A × P slots in a row, with a job of the service waiting after each call
  abbrev pub Floor : Type 0
  Floor = (before during : List Call) (number : ℕ) (service : Service) → Told before number service → (n : ℕ) →
      slots_in meaning (life meaning before) during ≡ (2 * n + 1) * (service.reservation.max_stretch * service.reservation.period) →
      AfterEach meaning (λ line. Busy line number) (life meaning before) during →
      n * service.reservation.budget ≤ count_in meaning number (life meaning before) during

  -- whenever a life is stopped
  abbrev pub Ahead : Type 0
  Ahead = (calls : List Call) (number : ℕ) (service : Service) → Told calls number service → service.state ≡ Active →
      (life meaning calls).clock + service.remaining ≤ service.deadline

  -- the count since the reservation is the one that the question tells
  abbrev pub Counted : Type 0
  Counted = (before during : List Call) (number : ℕ) (service : Service) → IsErr (service_answer (life meaning before) number) →
      service_answer (after_calls meaning (life meaning before) during) number ≡ Ok service →
      count_in meaning number (life meaning before) during ≡ service.served

  -- a life has as many slots as its clock tells
  abbrev pub Clocked : Type 0
  Clocked = (calls : List Call) → slots_in meaning fresh calls ≡ (life meaning calls).clock

  pub record Held : Type 0 where
    pub ceiling : Ceiling
    pub floor : Floor
    pub ahead : Ahead
    pub counted : Counted
    pub clocked : Clocked

-- whatever the judge, as long as its stretches are within range
abbrev pub Limits : Type 0
Limits = (meaning : Meaning) → InRange meaning → Held meaning
