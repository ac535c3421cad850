-- Lives: one line with one judge, started fresh, and one call after another. Assumes nothing.
use Rattle.std.specs.Prelude.{ℕ, ◌+◌, if◌then◌else◌, List, [], ◌∷◌, ℤ, Some, None, Ok, Err, Option, Result, ◌==◌}
use Rattle.judge.specs.Meanings.{Meaning}
use Rattle.line.specs.declared.refusals.Refusal.{Refusal}
use Rattle.line.specs.declared.schedule.Schedule.{Schedule}
use Rattle.line.specs.declared.services.Reservation.{Reservation}
use Rattle.line.specs.Calls.{fresh, after_reserve, after_enrol, after_request}
use Rattle.line.specs.Slots.{slot_answer, after_slot}

-- what can be asked of a line: the record of a service or a point, the clock, the unused slots, the sum of shares
pub data Question : Type 0 where
  OfService : ℕ → Question
  OfPoint : ℕ → Question
  OfClock : Question
  OfUnused : Question
  OfShares : Question

-- one call, with any numbers
pub data Call : Type 0 where
  -- number, and what is asked
  Reserve : ℕ → Reservation → Call
  -- point, service, threshold
  Enrol : ℕ → ℕ → ℤ → Call
  -- point
  Request : ℕ → Call
  Who : Call
  -- the result with which the job of the slot ended, if it did
  Slot : Option ℤ → Call
  Ask : Question → Call

-- the line after one call
abbrev pub after_call : Meaning → Schedule → Call → Schedule
after_call meaning line (Reserve number asked) = after_reserve line number asked
after_call meaning line (Enrol point service threshold) = after_enrol line point service threshold
after_call meaning line (Request point) = after_request line point
after_call meaning line Who = line
after_call meaning line (Slot told) = after_slot meaning line told
after_call meaning line (Ask question) = line

-- the line after some calls, one after another
abbrev pub after_calls : Meaning → Schedule → List Call → Schedule
after_calls meaning line [] = line
after_calls meaning line (call ∷ rest) = after_calls meaning (after_call meaning line call) rest

-- where a life stands after its calls so far
abbrev pub life : Meaning → List Call → Schedule
life meaning calls = after_calls meaning fresh calls

-- ---- slots, and whose they were

-- a slot call that is not refused is one slot
abbrev pub one_slot : Result (Option (ℕ × ℕ)) Refusal → ℕ
one_slot (Ok next) = 1
one_slot (Err refusal) = 0

abbrev pub slot_of : Schedule → Call → ℕ
slot_of line (Reserve number asked) = 0
slot_of line (Enrol point service threshold) = 0
slot_of line (Request point) = 0
slot_of line Who = 0
slot_of line (Slot told) = one_slot (slot_answer line told)
slot_of line (Ask question) = 0

-- it is a service's slot if it answered that service
abbrev pub named_in : ℕ → Option (ℕ × ℕ) → ℕ
named_in number None = 0
named_in number (Some named) = if named.0 == number then 1 else 0

abbrev pub own_slot : ℕ → Result (Option (ℕ × ℕ)) Refusal → ℕ
own_slot number (Ok next) = named_in number next
own_slot number (Err refusal) = 0

abbrev pub count_of : ℕ → Schedule → Call → ℕ
count_of number line (Reserve reserved asked) = 0
count_of number line (Enrol point service threshold) = 0
count_of number line (Request point) = 0
count_of number line Who = 0
count_of number line (Slot told) = own_slot number (slot_answer line told)
count_of number line (Ask question) = 0

-- the slots among some calls
abbrev pub slots_in : Meaning → Schedule → List Call → ℕ
slots_in meaning line [] = 0
slots_in meaning line (call ∷ rest) = slot_of line call + slots_in meaning (after_call meaning line call) rest

-- how many of them answered a service
abbrev pub count_in : Meaning → ℕ → Schedule → List Call → ℕ
count_in meaning number line [] = 0
count_in meaning number line (call ∷ rest) = count_of number line call + count_in meaning number (after_call meaning line call) rest

-- something holds after each of some calls
abbrev pub AfterEach : Meaning → (Schedule → Type 0) → Schedule → List Call → Type 0
AfterEach meaning Holds line [] = Unit {0}
AfterEach meaning Holds line (call ∷ rest) = Holds (after_call meaning line call) × AfterEach meaning Holds (after_call meaning line call) rest
