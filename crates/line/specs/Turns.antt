-- Active services in their turn. Assumes nothing.
use Rattle.std.specs.Prelude.{ℕ, Bool, Some, None, Option}
use Rattle.urgency.specs.Keys.{by, by_then}
use Rattle.urgency.specs.Urgency.{most_urgent}
use Rattle.line.specs.declared.services.Service.{Service}
use Rattle.line.specs.declared.services.State.{State}
use Rattle.line.specs.declared.services.State.TheVariants.{Empty, Active, ShortWait, LongWait}
use Rattle.line.specs.declared.turns.Turn.{Turn}
use Rattle.line.specs.Bounds.{service_places}
use Rattle.line.specs.Tables.{record_at}
use Rattle.line.specs.Services.{Services}

-- the smaller deadline first, among equals the smaller number
abbrev pub turn_before : Turn → Turn → Bool
turn_before = by_then (λ turn. turn.deadline) (by (λ turn. turn.number))

-- an active service waits for its turn
abbrev pub turn_in : State → ℕ → ℕ → Option Turn
turn_in Empty number deadline = None
turn_in Active number deadline = Some record { deadline = deadline; number = number }
turn_in (ShortWait wake) number deadline = None
turn_in (LongWait wake) number deadline = None

abbrev pub turn_of : ℕ → Option Service → Option Turn
turn_of number None = None
turn_of number (Some service) = turn_in service.state number service.deadline

abbrev pub turn_at : Services → ℕ → Option Turn
turn_at services number = turn_of number (record_at services number)

-- the active service that runs next
abbrev pub next_turn : Services → Option Turn
next_turn services = most_urgent turn_before (turn_at services) service_places
