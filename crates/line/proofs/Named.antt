-- Whom the next slot runs: before every other active service, and the point of a job before every other of it. Assumes nothing.
use Rattle.std.proofs.Common.{◌≡◌, ℕ, ◌<◌, true, Some, None, Option, refl, ap, arith, rules}
use Rattle.std.proofs.lemmas.Bool.Decides.{nat_tests}
use Rattle.std.proofs.lemmas.List.{get_or_past}
use Rattle.urgency.specs.Urgency.{First}
use Rattle.urgency.proofs.Found.{found, most_same}
use Rattle.line.specs.declared.jobs.Job.{Job}
use Rattle.line.specs.declared.schedule.Schedule.{Schedule}
use Rattle.line.specs.declared.turns.Turn.{Turn}
use Rattle.line.specs.Bounds.{service_places, point_places}
use Rattle.line.specs.Calls.{with_head, who_of, who_answer}
use Rattle.line.specs.Jobs.{job_before, job_of, job_at, head_of}
use Rattle.line.specs.Laws.{Earlier, Runs, Heads, Named}
use Rattle.line.specs.Services.{Services}
use Rattle.line.specs.Sound.{Sound}
use Rattle.line.specs.Turns.{turn_before, turn_at, next_turn}
use Rattle.line.proofs.Heads.{head_first}
use Rattle.line.proofs.Read.{service_read, turn_read, job_read}
use Rattle.line.specs.Tables.{record_at}
use Rattle.line.specs.Points.{Points}

-- ---- the order of services

pub next_first : (services : Services) → First turn_before (turn_at services) service_places (next_turn services)
next_first services = found turn_before (search rules) (search rules) (search rules) (turn_at services) service_places

-- ---- in words

turn_earlier : (a b : Turn) → turn_before a b ≡ true → Earlier a.deadline a.number b.deadline b.number
turn_earlier a b before = grind arith

-- the point never decides between two jobs of different places in the order of requests
job_earlier : (a b : Job) → (a.order ≡ b.order → ⊥) → job_before a b ≡ true → Earlier a.stretch a.order b.stretch b.order
job_earlier a b apart before = grind arith

-- ---- nobody

pub nobody : (line : Schedule) → First turn_before (turn_at line.services) service_places None → Named line None
nobody line none number service told active = grind (arith, service_read line number service told, none number)

-- ---- the service

pub runs : (line : Schedule) (turn : Turn) → First turn_before (turn_at line.services) service_places (Some turn) → Runs line turn.number
runs line turn (there, before) =
    let read = turn_read (record_at line.services there.0) there.0 turn there.1.1 in
    record {
      service = read.service;
      told = grind arith;
      active = read.active;
      before_others = λ other rival differs told active.
          let rival_read = service_read line other rival told in
          let first = before other rival_read.0 record { deadline = rival.deadline; number = other } in
          grind (arith, turn_earlier turn);
    }

-- ---- its head

pub heads : (line : Schedule) (service : ℕ) (job : Job) → Sound line → First job_before (job_at line.points service) point_places (Some job) → Heads line service job.point
heads line service job sound (there, before) =
    let read = job_read service there.0 (record_at line.points there.0) job there.1.1 in
    record {
      point = read.point;
      order = job.order;
      waits = grind arith;
      before_others = λ other rival place differs waits.
          let inside : other < point_places = grind (arith, get_or_past, sound.points) in
          let first = before other inside (job_of rival other place) (grind arith) in
          grind (arith, nat_tests, sound.orders job.point other, job_earlier job (job_of rival other place));
    }

-- a service that runs has a head
has_head : (line : Schedule) (number : ℕ) → Sound line → Runs line number → head_of line.points number ≡ None → ⊥
has_head line number sound run none = grind (arith, service_read line number run.service run.told, sound.empties number)

pub named : (line : Schedule) (answer : Option (ℕ × ℕ)) → Sound line → answer ≡ who_answer line → Named line answer
named line answer sound ruled = rw ruled (at_turn (next_turn line.services) (next_first line.services))
  where
    at_head : (number : ℕ) → Runs line number → (head : Option Job) → head_of line.points number ≡ head → First job_before (job_at line.points number) point_places head → Named line (with_head number head)
    at_head number run None is none = absurd (has_head line number sound run is)
    at_head number run (Some job) is first = (run, heads line number job sound first)

    at_turn : (turn : Option Turn) → First turn_before (turn_at line.services) service_places turn → Named line (who_of line.points turn)
    at_turn None none = nobody line none
    at_turn (Some turn) first = at_head turn.number (runs line turn first) (head_of line.points turn.number) refl (head_first line.points turn.number)

-- ---- what changes nobody's turn

-- the same turns and heads have the same answer
pub turns_same : (before after : Services) → ((k : ℕ) → turn_at after k ≡ turn_at before k) → next_turn after ≡ next_turn before
turns_same before after same = most_same turn_before (turn_at before) (turn_at after) service_places (λ k below. same k)

pub heads_same : (before after : Points) → ((k : ℕ) → head_of after k ≡ head_of before k) → (turn : Option Turn) → who_of after turn ≡ who_of before turn
heads_same before after same None = refl
heads_same before after same (Some turn) = ap (with_head turn.number) (same turn.number)
