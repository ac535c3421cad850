-- The laws of calls that are done. Assumes nothing.
use Rattle.std.proofs.Common.{◌≡◌, ℕ, ◌<◌, length, ℤ, OnOk, Some, None, Result, refl, ap, arith}
use Rattle.std.specs.Result.{result_err}
use Rattle.line.specs.declared.events.Event.TheVariants.{Request}
use Rattle.line.specs.declared.points.Point.{Point}
use Rattle.line.specs.declared.points.PointRecord.{PointRecord}
use Rattle.line.specs.declared.refusals.Refusal.{Refusal}
use Rattle.line.specs.declared.schedule.Schedule.{Schedule}
use Rattle.line.specs.declared.services.Reservation.{Reservation}
use Rattle.line.specs.declared.services.Service.{Service}
use Rattle.line.specs.Bounds.{point_places}
use Rattle.line.specs.Calls.{reserve_rows, reserve_answer, reserved, after_reserve, enrol_rows, enrol_answer, enrolled, after_enrol, request_rows, request_answer, requested, after_request, who_of, point_answer}
use Rattle.line.specs.Laws.{Reserves, Enrols, Requests, Belongs, Stretched}
use Rattle.line.specs.Events.{after_event}
use Rattle.line.specs.Points.{point_record}
use Rattle.line.specs.Refusals.{Smallest}
use Rattle.line.specs.Services.{new_service}
use Rattle.line.specs.Sound.{Sound}
use Rattle.line.specs.Turns.{next_turn}
use Rattle.line.proofs.Fitting.{allowance}
use Rattle.line.proofs.Happened.{keeps_plan}
use Rattle.line.proofs.Heads.{head_same}
use Rattle.line.proofs.Named.{turns_same, heads_same}
use Rattle.line.proofs.Refused.{answers_smallest, told_if_done}
use Rattle.line.proofs.Requested.{service_inside, at_request}
use Rattle.line.proofs.Shares.{shares_more, shares_kept}
use Rattle.line.proofs.Soundness.{Admitted, admitted, Joined, joined, enrolled_jobs}
use Rattle.line.proofs.Records.{placed, there_inside}
use Rattle.line.specs.Tables.{record_at}

reserved_told : (line : Schedule) (number : ℕ) (asked : Reservation) → Sound line → Admitted line number asked → Reserves line (reserved line number asked) number asked
reserved_told line number asked sound ok =
    let inside : number < length line.services.records = omega arith in
    record {
      told = grind (arith, placed);
      others = λ k other. grind (arith, placed);
      points = λ k. refl;
      shares = shares_more line.services number (new_service asked line.clock) inside ok.free;
      who = ap (who_of line.points) (turns_same line.services (reserved line number asked).services (λ k. grind (arith, placed)));
      clock = refl;
      unused = refl;
    }

pub reserve_told : (line after : Schedule) (number : ℕ) (asked : Reservation) (answer : Result (Unit {0}) Refusal) → Sound line → answer ≡ reserve_answer line number asked → after ≡ after_reserve line number asked → OnOk answer (Reserves line after number asked)
reserve_told line after number asked answer sound answered ruled =
    told_if_done (λ l. Reserves line l number asked) answer (reserve_answer line number asked) after _ line answered ruled
    (λ done. reserved_told line number asked sound (admitted line number asked done))

pub reserve_smallest : (line : Schedule) (number : ℕ) (asked : Reservation) (answer : Result (Unit {0}) Refusal) → answer ≡ reserve_answer line number asked → Smallest (reserve_rows line number asked) (result_err answer)
reserve_smallest line number asked answer answered = answers_smallest (reserve_rows line number asked) answer refl answered

enrolled_told : (line : Schedule) (point service : ℕ) (threshold : ℤ) → Sound line → Joined line point service → Enrols line (enrolled line point service threshold) point service threshold
enrolled_told line point service threshold sound ok =
    let inside : point < length line.points.records = omega arith in
    let after = enrolled line point service threshold in
    record {
      told = grind (arith, placed);
      others = λ k other. grind (arith, placed);
      services = λ k. refl;
      shares = refl;
      who = heads_same line.points after.points (λ k. head_same line.points after.points k (enrolled_jobs line.points point service threshold inside ok.free k)) (next_turn line.services);
      clock = refl;
      unused = refl;
    }

pub enrol_told : (line after : Schedule) (point service : ℕ) (threshold : ℤ) (answer : Result (Unit {0}) Refusal) → Sound line → answer ≡ enrol_answer line point service → after ≡ after_enrol line point service threshold → OnOk answer (Enrols line after point service threshold)
enrol_told line after point service threshold answer sound answered ruled =
    told_if_done (λ l. Enrols line l point service threshold) answer (enrol_answer line point service) after _ line answered ruled
    (λ done. enrolled_told line point service threshold sound (joined line point service done))

pub enrol_smallest : (line : Schedule) (point service : ℕ) (answer : Result (Unit {0}) Refusal) → answer ≡ enrol_answer line point service → Smallest (enrol_rows line point service) (result_err answer)
enrol_smallest line point service answer answered = answers_smallest (enrol_rows line point service) answer refl answered

requested_told : (line : Schedule) (number : ℕ) → Sound line → (point : Point) (service : Service) → number < point_places → record_at line.points number ≡ Some point → point.job ≡ None → record_at line.services point.service ≡ Some service → Requests line (requested line number (Some point)) number
requested_told line number sound point service inside found quiet served_by =
    let there = service_inside line number point sound found in
    let after = after_event service (Request point.stretch) line.clock in
    record {
      point = point_record point;
      asked = grind arith;
      idle = grind arith;
      told = grind (arith, placed);
      others = λ k other. grind (arith, placed);
      service = service;
      served_by = grind arith;
      moved = grind (arith, placed);
      other_services = λ k other. grind (arith, placed);
      shares = rw served_by (shares_kept line.services point.service after there (grind (arith, keeps_plan service (Request point.stretch) line.clock)));
      clock = refl;
      unused = refl;
    }

pub request_told : (line after : Schedule) (number : ℕ) (answer : Result (Unit {0}) Refusal) → Sound line → answer ≡ request_answer line number → after ≡ after_request line number → OnOk answer (Requests line after number)
request_told line after number answer sound answered ruled =
    told_if_done (λ l. Requests line l number) answer (request_answer line number) after _ line answered ruled
    (at_request (λ l. Requests line l number) line number sound (requested_told line number sound))

pub request_smallest : (line : Schedule) (number : ℕ) (answer : Result (Unit {0}) Refusal) → answer ≡ request_answer line number → Smallest (request_rows line number) (result_err answer)
request_smallest line number answer answered = answers_smallest (request_rows line number) answer refl answered

-- ---- a point's service

pub point_belongs : (line : Schedule) (number : ℕ) (answer : Result PointRecord Refusal) → Sound line → answer ≡ point_answer line number → Belongs line answer
point_belongs line number answer sound ruled = grind (arith, there_inside, sound.belongs number)

pub point_stretched : (line : Schedule) (number : ℕ) (answer : Result PointRecord Refusal) → Sound line → answer ≡ point_answer line number → Stretched line answer
point_stretched line number answer sound ruled = grind (arith, allowance, sound.stretches number)
