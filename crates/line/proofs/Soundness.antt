-- That a fresh line is sound, and that a reservation and an enrolment leave it so. Assumes nothing.
use Rattle.std.proofs.Common.{◌≡◌, ℕ, ◌+◌, ◌<◌, ◌≤◌, true, not, length, ℤ, is_some, Some, None, Ok, Option, refl, arith}
use Rattle.std.proofs.lemmas.List.{length-set}
use Rattle.line.specs.declared.points.Point.{Point}
use Rattle.line.specs.declared.schedule.Schedule.{Schedule}
use Rattle.line.specs.declared.services.Reservation.{Reservation}
use Rattle.line.specs.declared.services.Service.{Service}
use Rattle.line.specs.Bounds.{full_share, service_places, point_places}
use Rattle.line.specs.Calls.{fresh, reserve_answer, reserved, after_reserve, enrol_answer, enrolled, after_enrol}
use Rattle.line.specs.Jobs.{job_at, head_of}
use Rattle.line.specs.Points.{Points, new_point, stretch_within}
use Rattle.line.specs.Services.{share_of, new_service, shares_of, fit, idle, steady}
use Rattle.line.specs.Sound.{Sound}
use Rattle.line.proofs.Fitting.{fitting}
use Rattle.line.proofs.Heads.{no_head, head_same, jobs_changed}
use Rattle.line.proofs.Refused.{settled_keeps}
use Rattle.line.proofs.Shares.{shares_more}
use Rattle.line.proofs.Records.{none_anywhere, placed, at_every_place}
use Rattle.line.specs.Tables.{no_records, record_at, with_record}

-- a line that is as the rule says keeps what the rule keeps
pub owed : (after rule : Schedule) → after ≡ rule → Sound rule → Sound after
owed after rule ruled sound = rw ruled sound

-- ---- a fresh line

pub fresh_sound : (line : Schedule) → line ≡ fresh → Sound line
unfolding no_records
fresh_sound line ruled = owed line fresh ruled record {
  within = omega arith;
  fits = λ k. rw none_anywhere;
  belongs = λ k. rw none_anywhere;
  clock = omega arith;
  steadies = λ k. rw none_anywhere;
  stretches = λ k. rw none_anywhere;
  empties = λ k. rw (none_anywhere, no_head no_records k (none_anywhere point_places));
  orders = λ a b other. rw (none_anywhere point_places a);
  given = λ k. rw none_anywhere;
  requests = omega arith;
  services = refl;
  points = refl;
}

-- ---- a reservation

-- what a reservation that is done has passed
pub record Admitted (line : Schedule) (number : ℕ) (asked : Reservation) : Type 0 where
  pub inside : number < service_places
  pub free : record_at line.services number ≡ None
  pub fits : fit (Some (new_service asked line.clock)) ≡ true
  pub room : shares_of line.services + share_of asked ≤ full_share

pub admitted : (line : Schedule) (number : ℕ) (asked : Reservation) → reserve_answer line number asked ≡ Ok tt → Admitted line number asked
admitted line number asked done = grind arith

reserved_sound : (line : Schedule) (number : ℕ) (asked : Reservation) → Sound line → Admitted line number asked → Sound (reserved line number asked)
reserved_sound line number asked sound ok =
    let inside : number < length line.services.records = omega arith in
    let new = new_service asked line.clock in
    record {
      within = grind (arith, shares_more);
      fits = at_every_place (λ k held. fit held ≡ true) line.services.records number new inside sound.fits ok.fits;
      belongs = λ k. grind (arith, placed, sound.belongs k);
      clock = sound.clock;
      steadies = at_every_place (λ k held. steady line.clock held ≡ true) line.services.records number new inside sound.steadies (grind arith);
      stretches = λ k. grind (arith, placed, sound.belongs k, sound.stretches k);
      empties = at_every_place (λ k held. idle held ≡ not (is_some (head_of line.points k))) line.services.records number new inside sound.empties (grind (arith, sound.empties number));
      orders = sound.orders;
      given = sound.given;
      requests = sound.requests;
      services = omega (arith, length-set {A = Option Service});
      points = sound.points;
    }

-- a line as the rule of a reservation says is sound again
pub reserve_sound : (line after : Schedule) (number : ℕ) (asked : Reservation) → after ≡ after_reserve line number asked → Sound line → Sound after
reserve_sound line after number asked ruled sound =
    owed after _ ruled (settled_keeps Sound (reserve_answer line number asked) _ line (λ done. reserved_sound line number asked sound (admitted line number asked done)) sound)

-- ---- an enrolment

-- what an enrolment that is done has passed
pub record Joined (line : Schedule) (point service : ℕ) : Type 0 where
  pub inside : point < point_places
  pub known : is_some (record_at line.services service) ≡ true
  pub free : record_at line.points point ≡ None

pub joined : (line : Schedule) (point service : ℕ) → enrol_answer line point service ≡ Ok tt → Joined line point service
joined line point service done = grind arith

-- the first stretch is allowed by every service
first_allowed : (held : Option Service) → fit held ≡ true → stretch_within 1 held ≡ true
first_allowed held fits = grind (arith, fitting)

-- a new point brings no job
pub enrolled_jobs : (points : Points) (point service : ℕ) (threshold : ℤ) → point < length points.records → record_at points point ≡ None → (s k : ℕ) → job_at (with_record points point (new_point service threshold)) s k ≡ job_at points s k
enrolled_jobs points point service threshold inside free s k = grind (arith, placed)

enrolled_sound : (line : Schedule) (point service : ℕ) (threshold : ℤ) → Sound line → Joined line point service → Sound (enrolled line point service threshold)
enrolled_sound line point service threshold sound ok =
    let inside : point < length line.points.records = omega arith in
    let new = new_point service threshold in
    let head = λ (k : ℕ). head_same line.points (with_record line.points point new) k (enrolled_jobs line.points point service threshold inside ok.free k) in
    record {
      within = sound.within;
      fits = sound.fits;
      belongs = λ k. grind (arith, placed, sound.belongs k);
      clock = sound.clock;
      steadies = sound.steadies;
      stretches = λ k. grind (arith, placed, first_allowed, sound.fits service, sound.stretches k);
      empties = λ k. grind (arith, head k, sound.empties k);
      orders = λ a b apart. grind (arith, placed, sound.orders a b);
      given = λ k. grind (arith, placed, sound.given k);
      requests = grind (arith, jobs_changed line.points point new);
      services = sound.services;
      points = omega (arith, length-set {A = Option Point});
    }

-- a line as the rule of an enrolment says is sound again
pub enrol_sound : (line after : Schedule) (point service : ℕ) (threshold : ℤ) → Sound line → after ≡ after_enrol line point service threshold → Sound after
enrol_sound line after point service threshold sound ruled =
    owed after _ ruled (settled_keeps Sound (enrol_answer line point service) _ line (λ done. enrolled_sound line point service threshold sound (joined line point service done)) sound)
