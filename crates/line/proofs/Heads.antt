-- Heads and waiting jobs, also under a change of the table of points. Assumes nothing.
use Rattle.std.proofs.Common.{◌≡◌, ℕ, suc, ◌+◌, ◌<◌, Bool, true, List, [], ◌∷◌, length, get_or, is_some, Some, None, Option, refl, arith, rules}
use Rattle.std.specs.Prelude.{if◌then◌else◌, count_by}
use Rattle.std.proofs.lemmas.List.Sums.{sum_by-cons, sum_by-set}
use Rattle.urgency.specs.Urgency.{First}
use Rattle.urgency.proofs.Found.{most_same, found}
use Rattle.line.specs.declared.points.Point.{Point}
use Rattle.line.specs.Bounds.{point_places}
use Rattle.line.specs.Jobs.{job_before, job_at, head_of, order_of, order_at, jobs_of}
use Rattle.line.specs.Points.{Points, waits}
use Rattle.line.specs.Tables.{record_at, with_record}

-- the head is none exactly if no job of the service waits, and else the job before every other
pub head_first : (points : Points) (service : ℕ) → First job_before (job_at points service) point_places (head_of points service)
head_first points service = found job_before (search rules) (search rules) (search rules) (job_at points service) point_places

-- without points there is no head
pub no_head : (points : Points) (service : ℕ) → ((k : ℕ) → record_at points k ≡ None) → head_of points service ≡ None
no_head points service none = grind (arith, head_first)

-- the same jobs have the same head
pub head_same : (before after : Points) (service : ℕ) → ((k : ℕ) → job_at after service k ≡ job_at before service k) → head_of after service ≡ head_of before service
head_same before after service same = most_same job_before (job_at before service) (job_at after service) point_places (λ k below. same k)

-- a service with a waiting job has a head
pub head_there : (points : Points) (service k : ℕ) → k < point_places → is_some (job_at points service k) ≡ true → is_some (head_of points service) ≡ true
head_there points service k below there = grind (arith, head_first)

-- a job that waits counts one
abbrev pub one_if : Bool → ℕ
one_if waiting = if waiting then 1 else 0

-- a point in a place changes how many jobs wait by what it changes there
pub jobs_changed : (points : Points) (number : ℕ) (point : Point) → number < length points.records → jobs_of (with_record points number point) + one_if (waits (record_at points number)) ≡ jobs_of points + one_if (waits (Some point))
jobs_changed points number point inside = sum_by-set (λ held. one_if (waits held)) points.records number (Some point) None inside

-- a job waits where there is a place in the order of requests
waits_in_order : (held : Option Point) → waits held ≡ is_some (order_of held)
waits_in_order None = refl
waits_in_order (Some point) = refl

count_more : (held : Option Point) (rest : List (Option Point)) → count_by waits (held ∷ rest) ≡ one_if (waits held) + count_by waits rest
count_more held rest = sum_by-cons (λ held. one_if (waits held)) held rest

-- records with the same places in the order of requests count the same
counts_same : (xs ys : List (Option Point)) → ((k : ℕ) → order_of (get_or ys k None) ≡ order_of (get_or xs k None)) → count_by waits ys ≡ count_by waits xs
counts_same [] [] same = refl
counts_same [] (y ∷ ys) same = grind (arith, waits_in_order, same 0, counts_same [] ys (λ k. same (suc k)))
counts_same (x ∷ xs) [] same = grind (arith, waits_in_order, same 0, counts_same xs [] (λ k. same (suc k)))
counts_same (x ∷ xs) (y ∷ ys) same = grind (arith, count_more, waits_in_order, same 0, counts_same xs ys (λ k. same (suc k)))

-- as many jobs wait where each has the place in the order of requests that it had
pub jobs_same : (before after : Points) → ((k : ℕ) → order_at after k ≡ order_at before k) → jobs_of after ≡ jobs_of before
jobs_same before after same = counts_same before.records after.records same
