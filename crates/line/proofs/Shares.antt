-- Shares: that one fits, and what a service put in its place adds to their sum. Assumes nothing.
use Rattle.std.proofs.Common.{◌≡◌, ℕ, ◌+◌, ◌*◌, ◌/◌, ◌<◌, ◌≤◌, length, Some, None, mul-le-mul_right, arith}
use native.Mathlib.Nat.{mul-div-le}
use Rattle.std.proofs.lemmas.List.Sums.{sum_by-set}
use Rattle.line.specs.declared.services.Service.{Service}
use Rattle.line.specs.Bounds.{full_share}
use Rattle.line.specs.Services.{Services, record_share, shares_of}
use Rattle.line.specs.Tables.{record_at, with_record}

-- a budget within its period has a share within the full one
pub share_bound : (budget period : ℕ) → budget ≤ period → budget * (full_share / period) ≤ full_share
share_bound budget period within = grind (arith, mul-le-mul_right, mul-div-le)

-- a service in an empty place adds its share
pub shares_more : (services : Services) (number : ℕ) (service : Service) → number < length services.records → record_at services number ≡ None → shares_of (with_record services number service) ≡ shares_of services + record_share (Some service)
shares_more services number service inside free = grind (arith, sum_by-set record_share services.records number (Some service) None inside)

-- a service that keeps its share keeps their sum
pub shares_kept : (services : Services) (number : ℕ) (service : Service) → number < length services.records → record_share (Some service) ≡ record_share (record_at services number) → shares_of (with_record services number service) ≡ shares_of services
shares_kept services number service inside same = omega (arith, sum_by-set record_share services.records number (Some service) None inside)
