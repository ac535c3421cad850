use Rattle.std.proofs.Common.{◌≡◌, ◌*◌, ◌^◌, ◌≤◌, take}
use Rattle.std.specs.List.{sum_by}
use Rattle.line.specs.Bounds.{full_share}
use Rattle.line.specs.Services.{record_share}
use Rattle.line.proofs.services.Services.shares.Given as goal

-- the sum so far, and that it fits
abbrev pub invariant-loop-held : goal.invariant-loop-held
invariant-loop-held l = record {
  so_far : l.sum ≡ sum_by record_share (take l.held-index l.self.records);
  fits : l.sum ≤ 2 ^ 32 * full_share * l.held-index;
}
