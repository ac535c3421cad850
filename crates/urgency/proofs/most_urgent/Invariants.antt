use Rattle.std.proofs.Common.{◌≡◌}
use Rattle.urgency.specs.Urgency.{most_urgent}
use Rattle.urgency.proofs.most_urgent.Given as goal

-- the most urgent so far
abbrev pub invariant-loop-place : goal.invariant-loop-place
invariant-loop-place g l = l.best ≡ most_urgent g.C.Item.Urgent.before (g.C.Candidates.at l.candidates) l.place
