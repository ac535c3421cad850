-- The numbers that bound a line. Assumes nothing.
use Rattle.std.specs.Prelude.{ℕ, ◌+◌, ◌*◌}

-- the share of a whole line: the slots of an hour, one a second
abbrev pub full_share : ℕ
full_share = 3600

-- services are numbered 0 to 31
abbrev pub service_places : ℕ
service_places = 32

-- points are numbered 0 to 255
abbrev pub point_places : ℕ
point_places = 256

-- no service stretches its jobs further
abbrev pub stretch_limit : ℕ
stretch_limit = 16

-- the clock's end
abbrev pub clock_end : ℕ
clock_end = 4000000000

-- no deadline lies beyond
abbrev pub deadline_end : ℕ
deadline_end = clock_end + stretch_limit * full_share
