-- What the services that wake leave of the table, place by place. Assumes nothing.
use Rattle.std.proofs.Common.{◌≡◌, ℕ, zero, suc, ◌+◌, ◌<◌, ◌≤◌, length, refl, add-one, arith}
use Rattle.std.proofs.lemmas.List.{length-set, get_or-set_same, get_or-set_other, get_or_past}
use Rattle.std.proofs.lemmas.Bool.{cases_eq}
use Rattle.std.specs.Option.{option_map}
use Rattle.line.specs.Bounds.{service_places}
use Rattle.line.specs.Jobs.{head_of}
use Rattle.line.specs.Slots.{woken, wake_at, woken_below, all_woken}
use Rattle.line.specs.Tables.{record_at}
use Rattle.line.specs.Services.{Services}
use Rattle.line.specs.Points.{Points}

-- no place is none woken, and one place more is that one woken too
pub woken_none : (services : Services) (points : Points) (clock : ℕ) → woken_below services points clock 0 ≡ services
unfolding woken_below
woken_none services points clock = refl

pub woken_more : (services : Services) (points : Points) (clock n : ℕ) → woken_below services points clock (n + 1) ≡ wake_at (woken_below services points clock n) points clock n
unfolding woken_below
woken_more services points clock n = rw (add-one n)

-- the table keeps its size
pub woken_length : (services : Services) (points : Points) (clock n : ℕ) → length (woken_below services points clock n).records ≡ length services.records
unfolding woken_below
woken_length services points clock zero = refl
woken_length services points clock (suc n) = rw length-set (woken_length services points clock n)

-- a place that has not come yet is as it was
pub woken_above : (services : Services) (points : Points) (clock n k : ℕ) → n ≤ k → record_at (woken_below services points clock n) k ≡ record_at services k
unfolding woken_below
woken_above services points clock zero k above = refl
woken_above services points clock (suc n) k above = grind (arith, get_or-set_other, woken_above services points clock n k)

-- a place that has come is woken
pub woken_under : (services : Services) (points : Points) (clock n k : ℕ) → k < n → k < length services.records → record_at (woken_below services points clock n) k ≡ option_map (λ service. woken service (head_of points k) clock) (record_at services k)
unfolding woken_below
woken_under services points clock zero k under inside = absurd (omega arith)
woken_under services points clock (suc n) k under inside =
    grind (arith, get_or-set_same, get_or-set_other, cases_eq k n, woken_length, woken_above, woken_under services points clock n k)

-- every place is woken, with its own head; past the end nothing stands
pub woken_at : (services : Services) (points : Points) (clock : ℕ) → length services.records ≡ service_places → (k : ℕ) → record_at (all_woken services points clock) k ≡ option_map (λ service. woken service (head_of points k) clock) (record_at services k)
woken_at services points clock size k = grind (arith, get_or_past, woken_length, woken_under services points clock service_places k)
