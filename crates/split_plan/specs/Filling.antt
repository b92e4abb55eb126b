-- A message that is filled: of these sizes it takes the first, so many at most, and none that its room has no space for.
-- Assumes nothing.
use Rattle.std.specs.Prelude.{ℕ, suc, ◌≤◌, ◌<◌, ◌≡◌, List, length, take}
use Rattle.split_plan.specs.Plan.{total}

-- why no more: so many were asked for, there are no more, or the next has no space
pub data Full (sizes : List ℕ) (room most count : ℕ) : Type 0 where
  asked : count ≡ most → Full sizes room most count
  over : count ≡ length sizes → Full sizes room most count
  wide : room < total (take (suc count) sizes) → Full sizes room most count

pub record Fills (sizes : List ℕ) (room most count : ℕ) : Type 0 where
  pub few : count ≤ length sizes
  pub within : count ≤ most
  pub fits : total (take count sizes) ≤ room
  pub full : Full sizes room most count
