-- Request W1: opening the file uses refusals 1 (length not 8,451), 2 and 3 in that order. 3 is c0's alone: e has no range beyond its 16 bits.
use Rattle.std.specs.Prelude.{ℕ, ◌<◌, ◌≡◌, List, Bool, get_or}
use Rattle.lists.specs.Count.{every}
use Rattle.lists.specs.Tests.{Verdict, passes, and_then}
use Rattle.instrument.specs.Instrument.{channels, positions}
use Rattle.table.specs.Ranges.{size_to}
use Rattle.table.specs.Opening.{opening_by, opening}
use Rattle.bias.specs.Bias.{bias_layout, bias_part, c0_in}

-- each c0 of a channel's part is from -4,096 to 4,096
unfoldable pub part_inside : List ℕ → Bool
part_inside part = every (λ i. size_to 4096 (c0_in part i)) positions

unfoldable pub bias_inside : List ℕ → Bool
bias_inside bias = every (λ c. part_inside (bias_part bias c)) channels

unfoldable pub bias_opening : List ℕ → Verdict
bias_opening bias = opening_by bias_layout (bias_inside bias) bias

-- opening meets no refusal; a file has bytes
pub record AcceptedBias (bias : List ℕ) : Type 0 where
  pub accepted : bias_opening bias ≡ passes
  pub bytes : (k : ℕ) → get_or bias k 0 < 256

-- where both are opened the table comes first
abbrev pub both_opening : (table bias : List ℕ) → Verdict
both_opening table bias = and_then (opening table) (bias_opening bias)
