-- What stands past the end of an array of summaries, and that nothing reads it.
use Prim.Native.Nat.{ℕ, ◌<◌}
use mathlib.Core.Path.{◌≡◌}
use mathlib.Core.List.{List}
use lib.Ieee.{nan}
use lib.ListN.{length, get_or}
use Rattle.lists.proofs.Elements.{any_default}
use Rattle.product.specs.declared.Summary.{Summary}
use Rattle.product.specs.Summary.{none_delivered}

abbrev pub past_summaries : Summary
past_summaries = record { count = 0; low = nan; high = nan }

pub summary_of : (all : List Summary) (c : ℕ) → c < length all → get_or all c past_summaries ≡ get_or all c none_delivered
summary_of all c below = any_default all c past_summaries none_delivered below
