-- Document 01, "The table": the ranges of alpha, delta and beta as orders, which the bounds of the rule rest on and request W7 names. A
-- reader of demand 3 can leave this out.
use Rattle.std.specs.Prelude.{ℕ, ◌≤◌}

pub record Admissible (alpha delta beta : ℕ) : Type 0 where
  pub alpha_low : 3000000 ≤ alpha
  pub alpha_high : alpha ≤ 5000000
  pub delta_high : delta ≤ 2000000
  pub beta_high : beta ≤ 500000
