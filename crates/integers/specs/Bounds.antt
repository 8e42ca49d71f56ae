-- Two ranges as records, so that their numbers can be inferred from a hypothesis.
use Rattle.std.specs.Prelude.{ℤ, pos, neg_ℤ, ◌-ℤ◌, ◌*ℤ◌, ◌≤ℤ◌}

-- x is from -m to m
pub record Bounded (x m : ℤ) : Type 0 where
  pub low : neg_ℤ m ≤ℤ x
  pub high : x ≤ℤ m

-- q is within a half of a / b, b above 0, multiplied out: 2 |b q - a| is at most b. This is all that a distance may use of a rounding.
pub record WithinHalf (a b q : ℤ) : Type 0 where
  pub twice : Bounded (pos 2 *ℤ (b *ℤ q -ℤ a)) b
