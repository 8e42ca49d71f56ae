-- Request W6 multiplied out, for b above 0: the nearest whole number is within a half, and of two equally near, both at a half, it is the even
-- one; r(a, b) is this number, and no other is.
use Rattle.std.specs.Prelude.{◌≡◌, true, ◌⊎◌, ℤ, pos, neg_ℤ, ◌-ℤ◌, ◌*ℤ◌, ◌<ℤ◌}
use Rattle.integers.specs.Rounding.{is_even, r}
use Rattle.integers.specs.Bounds.{WithinHalf}

-- q is a half from a / b exactly, above it or below it
abbrev pub AtHalf : (a b q : ℤ) → Type 0
AtHalf a b q = (pos 2 *ℤ (b *ℤ q -ℤ a) ≡ b) ⊎ (pos 2 *ℤ (b *ℤ q -ℤ a) ≡ neg_ℤ b)

pub record NearestEven (a b q : ℤ) : Type 0 where
  pub near : WithinHalf a b q
  pub even : AtHalf a b q → is_even q ≡ true

-- r gives this number, and there is no other
abbrev pub RIsNearestEven : Type 0
RIsNearestEven = (a b : ℤ) → pos 0 <ℤ b → NearestEven a b (r a b) × ((q : ℤ) → NearestEven a b q → q ≡ r a b)
