-- Document 01, "Units and rounding": an unrounded fraction is a pair of whole numbers, and is compared by multiplying out.
use Rattle.std.specs.Prelude.{ℤ, pos, ◌+ℤ◌, ◌-ℤ◌, ◌*ℤ◌, ◌≤ℤ◌, ◌<ℤ◌, ◌≡◌}
use Rattle.integers.specs.Bounds.{Bounded}

pub record Fraction : Type 0 where
  pub num : ℤ
  pub den : ℤ

infixl 65 ◌+ᶠ◌ ◌-ᶠ◌
infixl 70 ◌*ᶠ◌ ◌÷ᶠ◌
infix 75 ◌/ᶠ◌
infix 50 ◌≡ᶠ◌ ◌≤ᶠ◌ ◌<ᶠ◌
abbrev pub ◌/ᶠ◌ : ℤ → ℤ → Fraction
n /ᶠ d = record { num = n; den = d }

abbrev pub whole : ℤ → Fraction
whole n = n /ᶠ pos 1

abbrev pub ◌+ᶠ◌ : Fraction → Fraction → Fraction
a +ᶠ b = (a.num *ℤ b.den +ℤ b.num *ℤ a.den) /ᶠ (a.den *ℤ b.den)

abbrev pub ◌-ᶠ◌ : Fraction → Fraction → Fraction
a -ᶠ b = (a.num *ℤ b.den -ℤ b.num *ℤ a.den) /ᶠ (a.den *ℤ b.den)

abbrev pub ◌*ᶠ◌ : Fraction → Fraction → Fraction
a *ᶠ b = (a.num *ℤ b.num) /ᶠ (a.den *ℤ b.den)

abbrev pub ◌÷ᶠ◌ : Fraction → Fraction → Fraction
a ÷ᶠ b = (a.num *ℤ b.den) /ᶠ (a.den *ℤ b.num)

-- ---- comparison by multiplying out; both denominators are above 0
abbrev pub ◌≡ᶠ◌ : Fraction → Fraction → Type 0
a ≡ᶠ b = a.num *ℤ b.den ≡ b.num *ℤ a.den

abbrev pub ◌≤ᶠ◌ : Fraction → Fraction → Type 0
a ≤ᶠ b = (a.num *ℤ b.den) ≤ℤ (b.num *ℤ a.den)

abbrev pub ◌<ᶠ◌ : Fraction → Fraction → Type 0
a <ᶠ b = (a.num *ℤ b.den) <ℤ (b.num *ℤ a.den)

-- a and b are equal
pub record Equal (a b : Fraction) : Type 0 where
  pub left_above : pos 0 <ℤ a.den
  pub right_above : pos 0 <ℤ b.den
  pub same : a ≡ᶠ b

-- a is below b
pub record Below (a b : Fraction) : Type 0 where
  pub left_above : pos 0 <ℤ a.den
  pub right_above : pos 0 <ℤ b.den
  pub below : a <ᶠ b

-- a and b are at most `limit` apart
pub record Near (limit a b : Fraction) : Type 0 where
  pub left_above : pos 0 <ℤ a.den
  pub right_above : pos 0 <ℤ b.den
  pub apart : Bounded (limit.den *ℤ (a.num *ℤ b.den -ℤ b.num *ℤ a.den)) (limit.num *ℤ (a.den *ℤ b.den))

-- the whole number t is at most `limit` from e
pub record Distance (limit : Fraction) (t : ℤ) (e : Fraction) : Type 0 where
  pub den_above : pos 0 <ℤ e.den
  pub apart : Bounded (limit.den *ℤ (t *ℤ e.den -ℤ e.num)) (limit.num *ℤ e.den)
