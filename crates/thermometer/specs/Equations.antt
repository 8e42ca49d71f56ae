-- Request W7: document 004, equations 18 and 19, each divided by R0, as fractions in which nothing is rounded; and what is promised of the
-- thermometer rule against them.
use Rattle.std.specs.Prelude.{ℕ, ◌≡◌, cond, ℤ, pos, ◌+ℤ◌, ◌-ℤ◌, ◌*ℤ◌}
use Rattle.std.specs.Int.Signed.{lt_z}
use Rattle.integers.specs.Fractions.{Fraction, ◌/ᶠ◌, whole, ◌+ᶠ◌, ◌-ᶠ◌, ◌*ᶠ◌, ◌÷ᶠ◌, Below, Distance}
use Rattle.thermometer.specs.Rule.{one, F, InRange}
use Rattle.thermometer.specs.Reading.{units, reading}
use Rattle.thermometer.specs.Ranges.{Admissible}

-- ---- equation 18 over R0: the measured ratio, R_PAM × (count - offset) / ((PAM - offset) × R0)
abbrev pub measured_ratio : (r_pam r0 pam offset count : ℕ) → Fraction
measured_ratio r_pam r0 pam offset count = (pos r_pam *ℤ (pos count -ℤ pos offset)) /ᶠ ((pos pam -ℤ pos offset) *ℤ pos r0)

-- ---- equation 19 over R0: 1 + alpha (T - delta (T/100 - 1)(T/100) - beta (T/100 - 1)(T/100)^3), T in °C
abbrev pub cube : Fraction → Fraction
cube x = x *ᶠ x *ᶠ x

abbrev pub equation : (alpha delta beta T : Fraction) → Fraction
equation alpha delta beta T =
    let x = T ÷ᶠ whole (pos 100) in
    whole (pos 1) +ᶠ alpha *ᶠ (T -ᶠ delta *ᶠ (x -ᶠ whole (pos 1)) *ᶠ x -ᶠ beta *ᶠ (x -ᶠ whole (pos 1)) *ᶠ cube x)

-- beta counts for t below 0 alone
abbrev pub beta_at : ℕ → ℤ → ℤ
beta_at beta t = cond (lt_z t (pos 0)) (pos beta) (pos 0)

-- equation 19's ratio at t: T = t / 4096 °C; alpha in 10^-9, delta and beta in 10^-6 °C. Any t has one, also outside the rule's range.
unfoldable pub equation_ratio : (alpha delta beta : ℕ) → ℤ → Fraction
equation_ratio alpha delta beta t = equation (pos alpha /ᶠ pos 1000000000) (pos delta /ᶠ pos 1000000) (beta_at beta t /ᶠ pos 1000000) (t /ᶠ pos 4096)

-- ---- a t and a measured ratio: the equation's ratio at t - 1 is below the measured one, and at t + 2 above it
pub record Bracketed (alpha delta beta : ℕ) (measured : Fraction) (t : ℤ) : Type 0 where
  pub below : Below (equation_ratio alpha delta beta (t -ℤ pos 1)) measured
  pub above : Below measured (equation_ratio alpha delta beta (t +ℤ pos 2))

-- so it is wherever One thermometer answers t
abbrev pub AnswersBracketed : Type 0
AnswersBracketed =
    (r_pam r0 alpha delta beta pam offset count : ℕ) (t : ℤ) → reading r_pam r0 alpha delta beta pam offset count ≡ units t
    → Bracketed alpha delta beta (measured_ratio r_pam r0 pam offset count) t

-- ---- F(t) lies within 2 of 2^24 times the equation's ratio
abbrev pub FNearEquation : Type 0
FNearEquation =
    (alpha delta beta : ℕ) → Admissible alpha delta beta → (t : ℤ) → InRange t
    → Distance (whole (pos 2)) (F alpha delta beta t) (whole one *ᶠ equation_ratio alpha delta beta t)
