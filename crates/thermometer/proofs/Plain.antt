-- The statements of request W7 in plain numbers: the ranges of the coefficients and of t are all that is asked, and every part of the claims is
-- multiplied out. A further premise, a larger bound or a claim that is dropped breaks a law.
use Prim.Native.Nat.{ℕ, ◌≤◌}
use mathlib.Core.Path.{◌≡◌, subst}
use lib.IntN.{ℤ, pos, neg_ℤ, ◌+ℤ◌, ◌-ℤ◌, ◌*ℤ◌}
use lib.Signed.{◌≤ℤ◌, ◌<ℤ◌}
use Rattle.integers.specs.Bounds.{Bounded}
use Rattle.integers.proofs.Arithmetic.{one_mul}
use Rattle.thermometer.specs.Rule.{F}
use Rattle.thermometer.specs.Reading.{units, reading}
use Rattle.thermometer.specs.Equations.{equation_ratio, AnswersBracketed, FNearEquation}

-- F and 2^24 times the equation's ratio differ by at most 2
pub F_near_equation_says : FNearEquation
    → (alpha delta beta : ℕ) → 3000000 ≤ alpha → alpha ≤ 5000000 → delta ≤ 2000000 → beta ≤ 500000
    → (t : ℤ) → neg_ℤ (pos 245760) ≤ℤ t → t ≤ℤ pos 245760
    → let e = equation_ratio alpha delta beta t in let apart = F alpha delta beta t *ℤ e.den -ℤ pos 16777216 *ℤ e.num in
    (pos 0 <ℤ e.den) × (neg_ℤ (pos 2 *ℤ e.den) ≤ℤ apart) × (apart ≤ℤ (pos 2 *ℤ e.den))
F_near_equation_says law alpha delta beta alpha_low alpha_high delta_high beta_high t low high =
    let e = equation_ratio alpha delta beta t in
    let f = F alpha delta beta t in
    let near = law alpha delta beta (record { alpha_low = alpha_low; alpha_high = alpha_high; delta_high = delta_high; beta_high = beta_high }) t (record { low = low; high = high }) in
    let above : pos 0 <ℤ e.den = subst (λ (d : ℤ). pos 0 <ℤ d) (one_mul e.den) near.den_above in
    let bounded : Bounded (pos 1 *ℤ (f *ℤ e.den -ℤ pos 16777216 *ℤ e.num)) (pos 2 *ℤ e.den)
    = subst (λ (d : ℤ). Bounded (pos 1 *ℤ (f *ℤ d -ℤ pos 16777216 *ℤ e.num)) (pos 2 *ℤ d)) (one_mul e.den) near.apart in
    let plain = subst (λ (x : ℤ). Bounded x (pos 2 *ℤ e.den)) (one_mul (f *ℤ e.den -ℤ pos 16777216 *ℤ e.num)) bounded in
    (above, plain.low, plain.high)

-- wherever t is answered: n / d, equation 18 over R0, lies above equation 19 at t - 1 and below it at t + 2
pub answers_bracketed_say : AnswersBracketed
    → (r_pam r0 alpha delta beta pam offset count : ℕ) (t : ℤ) → reading r_pam r0 alpha delta beta pam offset count ≡ units t
    → let n = pos r_pam *ℤ (pos count -ℤ pos offset) in let d = (pos pam -ℤ pos offset) *ℤ pos r0 in
    let before = equation_ratio alpha delta beta (t -ℤ pos 1) in let second = equation_ratio alpha delta beta (t +ℤ pos 2) in
    (pos 0 <ℤ d) × (pos 0 <ℤ before.den) × (pos 0 <ℤ second.den) × ((before.num *ℤ d) <ℤ (n *ℤ before.den)) × ((n *ℤ second.den) <ℤ (second.num *ℤ d))
answers_bracketed_say law r_pam r0 alpha delta beta pam offset count t e =
    let b = law r_pam r0 alpha delta beta pam offset count t e in
    (b.below.right_above, b.below.left_above, b.above.right_above, b.below.below, b.above.below)
