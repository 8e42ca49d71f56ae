-- `measured_ratio` meets its contract: no count is below offset, so the unsigned numbers are those of M, and the quotient fits.
use Rattle.std.proofs.Common.{◌≡◌, ℕ, ◌*◌, ◌-◌, ◌/◌, ◌≤◌, ◌<◌, pos, arith}
use native.Mathlib.Nat.{mul-le-mul, div-le_self}
use Rattle.integers.specs.Rounding.{floor}
use Rattle.integers.proofs.Machine.{natural_reads_back}
use Rattle.integers.proofs.Naturals.{natural_difference}
use Rattle.thermometer.specs.Rule.{M}
use Rattle.thermometer.proofs.measured_ratio.Goals as goal

-- M, where no difference is negative
M_natural : (rpam r0 : ℕ) {pam offset count : ℕ} → offset ≤ pam → offset ≤ count
    → pos (rpam * (count - offset) * 16777216 / ((pam - offset) * r0)) ≡ M rpam r0 pam offset count
unfolding M floor
M_natural rpam r0 h k = rw (natural_difference h, natural_difference k)

quotient_small : {rpam above : ℕ} (divisor : ℕ) → rpam ≤ 4000000 → above ≤ 65535 → rpam * above * 16777216 / divisor < 9223372036854775808
quotient_small {rpam} {above} divisor h k =
    let product_high : rpam * above ≤ 4000000 * 65535 = mul-le-mul h k in
    omega (arith, div-le_self (rpam * above * 16777216) divisor)

pub returns : goal.returns
returns c =
    let a = c.args in
    let small = quotient_small {above = a.count - a.offset} ((a.pam - a.offset) * a.r0) c.requires.0 (omega arith) in
    rw (c.from.ensures, c.from-above.ensures, c.from-span.ensures, c.from-2.ensures, natural_reads_back _ small)
    (M_natural a.rpam a.r0 (omega arith) (omega arith))
