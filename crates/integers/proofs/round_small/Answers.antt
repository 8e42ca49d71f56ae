-- `round_small` meets its contract: the floor of 2a + b by 2b is nearest with halves up. Only exactly at a half nothing is left; there the even
-- one of this number and the one before it is taken.
use Rattle.std.proofs.Common.{arith, ◌≡◌, ℤ, pos, ◌+ℤ◌, ◌-ℤ◌, ◌*ℤ◌, sym, to_z, of_z, w64, ◌∙◌, FitsSigned}
use Rattle.std.proofs.lemmas.Int.{ints}
use Rattle.std.proofs.lemmas.Grind.{common_steps}
use Rattle.integers.proofs.Machine.{reads_back}
use Rattle.integers.specs.Rounding.{floor}
use Rattle.integers.proofs.Floor.{floor_high, rest_low}
use Rattle.integers.proofs.Nearest.{r_when_rest, r_at_even_half, r_at_odd_half}
use Rattle.integers.proofs.round_small.Goals as goal

-- a number as the machine reads it back
abbrev Read : ℤ → ℤ
Read z = to_z w64 (of_z w64 z)

pub returns-then-remainder-gt0 : goal.returns-then-remainder-gt0
returns-then-remainder-gt0 c =
    let a = c.args.a in
    let b = c.args.b in
    let sum : Read (Read (pos 2 *ℤ Read a) +ℤ Read b) ≡ pos 2 *ℤ a +ℤ b = omega (arith, ints) in
    let twice : Read c.args.twice ≡ pos 2 *ℤ b = omega (arith, ints) in
    let same : Read c.floor_div-up.result ≡ c.floor_div-up.result = omega (arith, ints) in
    let up = same ∙ (rw (sum, twice) at c.floor_div-up.ensures) in
    let rest = rw (sum, twice) at c.remainder.ensures in
    let high = floor_high (pos 2 *ℤ a +ℤ b) {b = pos 2 *ℤ b} (omega (arith, ints)) in
    up ∙ r_when_rest a _ c.requires.1 high (grind (arith, ints))

pub returns-then-is_even : goal.returns-then-is_even
returns-then-is_even c =
    let a = c.args.a in
    let b = c.args.b in
    let sum : Read (Read (pos 2 *ℤ Read a) +ℤ Read b) ≡ pos 2 *ℤ a +ℤ b = omega (arith, ints) in
    let twice : Read c.args.twice ≡ pos 2 *ℤ b = omega (arith, ints) in
    let same : Read c.floor_div-up.result ≡ c.floor_div-up.result = omega (arith, ints) in
    let up = same ∙ (rw (sum, twice) at c.floor_div-up.ensures) in
    let rest = rw (sum, twice) at c.remainder.ensures in
    let low = rest_low (pos 2 *ℤ a +ℤ b) {b = pos 2 *ℤ b} (omega (arith, ints)) in
    up ∙ r_at_even_half a _ c.requires.1 (grind (arith, ints)) (sym (rw up at c.is_even.ensures) ∙ c.if-is_even.true)

pub returns : goal.returns
returns c =
    let a = c.args.a in
    let b = c.args.b in
    let sum : Read (Read (pos 2 *ℤ Read a) +ℤ Read b) ≡ pos 2 *ℤ a +ℤ b = omega (arith, ints) in
    let twice : Read c.args.twice ≡ pos 2 *ℤ b = omega (arith, ints) in
    let same : Read c.floor_div-up.result ≡ c.floor_div-up.result = omega (arith, ints) in
    let up = same ∙ (rw (sum, twice) at c.floor_div-up.ensures) in
    let rest = rw (sum, twice) at c.remainder.ensures in
    let low = rest_low (pos 2 *ℤ a +ℤ b) {b = pos 2 *ℤ b} (omega (arith, ints)) in
    let fits : FitsSigned w64 (Read c.floor_div-up.result -ℤ pos 1) = grind (arith, common_steps) in
    let left : pos 2 *ℤ a +ℤ b -ℤ pos 2 *ℤ b *ℤ floor (pos 2 *ℤ a +ℤ b) (pos 2 *ℤ b) ≡ pos 0 = grind (arith, ints) in
    rw (reads_back fits, up) (r_at_odd_half a _ c.requires.1 left (sym (rw up at c.is_even.ensures) ∙ c.if-is_even.false))
