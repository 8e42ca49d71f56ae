-- `remainder` meets its contract: by bits, a less b times its floor is what the floor leaves, and that fits.
use Rattle.std.proofs.Common.{arith, ◌≡◌, ℕ, ◌+◌, ◌-◌, ◌*◌, ◌%◌, ℤ, pos, ◌+ℤ◌, ◌-ℤ◌, ◌*ℤ◌, ◌<ℤ◌, ◌≤ℤ◌, FitsSigned, w64, to_z, of_z, suc, ap, sym, subst, ◌∙◌}
use native.Mathlib.Nat.{mul-add}
use lib.IntN.{negsuc}
use Rattle.std.proofs.lemmas.Int.{ints}
use Rattle.integers.specs.Rounding.{floor}
use Rattle.integers.proofs.Floor.{floor_low, floor_high}
use Rattle.integers.proofs.remainder.Goals as goal

-- the bits of b times the floor are those of a number that may be below what 64 bits hold
bits_left : (a : ℤ) (m : ℕ) (low : ℤ) → FitsSigned w64 a → FitsSigned w64 (pos m) → FitsSigned w64 low → (pos m *ℤ low) ≤ℤ a → a <ℤ (pos m *ℤ low +ℤ pos m)
    → to_z w64 ((of_z w64 a + (18446744073709551616 - m * of_z w64 low % 18446744073709551616)) % 18446744073709551616) ≡ a -ℤ pos m *ℤ low
bits_left a m (pos n) fa fm fl at_most below = omega (arith, ints)
bits_left a m (negsuc k) fa fm fl at_most below =
    let whole : 18446744073709551616 - suc k + suc k ≡ 18446744073709551616 = omega (arith, ints) in
    let parts : m * 18446744073709551616 ≡ m * (18446744073709551616 - suc k) + m * suc k = ap (λ n. m * n) (sym whole) ∙ mul-add m (18446744073709551616 - suc k) (suc k) in
    omega (arith, ints, parts)

left_by_floor : (a b low : ℤ) → FitsSigned w64 a → FitsSigned w64 b → FitsSigned w64 low → pos 0 <ℤ b → low ≡ floor a b
    → to_z w64 ((of_z w64 a + (18446744073709551616 - of_z w64 b * of_z w64 low % 18446744073709551616)) % 18446744073709551616) ≡ a -ℤ b *ℤ floor a b
left_by_floor a (pos m) low fa fb fl p is =
    bits_left a m low fa fb fl (subst (λ z. (pos m *ℤ z) ≤ℤ a) (sym is) (floor_low a p)) (subst (λ z. a <ℤ (pos m *ℤ z +ℤ pos m)) (sym is) (floor_high a p))
    ∙ ap (λ z. a -ℤ pos m *ℤ z) is
left_by_floor a (negsuc m) low fa fb fl p is = absurd p.lt

pub returns : goal.returns
returns c = left_by_floor c.args.a c.args.b c.args.low c.ranges.a c.ranges.b c.ranges.low c.requires.0 c.requires.1
