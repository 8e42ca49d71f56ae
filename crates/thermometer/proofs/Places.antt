-- The places 0 to 491,520 of the range of t: `units_at_place` counts its numbers from the lowest.
use mathlib.Core.Path.{◌≡◌}
use Prim.Native.Nat.{ℕ, ◌+◌, ◌-◌, ◌≤◌}
use native.Mathlib.Omega.{arith}
use lib.IntN.{ℤ, pos}
use lib.Signed.{◌≤ℤ◌}
use Rattle.integers.proofs.Linear.{plus, minus, order, parts_equal, difference_parts}
use Rattle.thermometer.specs.Rule.{units_at_place, InRange}

pub place_in_range : {k : ℕ} → k ≤ 491520 → InRange (units_at_place k)
place_in_range {k} h = record {
  low = omega (arith, order, difference_parts (pos k) (pos 245760));
  high = omega (arith, order, difference_parts (pos k) (pos 245760));
}

abbrev pub place_of : ℤ → ℕ
place_of t = plus t + 245760 - minus t

pub place_of_lem : {t : ℤ} → InRange t → units_at_place (place_of t) ≡ t
place_of_lem {t} range = parts_equal (units_at_place (place_of t)) t (omega (arith, order, difference_parts (pos (place_of t)) (pos 245760)))

pub place_at_most : {t : ℤ} → InRange t → place_of t ≤ 491520
place_at_most {t} range = omega (arith, order)

pub place_before_last : (k : ℕ) → units_at_place k ≤ℤ pos 245759 → k + 1 ≤ 491520
place_before_last k h = omega (arith, order, difference_parts (pos k) (pos 245760))

-- numbers are ordered as their places
pub units_order : {i j : ℕ} → i ≤ j → units_at_place i ≤ℤ units_at_place j
units_order {i} {j} h = omega (arith, order, difference_parts (pos i) (pos 245760), difference_parts (pos j) (pos 245760))
