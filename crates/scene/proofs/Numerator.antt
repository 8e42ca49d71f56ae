-- N of a count as the machine forms it from a channel's constants: each number on the way fits, and the test against the scale's top is the one
-- of 4N against 5D.
use mathlib.Core.Path.{◌≡◌}
use mathlib.Core.Bool.{Bool, false}
use Prim.Native.Nat.{ℕ, ◌≤◌}
use native.Mathlib.Omega.{arith}
use lib.Dec.{lit<}
use lib.IntN.{ℤ, pos, ◌-ℤ◌, ◌*ℤ◌}
use lib.Signed.{lt_z}
use mir.Syntax.{w16, w64}
use mir.Val.{Fits, SFits, to_z, of_z}
use Rattle.integers.proofs.Machine.{bounded_fits, reads_back, natural_reads_back}
use Rattle.integers.proofs.Order.{lt_z_false}
use Rattle.scene.specs.declared.Curve.{Curve}
use Rattle.scene.specs.Scene.{numerator}
use Rattle.scene.proofs.Ranges.{slope_bounded, base_bounded, slope_count_bounded, numerator_bounded, top_reads_back}
use Rattle.scene.proofs.Bracket.{top_test}
use Rattle.scene.proofs.Placed.{NotOutside}

-- c is the count, cast
module _ (s : Curve) {count : ℕ} {c : ℤ} (f : Fits w16 count) (e : c ≡ pos count) where
  count_high : count ≤ 65535
  count_high = omega (arith, f.fits)

  pub slope_count_is : to_z w64 (of_z w64 s.constants.slope) *ℤ to_z w64 (of_z w64 c) ≡ s.constants.slope *ℤ pos count
  slope_count_is = rw (e, reads_back (bounded_fits (slope_bounded s.range) (lit< tt)), natural_reads_back count (omega (arith, count_high)))

  pub slope_count_fits : SFits w64 (s.constants.slope *ℤ pos count)
  slope_count_fits = bounded_fits (slope_count_bounded s.range count_high) (lit< tt)

  abbrev difference : ℤ
  difference = to_z w64 (of_z w64 (to_z w64 (of_z w64 s.constants.slope) *ℤ to_z w64 (of_z w64 c))) -ℤ to_z w64 (of_z w64 s.constants.base)

  pub difference_is : difference ≡ numerator s.constants count
  difference_is = rw (slope_count_is, reads_back slope_count_fits, reads_back (bounded_fits (base_bounded s.range) (lit< tt)))

  pub n_fits : SFits w64 (numerator s.constants count)
  n_fits = bounded_fits (numerator_bounded s.range count_high) (lit< tt)

  pub n_is : to_z w64 (of_z w64 difference) ≡ numerator s.constants count
  n_is = rw (difference_is, reads_back n_fits)

  pub above_test : (b : Bool) → lt_z (to_z w64 (of_z w64 s.scale.top)) (to_z w64 (of_z w64 difference)) ≡ b
      → lt_z (pos 5 *ℤ s.constants.d) (pos 4 *ℤ numerator s.constants count) ≡ b
  above_test b t = top_test s.constants.d (numerator s.constants count) b (rw (top_reads_back s, n_is) at t)

  -- where both of the machine's tests fail
  pub both_fail : lt_z (to_z w64 (of_z w64 difference)) (pos 0) ≡ false → lt_z (to_z w64 (of_z w64 s.scale.top)) (to_z w64 (of_z w64 difference)) ≡ false → NotOutside s.constants count
  both_fail negative above = record { low = lt_z_false (rw n_is at negative); high = lt_z_false (above_test false above) }
