-- `scene::Curve::scene_of` meets its contract. N and T are read back as themselves, so both tests are those of the definition, and each branch
-- gives the scene of its outcome; T is in its range, so that the guard cannot fail and what is delivered is a natural number below 2^24.
use mathlib.Core.Path.{◌≡◌}
use mathlib.Core.Bool.{true}
use Prim.Native.Nat.{ℕ}
use native.Mathlib.Omega.{arith}
use lib.IntN.{ℤ, pos, nat_abs}
use lib.Signed.{◌≤ℤ◌}
use mir.Syntax.{w32}
use Rattle.integers.proofs.Naturals.{natural_at_most}
use Rattle.integers.proofs.Order.{at_most_trans, at_most_fails}
use Rattle.integers.proofs.Machine.{reads_back, result_reads_back}
use Rattle.scene.specs.declared.Curve.{Curve}
use Rattle.scene.specs.declared.Scene.TheVariants.{Kelvin}
use Rattle.scene.specs.Scene.{kelvin, scene_of}
use Rattle.scene.proofs.Ranges.{scene_range}
use Rattle.scene.proofs.Numerator.{slope_count_is, slope_count_fits, difference_is, n_is, n_fits, above_test, both_fail}
use Rattle.scene.proofs.BiasRange.{temperature_low, temperature_high, biased_low, biased_high}
use Rattle.scene.proofs.Delivered.{temperature_of, scene_negative, scene_above, scene_kelvin}
use Rattle.scene.proofs.Placed.{NotOutside}
use Rattle.scene.proofs.Curve.scene_of.Goals as goal

pub overflow_mul-n : goal.overflow_mul-n
overflow_mul-n c =
    let s = c.args.self in
    rw (slope_count_is s c.ranges.count c.from.ensures) (slope_count_fits s c.ranges.count c.from.ensures)

pub overflow_sub-n : goal.overflow_sub-n
overflow_sub-n c =
    let s = c.args.self in
    rw (difference_is s c.ranges.count c.from.ensures) (n_fits s c.ranges.count c.from.ensures)

pub returns-then-n-lt0 : goal.returns-then-n-lt0
returns-then-n-lt0 c =
    let s = c.args.self in
    scene_negative _ s.constants c.args.count (rw (n_is s c.ranges.count c.from.ensures) at c.if-n-lt0.true)

pub returns-then-self-n : goal.returns-then-self-n
returns-then-self-n c =
    let s = c.args.self in
    scene_above _ s.constants c.args.count (rw (n_is s c.ranges.count c.from.ensures) at c.if-n-lt0.false) (above_test s c.ranges.count c.from.ensures true c.if-self-n.true)

pub units-t-requires : goal.units-t-requires
units-t-requires c =
    let s = c.args.self in
    let inside = both_fail s c.ranges.count c.from.ensures c.if-n-lt0.false c.if-self-n.false in
    rw (n_is s c.ranges.count c.from.ensures) (inside.low, inside.high)

-- ---- where the scene is not outside
module _ (s : Curve) {count : ℕ} (inside : NotOutside s.constants count) where
  t_low : pos 11166 ≤ℤ temperature_of s.constants count
  t_low = temperature_low (scene_range s.range inside.low inside.high)

  t_high : temperature_of s.constants count ≤ℤ pos 1832984
  t_high = temperature_high (scene_range s.range inside.low inside.high)

  guard_passes : (deliver : ℤ → ℤ) → Kelvin (kelvin (nat_abs (deliver (temperature_of s.constants count)))) ≡ scene_of deliver s.constants count
  guard_passes deliver =
      scene_kelvin deliver s.constants count (at_most_fails inside.low) (at_most_fails inside.high)
      (at_most_fails (at_most_trans (natural_at_most (omega arith)) t_low))
      (at_most_fails (at_most_trans t_high (natural_at_most (omega arith))))

pub biased_units-requires : goal.biased_units-requires
biased_units-requires c =
    let s = c.args.self in
    let inside = both_fail s c.ranges.count c.from.ensures c.if-n-lt0.false c.if-self-n.false in
    rw (result_reads_back c.units-t.result c.units-t.type_inv, c.units-t.ensures, n_is s c.ranges.count c.from.ensures) (t_low s inside, t_high s inside)

pub kelvin_of-requires : goal.kelvin_of-requires
kelvin_of-requires c =
    let s = c.args.self in
    let inside = both_fail s c.ranges.count c.from.ensures c.if-n-lt0.false c.if-self-n.false in
    let bias = c.args.bias.range in
    rw (reads_back {w = w32} (record { sfits = c.biased_units.type_inv }), c.biased_units.ensures, result_reads_back c.units-t.result c.units-t.type_inv, c.units-t.ensures, n_is s c.ranges.count c.from.ensures)
    (biased_low bias.c0 bias.e (t_low s inside) (t_high s inside), biased_high bias.c0 bias.e (t_low s inside) (t_high s inside))

pub returns : goal.returns
returns c =
    let s = c.args.self in
    let inside = both_fail s c.ranges.count c.from.ensures c.if-n-lt0.false c.if-self-n.false in
    rw (c.kelvin_of.ensures, reads_back {w = w32} (record { sfits = c.biased_units.type_inv }), c.biased_units.ensures, result_reads_back c.units-t.result c.units-t.type_inv, c.units-t.ensures, n_is s c.ranges.count c.from.ensures)
    (guard_passes s inside _)
