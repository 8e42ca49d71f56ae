-- `scene::Curve::units` meets its contract: where no half lies in the bracket around N / D, X and the linear part are the nearest whole numbers,
-- and so those of the definition, and from the start the raised bend leads to its T; else the divisions answer.
use mathlib.Core.Path.{◌≡◌, sym, ◌∙◌, ap}
use mathlib.Core.Bool.{false}
use Prim.Native.Nat.{ℕ, ◌+◌, ◌*◌, ◌/◌, ◌≤◌}
use native.Mathlib.Nat.{lt_of_le_of_lt, mul-le-mul}
use native.Mathlib.Omega.{arith}
use lib.Dec.{lit<}
use lib.IntN.{ℤ, pos, nat_abs, ◌*ℤ◌}
use lib.Signed.{◌≤ℤ◌, yes_non_neg, pos-nat_abs}
use mir.Syntax.{w64}
use mir.Val.{to_z}
use Rattle.integers.specs.Rounding.{r}
use Rattle.integers.proofs.Bounds.{bounded_size}
use Rattle.integers.proofs.Machine.{reads_back, natural_reads_back, result_reads_back}
use Rattle.scene.specs.declared.Curve.{Curve}
use Rattle.scene.specs.Temperature.{X, temperature}
use Rattle.scene.specs.Steps.{Bracket, unsure_of}
use Rattle.scene.proofs.Ranges.{rise_bounded, rise_not_negative, rise_fits, x_bounded, linear_bounded, start_bounded, four_tnl_bounded, edge_is, start_reads_back, curve_reads_back, units_from_start}
use Rattle.scene.proofs.Bracket.{low_end_small, linear_nearest, x_nearest, Sure, sure_by}
use Rattle.scene.proofs.Curve.units.Goals as goal

-- w is the low end
module _ (s : Curve) {n : ℤ} {w : ℕ} (high : (pos 4 *ℤ n) ≤ℤ (pos 5 *ℤ s.constants.d)) (e : Bracket n s.constants.d w) where
  -- what is rounded to X and to the linear part
  abbrev for_x : ℕ
  for_x = w + 32767

  abbrev for_linear : ℕ
  for_linear = w * nat_abs s.constants.rise + 2147483647

  low_end_at_most : w ≤ 5368709120
  low_end_at_most = low_end_small s.range.d_low high e

  product_at_most : w * nat_abs s.constants.rise ≤ 7288087054909440
  product_at_most = mul-le-mul low_end_at_most (bounded_size (rise_bounded s.range))

  module _ (sure : unsure_of for_x for_linear s.scale.edge ≡ false) where
    no_half : Sure for_x for_linear s.scale.edge
    no_half = sure_by for_x for_linear s.scale.edge sure

    x_reads_back : to_z w64 (for_x / 65536) ≡ X n s.constants.d
    x_reads_back = natural_reads_back (for_x / 65536) (omega (arith, low_end_at_most)) ∙ x_nearest s.range.d_low e no_half.of_x

    linear_reads_back : to_z w64 (for_linear / 4294967296) ≡ r (n *ℤ s.constants.rise) s.constants.d
    linear_reads_back =
        natural_reads_back (for_linear / 4294967296) (omega (arith, product_at_most))
        ∙ linear_nearest s.range.d_low e (nat_abs s.constants.rise) (omega (arith, no_half.of_linear, edge_is s, bounded_size (rise_bounded s.range)))
        ∙ ap (λ z. r (n *ℤ z) s.constants.d) (pos-nat_abs s.constants.rise (yes_non_neg (rise_not_negative s.range)))

pub overflow_add-x : goal.overflow_add-x
overflow_add-x c =
    let e = rw (reads_back c.ranges.n) at c.low_end-low.ensures in
    record { fits = omega (arith, low_end_at_most c.args.self c.requires.1 e) }

pub overflow_mul-linear : goal.overflow_mul-linear
overflow_mul-linear c =
    let e = rw (reads_back c.ranges.n) at c.low_end-low.ensures in
    rw (reads_back (rise_fits c.args.self.range)) (record { fits = lt_of_le_of_lt (product_at_most c.args.self c.requires.1 e) (lit< tt) })

pub overflow_add-linear : goal.overflow_add-linear
overflow_add-linear c =
    let e = rw (reads_back c.ranges.n) at c.low_end-low.ensures in
    rw (reads_back (rise_fits c.args.self.range)) (record { fits = omega (arith, product_at_most c.args.self c.requires.1 e) })

-- ---- sure
pub overflow_cast-linear-2 : goal.overflow_cast-linear-2
overflow_cast-linear-2 c =
    let e = rw (reads_back c.ranges.n) at c.low_end-low.ensures in
    rw (reads_back (rise_fits c.args.self.range)) (record { sfits = omega (arith, product_at_most c.args.self c.requires.1 e) })

pub units_of-requires : goal.units_of-requires
units_of-requires c =
    let s = c.args.self in
    let k = s.range in
    let h = c.requires in
    let e = rw (reads_back c.ranges.n) at c.low_end-low.ensures in
    let sure = sym (rw (reads_back (rise_fits k)) at c.unsure.ensures) ∙ c.if-unsure.false in
    rw (start_reads_back s, curve_reads_back s, reads_back (rise_fits k), x_reads_back s h.1 e sure, linear_reads_back s h.1 e sure)
    (start_bounded k, four_tnl_bounded k.tnl, x_bounded k h.0 h.1, linear_bounded k h.0 h.1)

pub returns : goal.returns
unfolding temperature
returns c =
    let s = c.args.self in
    let k = s.constants in
    let h = c.requires in
    let e = rw (reads_back c.ranges.n) at c.low_end-low.ensures in
    let sure = sym (rw (reads_back (rise_fits s.range)) at c.unsure.ensures) ∙ c.if-unsure.false in
    result_reads_back c.units_of.result c.units_of.type_inv
    ∙ (rw (start_reads_back s, curve_reads_back s, reads_back (rise_fits s.range), x_reads_back s h.1 e sure, linear_reads_back s h.1 e sure) at c.units_of.ensures)
    ∙ units_from_start k.tc (r (c.args.n *ℤ k.rise) k.d) (X c.args.n k.d) k.tnl
