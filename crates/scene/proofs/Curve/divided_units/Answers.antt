-- `scene::Curve::divided_units` meets its contract: what is rounded is small enough to be doubled, so both roundings are those of the definition,
-- and from the start the raised bend leads to its T.
use mathlib.Core.Path.{refl, ◌∙◌}
use mathlib.Core.List.{[], ◌∷◌}
use lib.Dec.{lit<}
use lib.IntN.{ℤ, pos, ◌*ℤ◌}
use lib.Signed.{◌≤ℤ◌}
use mir.Syntax.{w64}
use mir.Val.{SFits}
use Rattle.integers.specs.Rounding.{r}
use Rattle.integers.specs.Bounds.{Bounded}
use Rattle.integers.proofs.Ring.{#, v0}
use Rattle.integers.proofs.Certificate.{◌:≤◌, hyp, ◌⊕◌, le_by}
use Rattle.integers.proofs.Bounds.{bounded_product, bounded_weaker, number_bounded}
use Rattle.integers.proofs.Machine.{bounded_fits, reads_back, result_reads_back}
use Rattle.scene.specs.declared.Constants.{Constants}
use Rattle.scene.specs.Temperature.{X, temperature}
use Rattle.scene.specs.Ranges.{ConstantsRange}
use Rattle.scene.proofs.Ranges.{n_bounded, x_bounded, n_rise_bounded, linear_bounded, d_fits, rise_fits, start_bounded, four_tnl_bounded, start_reads_back, curve_reads_back, twice_reads_back, units_from_start}
use Rattle.scene.proofs.Curve.divided_units.Goals as goal

module _ {k : Constants} {n : ℤ} (h : ConstantsRange k) (low : pos 0 ≤ℤ n) (high : (pos 4 *ℤ n) ≤ℤ (pos 5 *ℤ k.d)) where
  scaled_bounded : Bounded (pos 65536 *ℤ n) (pos 4189139804160000)
  scaled_bounded = bounded_product (number_bounded 65536) (n_bounded h low high)

  scaled_fits : SFits w64 (pos 65536 *ℤ n)
  scaled_fits = bounded_fits scaled_bounded (lit< tt)

  n_rise_fits : SFits w64 (n *ℤ k.rise)
  n_rise_fits = bounded_fits (n_rise_bounded h low high) (lit< tt)

  -- ---- what is rounded is small enough to be doubled
  scaled_small : Bounded (pos 65536 *ℤ n) (pos 2305843009213693952)
  scaled_small = bounded_weaker scaled_bounded (le_by [] [] (# 4189139804160000) (# 2305843009213693952) (hyp 0) tt)

  n_rise_small : Bounded (n *ℤ k.rise) (pos 2305843009213693952)
  n_rise_small = bounded_weaker (n_rise_bounded h low high) (le_by [] [] (# 86773796902845000) (# 2305843009213693952) (hyp 0) tt)

d_small : {k : Constants} → ConstantsRange k → k.d ≤ℤ pos 2305843009213693952
d_small {k} h = (le_by (k.d ∷ []) ((v0 :≤ # 51136960500) ∷ []) v0 (# 2305843009213693952) (hyp 0 ⊕ hyp 1) tt h.d_high)

pub round_small-x-requires : goal.round_small-x-requires
round_small-x-requires c =
    let s = c.args.self in
    let k = s.range in
    let h = c.requires in
    rw (reads_back c.ranges.n, reads_back (scaled_fits k h.0 h.1), reads_back (d_fits k), twice_reads_back s) (scaled_small k h.0 h.1, k.d_low, d_small k, refl)

pub overflow_mul-n-2 : goal.overflow_mul-n-2
overflow_mul-n-2 c =
    let k = c.args.self.range in
    rw (reads_back c.ranges.n, reads_back (rise_fits k)) (n_rise_fits k c.requires.0 c.requires.1)

pub round_small-linear-requires : goal.round_small-linear-requires
round_small-linear-requires c =
    let s = c.args.self in
    let k = s.range in
    let h = c.requires in
    rw (reads_back c.ranges.n, reads_back (rise_fits k), reads_back (n_rise_fits k h.0 h.1), reads_back (d_fits k), twice_reads_back s) (n_rise_small k h.0 h.1, k.d_low, d_small k, refl)

-- ---- both are read back as those of the definition
pub units_of-requires : goal.units_of-requires
units_of-requires c =
    let s = c.args.self in
    let k = s.range in
    let h = c.requires in
    rw (start_reads_back s, curve_reads_back s, result_reads_back c.round_small-x.result c.round_small-x.type_inv, c.round_small-x.ensures, result_reads_back c.round_small-linear.result c.round_small-linear.type_inv, c.round_small-linear.ensures, reads_back c.ranges.n, reads_back (scaled_fits k h.0 h.1), reads_back (rise_fits k), reads_back (n_rise_fits k h.0 h.1), reads_back (d_fits k))
    (start_bounded k, four_tnl_bounded k.tnl, x_bounded k h.0 h.1, linear_bounded k h.0 h.1)

pub returns : goal.returns
unfolding temperature
returns c =
    let s = c.args.self in
    let k = s.range in
    let h = c.requires in
    result_reads_back c.units_of.result c.units_of.type_inv
    ∙ (rw (start_reads_back s, curve_reads_back s, result_reads_back c.round_small-x.result c.round_small-x.type_inv, c.round_small-x.ensures, result_reads_back c.round_small-linear.result c.round_small-linear.type_inv, c.round_small-linear.ensures, reads_back c.ranges.n, reads_back (scaled_fits k h.0 h.1), reads_back (rise_fits k), reads_back (n_rise_fits k h.0 h.1), reads_back (d_fits k)) at c.units_of.ensures)
    ∙ units_from_start s.constants.tc (r (c.args.n *ℤ s.constants.rise) s.constants.d) (X c.args.n s.constants.d) s.constants.tnl
