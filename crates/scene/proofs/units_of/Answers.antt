-- `scene::units_of` meets its contract: both sums are in the range that Ranges has for them, so they fit an i64.
use lib.Dec.{lit<}
use lib.IntN.{ℤ, pos, ◌+ℤ◌}
use mir.Syntax.{w64}
use mir.Val.{SFits}
use Rattle.integers.specs.Bounds.{Bounded}
use Rattle.integers.proofs.Machine.{bounded_fits, reads_back, result_reads_back}
use Rattle.scene.specs.Steps.{bend_of}
use Rattle.scene.proofs.Ranges.{linear_sum_bounded, units_bounded}
use Rattle.scene.proofs.units_of.Goals as goal

module _ {start curve x linear : ℤ} (h : Bounded start (pos 1037410) × Bounded curve (pos 32768) × Bounded x (pos 81920) × Bounded linear (pos 1696890)) where
  sum_fits : SFits w64 (start +ℤ linear)
  sum_fits = bounded_fits (linear_sum_bounded h.0 h.1 h.2 h.3) (lit< tt)

  units_fit : SFits w64 (start +ℤ linear +ℤ (bend_of x curve +ℤ pos 1048576))
  units_fit = bounded_fits (units_bounded h.0 h.1 h.2 h.3) (lit< tt)

pub overflow_add-result-2 : goal.overflow_add-result-2
overflow_add-result-2 c =
    rw (reads_back c.ranges.start, reads_back c.ranges.linear, reads_back (sum_fits c.requires), result_reads_back c.raised_bend.result c.raised_bend.type_inv, c.raised_bend.ensures, reads_back c.ranges.x, reads_back c.ranges.curve)
    (units_fit c.requires)

pub returns : goal.returns
returns c =
    rw (reads_back c.ranges.start, reads_back c.ranges.linear, reads_back (sum_fits c.requires), result_reads_back c.raised_bend.result c.raised_bend.type_inv, c.raised_bend.ensures, reads_back c.ranges.x, reads_back c.ranges.curve, reads_back (units_fit c.requires))
