-- `scene::Curve::placed_units` meets its contract: N is read back as itself, so that both tests are those of the definition.
use mathlib.Core.Path.{◌∙◌}
use mathlib.Core.Bool.{true}
use Rattle.integers.proofs.Machine.{result_reads_back}
use Rattle.scene.proofs.Numerator.{slope_count_is, slope_count_fits, difference_is, n_is, n_fits, above_test, both_fail}
use Rattle.scene.proofs.Placed.{placed_below, placed_above, placed_is_temperature}
use Rattle.scene.proofs.Curve.placed_units.Goals as goal

pub overflow_mul-n : goal.overflow_mul-n
overflow_mul-n c =
    let s = c.args.self in
    rw (slope_count_is s c.ranges.count c.from.ensures) (slope_count_fits s c.ranges.count c.from.ensures)

pub overflow_sub-n : goal.overflow_sub-n
overflow_sub-n c =
    let s = c.args.self in
    rw (difference_is s c.ranges.count c.from.ensures) (n_fits s c.ranges.count c.from.ensures)

pub returns-then-n-lt0 : goal.returns-then-n-lt0
returns-then-n-lt0 c =
    let s = c.args.self in
    placed_below s.constants c.args.count (rw (n_is s c.ranges.count c.from.ensures) at c.if-n-lt0.true)

pub returns-then-self-n : goal.returns-then-self-n
returns-then-self-n c =
    let s = c.args.self in
    placed_above s.constants c.args.count (rw (n_is s c.ranges.count c.from.ensures) at c.if-n-lt0.false) (above_test s c.ranges.count c.from.ensures true c.if-self-n.true)

pub units-requires : goal.units-requires
units-requires c =
    let s = c.args.self in
    let inside = both_fail s c.ranges.count c.from.ensures c.if-n-lt0.false c.if-self-n.false in
    rw (n_is s c.ranges.count c.from.ensures) (inside.low, inside.high)

pub returns : goal.returns
returns c =
    let s = c.args.self in
    let inside = both_fail s c.ranges.count c.from.ensures c.if-n-lt0.false c.if-self-n.false in
    result_reads_back c.units.result c.units.type_inv ∙ (rw (n_is s c.ranges.count c.from.ensures) at c.units.ensures) ∙ placed_is_temperature inside
