-- `scene::raised_bend` meets its contract. What is rounded is raised by 2^20 times the divisor and is then a natural number; so its rounding
-- is 2^20 more than that of the definition, 2^20 being even.
use mathlib.Core.Path.{◌≡◌, ◌∙◌}
use native.Mathlib.Nat.{le_trans}
use lib.Dec.{lit<, lit≤}
use lib.IntN.{ℤ, pos, ◌+ℤ◌, ◌-ℤ◌, ◌*ℤ◌}
use lib.Signed.{lt_z_yes, yes_non_neg, pos-nat_abs}
use mir.Syntax.{w64}
use mir.Val.{SFits}
use Rattle.integers.specs.Bounds.{Bounded}
use Rattle.integers.proofs.Bounds.{bounded_size}
use Rattle.integers.proofs.Machine.{bounded_fits, reads_back, natural_reads_back, unsigned_fits}
use Rattle.integers.proofs.Nearest.{r_shifted}
use Rattle.scene.specs.Steps.{bend_of}
use Rattle.scene.proofs.Ranges.{rest_of_x_bounded, x_product_bounded, x_curve_bounded, raised_not_negative, raised_bounded, raised_bend_bounded}
use Rattle.scene.proofs.raised_bend.Goals as goal

module _ {x curve : ℤ} (h : Bounded x (pos 81920) × Bounded curve (pos 32768)) where
  rest_of_x_fits : SFits w64 (pos 65536 -ℤ x)
  rest_of_x_fits = bounded_fits (rest_of_x_bounded h.0 h.1) (lit< tt)

  x_product_fits : SFits w64 (x *ℤ (pos 65536 -ℤ x))
  x_product_fits = bounded_fits (x_product_bounded h.0 h.1) (lit< tt)

  x_curve_fits : SFits w64 (x *ℤ (pos 65536 -ℤ x) *ℤ curve)
  x_curve_fits = bounded_fits (x_curve_bounded h.0 h.1) (lit< tt)

  raised_fits : SFits w64 (x *ℤ (pos 65536 -ℤ x) *ℤ curve +ℤ pos 4503599627370496)
  raised_fits = bounded_fits (raised_bounded h.0 h.1) (lit< tt)

pub overflow_mul-raised-2 : goal.overflow_mul-raised-2
overflow_mul-raised-2 c =
    let h = c.requires in
    rw (reads_back c.ranges.x, reads_back c.ranges.curve, reads_back (rest_of_x_fits h), reads_back (x_product_fits h)) (x_curve_fits h)

pub overflow_add-raised : goal.overflow_add-raised
overflow_add-raised c =
    let h = c.requires in
    rw (reads_back c.ranges.x, reads_back c.ranges.curve, reads_back (rest_of_x_fits h), reads_back (x_product_fits h), reads_back (x_curve_fits h)) (raised_fits h)

pub overflow_cast-raised : goal.overflow_cast-raised
overflow_cast-raised c =
    let h = c.requires in
    rw (reads_back c.ranges.x, reads_back c.ranges.curve, reads_back (rest_of_x_fits h), reads_back (x_product_fits h), reads_back (x_curve_fits h), reads_back (raised_fits h))
    (unsigned_fits (raised_not_negative h.0 h.1) (raised_fits h))

pub round_natural-requires : goal.round_natural-requires
round_natural-requires c =
    let h = c.requires in
    rw (reads_back c.ranges.x, reads_back c.ranges.curve, reads_back (rest_of_x_fits h), reads_back (x_product_fits h), reads_back (x_curve_fits h), reads_back (raised_fits h))
    (le_trans (bounded_size (raised_bounded h.0 h.1)) (lit≤ tt), lit< tt, lit≤ tt)

raised_bend_is : (c : goal.After-round_natural) → pos c.round_natural.result ≡ bend_of c.args.x c.args.curve +ℤ pos 1048576
raised_bend_is c =
    let h = c.requires in
    let product = c.args.x *ℤ (pos 65536 -ℤ c.args.x) *ℤ c.args.curve in
    (rw (reads_back c.ranges.x, reads_back c.ranges.curve, reads_back (rest_of_x_fits h), reads_back (x_product_fits h), reads_back (x_curve_fits h), reads_back (raised_fits h), pos-nat_abs (product +ℤ pos 4503599627370496) (yes_non_neg (raised_not_negative h.0 h.1))) at c.round_natural.ensures)
    ∙ r_shifted product (pos 524288) (lt_z_yes tt)

result_fits : (c : goal.After-round_natural) → SFits w64 (pos c.round_natural.result)
result_fits c = rw (raised_bend_is c) (bounded_fits (raised_bend_bounded c.requires.0 c.requires.1) (lit< tt))

pub overflow_cast-result : goal.overflow_cast-result
overflow_cast-result c = result_fits c

pub returns : goal.returns
returns c = rw (natural_reads_back c.round_natural.result (result_fits c).sfits) (raised_bend_is c)
