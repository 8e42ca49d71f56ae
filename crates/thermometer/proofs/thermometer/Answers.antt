-- `thermometer` meets its contract: its tests are those of `reading`, in the same order: each return is what the tests that led there make of `reading`.
use Rattle.std.proofs.Common.{arith}
use Rattle.std.proofs.lemmas.Int.{ints, to_z-of_z}
use Rattle.thermometer.proofs.ReadingLaws.{reading_coefficient_outside, reading_pam_not_above, reading_count_below, reading_ratio_below, reading_ratio_above, reading_units}
use Rattle.thermometer.proofs.thermometer.Goals as goal

pub returns-then-not-resistance_inside : goal.returns-then-not-resistance_inside
returns-then-not-resistance_inside c = grind (arith, reading_coefficient_outside)

pub returns-then-not-coefficients_inside : goal.returns-then-not-coefficients_inside
returns-then-not-coefficients_inside c = grind (arith, reading_coefficient_outside)

pub returns-then-pam-offset : goal.returns-then-pam-offset
returns-then-pam-offset c = grind (arith, reading_pam_not_above)

pub returns-then-count-offset : goal.returns-then-count-offset
returns-then-count-offset c = grind (arith, reading_count_below)

pub returns-then-m-ratio : goal.returns-then-m-ratio
returns-then-m-ratio c = grind (arith, ints, to_z-of_z, reading_ratio_below)

pub returns-then-ratio-m : goal.returns-then-ratio-m
returns-then-ratio-m c = grind (arith, ints, to_z-of_z, reading_ratio_above)

pub returns : goal.returns
returns c = grind (arith, ints, to_z-of_z, reading_units)
