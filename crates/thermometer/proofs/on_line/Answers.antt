-- `on_line` meets its contract: m is small enough for the product to fit, and the rest is the definition.
use Rattle.std.proofs.Common.{arith}
use Rattle.std.proofs.lemmas.Int.{to_z-of_z}
use Rattle.thermometer.specs.Steps.{on_line_through_zero}
use Rattle.thermometer.proofs.Search.{above_one_fits, line_numerator_fits}
use Rattle.thermometer.proofs.on_line.Goals as goal

pub returns : goal.returns
unfolding on_line_through_zero
returns c =
    let above_one = above_one_fits c.requires.1 in
    let numerator = line_numerator_fits c.requires.1 in
    grind (arith, to_z-of_z)
