-- Each return is what the tests that led there make of `held_between`.
use Rattle.std.proofs.Common.{arith}
use Rattle.std.proofs.lemmas.Int.{to_z-of_z}
use Rattle.thermometer.specs.Steps.{held_between}
use Rattle.thermometer.proofs.held_between.Goals as goal

pub returns-then-t-low : goal.returns-then-t-low
unfolding held_between
returns-then-t-low c = grind (arith, to_z-of_z)

pub returns-then-high-t : goal.returns-then-high-t
unfolding held_between
returns-then-high-t c = grind (arith, to_z-of_z)

pub returns : goal.returns
unfolding held_between
returns c = grind (arith, to_z-of_z)
