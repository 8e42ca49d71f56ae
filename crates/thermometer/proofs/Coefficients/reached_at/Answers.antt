-- Each return is what the test of F that led there makes of `reached_at`.
use Rattle.std.proofs.Common.{arith}
use Rattle.std.proofs.lemmas.Int.{to_z-of_z}
use Rattle.thermometer.specs.Steps.{reached_at}
use Rattle.thermometer.proofs.Coefficients.reached_at.Goals as goal

pub returns-then-ratio_at-m : goal.returns-then-ratio_at-m
unfolding reached_at
returns-then-ratio_at-m c = grind (arith, to_z-of_z)

pub returns : goal.returns
unfolding reached_at
returns c = grind (arith, to_z-of_z)
