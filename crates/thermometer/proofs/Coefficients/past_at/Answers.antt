-- Each return is what the tests that led there make of `past_at`.
use Rattle.std.proofs.Common.{arith}
use Rattle.std.proofs.lemmas.Bool.Decides.{nat_tests}
use Rattle.std.proofs.lemmas.Int.{to_z-of_z}
use Rattle.thermometer.specs.Steps.{past_at}
use Rattle.thermometer.proofs.Coefficients.past_at.Goals as goal

pub returns-then-near : goal.returns-then-near
unfolding past_at
returns-then-near c = grind (arith, nat_tests)

pub returns-then-m-ratio_at : goal.returns-then-m-ratio_at
unfolding past_at
returns-then-m-ratio_at c = grind (arith, nat_tests, to_z-of_z)

pub returns : goal.returns
unfolding past_at
returns c = grind (arith, nat_tests, to_z-of_z)
