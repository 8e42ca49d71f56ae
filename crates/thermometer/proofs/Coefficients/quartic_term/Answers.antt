-- `quartic_term` meets its contract: from 0 on it is 0 as s2 is; below 0 each number is the one that the rule names, and its bound makes it fit.
use Rattle.std.proofs.Common.{arith}
use Rattle.std.proofs.lemmas.Int.{ints, to_z-of_z}
use Rattle.thermometer.specs.Rule.{y, w, h, s2}
use Rattle.thermometer.proofs.Bounds.{quartic_fits}
use Rattle.thermometer.proofs.Coefficients.quartic_term.Goals as goal

pub returns-then-t-ge0 : goal.returns-then-t-ge0
unfolding s2
returns-then-t-ge0 c = grind (arith, ints, to_z-of_z)

pub overflow_mul-t : goal.overflow_mul-t
overflow_mul-t c = let fit = quartic_fits c.requires c.args.self.admissible.beta_high in grind (arith, to_z-of_z)

pub overflow_mul-y : goal.overflow_mul-y
unfolding y w
overflow_mul-y c = let fit = quartic_fits c.requires c.args.self.admissible.beta_high in grind (arith, to_z-of_z)

pub overflow_mul-from : goal.overflow_mul-from
unfolding y w h
overflow_mul-from c = let fit = quartic_fits c.requires c.args.self.admissible.beta_high in grind (arith, to_z-of_z)

pub returns : goal.returns
unfolding y w h s2
returns c = let fit = quartic_fits c.requires c.args.self.admissible.beta_high in grind (arith, ints, to_z-of_z)
