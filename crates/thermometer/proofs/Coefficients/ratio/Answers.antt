-- `ratio` meets its contract: the two terms are the rule's, and the bound of each number makes it fit.
use Rattle.std.proofs.Common.{arith}
use Rattle.std.proofs.lemmas.Int.{to_z-of_z}
use Rattle.thermometer.specs.Rule.{F}
use Rattle.thermometer.proofs.Bounds.{ratio_fits}
use Rattle.thermometer.proofs.Coefficients.ratio.Goals as goal

pub overflow_sub-t : goal.overflow_sub-t
overflow_sub-t c = let fit = ratio_fits c.requires c.args.self.admissible in grind (arith, to_z-of_z)

pub overflow_sub-t-2 : goal.overflow_sub-t-2
overflow_sub-t-2 c = let fit = ratio_fits c.requires c.args.self.admissible in grind (arith, to_z-of_z)

pub overflow_mul-from : goal.overflow_mul-from
overflow_mul-from c = let fit = ratio_fits c.requires c.args.self.admissible in grind (arith, to_z-of_z)

pub overflow_add-result : goal.overflow_add-result
unfolding F
overflow_add-result c = let fit = ratio_fits c.requires c.args.self.admissible in grind (arith, to_z-of_z)

pub returns : goal.returns
unfolding F
returns c = let fit = ratio_fits c.requires c.args.self.admissible in grind (arith, to_z-of_z)
