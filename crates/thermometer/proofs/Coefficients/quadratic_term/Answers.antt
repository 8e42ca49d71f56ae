-- `quadratic_term` meets its contract: q is the rule's, and its product with delta fits.
use Rattle.std.proofs.Common.{arith}
use Rattle.std.proofs.lemmas.Int.{to_z-of_z}
use Rattle.thermometer.specs.Rule.{s1}
use Rattle.thermometer.proofs.Bounds.{delta_q_fits}
use Rattle.thermometer.proofs.Coefficients.quadratic_term.Goals as goal

pub overflow_mul-from : goal.overflow_mul-from
overflow_mul-from c =
    let product = delta_q_fits c.requires c.args.self.admissible.delta_high in
    grind (arith, to_z-of_z)

pub returns : goal.returns
unfolding s1
returns c =
    let product = delta_q_fits c.requires c.args.self.admissible.delta_high in
    grind (arith, to_z-of_z)
