-- `q_at` meets its contract: t and t - 409,600 are small enough for their product to fit.
use Rattle.std.proofs.Common.{arith}
use Rattle.std.proofs.lemmas.Int.{to_z-of_z}
use Rattle.thermometer.specs.Rule.{q}
use Rattle.thermometer.proofs.Bounds.{t_less_fits, q_fits}
use Rattle.thermometer.proofs.q_at.Goals as goal

pub overflow_mul-result : goal.overflow_mul-result
unfolding q
overflow_mul-result c =
    let less = t_less_fits c.requires in
    let product = q_fits c.requires in
    grind (arith, to_z-of_z)

pub returns : goal.returns
unfolding q
returns c =
    let less = t_less_fits c.requires in
    let product = q_fits c.requires in
    grind (arith, to_z-of_z)
