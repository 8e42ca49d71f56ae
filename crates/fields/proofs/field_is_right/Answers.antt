-- `field_is_right` meets its contract: the two tests are those of `field_is_right`, in its order.
use Rattle.std.proofs.Common.{arith}
use Rattle.std.proofs.lemmas.Grind.{common_steps}
use Rattle.fields.specs.Fields.{field_is_right}
use Rattle.fields.proofs.field_is_right.Goals as goal

pub returns-then-bytes-at : goal.returns-then-bytes-at
unfolding field_is_right
returns-then-bytes-at c = grind (arith, common_steps)

pub returns-else-bytes-at : goal.returns-else-bytes-at
unfolding field_is_right
returns-else-bytes-at c = grind (arith, common_steps)
