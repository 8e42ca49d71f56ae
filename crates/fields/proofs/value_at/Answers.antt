-- `value_at` meets its contract: what `field_is_right` answers decides between the part behind the head and the empty part, as in `field_value`.
use Rattle.std.proofs.Common.{arith}
use Rattle.std.proofs.lemmas.Grind.{common_steps}
use Rattle.fields.specs.Fields.{field_value}
use Rattle.fields.proofs.value_at.Goals as goal

pub returns-then-not-field_is_right : goal.returns-then-not-field_is_right
unfolding field_value
returns-then-not-field_is_right c = grind (arith, common_steps)

pub returns : goal.returns
unfolding field_value
returns c = grind (arith, common_steps)
