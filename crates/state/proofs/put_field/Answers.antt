-- `put_field` meets its contract: the head, and right behind it the value.
use Rattle.std.proofs.Common.{arith}
use Rattle.state.proofs.PutLaws.{value_put}
use Rattle.state.proofs.put_field.Goals as goal

pub returns : goal.returns
returns c = value_put c.args.out.now c.args.value.now c.args.at c.args.field (omega arith) c.put_head.ensures c.copy.ensures
