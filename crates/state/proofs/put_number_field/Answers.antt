-- `put_number_field` meets its contract: the head, and right behind it the numbers.
use Rattle.std.proofs.Common.{arith}
use Rattle.state.specs.State.{number_bytes}
use Rattle.state.proofs.NumberLaws.{length_number_bytes}
use Rattle.state.proofs.PutLaws.{value_put}
use Rattle.state.proofs.put_number_field.Goals as goal

pub returns : goal.returns
returns c =
    let numbers = c.args.numbers.now in
    value_put c.args.out.now (number_bytes numbers) c.args.at c.args.field (omega (arith, length_number_bytes numbers)) c.put_head.ensures c.put_numbers.ensures
