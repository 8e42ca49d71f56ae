-- `push_decimal` meets its contract: `io::decimal` writes the fewest digits of the number, at most ten of 32 bits, and they are pushed.
use Rattle.std.proofs.Common.{ap, ◌∙◌, ◌++◌, take, arith, length-append}
use Rattle.lines.specs.Lines.{decimal}
use Rattle.lines.proofs.DecimalLaws.{digits_are_decimal, ten_digits}
use Rattle.lines.proofs.Line.push_decimal.Goals as goal

pub push-requires : goal.push-requires
push-requires c = omega (arith, ten_digits c.from.result c.decimal-k.result c.decimal-k.ensures.len (omega arith))

pub returns-clause-digits : goal.returns-clause-digits
returns-clause-digits c =
    let digits = c.decimal-k.ensures.digits ∙ digits_are_decimal c.from.result c.decimal-k.result c.decimal-k.ensures.len ∙ ap decimal c.from.ensures in
    c.push.ensures ∙ ap (λ text. c.args.self.now ++ text) digits

pub returns-clause-at_most_ten : goal.returns-clause-at_most_ten
returns-clause-at_most_ten c =
    let few = ten_digits c.from.result c.decimal-k.result c.decimal-k.ensures.len (omega arith) in
    rw c.push.ensures (omega (arith, few, length-append c.args.self.now (take c.decimal-k.result c.decimal-k.new.out)))
