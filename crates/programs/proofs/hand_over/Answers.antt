-- `hand_over` meets what `write_to` asks: the product goes to standard output, the line to the program's stream.
use Rattle.std.proofs.Common.{[], refl}
use Rattle.programs.specs.Steps.{line_due, product_due}
use Rattle.programs.proofs.hand_over.Goals as goal

pub write_to-requires : goal.write_to-requires
write_to-requires c = product_due [] (rw c.in-Product.is at c.requires) refl

pub write_to-taken-requires : goal.write_to-taken-requires
write_to-taken-requires c =
    let together = rw c.in-Line.is at c.requires in
    line_due [] (rw (← c.as_bytes.ensures) at together) c.lines_to-to.ensures
