-- `answer_line` meets its contract: the line of an accepted answer has the number and the flags from the product's bytes, and that of a
-- refused one the refusal's number.
use Rattle.std.proofs.Common.{rules}
use Rattle.lines.specs.Lines.{reply_line}
use Rattle.lines.proofs.answer_line.Goals as goal

pub returns-in-Ok : goal.returns-in-Ok
unfolding reply_line
returns-in-Ok c = search rules

pub returns-in-Err : goal.returns-in-Err
unfolding reply_line
returns-in-Err c = search rules
