-- `opening_line` meets its contract: an accepted opening has no line, and a refusal's number is its discriminant.
use Rattle.std.proofs.Common.{rules}
use Rattle.lines.specs.Lines.{opening_line}
use Rattle.lines.proofs.opening_line.Goals as goal

pub returns-in-Ok : goal.returns-in-Ok
unfolding opening_line
returns-in-Ok c = search rules

pub returns-in-Err : goal.returns-in-Err
unfolding opening_line
returns-in-Err c = search rules
