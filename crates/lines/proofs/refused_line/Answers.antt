-- `refused_line` meets its contract: its parts are pushed one behind the other.
use Rattle.std.proofs.Common.{rules}
use Rattle.lines.specs.Lines.{refused_line}
use Rattle.lines.proofs.refused_line.Goals as goal

pub returns : goal.returns
unfolding refused_line
returns c = search rules
