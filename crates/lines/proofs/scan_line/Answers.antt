-- `scan_line` meets its contract: its parts are pushed one behind the other.
use Rattle.std.proofs.Common.{rules}
use Rattle.lines.specs.Lines.{scan_line}
use Rattle.lines.proofs.scan_line.Goals as goal

pub returns : goal.returns
unfolding scan_line
returns c = search rules
