-- `stop_line` meets its contract: each reason has its text, which is pushed.
use Rattle.std.proofs.Common.{rules}
use Rattle.lines.specs.Lines.{stop_line}
use Rattle.lines.proofs.stop_line.Goals as goal

pub returns-in-InputUnread : goal.returns-in-InputUnread
unfolding stop_line
returns-in-InputUnread c = search rules

pub returns-in-OutputUnwritten : goal.returns-in-OutputUnwritten
unfolding stop_line
returns-in-OutputUnwritten c = search rules
