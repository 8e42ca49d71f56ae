-- `scene::value_of` meets its contract: each mark is the float of its bits, negated.
use mathlib.Core.Path.{ap, sym}
use lib.Ieee.{of_bits, neg}
use Rattle.scene.specs.Scene.{value}
use Rattle.scene.proofs.value_of.Goals as goal

pub returns-in-Flagged : goal.returns-in-Flagged
unfolding of_bits neg
returns-in-Flagged c = ap value (sym c.in-Flagged.is)

pub returns-in-Outside : goal.returns-in-Outside
unfolding of_bits neg
returns-in-Outside c = ap value (sym c.in-Outside.is)

pub returns-in-Guard : goal.returns-in-Guard
unfolding of_bits neg
returns-in-Guard c = ap value (sym c.in-Guard.is)
