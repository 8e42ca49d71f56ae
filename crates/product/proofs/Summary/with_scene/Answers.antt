-- `Summary::with_scene` meets its contract: each arm is the case of `with_scene` that the match found.
use Rattle.std.proofs.Common.{rules}
use Rattle.product.specs.Summary.{with_scene}
use Rattle.product.proofs.Summary.with_scene.Goals as goal

pub returns-in-Kelvin : goal.returns-in-Kelvin
unfolding with_scene
returns-in-Kelvin c = search rules

pub returns-in-Flagged : goal.returns-in-Flagged
unfolding with_scene
returns-in-Flagged c = search rules

pub returns-in-Outside : goal.returns-in-Outside
unfolding with_scene
returns-in-Outside c = search rules

pub returns-in-Guard : goal.returns-in-Guard
unfolding with_scene
returns-in-Guard c = search rules
