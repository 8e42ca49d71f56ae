-- `reached` is reached, and every place that is reached is before `past`.
use Rattle.std.proofs.Common.{◌<◌, ◌-◌}
use Rattle.thermometer.specs.Steps.{Encloses}
use Rattle.thermometer.proofs.Coefficients.greatest_between.Given as goal

abbrev pub invariant-loop-past : goal.invariant-loop-past
invariant-loop-past l =
    (l.reached < l.past) × Encloses l.self.alpha l.self.delta l.self.beta l.m l.reached l.past

abbrev pub decreases-loop-past : goal.decreases-loop-past
decreases-loop-past l = l.past - l.reached
