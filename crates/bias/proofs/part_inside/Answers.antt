-- `part_inside` meets its contract: the chain asks each position.
use Rattle.std.proofs.Common.{refl, rules, tests}
use Rattle.lists.proofs.Chains.{every_from_range}
use Rattle.bias.specs.Opening.{part_inside}
use Rattle.bias.proofs.part_inside.Goals as goal

pub returns : goal.returns
unfolding part_inside
returns c = every_from_range c.all.ensures.ran refl (λ i b q below k. search (rules, tests))
