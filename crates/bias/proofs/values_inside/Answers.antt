-- `values_inside` meets its contract: the chain asks each channel's part.
use Rattle.std.proofs.Common.{refl, rules, tests}
use Rattle.lists.proofs.Chains.{every_from_range}
use Rattle.bias.specs.Opening.{bias_inside}
use Rattle.bias.proofs.values_inside.Goals as goal

pub returns : goal.returns
unfolding bias_inside
returns c = every_from_range c.all.ensures.ran refl (λ i b q below k. search (rules, tests))
