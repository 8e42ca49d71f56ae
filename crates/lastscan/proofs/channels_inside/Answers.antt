-- `channels_inside` meets its contract: the chain asks each channel's part.
use Rattle.std.proofs.Common.{refl, rules, tests}
use Rattle.lists.proofs.Chains.{every_from_range}
use Rattle.lastscan.proofs.channels_inside.Goals as goal

pub returns : goal.returns
returns c = every_from_range c.all.ensures.ran refl (λ i b q below k. search (rules, tests))
