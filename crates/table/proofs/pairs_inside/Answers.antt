-- `pairs_inside` meets its contract: the chain asks each pair.
use Rattle.std.proofs.Common.{refl, rules, tests}
use Rattle.lists.proofs.Chains.{every_from_range}
use Rattle.table.proofs.pairs_inside.Goals as goal

pub returns : goal.returns
returns c = every_from_range c.all.ensures.ran refl (λ i b q below k. search (rules, tests))
