-- `all_zero` meets its contract: the chain asks each number.
use Rattle.std.proofs.Common.{refl, rules, tests}
use Rattle.lists.proofs.Chains.{every_from_slice}
use Rattle.lastscan.specs.Numbers.{all_zero}
use Rattle.lastscan.proofs.all_zero.Goals as goal

pub returns : goal.returns
unfolding all_zero
returns c = every_from_slice 0 c.all.ensures.ran (cc) refl (λ i x b q below at k. search (rules, tests))
