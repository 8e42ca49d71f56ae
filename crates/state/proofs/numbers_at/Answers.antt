-- `numbers_at` meets its contract: the closure's answer at each place is the number there.
use Rattle.std.proofs.Common.{◌+◌, ◌*◌, rules}
use Rattle.lists.proofs.Chains.{tabulate_from_fn}
use Rattle.fields.specs.Numbers.{u32_at}
use Rattle.state.specs.State.{numbers_at}
use Rattle.state.proofs.numbers_at.Goals as goal

pub returns : goal.returns
unfolding numbers_at
returns g c = tabulate_from_fn {rule = λ i. u32_at c.args.state.now (c.args.at + 4 * i)} c.from_fn.ensures.items (λ i y q below called. search rules)
