-- `flag_digits` meets its contract: the closure's answer at each channel is the digit of its flag.
use Rattle.std.proofs.Common.{◌+◌, ◌%◌, get_or, rules}
use Rattle.lists.proofs.Chains.{tabulate_from_fn}
use Rattle.lines.specs.Lines.{flag_digits}
use Rattle.lines.proofs.flag_digits.Goals as goal

pub returns : goal.returns
unfolding flag_digits
returns c = tabulate_from_fn {rule = λ k. 48 + get_or c.args.flags.now k 0 % 10} c.from_fn.ensures.items (λ i y q below called. search rules)
