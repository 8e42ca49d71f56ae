-- `last_by` meets its contract: the closure's answer at each channel is that of its part.
use Rattle.std.proofs.Common.{Some, get_or, ap, rules}
use Rattle.std.proofs.lemmas.Bool.{eq-eqb}
use Rattle.lists.proofs.Chains.{tabulate_from_fn}
use Rattle.lastscan.specs.Numbers.{last_by}
use Rattle.lastscan.proofs.NumberLaws.{channel_at}
use Rattle.lastscan.proofs.last_by.Goals as goal

pub returns : goal.returns
unfolding last_by
returns c =
    let numbers = c.args.numbers.now in
    rw (eq-eqb (get_or numbers 0 0) 1 c.if-numbers-ne1.false)
    (ap Some (tabulate_from_fn {rule = channel_at numbers} c.from_fn.ensures.items (λ i y q below called. search rules)))
