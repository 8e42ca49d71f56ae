-- `count_behind` meets its contract: the constants of a kept channel are in their ranges.
use Rattle.std.proofs.Common.{◌-◌, ◌≤◌, subst, sym, ◌∙◌, arith, rules, tests}
use Rattle.instrument.specs.Instrument.{channels}
use Rattle.product.specs.Ranges.{ChannelRange}
use Rattle.lastscan.specs.Ranges.{LastRange}
use Rattle.lookup.proofs.count_behind.Goals as goal

pub count_with-requires : goal.count_with-requires
count_with-requires c =
    let range = subst LastRange c.in-Some.is c.requires in
    let inside : c.args.channel ≤ channels = search (rules, tests) in
    let place = c.args.channel - 1 in
    subst ChannelRange c.in-Ok.is (range.each place (omega arith))
