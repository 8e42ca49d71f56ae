-- `channel_inside` meets its contract: each answer in the list is the test of the channel's value.
use Rattle.std.proofs.Common.{◌≡◌, rules, ◌∙◌}
use Rattle.table.specs.Ranges.{size_to, channel_inside}
use Rattle.table.proofs.channel_inside.Goals as goal

pub returns : goal.returns
unfolding channel_inside
returns c =
    let b : c.size_to.result ≡ size_to 4096 c.corrections_of-k.result.b = search rules in
    let tnl : c.size_to-2.result ≡ size_to 0 c.corrections_of-k.result.tnl = search rules in
    c.all_hold.ensures ∙ rw (b, tnl, c.limits_of-warm.ensures, c.limits_of-cold.ensures, c.corrections_of-k.ensures)
