-- `pair_inside` meets its contract: each answer in the list is the test of the pair's value.
use Rattle.std.proofs.Common.{◌≡◌, rules, ◌∙◌}
use Rattle.table.specs.Ranges.{size_to, pair_inside}
use Rattle.table.proofs.pair_inside.Goals as goal

pub returns : goal.returns
unfolding pair_inside
returns c =
    let shelf : c.size_to.result ≡ size_to 245760 c.pair_of-pair.result.shelf = search rules in
    let tnl : c.size_to-2.result ≡ size_to 8192 c.pair_of-pair.result.tnl = search rules in
    c.all_hold.ensures ∙ rw (shelf, tnl, c.shelf_rises.ensures, c.pair_of-pair.ensures)
