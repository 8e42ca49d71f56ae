-- `sums_inside` meets its contract: each answer in the list is the test of the sum.
use Rattle.std.proofs.Common.{◌≡◌, ◌∙◌}
use Rattle.thermometer.specs.Reading.{from_to}
use Rattle.instrument.specs.declared.Target.TheVariants.{Kav, Wg}
use Rattle.lists.specs.Sum.{sum}
use Rattle.table.specs.Settings.{Settings, settings_of}
use Rattle.table.specs.Opening.{ages}
use Rattle.table.specs.Ranges.{weight_of, sums_inside}
use Rattle.table.proofs.Answers.{contains_is_from_to}
use Rattle.table.proofs.sums_inside.Goals as goal

pub returns : goal.returns
unfolding sums_inside
returns c =
    let s : Settings = settings_of ages c.args.table.now in
    let w : c.contains.result ≡ from_to 1 255 (sum s.w s.ages) = contains_is_from_to _ c.new.ensures c.contains.ensures.value c.sum_w.ensures in
    let v : c.contains-2.result ≡ from_to 1 255 (sum s.v s.ages) = contains_is_from_to _ c.new-2.ensures c.contains-2.ensures.value c.sum_v.ensures in
    let kav : c.contains-3.result ≡ from_to 1 255 (weight_of s Kav) = contains_is_from_to _ c.new-3.ensures c.contains-3.ensures.value c.sum_p.ensures in
    let wg : c.contains-4.result ≡ from_to 1 255 (weight_of s Wg) = contains_is_from_to _ c.new-4.ensures c.contains-4.ensures.value c.sum_p-2.ensures in
    c.all_hold.ensures ∙ rw (w, v, kav, wg)
