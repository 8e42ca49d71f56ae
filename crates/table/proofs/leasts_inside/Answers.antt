-- `leasts_inside` meets its contract: each answer in the list is the test of the table's value.
use Rattle.std.proofs.Common.{◌≡◌, ◌∙◌}
use Rattle.thermometer.specs.Reading.{from_to}
use Rattle.instrument.specs.declared.Side.TheVariants.{Warm, Cold}
use Rattle.instrument.specs.declared.Target.TheVariants.{Kav, Wg}
use Rattle.table.specs.Settings.{Settings, settings_of}
use Rattle.table.specs.Opening.{ages}
use Rattle.table.specs.Ranges.{leasts_inside}
use Rattle.table.proofs.Answers.{contains_is_from_to}
use Rattle.table.proofs.leasts_inside.Goals as goal

pub returns : goal.returns
unfolding leasts_inside
returns c =
    let s : Settings = settings_of ages c.args.table.now in
    let percent : c.contains.result ≡ from_to 1 100 s.percent_thermometers = contains_is_from_to _ c.new.ensures c.contains.ensures.value c.percent_thermometers.ensures in
    let warm : c.contains-2.result ≡ from_to 1 100 (s.percent Warm) = contains_is_from_to _ c.new-2.ensures c.contains-2.ensures.value c.percent_of.ensures in
    let cold : c.contains-3.result ≡ from_to 1 100 (s.percent Cold) = contains_is_from_to _ c.new-3.ensures c.contains-3.ensures.value c.percent_of-2.ensures in
    let kav : c.contains-4.result ≡ from_to 1 8 (s.least Kav) = contains_is_from_to _ c.new-4.ensures c.contains-4.ensures.value (c.from.ensures ∙ c.least_of.ensures) in
    let wg : c.contains-5.result ≡ from_to 1 7 (s.least Wg) = contains_is_from_to _ c.new-5.ensures c.contains-5.ensures.value (c.from-2.ensures ∙ c.least_of-2.ensures) in
    c.all_hold.ensures ∙ rw (percent, warm, cold, kav, wg)
