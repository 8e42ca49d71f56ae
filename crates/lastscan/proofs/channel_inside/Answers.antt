-- `channel_inside` meets its contract: the slice behind the flag is the whole rest.
use Rattle.std.proofs.Common.{◌≡◌, length, drop, ap, ◌∙◌, rules, tests, arith, length-drop}
use Rattle.std.proofs.Math.Seq.{take_all}
use Rattle.lastscan.specs.Numbers.{all_zero, channel_numbers_inside}
use Rattle.lastscan.proofs.channel_inside.Goals as goal

pub returns-then-part-le4 : goal.returns-then-part-le4
unfolding channel_numbers_inside
returns-then-part-le4 c =
    let part = c.args.part.now in
    let long : length part ≡ 9 = search rules in
    let others : c.all_zero.result ≡ all_zero (drop 1 part) = c.all_zero.ensures ∙ ap all_zero (take_all 8 (drop 1 part) (omega (arith, length-drop 1 part))) in
    search (rules, tests)
