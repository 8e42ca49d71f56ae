-- `last_in` meets its contract: numbers that pass the test of a kept scan fit the constants of its channels.
use Rattle.std.proofs.Common.{length, ap, ◌∙◌}
use Rattle.std.specs.Prelude.{is_some}
use Rattle.lastscan.specs.Numbers.{last_inside, last_by}
use Rattle.lastscan.proofs.NumberLaws.{inside_is_small}
use Rattle.state.specs.State.{window_in}
use Rattle.state.proofs.StateLaws.{length_last_numbers}
use Rattle.state.proofs.last_in.Goals as goal

pub last_by-requires : goal.last_by-requires
last_by-requires c =
    let accepted = is_some (window_in c.args.state.now).last in
    inside_is_small accepted c.last_numbers_in.result (ap length c.last_numbers_in.ensures ∙ length_last_numbers c.args.state.now) (ap (last_inside accepted) c.last_numbers_in.ensures ∙ c.requires.1)

pub returns : goal.returns
returns c = c.last_by.ensures ∙ ap last_by c.last_numbers_in.ensures
