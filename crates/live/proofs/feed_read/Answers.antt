-- `feed_read` meets its contract: what is read from a state keeps to its ranges, and what is fed by `feed_with` is saved.
use Rattle.std.proofs.Common.{ℕ, List, ◌≡◌, true, rules}
use Rattle.window.specs.Ranges.{WindowRange}
use Rattle.lastscan.specs.Ranges.{LastRange}
use Rattle.lastscan.proofs.NumberLaws.{inside_in_range}
use Rattle.state.specs.State.{window_in, last_in, is_state}
use Rattle.state.proofs.InsideLaws.{window_in_range}
use Rattle.state.proofs.StateLaws.{state_is_long, state_keeps_window, state_keeps_last, length_last_numbers}
use Rattle.live.proofs.feed_read.Goals as goal

ranges_read : (state : List ℕ) → is_state state ≡ true → WindowRange (window_in state) × LastRange (last_in state)
ranges_read state right = (window_in_range (state_keeps_window state right), inside_in_range _ _ (length_last_numbers state) (state_keeps_last state right))

pub window_in-window-requires : goal.window_in-window-requires
window_in-window-requires c = state_is_long c.args.state.now c.requires

pub last_in-last-requires : goal.last_in-last-requires
last_in-last-requires c = (state_is_long c.args.state.now c.requires, state_keeps_last c.args.state.now c.requires)

pub feed_with-fed-requires : goal.feed_with-fed-requires
feed_with-fed-requires c = rw (c.window_in-window.ensures, c.last_in-last.ensures) (ranges_read c.args.state.now c.requires)

pub save_fed-requires-clause-room : goal.save_fed-requires-clause-room
save_fed-requires-clause-room c = state_is_long c.args.state.now c.requires

-- of what was fed; of what was read they hold too
pub save_fed-requires-clause-ranges : goal.save_fed-requires-clause-ranges
save_fed-requires-clause-ranges c =
    let read : WindowRange c.window_in-window.result × LastRange c.last_in-last.result =
    rw (c.window_in-window.ensures, c.last_in-last.ensures) (ranges_read c.args.state.now c.requires) in
    search (rules, read)
