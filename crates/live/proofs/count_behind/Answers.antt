-- `count_behind` meets its contract: the answer is that of the last scan that is kept in the state.
use Rattle.std.proofs.Common.{sym, ap, ◌∙◌}
use Rattle.std.proofs.lemmas.Result.{err_from_is_err_and}
use Rattle.lastscan.specs.LastScan.{LastScan}
use Rattle.lastscan.proofs.NumberLaws.{inside_in_range}
use Rattle.lookup.specs.Lookup.{count_behind}
use Rattle.state.proofs.StateLaws.{state_is_long, state_keeps_last, length_last_numbers}
use Rattle.live.proofs.CallLaws.{no_state_found, state_found}
use Rattle.live.proofs.count_behind.Goals as goal

pub returns-then-not-is_state : goal.returns-then-not-is_state
returns-then-not-is_state c = sym (no_state_found c.args.state.now c.args.channel c.args.wanted (sym c.if-not-is_state.ensures))

pub last_in-requires : goal.last_in-requires
last_in-requires c =
    let right = sym c.if-not-is_state.ensures in
    (state_is_long c.args.state.now right, state_keeps_last c.args.state.now right)

pub count_behind-requires : goal.count_behind-requires
count_behind-requires c = rw c.last_in.ensures (inside_in_range _ _ (length_last_numbers c.args.state.now) (state_keeps_last c.args.state.now (sym c.if-not-is_state.ensures)))

pub returns-in_err-count_behind : goal.returns-in_err-count_behind
returns-in_err-count_behind c =
    let a = c.args in
    let p = err_from_is_err_and c.from_residual.result c.from_residual.ensures.1 in
    rw (p.1, p.2)
    (c.in_err-count_behind.ensures
    ∙ ap (λ (last : LastScan). count_behind last a.channel a.wanted) c.last_in.ensures
    ∙ sym (state_found a.state.now a.channel a.wanted (sym c.if-not-is_state.ensures)))

pub returns : goal.returns
returns c =
    let a = c.args in
    c.in_ok-count_behind.ensures
    ∙ ap (λ (last : LastScan). count_behind last a.channel a.wanted) c.last_in.ensures
    ∙ sym (state_found a.state.now a.channel a.wanted (sym c.if-not-is_state.ensures))
