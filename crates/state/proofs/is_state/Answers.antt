-- `is_state` meets its contract: each test that fails says that the bytes are no state; where the others hold, the values decide.
use Rattle.std.proofs.Common.{sym, ap, ◌∙◌}
use borrow.Author.Tests.{lt-leb}
use Rattle.table.specs.Opening.{opening}
use Rattle.bias.specs.Opening.{bias_opening}
use Rattle.state.specs.State.{state_size}
use Rattle.state.proofs.StateLaws.{no_state_by, table_in_error, bias_in_error, none_in_error, by_values}
use Rattle.state.proofs.is_state.Goals as goal

pub returns-then-state-lt-STATE_SIZE : goal.returns-then-state-lt-STATE_SIZE
returns-then-state-lt-STATE_SIZE c = sym (no_state_by c.args.state.now 0 (lt-leb state_size _ c.if-state-lt-STATE_SIZE.true))

pub returns-then-not-front_is_right : goal.returns-then-not-front_is_right
returns-then-not-front_is_right c = sym (no_state_by c.args.state.now 1 (sym c.if-not-front_is_right.ensures))

pub returns-then-is_err : goal.returns-then-is_err
returns-then-is_err c = sym (table_in_error c.args.state.now c.open.result (c.open.ensures.verdict ∙ ap opening c.table_in.ensures) (sym c.is_err.ensures.value ∙ c.if-is_err.true))

pub returns-then-is_err-2 : goal.returns-then-is_err-2
returns-then-is_err-2 c =
    sym
    (bias_in_error c.args.state.now c.open.result (c.open.ensures.verdict ∙ ap opening c.table_in.ensures) (sym c.is_err.ensures.value ∙ c.if-is_err.false)
    c.open-2.result (c.open-2.ensures.verdict ∙ ap bias_opening c.bias_in.ensures) (sym c.is_err-2.ensures.value ∙ c.if-is_err-2.true))

pub returns : goal.returns
returns c =
    let state = c.args.state.now in
    let passed = none_in_error state c.open.result (c.open.ensures.verdict ∙ ap opening c.table_in.ensures) (sym c.is_err.ensures.value ∙ c.if-is_err.false)
    c.open-2.result (c.open-2.ensures.verdict ∙ ap bias_opening c.bias_in.ensures) (sym c.is_err-2.ensures.value ∙ c.if-is_err-2.false) in
    c.values_inside.ensures ∙ by_values state c.if-state-lt-STATE_SIZE.false (sym c.if-not-front_is_right.ensures) passed
