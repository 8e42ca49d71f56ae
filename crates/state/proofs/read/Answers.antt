-- `read` meets its contract: each test that fails says that the bytes are no state; where all hold, the files are those of the calibrator.
use Rattle.std.proofs.Common.{◌≡◌, refl, sym, ap, ◌∙◌}
use borrow.Author.Tests.{lt-leb}
use Rattle.table.specs.Opening.{opening}
use Rattle.bias.specs.Opening.{bias_opening}
use Rattle.state.specs.State.{state_size, table_in, bias_in}
use Rattle.state.proofs.StateLaws.{no_state_by, refused_table_is_no_state, refused_bias_is_no_state, both_opened, opened_has, wrong_values_are_no_state, state_by_values, calibrator_read}
use Rattle.state.proofs.read.Goals as goal

pub returns-then-state-lt-STATE_SIZE : goal.returns-then-state-lt-STATE_SIZE
returns-then-state-lt-STATE_SIZE c = no_state_by c.args.state.now 0 (lt-leb state_size _ c.if-state-lt-STATE_SIZE.true)

pub returns-then-not-front_is_right : goal.returns-then-not-front_is_right
returns-then-not-front_is_right c = no_state_by c.args.state.now 1 (sym c.if-not-front_is_right.ensures)

pub returns-in_err-table : goal.returns-in_err-table
returns-in_err-table c = rw c.from_residual.ensures (refused_table_is_no_state c.args.state.now c.open.result (c.open.ensures.verdict ∙ ap opening c.table_in.ensures) c.in_err-table.ensures.value)

pub returns-in_err-bias : goal.returns-in_err-bias
returns-in_err-bias c =
    rw c.from_residual-in_err-bias.ensures
    (refused_bias_is_no_state c.args.state.now c.open.result (c.open.ensures.verdict ∙ ap opening c.table_in.ensures) c.open-2.result (c.open-2.ensures.verdict ∙ ap bias_opening c.bias_in.ensures) c.in_ok-table.ensures.value c.in_err-bias.ensures.value)

pub returns-then-not-values_inside : goal.returns-then-not-values_inside
returns-then-not-values_inside c = wrong_values_are_no_state c.args.state.now (sym c.if-not-values_inside.ensures)

pub returns : goal.returns
returns c =
    let state = c.args.state.now in
    let passed = both_opened state c.open.result (c.open.ensures.verdict ∙ ap opening c.table_in.ensures) c.open-2.result (c.open-2.ensures.verdict ∙ ap bias_opening c.bias_in.ensures) c.in_ok-table.ensures.value c.in_ok-bias.ensures.value in (
      state_by_values state (sym c.if-not-values_inside.ensures) c.if-state-lt-STATE_SIZE.false (sym c.if-not-front_is_right.ensures) passed,
      calibrator_read state
          (opened_has c.open.result (λ table. table.bytes ≡ table_in state) (rw c.table_in.ensures at c.open.ensures.table) c.in_ok-table.ensures.value)
          (opened_has c.open-2.result (λ bias. bias.bytes ≡ bias_in state) (rw c.bias_in.ensures at c.open-2.ensures.bias) c.in_ok-bias.ensures.value)
          refl
          refl,
    )
