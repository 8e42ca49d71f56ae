-- `fresh` meets its contract: where neither file is refused and the state has room, the fresh calibrator is saved.
use Rattle.std.proofs.Common.{None, sym, ap, ◌∙◌}
use Rattle.bias.proofs.OpeningLaws.{both_pass}
use Rattle.window.specs.declared.Window.{Window}
use Rattle.window.proofs.AgeLaws.{empty_window_range}
use Rattle.calibrator.specs.Feeding.{fresh_of}
use Rattle.calibrator.specs.Steps.{calibrator_with}
use Rattle.state.specs.State.{saved}
use Rattle.live.proofs.CallLaws.{fresh_saved}
use Rattle.live.proofs.fresh.Goals as goal

pub invariant_of-parts : goal.invariant_of-parts
invariant_of-parts c = record {
  accepted_table = record { accepted = sym c.in_ok-open.ensures.verdict };
  accepted_bias = record { accepted = sym c.in_ok-open-2.ensures.verdict; bytes = λ k. (c.type_inv.bias k).fits };
  window_range = rw c.empty.ensures empty_window_range;
  last_range = tt;
}

pub returns-clause-state : goal.returns-clause-state
unfolding fresh_of
returns-clause-state c =
    let a = c.args in
    let state = a.state.now in
    fresh_saved a.table.now a.bias.now state (both_pass _ _ (sym c.in_ok-open.ensures.verdict) (sym c.in_ok-open-2.ensures.verdict)) c.if-state-lt-STATE_SIZE.false
    (c.save.ensures ∙ ap (λ (w : Window). saved state (calibrator_with a.table.now a.bias.now w None)) c.empty.ensures)
