-- `Calibrator::fresh` meets its contract: its window is the empty one, which keeps to its ranges, and nothing is kept of a last scan.
use Rattle.std.proofs.Common.{None, ap, sym, subst}
use Rattle.window.specs.declared.Window.{Window}
use Rattle.window.specs.Ranges.{WindowRange}
use Rattle.window.proofs.AgeLaws.{empty_window_range}
use Rattle.calibrator.specs.Feeding.{fresh_of}
use Rattle.calibrator.specs.Steps.{calibrator_of}
use Rattle.calibrator.proofs.Calibrator.fresh.Goals as goal

pub invariant_of-result : goal.invariant_of-result
invariant_of-result c = record {
  window_range = subst WindowRange (sym c.empty.ensures) empty_window_range;
  last_range = tt;
}

pub returns : goal.returns
unfolding fresh_of
returns c = ap (λ (window : Window). calibrator_of c.args.table c.args.bias window None) c.empty.ensures
