-- The stretches and the summaries of the first c channels stand at the front, and the rest is as it was.
use Rattle.std.proofs.Common.{◌≡◌, ◌++◌, get_or, drop}
use Rattle.lists.specs.Build.{tabulate, filled}
use Rattle.record.specs.Record.{earth_part}
use Rattle.product.specs.Scenes.{no_channel}
use Rattle.product.specs.Summary.{summary_of}
use Rattle.product.specs.Product.{stretch_size, channel_scenes}
use Rattle.product.specs.Steps.{by_pairs}
use Rattle.product.proofs.write_scenes.Given as goal

abbrev pub invariant-loop-c : goal.invariant-loop-c
invariant-loop-c l = record {
  summaries_are : l.summary-items ≡ tabulate (λ i. summary_of (by_pairs l.fn.pairs i) (get_or l.fn.states i no_channel) (earth_part l.fn.earth i)) l.c ++ drop l.c l.initial.summary-items;
  out_is : l.out ≡ filled (λ i. channel_scenes (by_pairs l.fn.pairs i) (get_or l.fn.states i no_channel) (earth_part l.fn.earth i)) stretch_size l.c l.initial.out;
}
