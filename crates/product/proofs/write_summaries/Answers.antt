-- `write_summaries` meets its contract: each turn puts the next summary right behind those that stand already.
use Rattle.std.proofs.Common.{rules, arith, ap}
use Rattle.lists.proofs.Cells.{filled_none, filled_by_put, filled_to_end}
use Rattle.instrument.specs.Instrument.{channels}
use Rattle.product.specs.Product.{summary_size, summary_bytes, summaries_bytes}
use Rattle.product.proofs.PastSummaries.{summary_of}
use Rattle.product.proofs.Lengths.{length_summary_bytes}
use Rattle.product.proofs.write_summaries.Goals as goal

pub loop-c-init : goal.loop-c-init
loop-c-init c = filled_none _ summary_size _

pub loop-c-preserved : goal.loop-c-preserved
loop-c-preserved c =
    filled_by_put _ summary_size (λ i. length_summary_bytes _) c.args.out.now c.loop-c.c c.loop-c.invariant
    (ap summary_bytes (summary_of c.args.all c.loop-c.c (search rules))) c.put_summary.ensures

pub returns : goal.returns
unfolding summaries_bytes
returns c = filled_to_end _ summary_size channels c.args.out.now (omega arith) c.requires.0 c.loop-c.invariant
