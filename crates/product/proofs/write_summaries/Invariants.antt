-- The first c summaries stand at the front, and the rest is as it was.
use Rattle.std.proofs.Common.{◌≡◌, get_or}
use Rattle.lists.specs.Build.{filled}
use Rattle.product.specs.Summary.{none_delivered}
use Rattle.product.specs.Product.{summary_size, summary_bytes}
use Rattle.product.proofs.write_summaries.Given as goal

abbrev pub invariant-loop-c : goal.invariant-loop-c
invariant-loop-c l = l.out ≡ filled (λ i. summary_bytes (get_or l.fn.all i none_delivered)) summary_size l.c l.initial.out
