-- `total_count` meets its contract: what is added is a count, below 65,536, and there are 22 of them.
use Rattle.std.proofs.Common.{rules, tests, arith, ◌≡◌, ◌∙◌}
use Rattle.std.specs.List.{sum_by}
use Rattle.std.proofs.lemmas.Iterator.{YieldsList-from_slice}
use Rattle.std.proofs.lemmas.Iterator.Adapters.{fits_from_length, at_most_from_yields_List}
use Rattle.lists.proofs.Chains.{sum_of_list}
use Rattle.instrument.specs.Instrument.{channels}
use Rattle.product.specs.declared.Summary.{Summary}
use Rattle.product.specs.Summary.{none_delivered}
use Rattle.product.proofs.total_count.Goals as goal

pub sum-requires-clause-fits : goal.sum-requires-clause-fits
sum-requires-clause-fits c =
    fits_from_length _ _ channels _ (at_most_from_yields_List (YieldsList-from_slice c.args.all cc) (search rules)) c.map.ensures.closure (omega arith) (λ x r q k. search (rules, tests))

pub returns : goal.returns
returns c =
    let added : c.sum.result ≡ sum_by (λ (s : Summary). s.count) c.args.all = search rules in
    added ∙ sum_of_list c.args.all none_delivered (search rules) (λ s. s.count)
