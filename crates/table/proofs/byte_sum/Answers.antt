-- `byte_sum` meets its contract: what is added is a byte, and there are at most 255 of them.
use Rattle.std.proofs.Common.{rules, tests, arith, ◌+◌, ◌*◌, ◌∙◌, get_or}
use Rattle.std.proofs.Math.Nat.{sub-zero}
use Rattle.std.specs.List.{range_with_len}
use Rattle.std.proofs.lemmas.Iterator.{YieldsList-from_range, YieldsList-from_map}
use Rattle.std.proofs.lemmas.Iterator.Adapters.{fits_from_length, at_most_from_yields_List}
use Rattle.std.proofs.lemmas.Iterator.Consumers.{sum_by_from_yields_List}
use Rattle.std.proofs.lemmas.List.FromFn.{length-range_with_len}
use Rattle.lists.proofs.Chains.{sum_of_range}
use Rattle.table.proofs.byte_sum.Goals as goal

pub sum-requires-clause-fits : goal.sum-requires-clause-fits
sum-requires-clause-fits c =
    fits_from_length _ _ 255 _
    (at_most_from_yields_List (YieldsList-from_range 0 c.args.n c.args.n c.map.ensures.source (sub-zero c.args.n)) (rw (length-range_with_len 0 c.args.n) c.requires.1))
    c.map.ensures.closure (omega arith) (λ x r q k. search (rules, tests))

pub returns : goal.returns
returns c =
    sum_by_from_yields_List _ (range_with_len 0 c.args.n) c.map.result _ c.sum.ensures.ran
    (YieldsList-from_map _ (λ k. get_or c.args.table.now (c.args.at + c.args.step * k) 0) (YieldsList-from_range 0 c.args.n c.args.n c.map.ensures.source (sub-zero c.args.n))
    c.map.ensures.closure (λ x r q k. search (rules, tests)))
    ∙ sum_of_range _ c.args.n
