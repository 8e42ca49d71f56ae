-- `put_pairs` meets its contract: one more pair that is put is one more cell, and at the end they fill the array.
use Rattle.std.proofs.Common.{◌≡◌, refl, arith}
use Rattle.lists.proofs.Cells.{filled_none, filled_by_put, filled_to_end}
use Rattle.bias.specs.Pairs.{pair_count, pairs_of}
use Rattle.bias.proofs.put_pairs.Goals as goal
use Rattle.bias.proofs.put_pairs.Invariants.{numbers_at}

pub loop-k-init : goal.loop-k-init
loop-k-init c = filled_none (numbers_at c.args.bytes.now) 2 c.args.numbers.now

pub loop-k-preserved : goal.loop-k-preserved
loop-k-preserved c = filled_by_put (numbers_at c.args.bytes.now) 2 (λ _. refl) c.args.numbers.now c.loop-k.k c.loop-k.invariant refl c.put_pair.ensures

pub returns : goal.returns
unfolding pairs_of
returns c =
    let last : c.loop-k.k ≡ pair_count = omega arith in
    filled_to_end (numbers_at c.args.bytes.now) 2 pair_count c.args.numbers.now last (omega arith) c.loop-k.invariant
