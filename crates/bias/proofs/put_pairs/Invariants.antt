-- The numbers of the first k pairs stand at the front, and the rest is as it was.
use Rattle.std.proofs.Common.{◌≡◌, ℕ, ◌+◌, ◌*◌, List}
use Rattle.lists.specs.Build.{filled}
use Rattle.fields.specs.Fields.{value_start}
use Rattle.bias.specs.Bias.{bias_layout, pair_size}
use Rattle.bias.specs.Pairs.{pair_at}
use Rattle.bias.proofs.put_pairs.Given as goal

abbrev pub numbers_at : List ℕ → ℕ → List ℕ
numbers_at bytes k = pair_at bytes (value_start bias_layout 0 + pair_size * k)

abbrev pub invariant-loop-k : goal.invariant-loop-k
invariant-loop-k l = l.numbers ≡ filled (numbers_at l.bytes) 2 l.k l.fn.numbers
