-- `part_of` meets its contract: from the part's start to its end there are as many bytes as a part has.
use Rattle.std.proofs.Common.{◌≡◌, ℕ, ◌+◌, ◌-◌, take, drop, ap, arith}
use Rattle.bias.specs.Bias.{part_size}
use Rattle.bias.proofs.Parts.{part_start}
use Rattle.bias.proofs.part_of.Goals as goal

pub returns-clause-part : goal.returns-clause-part
returns-clause-part c =
    let start = part_start c.args.c in
    let long : start + part_size - start ≡ part_size = omega arith in
    ap (λ (n : ℕ). take n (drop start c.args.bytes.now)) long
