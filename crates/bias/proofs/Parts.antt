-- Where a channel's part of a bias file begins; it has bytes where the file has.
use Prim.Native.Nat.{ℕ, ◌+◌, ◌*◌, ◌<◌}
use native.Mathlib.Omega.{arith}
use mathlib.Core.List.{List}
use lib.ListN.{get_or, drop}
use Rattle.lists.proofs.Elements.{each_of_take, each_of_drop}
use Rattle.fields.specs.Fields.{value_start}
use Rattle.bias.specs.Bias.{bias_layout, part_size, bias_part}

-- where the part of channel c begins
abbrev pub part_start : ℕ → ℕ
part_start c = value_start bias_layout 0 + part_size * c

abbrev Byte : ℕ → Type 0
Byte n = n < 256

pub part_bytes : (bias : List ℕ) → ((k : ℕ) → get_or bias k 0 < 256) → (c k : ℕ) → get_or (bias_part bias c) k 0 < 256
part_bytes bias bytes c =
    let zero_is : Byte 0 = omega arith in
    each_of_take 0 Byte zero_is part_size (drop (part_start c) bias) (each_of_drop 0 Byte zero_is (part_start c) bias bytes)
