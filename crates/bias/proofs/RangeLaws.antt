-- The pairs of an accepted bias file are in their ranges: c0 has passed its test, and e is a number in two bytes.
use Prim.Native.Nat.{ℕ, ◌+◌, ◌*◌, ◌<◌}
use mathlib.Core.List.{List}
use mathlib.Core.Bool.{Bool}
use Rattle.lists.proofs.Every.{each_of_every}
use Rattle.fields.specs.Numbers.{u16_at}
use Rattle.fields.proofs.NumberLaws.{u16_below, signed_range}
use Rattle.instrument.specs.Instrument.{channels, positions}
use Rattle.table.specs.Ranges.{size_to}
use Rattle.table.proofs.Ranges.{bounded}
use Rattle.bias.specs.Bias.{pair_size, bias_part, c0_in}
use Rattle.bias.specs.Opening.{part_inside, bias_inside, AcceptedBias}
use Rattle.bias.specs.Ranges.{PartRange}
use Rattle.bias.proofs.Parts.{part_bytes}
use Rattle.bias.proofs.OpeningLaws.{accepted_bias_tests}

pub accepted_bias_ranges : {bias : List ℕ} → AcceptedBias bias → (c : ℕ) → c < channels → PartRange (bias_part bias c)
unfolding bias_inside part_inside
accepted_bias_ranges {bias} file c below i inside =
    let part = bias_part bias c in
    let partTest : ℕ → Bool = λ k. part_inside (bias_part bias k) in
    let pairTest : ℕ → Bool = λ k. size_to 4096 (c0_in part k) in
    let at = pair_size * i + 2 in
    let e = signed_range 0x8000 (u16_at part at) (u16_below part (part_bytes bias file.bytes c) at) in
    record {
      c0 = bounded (each_of_every pairTest positions i (each_of_every partTest channels c (accepted_bias_tests file).holds below) inside);
      e_low = e.0;
      e_high = e.1;
    }
