-- A bias file of zeros is accepted, and each of its c0 and e is 0, also past the last channel and the last position.
use Prim.Native.Nat.{ℕ, zero, suc, ◌+◌, ◌*◌, ◌<◌}
use native.Mathlib.Omega.{arith}
use mathlib.Core.Path.{◌≡◌, refl, sym, ap, ap₂}
use mathlib.Core.List.{List}
use mathlib.Core.Bool.{true}
use lib.IntN.{pos}
use lib.ListN.{length, get_or, drop, replicate, length-replicate}
use lib.Seq.{drop-drop}
use Rattle.lists.proofs.Every.{every_when_each}
use Rattle.lists.proofs.Elements.{zero_of_zeros, each_appended, each_of_take, each_of_drop}
use Rattle.fields.specs.Numbers.{i16_at, signed}
use Rattle.fields.specs.declared.Field.{Field}
use Rattle.fields.specs.Fields.{head_size, field_at, field_is_right, layout_is_right}
use Rattle.fields.proofs.FieldBytes.{head_bytes_lem, length_field}
use Rattle.instrument.specs.Instrument.{channels, positions}
use Rattle.table.specs.Ranges.{size_to}
use Rattle.table.proofs.OpeningLaws.{opening_passes}
use Rattle.bias.specs.Bias.{bias_layout, bias_size, pair_size, part_size, bias_part, c0_in, e_in, zero_bias}
use Rattle.bias.specs.Opening.{part_inside, bias_inside, bias_opening, AcceptedBias}

-- its field, and the value
abbrev bias_field : Field
bias_field = field_at bias_layout 0

abbrev zeros : List ℕ
zeros = replicate bias_field.size 0

zero_value : (k : ℕ) → get_or zeros k 0 ≡ 0
zero_value = zero_of_zeros bias_field.size

-- ---- a part

abbrev IsZero : ℕ → Type 0
IsZero byte = byte ≡ 0

value_behind_head : (n : ℕ) → drop (head_size + n) zero_bias ≡ drop n zeros
unfolding zero_bias
value_behind_head n = sym (drop-drop n head_size zero_bias)

zero_byte : (c k : ℕ) → get_or (bias_part zero_bias c) k 0 ≡ 0
zero_byte c =
    let n = part_size * c in
    rw (value_behind_head n) (each_of_take 0 IsZero refl part_size (drop n zeros) (each_of_drop 0 IsZero refl n zeros zero_value))

zero_number : (c at : ℕ) → i16_at (bias_part zero_bias c) at ≡ pos 0
zero_number c at = ap (signed 0x8000) (ap₂ (λ (high low : ℕ). 256 * high + low) (zero_byte c at) (zero_byte c (at + 1)))

pub zero_c0 : (c i : ℕ) → c0_in (bias_part zero_bias c) i ≡ pos 0
zero_c0 c i = zero_number c (pair_size * i)

pub zero_e : (c i : ℕ) → e_in (bias_part zero_bias c) i ≡ pos 0
zero_e c i = zero_number c (pair_size * i + 2)

-- ---- the file

zero_bias_length : length zero_bias ≡ bias_size
unfolding zero_bias
zero_bias_length = length_field bias_field zeros (length-replicate {A = ℕ} bias_field.size 0)

zero_bias_layout : layout_is_right zero_bias 0 bias_layout ≡ true
unfolding zero_bias layout_is_right field_is_right
zero_bias_layout = refl

zero_bias_inside : bias_inside zero_bias ≡ true
unfolding bias_inside part_inside
zero_bias_inside = every_when_each _ channels (λ c below. every_when_each _ positions (λ i inside. ap (size_to 4096) (zero_c0 c i)))

head_bytes : (k : ℕ) → get_or (head_bytes_lem bias_field) k 0 < 256
head_bytes zero = omega arith
head_bytes (suc zero) = omega arith
head_bytes (suc (suc zero)) = omega arith
head_bytes (suc (suc (suc k))) = omega arith

zero_bias_bytes : (k : ℕ) → get_or zero_bias k 0 < 256
unfolding zero_bias
zero_bias_bytes = each_appended 0 (λ byte. byte < 256) (omega arith) (head_bytes_lem bias_field) zeros head_bytes (λ k. omega (arith, zero_value k))

pub zero_bias_accepted : AcceptedBias zero_bias
unfolding bias_opening
zero_bias_accepted = record {
  accepted = opening_passes bias_layout (bias_inside zero_bias) zero_bias zero_bias_length zero_bias_layout zero_bias_inside;
  bytes = zero_bias_bytes;
}
