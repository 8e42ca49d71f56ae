-- Request W1, scan bias: a bias file holds one field, tag 0x13, length 8,448: for each channel and position, c0 and e. They stand channel by
-- channel, position by position, c0 then e; channels and positions are counted from 0.
use Rattle.std.specs.Prelude.{ℕ, ◌+◌, ◌*◌, List, [], ◌∷◌, ℤ, take, drop, replicate}
use Rattle.fields.specs.Numbers.{i16_at}
use Rattle.fields.specs.declared.Field.{Field}
use Rattle.fields.specs.Fields.{field, field_bytes, layout_size, field_at, value_start}
use Rattle.instrument.specs.Instrument.{positions}

abbrev pub bias_layout : List Field
bias_layout = field 0x13 8448 ∷ []

abbrev pub bias_size : ℕ
bias_size = layout_size bias_layout

-- the bytes of one position's c0 and e
abbrev pub pair_size : ℕ
pair_size = 4

-- a channel's part: a pair for each position
abbrev pub part_size : ℕ
part_size = pair_size * positions

abbrev pub bias_part : List ℕ → ℕ → List ℕ
bias_part bias c = take part_size (drop (value_start bias_layout 0 + part_size * c) bias)

-- of position i in a channel's part: c0 (i16, units)
abbrev pub c0_in : List ℕ → ℕ → ℤ
c0_in part i = i16_at part (pair_size * i)

-- and e (i16)
abbrev pub e_in : List ℕ → ℕ → ℤ
e_in part i = i16_at part (pair_size * i + 2)

-- a bias file of zeros
unfoldable pub zero_bias : List ℕ
zero_bias = field_bytes (field_at bias_layout 0) (replicate (field_at bias_layout 0).size 0)
