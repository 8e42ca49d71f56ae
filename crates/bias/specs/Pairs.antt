-- The pairs of a bias file as numbers, two for each position, channel by channel: what the writer of a product is lent. A reader of the
-- promises can leave this out.
use Rattle.std.specs.Prelude.{ℕ, ◌+◌, ◌*◌, ◌%◌, List, [], ◌∷◌}
use Rattle.lists.specs.Build.{cells}
use Rattle.fields.specs.Numbers.{u16_at}
use Rattle.fields.specs.Fields.{value_start}
use Rattle.instrument.specs.Instrument.{channels, positions}
use Rattle.bias.specs.Bias.{bias_layout, pair_size}

-- the number whose two's complement n is, and 32,768
abbrev pub raised : ℕ → ℕ
raised n = (n + 32768) % 65536

-- the factor 65,536 + e, and the offset 65,536 (c0 + 32,768) + 32,767, of the pair that begins at `at`
abbrev pub pair_at : List ℕ → ℕ → List ℕ
pair_at bias at = (raised (u16_at bias (at + 2)) + 32768) ∷ (65536 * raised (u16_at bias at) + 32767) ∷ []

abbrev pub pair_count : ℕ
pair_count = positions * channels

unfoldable pub pairs_of : List ℕ → List ℕ
pairs_of bias = cells (λ k. pair_at bias (value_start bias_layout 0 + pair_size * k)) pair_count
