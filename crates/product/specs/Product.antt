-- Document 01, "The product, 8,706 bytes". The states are those of the channels, in order.
use Rattle.std.specs.Prelude.{ℕ, ◌*◌, List, [], ◌∷◌, ◌++◌, get_or}
use Rattle.std.specs.Float.{binary32}
use Rattle.std.specs.Float.Ieee.{to_bits}
use Rattle.fields.specs.Numbers.{u16_bytes, u32_bytes}
use Rattle.fields.specs.declared.Field.{Field}
use Rattle.fields.specs.Fields.{field, layout_size, field_at, field_bytes}
use Rattle.lists.specs.Build.{tabulate, cells}
use Rattle.lists.specs.Sum.{sum}
use Rattle.instrument.specs.Instrument.{channels, positions}
use Rattle.record.specs.Record.{earth_part}
use Rattle.scene.specs.Scene.{bits}
use Rattle.scene.specs.Channel.{Channel, channel_flag}
use Rattle.product.specs.declared.Summary.{Summary}
use Rattle.product.specs.Scenes.{Deliver, scene_at, no_channel}
use Rattle.product.specs.Summary.{none_delivered, summary_of}

abbrev pub product_layout : List Field
product_layout = field 0x20 4 ∷ field 0x21 22 ∷ field 0x22 8448 ∷ field 0x23 220 ∷ []

abbrev pub product_size : ℕ
product_size = layout_size product_layout

-- the bytes of a channel's scenes, four each, and of a channel's summary
abbrev pub stretch_size : ℕ
stretch_size = 4 * positions

abbrev pub summary_size : ℕ
summary_size = 10

-- 0x22: scenes as f32 bits, channel by channel
unfoldable pub channel_scenes : Deliver → Channel → List ℕ → List ℕ
channel_scenes deliver channel part = cells (λ i. u32_bytes (bits (scene_at deliver channel part i))) positions

unfoldable pub scene_bytes : (ℕ → Deliver) → List Channel → List ℕ → List ℕ
scene_bytes deliver states earth = cells (λ c. channel_scenes (deliver c) (get_or states c no_channel) (earth_part earth c)) channels

-- 0x23
unfoldable pub summary_bytes : Summary → List ℕ
summary_bytes s = u16_bytes s.count ++ (u32_bytes (to_bits binary32 s.low) ++ u32_bytes (to_bits binary32 s.high))

unfoldable pub summaries : (ℕ → Deliver) → List Channel → List ℕ → List Summary
summaries deliver states earth = tabulate (λ c. summary_of (deliver c) (get_or states c no_channel) (earth_part earth c)) channels

unfoldable pub summaries_bytes : List Summary → List ℕ
summaries_bytes all = cells (λ c. summary_bytes (get_or all c none_delivered)) channels

-- 0x21
unfoldable pub flag_bytes : List Channel → List ℕ
flag_bytes states = tabulate (λ c. channel_flag (get_or states c no_channel)) channels

-- `deliver` is `by_bias` of a bias file, or `without_bias` for every channel
unfoldable pub product_of : (ℕ → Deliver) → ℕ → List Channel → List ℕ → List ℕ
product_of deliver number states earth =
    field_bytes (field_at product_layout 0) (u32_bytes number) ++ (field_bytes (field_at product_layout 1) (flag_bytes states)
    ++ (field_bytes (field_at product_layout 2) (scene_bytes deliver states earth) ++ field_bytes (field_at product_layout 3) (summaries_bytes (summaries deliver states earth))))

-- how many scenes are delivered: the sum of the channels' counts
unfoldable pub delivered_count : (ℕ → Deliver) → List Channel → List ℕ → ℕ
delivered_count deliver states earth = sum (λ c. (summary_of (deliver c) (get_or states c no_channel) (earth_part earth c)).count) channels
