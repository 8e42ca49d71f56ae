-- The lengths of the product's parts: every cell has the same number of bytes, whatever it holds.
use Prim.Native.Nat.{ℕ, ◌*◌}
use mathlib.Core.Path.{◌≡◌, refl}
use mathlib.Core.List.{List}
use lib.ListN.{length, get_or}
use Rattle.lists.proofs.Cells.{length_cells}
use Rattle.lists.proofs.Tabulate.{length_tabulate}
use Rattle.instrument.specs.Instrument.{channels, positions}
use Rattle.scene.specs.Scene.{bits}
use Rattle.scene.specs.Channel.{Channel}
use Rattle.product.specs.declared.Summary.{Summary}
use Rattle.scene.specs.Channel.{channel_flag}
use Rattle.product.specs.Scenes.{Deliver, scene_at, no_channel}
use Rattle.record.specs.Record.{earth_part}
use Rattle.product.specs.Summary.{none_delivered}
use Rattle.fields.specs.Numbers.{u32_bytes}
use Rattle.product.specs.Product.{stretch_size, summary_size, channel_scenes, scene_bytes, summary_bytes, summaries_bytes, flag_bytes}

pub length_channel_scenes : (deliver : Deliver) (channel : Channel) (part : List ℕ) → length (channel_scenes deliver channel part) ≡ stretch_size
unfolding channel_scenes
length_channel_scenes deliver channel part = length_cells (λ i. u32_bytes (bits (scene_at deliver channel part i))) 4 (λ i. refl) positions

pub length_scene_bytes : (deliver : ℕ → Deliver) (states : List Channel) (earth : List ℕ) → length (scene_bytes deliver states earth) ≡ stretch_size * channels
unfolding scene_bytes
length_scene_bytes deliver states earth =
    length_cells (λ c. channel_scenes (deliver c) (get_or states c no_channel) (earth_part earth c)) stretch_size
    (λ c. length_channel_scenes (deliver c) (get_or states c no_channel) (earth_part earth c)) channels

pub length_summary_bytes : (s : Summary) → length (summary_bytes s) ≡ summary_size
unfolding summary_bytes
length_summary_bytes s = refl

pub length_summaries_bytes : (all : List Summary) → length (summaries_bytes all) ≡ summary_size * channels
unfolding summaries_bytes
length_summaries_bytes all = length_cells (λ c. summary_bytes (get_or all c none_delivered)) summary_size (λ c. length_summary_bytes (get_or all c none_delivered)) channels

pub length_flag_bytes : (states : List Channel) → length (flag_bytes states) ≡ channels
unfolding flag_bytes
length_flag_bytes states = length_tabulate (λ c. channel_flag (get_or states c no_channel)) channels
