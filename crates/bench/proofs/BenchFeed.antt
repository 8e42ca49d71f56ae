-- The calibrator that is fresh under the bench table and a bias file of zeros is fed the bench scan: its verdict, its channels, its product and
-- its answer.
use Prim.Native.Nat.{ℕ, ◌≤◌}
use mathlib.Core.Path.{◌≡◌, refl}
use mathlib.Core.List.{List, ◌++◌}
use mathlib.Core.Bool.{true}
use lib.ListN.{length, drop, replicate}
use Rattle.integers.specs.Rounding.{floor, r}
use Rattle.lists.specs.Build.{tabulate, cells}
use Rattle.lists.specs.Tests.{passes}
use Rattle.lists.specs.Sum.{sum}
use Rattle.fields.specs.Fields.{field_is_right, layout_is_right}
use Rattle.record.specs.Record.{scan_number, earth_counts, shelf_temperatures}
use Rattle.nonlinearity.specs.Interpolation.{above_pair, unrounded_tnl, tnl_of}
use Rattle.window.specs.Ages.{no_scan, window_of, shifted, window_after}
use Rattle.window.specs.Sums.{weight_sum, value_sum, thermometer_weights, thermometer_sum, means_from}
use Rattle.window.specs.Means.{flag_of, constants_of, channel_state_of}
use Rattle.scene.specs.Channel.{channel_with}
use Rattle.scene.specs.Scene.{scene_of, unbiased}
use Rattle.product.specs.Scenes.{scene_in, scene_delivered}
use Rattle.product.specs.Product.{product_of, delivered_count, product_size}
use Rattle.calibrator.specs.Refusals.{delivered as accepted}
use Rattle.calibrator.specs.Feeding.{kept_by, next_channels, verdict_in, step}
use Rattle.instrument.specs.Instrument.{channels}
use Rattle.bench.specs.Bench.{bench_table, shelf_bytes, bench_scan, bench_calibrator, bench_settings, bench_channel}
use Rattle.bench.proofs.BenchScan.{bench_kept_lem, bench_kept, earth_field}
use Rattle.bench.proofs.FirstFeed.{delivers_t, states_by_kept, Gives, first_passes, first_outcome, first_reply}

-- the channels of what the bench scan keeps
pub channels_of_kept : (scan : List ℕ) → scan_number scan ≡ 7 → shelf_temperatures scan ≡ shelf_bytes → kept_by bench_settings scan ≡ bench_kept_lem → next_channels bench_calibrator scan ≡ replicate channels bench_channel
unfolding bench_table shelf_bytes window_of window_after shifted no_scan cells tabulate channel_state_of channel_with flag_of constants_of tnl_of unrounded_tnl above_pair means_from weight_sum value_sum thermometer_weights thermometer_sum sum r floor
channels_of_kept scan number shelves kept = states_by_kept scan bench_kept_lem number shelves kept

pub scene_delivered_lem : scene_delivered (scene_in unbiased bench_channel 15000) ≡ true
unfolding scene_in scene_of r floor
scene_delivered_lem = refl

module _ (earth : ℕ) where
  number : scan_number (bench_scan earth) ≡ 7
  unfolding bench_scan
  number = refl

  shelves : shelf_temperatures (bench_scan earth) ≡ shelf_bytes
  unfolding bench_scan
  shelves = refl

  pub bench_channels : next_channels bench_calibrator (bench_scan earth) ≡ replicate channels bench_channel
  bench_channels = channels_of_kept (bench_scan earth) number shelves (bench_kept earth)

  pub bench_gives : Gives (bench_scan earth) bench_channel earth
  unfolding bench_scan layout_is_right field_is_right
  bench_gives = record { long = refl; right = refl; number = refl; shelves = shelves; states = bench_channels; earths = earth_field earth }

  module _ (buffer : List ℕ) (room : product_size ≤ length buffer) where
    pub bench_passes : verdict_in bench_calibrator (record { scan = bench_scan earth; buffer = buffer }) ≡ passes
    bench_passes = first_passes bench_gives buffer room

    pub bench_outcome : (step bench_calibrator (record { scan = bench_scan earth; buffer = buffer })).outcome
        ≡ record {
          reply = accepted (delivered_count delivers_t (replicate channels bench_channel) (earth_counts (bench_scan earth)));
          buffer = product_of delivers_t 7 (replicate channels bench_channel) (earth_counts (bench_scan earth)) ++ drop product_size buffer;
        }
    bench_outcome = first_outcome bench_gives buffer room

pub bench_reply : (buffer : List ℕ) → product_size ≤ length buffer → (step bench_calibrator (record { scan = bench_scan 15000; buffer = buffer })).outcome.reply ≡ accepted 2112
bench_reply buffer room = first_reply (bench_gives 15000) buffer room scene_delivered_lem
