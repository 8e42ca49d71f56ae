-- `accepted` meets its contract: a passed verdict, an accepted table and an accepted bias file give each call what it requires, each call's
-- answer is the part of `step_by` that it stands for, and the pairs deliver what the bias file says.
use Rattle.std.proofs.Common.{◌≡◌, ◌<◌, ℕ, List, ◌++◌, ap, ap₂, sym, subst, ◌∙◌, length, get_or, drop, None, Some}
use Rattle.table.specs.declared.Table.{Table}
use Rattle.table.specs.Settings.{settings_of}
use Rattle.table.specs.Opening.{ages, AcceptedTable}
use Rattle.table.specs.ValueRanges.{SettingsRange}
use Rattle.table.proofs.OpeningLaws.{accepted_ranges}
use Rattle.bias.specs.declared.Bias.{Bias}
use Rattle.bias.specs.Pairs.{pairs_of}
use Rattle.acceptance.specs.declared.Scan.{Scan}
use Rattle.acceptance.specs.Accepted.{accepted_samples}
use Rattle.acceptance.specs.Kept.{kept_scan}
use Rattle.record.specs.Record.{scan_number, shelf_temperatures}
use Rattle.record.proofs.RecordFields.{length_earth, length_shelves}
use Rattle.scene.specs.Channel.{Channel}
use Rattle.window.specs.declared.Window.{Window}
use Rattle.window.specs.Ages.{window_after}
use Rattle.window.specs.Ranges.{WindowRange}
use Rattle.product.specs.Scenes.{by_bias, no_channel}
use Rattle.product.specs.Ranges.{ChannelRange}
use Rattle.product.specs.Product.{product_size, product_of, delivered_count}
use Rattle.product.specs.Steps.{by_pairs, pairs_part, PairsRange}
use Rattle.product.proofs.Deliveries.{product_same, count_same, length_pairs, by_pairs_lem, pairs_in_range}
use Rattle.lastscan.specs.Ranges.{LastRange}
use Rattle.calibrator.specs.declared.Calibrator.{Calibrator}
use Rattle.calibrator.specs.Feeding.{settings, next_window, channels_in, next_channels}
use Rattle.calibrator.specs.Steps.{calibrator_of}
use Rattle.calibrator.proofs.Verdicts.{passes_facts}
use Rattle.calibrator.proofs.AcceptedLaws.{next_window_range, channel_in_range, kept_in_range}
use Rattle.calibrator.proofs.StepLaws.{leaves_when_passed}
use Rattle.calibrator.proofs.accepted.Goals as goal

-- ---- the window and the channels that the calls make are those of the step
module _ (table : Table) (bias : Bias) (window : Window) (scan : List ℕ) where
  abbrev before : Calibrator
  before = calibrator_of table bias window None

  next_is : {number : ℕ} {kept : Scan} {next : Window} {bytes : List ℕ} → number ≡ scan_number scan → bytes ≡ table.bytes
      → kept ≡ kept_scan (accepted_samples (settings_of ages bytes) scan) → next ≡ window_after window number kept
      → next ≡ next_window before scan
  next_is numbered read taken moved =
      moved ∙ ap₂ (λ (n : ℕ) (k : Scan). window_after window n k) numbered (taken ∙ ap (λ (t : List ℕ). kept_scan (accepted_samples (settings_of ages t) scan)) read)

  channels_are : {next : Window} {shelves : List ℕ} {all : List Channel} → next ≡ next_window before scan → shelves ≡ shelf_temperatures scan
      → all ≡ channels_in (settings_of ages table.bytes) next shelves → all ≡ next_channels before scan
  channels_are same temperatures made = made ∙ ap₂ (λ (w : Window) (s : List ℕ). channels_in (settings_of ages table.bytes) w s) same temperatures

  next_range : ((k : ℕ) → get_or scan k 0 < 256) → WindowRange window → WindowRange (next_window before scan)
  next_range bytes range = next_window_range (settings before) scan bytes range (scan_number scan)

in_ranges : {bytes : List ℕ} (table : Table) → bytes ≡ table.bytes → AcceptedTable bytes → SettingsRange (settings_of ages table.bytes)
in_ranges table read accepted = accepted_ranges (subst AcceptedTable read accepted)

pub advanced-next-requires : goal.advanced-next-requires
advanced-next-requires c =
    let a = c.args in
    let facts = passes_facts a.window.last a.scan.bytes.now (length a.buffer.now) c.requires.passes in
    rw c.number-number.ensures facts.above

pub channels_of-channels-requires : goal.channels_of-channels-requires
channels_of-channels-requires c =
    let a = c.args in
    let same = next_is a.table.now a.pairs.now.bias.now a.window a.scan.bytes.now c.number-number.ensures c.bytes.ensures.bytes c.accepted_scan-kept.ensures c.advanced-next.ensures in (
      subst WindowRange (sym same) (next_range a.table.now a.pairs.now.bias.now a.window a.scan.bytes.now a.scan.of_bytes c.requires.range),
      ap length c.shelf_temperatures.ensures ∙ length_shelves a.scan.bytes.now a.scan.right.long,
    )

pub write_product-delivered-requires-clause-product_size_in_bounds : goal.write_product-delivered-requires-clause-product_size_in_bounds
write_product-delivered-requires-clause-product_size_in_bounds c =
    let a = c.args in
    let scan = a.scan.bytes.now in
    let facts = passes_facts a.window.last scan (length a.buffer.now) c.requires.passes in
    let same = next_is a.table.now a.pairs.now.bias.now a.window scan c.number-number.ensures c.bytes.ensures.bytes c.accepted_scan-kept.ensures c.advanced-next.ensures in
    let made = channels_are a.table.now a.pairs.now.bias.now a.window scan same c.shelf_temperatures.ensures c.channels_of-channels.ensures in
    let range = next_range a.table.now a.pairs.now.bias.now a.window scan a.scan.of_bytes c.requires.range in (
      facts.room,
      ap length c.earth_counts.ensures ∙ length_earth scan a.scan.right.long,
      λ k below.
          subst (λ (channels : List Channel). ChannelRange (get_or channels k no_channel)) (sym made)
          (channel_in_range (in_ranges a.table.now c.bytes.ensures.bytes c.bytes.ensures.accepted) range (shelf_temperatures scan) k below),
    )

pub write_product-delivered-requires-clause-pairs_len : goal.write_product-delivered-requires-clause-pairs_len
write_product-delivered-requires-clause-pairs_len c =
    let pairs = c.args.pairs.now in (
      ap length pairs.formed ∙ length_pairs pairs.bias.now.bytes,
      λ k below. subst (λ (p : List ℕ). PairsRange (pairs_part p k)) (sym pairs.formed) (pairs_in_range pairs.accepted k below),
    )

pub returns-clause-step : goal.returns-clause-step
returns-clause-step c =
    let a = c.args in
    let scan = a.scan.bytes.now in
    let buffer = a.buffer.now in
    let pairs = a.pairs.now in
    let bias = pairs.bias.now.bytes in
    let all = c.channels_of-channels.result in
    let counts = c.earth_counts.result.now in
    let number = c.number-number.result in
    let same = next_is a.table.now pairs.bias.now a.window scan c.number-number.ensures c.bytes.ensures.bytes c.accepted_scan-kept.ensures c.advanced-next.ensures in
    let made = channels_are a.table.now pairs.bias.now a.window scan same c.shelf_temperatures.ensures c.channels_of-channels.ensures in
    let delivers = by_pairs_lem pairs.accepted in
    leaves_when_passed (calibrator_of a.table.now pairs.bias.now a.window None) (record { scan = scan; buffer = buffer })
    c.advanced-next.result number all counts
    same c.number-number.ensures made c.earth_counts.ensures
    c.write_product-delivered.result c.write_product-delivered.new.buffer
    (c.write_product-delivered.ensures.0 ∙ ap (λ (p : List ℕ). delivered_count (by_pairs p) all counts) pairs.formed ∙ count_same (by_pairs (pairs_of bias)) (by_bias bias) delivers all counts)
    (c.write_product-delivered.ensures.1
    ∙ ap (λ (p : List ℕ). product_of (by_pairs p) number all counts ++ drop product_size buffer) pairs.formed
    ∙ ap (λ (l : List ℕ). l ++ drop product_size buffer) (product_same (by_pairs (pairs_of bias)) (by_bias bias) delivers all counts number))

pub returns-clause-ranges : goal.returns-clause-ranges
returns-clause-ranges c =
    let a = c.args in
    let scan = a.scan.bytes.now in
    let same = next_is a.table.now a.pairs.now.bias.now a.window scan c.number-number.ensures c.bytes.ensures.bytes c.accepted_scan-kept.ensures c.advanced-next.ensures in
    let made = channels_are a.table.now a.pairs.now.bias.now a.window scan same c.shelf_temperatures.ensures c.channels_of-channels.ensures in
    let range = next_range a.table.now a.pairs.now.bias.now a.window scan a.scan.of_bytes c.requires.range in (
      subst WindowRange (sym same) range,
      subst (λ (l : List Channel). LastRange (Some l)) (sym made) (kept_in_range (in_ranges a.table.now c.bytes.ensures.bytes c.bytes.ensures.accepted) range (shelf_temperatures scan)),
    )
