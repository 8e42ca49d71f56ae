-- What the bench table says, and what the bench scan gives under it: accepted samples, sums, TNL and earth counts.
use Prim.Native.Nat.{ℕ, ◌+◌, ◌*◌, ◌<◌}
use native.Mathlib.Nat.{mul_comm}
use native.Mathlib.Omega.{arith}
use mathlib.Core.Path.{◌≡◌, refl, ap, ap₂, ◌∙◌}
use mathlib.Core.List.{List}
use mathlib.Core.Bool.{Bool, cond}
use lib.Dec.{eqb}
use lib.IntN.{pos}
use lib.ListN.{length, take, drop, replicate}
use Rattle.lists.specs.Build.{tabulate, cells}
use Rattle.lists.specs.Count.{count, every}
use Rattle.lists.specs.Sum.{sum}
use Rattle.lists.proofs.Tabulate.{tabulate_same, each_of_same}
use Rattle.lists.proofs.Cells.{length_cells, cell_of_cells}
use Rattle.fields.specs.Numbers.{u16_at, u16_bytes}
use Rattle.fields.specs.Fields.{field_is_right, layout_is_right}
use Rattle.thermometer.specs.Reading.{Result, units, reading}
use Rattle.thermometer.proofs.Bench.{bench_reading}
use Rattle.instrument.specs.declared.Side.TheVariants.{Warm, Cold}
use Rattle.instrument.specs.declared.Target.{Target}
use Rattle.instrument.specs.declared.Target.TheVariants.{Kav, Wg}
use Rattle.table.specs.declared.Corrections.{Corrections}
use Rattle.table.specs.Settings.{Settings, pairs, corrections_of}
use Rattle.instrument.specs.Instrument.{thermometers, channels, first_of, size_of, target_of, positions}
use Rattle.nonlinearity.proofs.InterpolationLaws.{tnl_level}
use Rattle.table.specs.Ranges.{leasts_inside, thermometer_limits_inside, channel_inside, pair_inside, sums_inside, values_inside}
use Rattle.table.specs.Opening.{opening, AcceptedTable}
use Rattle.table.proofs.OpeningLaws.{accepted_ranges}
use Rattle.acceptance.specs.declared.Scan.{Scan}
use Rattle.record.specs.Record.{instrument, side_value, channel_part, earth_counts, earth_part, earth_size}
use Rattle.acceptance.specs.Accepted.{reading_at, in_kelvin, in_limits, kelvins, passed_limits, accepted_thermometers, accepted_counts, AcceptedSamples, accepted_samples}
use Rattle.acceptance.specs.Kept.{kept_scan}
use Rattle.samples.specs.Good.{Sample, differs, good, chosen_to, good_samples, at_least}
use Rattle.acceptance.specs.Counts.{Sides, four_counts, within_limits, without_overlap, accepted_sides}
use Rattle.instrument.proofs.Places.{last_at_most}
use Rattle.window.specs.declared.Means.{Means}
use Rattle.window.specs.Ages.{no_scan}
use Rattle.window.specs.Sums.{weight_sum, value_sum, thermometer_weights, thermometer_sum, means_from, means_of}
use Rattle.lists.proofs.Stands.{cell_stands}
use Rattle.fields.proofs.FieldBytes.{u16_that_stands}
use Rattle.promise.specs.Moments.{means_at, shelf_at, tnl_at}
use Rattle.calibrator.specs.Feeding.{kept_by}
use Rattle.bench.specs.Bench.{bench_table, instrument_bytes, per_channel, bench_scan, bench_settings, bench_moment, samples_at}
use Rattle.promise.proofs.RollLaws.{scan_of_age}
use Rattle.promise.proofs.SampleLaws.{means_at_is}

-- ---- the table

pub bench_table_lem : AcceptedTable bench_table
unfolding opening bench_table layout_is_right field_is_right values_inside leasts_inside thermometer_limits_inside channel_inside pair_inside sums_inside every sum
bench_table_lem = record { accepted = refl }

-- what it says of each channel
abbrev pub bench_row_lem : Corrections
bench_row_lem = record { b = pos 0; rj = 0; sl = 0; tnl = pos 0 }

pub bench_row : (c : ℕ) → c < channels → corrections_of (bench_settings.channel c) ≡ bench_row_lem
unfolding bench_table tabulate
bench_row = each_of_same (λ c. corrections_of (bench_settings.channel c)) (λ c. bench_row_lem) channels refl

-- and of each pair, so that TNL is 400 at every shelf temperature
level_pairs : (c : ℕ) → c < channels → (j : ℕ) → j < pairs → ((bench_settings.channel c).pair j).tnl ≡ pos 400
unfolding bench_table tabulate
level_pairs c below =
    each_of_same (λ j. ((bench_settings.channel c).pair j).tnl) (λ j. pos 400) pairs
    (each_of_same (λ c. tabulate (λ j. ((bench_settings.channel c).pair j).tnl) pairs) (λ c. tabulate (λ j. pos 400) pairs) channels refl c below)

-- ---- a scan with the instrument counts of the bench scan

-- every channel with these accepted counts
abbrev pub samples_with : Sides → AcceptedSamples
samples_with sides = record { kav = samples_at (size_of Kav) 1118822; wg = samples_at (size_of Wg) 1118822; counts = replicate channels sides }

-- ---- thermometers, from what each of a target reads

module _ (s : Settings) (value : List ℕ) (target : Target) (read : ℕ → Result)
    (reads : (i : ℕ) → i < size_of target → reading_at s value (first_of target + i) ≡ read i) where
  row_of_target : {A : Type 0} (f : Result → A) → tabulate (λ i. f (reading_at s value (first_of target + i))) (size_of target) ≡ tabulate (λ i. f (read i)) (size_of target)
  row_of_target f = tabulate_same _ _ (size_of target) (λ i inside. ap f (reads i inside))

  pub accepted_by_readings : accepted_thermometers s value target
      ≡ at_least (s.least target) (good_samples (tabulate (λ i. in_kelvin (read i)) (size_of target)) (tabulate (λ i. in_limits s (read i)) (size_of target)) s.d_t)
  unfolding accepted_thermometers kelvins passed_limits
  accepted_by_readings =
      ap₂ (λ (values : List ℕ) (passed : List Bool). at_least (s.least target) (good_samples values passed s.d_t)) (row_of_target in_kelvin) (row_of_target (in_limits s))

each_reads_zero : (i : ℕ) → i < thermometers → reading_at bench_settings instrument_bytes i ≡ units (pos 0)
unfolding bench_table instrument_bytes tabulate
each_reads_zero i below =
    each_of_same (reading_at bench_settings instrument_bytes) (λ i. reading 2000000 2000000 3850000 1500000 0 20000 0 20000) thermometers refl i below
    ∙ bench_reading

accepted_of_target : (target : Target) → accepted_thermometers bench_settings instrument_bytes target
    ≡ at_least (bench_settings.least target)
    (good_samples (tabulate (λ i. 1118822) (size_of target)) (tabulate (λ i. in_limits bench_settings (units (pos 0))) (size_of target)) bench_settings.d_t)
accepted_of_target target =
    accepted_by_readings bench_settings instrument_bytes target (λ i. units (pos 0)) (λ i inside. each_reads_zero (first_of target + i) (omega (arith, last_at_most target)))

accepted_thermometers_lem : (target : Target) → accepted_thermometers bench_settings instrument_bytes target ≡ samples_at (size_of target) 1118822
unfolding bench_table tabulate good differs count chosen_to
accepted_thermometers_lem Kav = accepted_of_target Kav
accepted_thermometers_lem Wg = accepted_of_target Wg

-- under settings by which these are accepted
pub samples_by : (s : Settings) (scan : List ℕ) (sides : Sides) → ((target : Target) → accepted_thermometers s instrument_bytes target ≡ samples_at (size_of target) 1118822)
    → instrument scan ≡ instrument_bytes
    → tabulate (λ c. accepted_counts (s.channel c) (channel_part (side_value scan Warm) c) (channel_part (side_value scan Cold) c)) channels ≡ replicate channels sides
    → accepted_samples s scan ≡ samples_with sides
unfolding accepted_samples
samples_by s scan sides accepted same counts =
    ap₂ (λ (value : List ℕ) (all : List Sides). record {
      kav = accepted_thermometers s value Kav;
      wg = accepted_thermometers s value Wg;
      counts = all;
    }) same counts
    ∙ ap₂ (λ (kav wg : List Sample). record { kav = kav; wg = wg; counts = replicate channels sides }) (accepted Kav) (accepted Wg)

pub samples_are : (scan : List ℕ) (sides : Sides) → instrument scan ≡ instrument_bytes
    → tabulate (λ c. accepted_counts (bench_settings.channel c) (channel_part (side_value scan Warm) c) (channel_part (side_value scan Cold) c)) channels ≡ replicate channels sides
    → accepted_samples bench_settings scan ≡ samples_with sides
samples_are scan sides = samples_by bench_settings scan sides accepted_thermometers_lem

-- ---- the bench scan

-- the accepted counts of each channel
abbrev pub bench_sides : Sides
bench_sides = record { warm = samples_at 4 20000; cold = samples_at 4 10000 }

-- of a side one more than its scan value (decision 23); T of 0 °C
abbrev pub bench_kept_lem : Scan
bench_kept_lem = record { warm = replicate channels 240001; cold = replicate channels 120001; kelvin = replicate thermometers 1118822 }

-- eight or seven thermometers with p = 1; one scan with weight 1
abbrev pub bench_means_lem : Target → Means
bench_means_lem target = record { sumVP = size_of target; sumVPT = size_of target * 1118822; Ww = 1; Aw = 240000; Wc = 1; Ac = 120000 }

means_of_kept : (c : ℕ) → c < channels → means_of bench_settings (λ k. cond (eqb (7 + k) 7) bench_kept_lem no_scan) c ≡ bench_means_lem (target_of c)
unfolding bench_table tabulate means_from weight_sum value_sum thermometer_weights thermometer_sum sum no_scan
means_of_kept = each_of_same _ (λ c. bench_means_lem (target_of c)) channels refl

-- ---- an earth field with one count

module _ (earth c i : ℕ) (below : c < channels) (inside : i < positions) where
  pub earth_of_channel : u16_at (earth_part (per_channel positions earth) c) (2 * i) ≡ earth
  unfolding per_channel
  earth_of_channel =
      let row : List ℕ = cells (λ i. u16_bytes earth) positions in
      let long-row : length row ≡ earth_size = length_cells (λ i. u16_bytes earth) 2 (λ i. refl) positions in
      ap (λ (at : ℕ). u16_at (take earth_size (drop at (per_channel positions earth))) (2 * i)) (mul_comm earth_size c)
      ∙ ap (λ (part : List ℕ). u16_at part (2 * i)) (cell_of_cells (λ c. row) earth_size (λ c. long-row) channels c below)
      ∙ u16_that_stands row (2 * i) earth (cell_stands (λ i. u16_bytes earth) 2 (λ i. refl) positions i inside)

module _ (earth : ℕ) where
  -- ---- what it keeps

  pub bench_samples : accepted_samples bench_settings (bench_scan earth) ≡ samples_with bench_sides
  unfolding bench_table bench_scan tabulate accepted_counts four_counts within_limits accepted_sides without_overlap good differs count chosen_to
  bench_samples = samples_are (bench_scan earth) bench_sides refl refl

  pub bench_kept : kept_by bench_settings (bench_scan earth) ≡ bench_kept_lem
  unfolding kept_scan tabulate
  bench_kept = ap kept_scan bench_samples

  -- ---- the sums of each channel

  pub bench_means : (c : ℕ) → c < channels → means_at bench_settings (bench_moment earth) c ≡ bench_means_lem (target_of c)
  unfolding scan_of_age bench_scan
  bench_means c below =
      means_at_is bench_settings (bench_moment earth) c below ∙
      ap (λ (kept : Scan). means_of bench_settings (λ k. cond (eqb (7 + k) 7) kept no_scan) c) bench_kept ∙ means_of_kept c below

  -- ---- TNL of each channel

  pub bench_tnl : (c : ℕ) → c < channels → tnl_at bench_settings (bench_moment earth) c ≡ pos 400
  bench_tnl c below = tnl_level ((accepted_ranges bench_table_lem).channel c below).pair (shelf_at bench_settings (bench_moment earth) c) (pos 400) (level_pairs c below)

  -- ---- the earth counts

  pub earth_field : earth_counts (bench_scan earth) ≡ per_channel positions earth
  unfolding bench_scan
  earth_field = refl

  pub earth_count : (c i : ℕ) → c < channels → i < positions → u16_at (earth_part (earth_counts (bench_scan earth)) c) (2 * i) ≡ earth
  earth_count c i below inside = ap (λ (l : List ℕ). u16_at (earth_part l c) (2 * i)) earth_field ∙ earth_of_channel earth c i below inside
