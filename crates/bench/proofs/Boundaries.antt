-- The rows at the ends of acceptance, of the flags and of the window. What each thermometer reads is shown once; all else computes.
use Prim.Native.Nat.{ℕ, ◌+◌, ◌<◌}
use mathlib.Core.Path.{◌≡◌, refl, ap, ap₂, ◌∙◌}
use mathlib.Core.List.{List, [], ◌∷◌}
use mathlib.Core.Bool.{Bool, true, false, cond}
use native.Mathlib.Omega.{arith}
use lib.Dec.{eqb, ltb}
use lib.IntN.{pos}
use lib.Signed.{le_z_yes, lt_z_yes}
use Rattle.integers.specs.Rounding.{floor}
use Rattle.lists.specs.Build.{tabulate}
use Rattle.lists.specs.Count.{count, every}
use Rattle.lists.specs.Sum.{sum}
use Rattle.lists.proofs.Tabulate.{each_of_same}
use Rattle.thermometer.specs.Rule.{M, q, s1, y, w, h, s2, F}
use Rattle.thermometer.specs.Reading.{Result, units, not_read, reading}
use Rattle.thermometer.proofs.Bench.{answer_at_place, bench_reading}
use Rattle.instrument.specs.declared.Side.{Side}
use Rattle.instrument.specs.declared.Side.TheVariants.{Warm, Cold}
use Rattle.instrument.specs.declared.Target.{Target}
use Rattle.instrument.specs.declared.Target.TheVariants.{Kav, Wg}
use Rattle.instrument.specs.Instrument.{channels, first_of, size_of, target_of}
use Rattle.table.specs.Settings.{Settings}
use Rattle.table.specs.Ranges.{leasts_inside, thermometer_limits_inside, channel_inside, pair_inside, sums_inside, values_inside}
use Rattle.bias.specs.Opening.{part_inside}
use Rattle.samples.specs.Good.{differs, good, chosen_to, good_samples, at_least}
use Rattle.acceptance.specs.declared.Scan.{Scan}
use Rattle.acceptance.specs.Counts.{four_counts, within_limits, without_overlap, accepted_sides}
use Rattle.acceptance.specs.Kept.{kept_scan}
use Rattle.record.specs.Record.{scan_number}
use Rattle.acceptance.specs.Accepted.{reading_at, in_kelvin, in_limits, accepted_thermometers, accepted_counts}
use Rattle.window.specs.Ages.{no_scan}
use Rattle.window.specs.Sums.{weight_sum, value_sum, thermometer_weights, thermometer_sum, means_from, means_of}
use Rattle.window.specs.Means.{flag_of}
use Rattle.calibrator.specs.Feeding.{kept_by}
use Rattle.promise.specs.Outcomes.{fed_moment}
use Rattle.promise.specs.Moments.{means_at}
use Rattle.promise.proofs.RollLaws.{scan_of_age}
use Rattle.promise.proofs.SampleLaws.{means_at_is}
use Rattle.bench.specs.Bench.{bench_table, bench_scan, bench_settings, instrument_bytes, samples_at}
use Rattle.bench.specs.Witnesses.{numbered_scan}
use Rattle.bench.specs.Boundaries.{BothSides, BothTargets, end_part, with_t_low, with_t_upp, with_dt, instrument_with, even_weights, sums_of_scans, RangeRows, ReadingEnds, ThermometerRows, CountRows, FlagRows, AgeRows, BoundaryRows}
use Rattle.bench.proofs.BenchScan.{bench_sides, bench_kept_lem, accepted_by_readings, samples_by}

-- ---- the ranges of a table and of a bias file

range_rows : RangeRows
unfolding part_inside end_part values_inside leasts_inside thermometer_limits_inside channel_inside pair_inside sums_inside every sum
range_rows = record { low_ends = refl; high_ends = refl; bias_low_ends = refl; bias_high_ends = refl }

-- ---- counts and flags

count_rows : CountRows
unfolding tabulate accepted_counts four_counts within_limits accepted_sides without_overlap good differs count chosen_to
count_rows = record {
  low_at = (refl, refl);
  low_beyond = (refl, refl);
  upp_at = (refl, refl);
  upp_beyond = (refl, refl);
  above_at = (refl, refl);
  above_beyond = (refl, refl);
  below_at = (refl, refl);
  below_beyond = (refl, refl);
  three_at = (refl, refl);
  three_beyond = (refl, refl);
  overlap_at = (refl, refl);
  overlap_beyond = (refl, refl);
}

flag_rows : FlagRows
unfolding bench_table flag_of sum
flag_rows = record {
  percentages_at = (refl, refl);
  thermometers_less = (refl, refl);
  warm_less = (refl, refl);
  cold_less = (refl, refl);
  thermometers_beyond = refl;
  warm_beyond = (refl, refl);
  cold_beyond = (refl, refl);
  d_one = (refl, refl);
  d_zero = (refl, refl);
  d_below = (refl, refl);
  one_of_all = (refl, refl);
  two_before_three = (refl, refl);
  three_before_four = (refl, refl);
}

-- ---- thermometers

reading_ends : ReadingEnds
unfolding reading M F s1 s2 h w y q floor
reading_ends = record { m_low_at = refl; m_low_beyond = refl; m_high_at = refl; m_high_beyond = refl }

abbrev bench_reading_lem : ℕ → Result
bench_reading_lem count = reading 2000000 2000000 3850000 1500000 0 20000 0 count

F_at_104 : F 3850000 1500000 0 (pos 104) ≡ pos 16778880
unfolding F s1 s2 h w y q floor
F_at_104 = refl

F_at_105 : F 3850000 1500000 0 (pos 105) ≡ pos 16778896
unfolding F s1 s2 h w y q floor
F_at_105 = refl

-- 104 is at place 245,864
higher_reading : bench_reading_lem 20002 ≡ units (pos 104)
unfolding reading M F s1 s2 h w y q floor
higher_reading = ap units (answer_at_place 245864 (pos 16778893) (omega arith) F_at_104 F_at_105 (le_z_yes tt) (lt_z_yes tt))

no_reading : bench_reading_lem 0 ≡ not_read 10
unfolding reading M F s1 s2 h w y q floor
no_reading = refl

-- the accepted thermometers of a target under settings with the bench's coefficients, from what the counts read
module _ (s : Settings) (value : List ℕ) (target : Target) where
  abbrev AcceptedBy : (ℕ → Result) → Type 0
  AcceptedBy read =
      accepted_thermometers s value target
      ≡ at_least (s.least target) (good_samples (tabulate (λ i. in_kelvin (read i)) (size_of target)) (tabulate (λ i. in_limits s (read i)) (size_of target)) s.d_t)

  abbrev Reads : (ℕ → ℕ) → Type 0
  Reads count = tabulate (λ i. reading_at s value (first_of target + i)) (size_of target) ≡ tabulate (λ i. bench_reading_lem (count i)) (size_of target)

  all_at_zero : Reads (λ i. 20000) → AcceptedBy (λ i. units (pos 0))
  all_at_zero same = accepted_by_readings s value target (λ i. units (pos 0)) (λ i inside. each_of_same _ _ (size_of target) same i inside ∙ bench_reading)

  first_and_others : (n count other : ℕ) (one two : Result) → bench_reading_lem count ≡ one → bench_reading_lem other ≡ two → Reads (λ i. cond (ltb i n) count other) → AcceptedBy (λ i. cond (ltb i n) one two)
  first_and_others n count other one two is_one is-two same =
      accepted_by_readings s value target (λ i. cond (ltb i n) one two) (λ i inside. each_of_same _ _ (size_of target) same i inside ∙ by_test (ltb i n))
    where
      by_test : (first : Bool) → bench_reading_lem (cond first count other) ≡ cond first one two
      by_test true = is_one
      by_test false = is-two

-- one is 104 above the others
some_higher : (s : Settings) (n : ℕ) (target : Target) → Reads s (instrument_with n 20002 20000) target (λ i. cond (ltb i n) 20002 20000)
    → AcceptedBy s (instrument_with n 20002 20000) target (λ i. cond (ltb i n) (units (pos 104)) (units (pos 0)))
some_higher s n target = first_and_others s (instrument_with n 20002 20000) target n 20002 20000 (units (pos 104)) (units (pos 0)) higher_reading bench_reading

-- n are read
some_read : (n : ℕ) (target : Target) → Reads bench_settings (instrument_with n 20000 0) target (λ i. cond (ltb i n) 20000 0)
    → AcceptedBy bench_settings (instrument_with n 20000 0) target (λ i. cond (ltb i n) (units (pos 0)) (not_read 10))
some_read n target = first_and_others bench_settings (instrument_with n 20000 0) target n 20000 0 (units (pos 0)) (not_read 10) bench_reading no_reading

thermometer_rows : ThermometerRows
unfolding bench_table instrument_bytes instrument_with tabulate good differs count chosen_to
thermometer_rows = record {
  low_at = (all_at_zero (with_t_low 0) instrument_bytes Kav refl, all_at_zero (with_t_low 0) instrument_bytes Wg refl);
  low_beyond = (all_at_zero (with_t_low 1) instrument_bytes Kav refl, all_at_zero (with_t_low 1) instrument_bytes Wg refl);
  upp_at = (all_at_zero (with_t_upp 0) instrument_bytes Kav refl, all_at_zero (with_t_upp 0) instrument_bytes Wg refl);
  upp_beyond = (all_at_zero (with_t_upp 0xFFFF_FFFF) instrument_bytes Kav refl, all_at_zero (with_t_upp 0xFFFF_FFFF) instrument_bytes Wg refl);
  difference_at = (some_higher (with_dt 104) 1 Kav refl, some_higher (with_dt 104) 1 Wg refl);
  difference_beyond = (some_higher (with_dt 103) 1 Kav refl, some_higher (with_dt 103) 1 Wg refl);
  two_beyond = (some_higher (with_dt 103) 2 Kav refl, some_higher (with_dt 103) 2 Wg refl);
  least_at = (some_read 5 Kav refl, some_read 4 Wg refl);
  least_beyond = (some_read 4 Kav refl, some_read 3 Wg refl);
}

-- ---- ages

even_thermometers : (target : Target) → accepted_thermometers even_weights instrument_bytes target ≡ samples_at (size_of target) 1118822
unfolding bench_table instrument_bytes tabulate good differs count chosen_to
even_thermometers Kav = all_at_zero even_weights instrument_bytes Kav refl
even_thermometers Wg = all_at_zero even_weights instrument_bytes Wg refl

bench_kept_evenly : kept_by even_weights (bench_scan 15000) ≡ bench_kept_lem
unfolding bench_table bench_scan kept_scan tabulate accepted_counts four_counts within_limits accepted_sides without_overlap good differs count chosen_to
bench_kept_evenly = ap kept_scan (samples_by even_weights (bench_scan 15000) bench_sides even_thermometers refl refl)

numbered_kept_evenly : (number : ℕ) → kept_by even_weights (numbered_scan number 15000) ≡ bench_kept_lem
unfolding bench_table numbered_scan kept_scan tabulate accepted_counts four_counts within_limits accepted_sides without_overlap good differs count chosen_to
numbered_kept_evenly number = ap kept_scan (samples_by even_weights (numbered_scan number 15000) bench_sides even_thermometers refl refl)

-- the scans by age at a number after 7
abbrev two_scans : ℕ → ℕ → Scan
two_scans number k = cond (eqb (number + k) number) bench_kept_lem (cond (eqb (7 + k) number) bench_kept_lem no_scan)

means_at_number : (number c : ℕ) → c < channels
    → means_at even_weights (fed_moment (bench_scan 15000 ∷ []) (numbered_scan number 15000)) c ≡ means_of even_weights (two_scans (scan_number (numbered_scan number 15000))) c
unfolding scan_of_age bench_scan
means_at_number number c below =
    let at = scan_number (numbered_scan number 15000) in
    means_at_is even_weights (fed_moment (bench_scan 15000 ∷ []) (numbered_scan number 15000)) c below
    ∙ ap₂ (λ (kept older : Scan). means_of even_weights (λ k. cond (eqb (at + k) at) kept (cond (eqb (7 + k) at) older no_scan)) c) (numbered_kept_evenly number) bench_kept_evenly

age_rows : AgeRows
unfolding bench_table numbered_scan tabulate means_from weight_sum value_sum thermometer_weights thermometer_sum sum no_scan
age_rows = record {
  age_at = λ c below. means_at_number 14 c below ∙ each_of_same (means_of even_weights (two_scans 14)) (λ c. sums_of_scans 2 (target_of c)) channels refl c below;
  age_beyond = λ c below. means_at_number 15 c below ∙ each_of_same (means_of even_weights (two_scans 15)) (λ c. sums_of_scans 1 (target_of c)) channels refl c below;
}

pub boundary_rows : BoundaryRows
boundary_rows = record { ranges = range_rows; readings = reading_ends; thermometers = thermometer_rows; counts = count_rows; flags = flag_rows; ages = age_rows }

-- ---- the rows of ages are those of every channel

pub ages_say : (c : ℕ) → c < 22
    → (means_at even_weights (fed_moment (bench_scan 15000 ∷ []) (numbered_scan 14 15000)) c ≡ sums_of_scans 2 (target_of c))
    × (means_at even_weights (fed_moment (bench_scan 15000 ∷ []) (numbered_scan 15 15000)) c ≡ sums_of_scans 1 (target_of c))
ages_say c below = (boundary_rows.ages.age_at c below, boundary_rows.ages.age_beyond c below)

-- ---- a row of both sides, or of both targets, is a row of each

pub both_sides_say : (Row : Side → Type 0) → BothSides Row → (side : Side) → Row side
both_sides_say Row both Warm = both.0
both_sides_say Row both Cold = both.1

pub both_targets_say : (Row : Target → Type 0) → BothTargets Row → (target : Target) → Row target
both_targets_say Row both Kav = both.0
both_targets_say Row both Wg = both.1
