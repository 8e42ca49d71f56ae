-- Document 01, "The table", "One thermometer", "Acceptance (section 6.6)" and "Window and flags", at their ends: of each pair of
-- rows one is at an end, and one is one beyond it. The tables are the bench table with other values in field 0x10.
use Rattle.std.specs.Prelude.{ℕ, ◌+◌, ◌*◌, ◌-◌, ◌<◌, ◌≡◌, List, [], ◌∷◌, ◌++◌, Bool, true, false, cond, eqb, ltb, ℤ, pos, neg_ℤ, ◌-ℤ◌, length, drop, replicate}
use Rattle.lists.specs.Build.{put, cells}
use Rattle.fields.specs.Numbers.{u16_bytes, u32_bytes}
use Rattle.fields.specs.Fields.{value_start}
use Rattle.thermometer.specs.Reading.{number, reading}
use Rattle.instrument.specs.declared.Side.{Side}
use Rattle.instrument.specs.declared.Side.TheVariants.{Warm, Cold}
use Rattle.instrument.specs.declared.Target.{Target}
use Rattle.instrument.specs.declared.Target.TheVariants.{Kav, Wg}
use Rattle.instrument.specs.Instrument.{channels, positions, size_of, target_of}
use Rattle.table.specs.declared.Limits.{Limits}
use Rattle.table.specs.declared.Thermometer.{Thermometer}
use Rattle.table.specs.declared.ShelfPair.{ShelfPair}
use Rattle.table.specs.Settings.{ChannelSettings, Settings, table_layout, settings_of}
use Rattle.table.specs.Ranges.{values_inside}
use Rattle.table.specs.Opening.{ages}
use Rattle.bias.specs.Opening.{part_inside}
use Rattle.samples.specs.Good.{Sample}
use Rattle.acceptance.specs.Accepted.{accepted_thermometers, accepted_counts}
use Rattle.window.specs.declared.Means.{Means}
use Rattle.window.specs.Means.{flag_of}
use Rattle.promise.specs.Samples.{of_side}
use Rattle.promise.specs.Outcomes.{fed_moment}
use Rattle.promise.specs.Moments.{means_at}
use Rattle.bench.specs.Bench.{bench_table, bench_scan, bench_settings, instrument_bytes, four, samples_at, rows_pair}
use Rattle.bench.specs.Witnesses.{numbered_scan}

-- a row of each side, and of each target
abbrev pub BothSides : (Side → Type 0) → Type 0
BothSides Row = Row Warm × Row Cold

abbrev pub BothTargets : (Target → Type 0) → Type 0
BothTargets Row = Row Kav × Row Wg

-- what the bench table says with these bytes in field 0x10, from this byte of its value on
abbrev pub settings_with : ℕ → List ℕ → Settings
settings_with at bytes = settings_of ages (put bench_table (value_start (table_layout ages) 0 + at) bytes)

-- ---- the ranges of a table and of a bias file. Laws `accepted_ranges` and `accepted_bias_ranges` have what lies beyond them.

-- every value and every sum at the low end of its range, or every one at the high end: one weight is the sum, T_low and T_upp are equal, low and upp
-- of a count are equal, and the shelf temperatures rise by one
module _ (high : Bool) where
  abbrev pub end_of : (least most : ℕ) → ℕ
  end_of least most = cond high most least

  -- of a range from -m to m
  abbrev pub signed_end : ℕ → ℤ
  signed_end m = cond high (pos m) (neg_ℤ (pos m))

  abbrev pub first_weight : ℕ → ℕ
  first_weight k = cond (eqb k 0) (end_of 1 255) 0

  abbrev pub end_thermometer : ℕ → Thermometer
  end_thermometer i = record {
    p = cond (ltb i (size_of Kav)) (first_weight i) (first_weight (i - size_of Kav));
    r0 = end_of 1000 4000000;
    alpha = end_of 3000000 5000000;
    delta = end_of 0 2000000;
    beta = end_of 0 500000;
  }

  abbrev pub end_pair : ℕ → ShelfPair
  end_pair j = record { shelf = cond high (pos (245756 + j)) (pos j -ℤ pos 245760); tnl = signed_end 8192 }

  abbrev pub end_channel : ChannelSettings
  end_channel = record {
    limits = λ side. record { low = end_of 0 65535; upp = end_of 0 65535; difference = end_of 0 65535 };
    b = signed_end 4096;
    rj = end_of 0 16384;
    sl = end_of 0 16384;
    tnl = pos 0;
    pair = end_pair;
  }

  abbrev pub end_settings : Settings
  end_settings = record {
    ages = ages;
    w = first_weight;
    v = first_weight;
    percent_thermometers = end_of 1 100;
    percent = λ side. end_of 1 100;
    least = λ target. end_of 1 (size_of target);
    r_pam = end_of 1000 4000000;
    t_low = signed_end 245760;
    t_upp = signed_end 245760;
    d_t = end_of 0 491520;
    thermometer = end_thermometer;
    channel = λ c. end_channel;
  }

  -- a channel's part of a bias file: c0 and e in two's complement
  unfoldable pub end_part : List ℕ
  unfolding cells
  end_part = cells (λ i. u16_bytes (end_of (65536 - 4096) 4096) ++ u16_bytes (end_of 0x8000 0x7FFF)) positions

pub record RangeRows : Type 0 where
  pub low_ends : values_inside (end_settings false) ≡ true
  pub high_ends : values_inside (end_settings true) ≡ true
  pub bias_low_ends : part_inside (end_part false) ≡ true
  pub bias_high_ends : part_inside (end_part true) ≡ true

-- ---- one thermometer: the number of its refusal, or 0, at these counts, with all R 2,000,000, the bench's coefficients and offset 0
abbrev pub refusal_at : (pam count : ℕ) → ℕ
refusal_at pam count = number (reading 2000000 2000000 3850000 1500000 0 pam 0 count)

pub record ReadingEnds : Type 0 where
  -- M is F(-245,760) = 12,808,666, and one below
  pub m_low_at : refusal_at 14213 10851 ≡ 0
  pub m_low_beyond : refusal_at 9271 7078 ≡ 10
  -- M is F(245,760) = 20,676,006, and one above
  pub m_high_at : refusal_at 3378 4163 ≡ 0
  pub m_high_beyond : refusal_at 5947 7329 ≡ 10

-- ---- thermometers of a target; T of 0 °C is 1,118,822

-- T_low, T_upp (in two's complement) and dT
abbrev pub with_t_low : ℕ → Settings
with_t_low t = settings_with (2 * ages + 9) (u32_bytes t)

abbrev pub with_t_upp : ℕ → Settings
with_t_upp t = settings_with (2 * ages + 13) (u32_bytes t)

abbrev pub with_dt : ℕ → Settings
with_dt d = settings_with (2 * ages + 17) (u32_bytes d)

-- PAM 20,000 and offset 0: the first n thermometers of each target have one count, and the others another. 20,000 reads 0 °C, 20,002 reads
-- t = 104, and 0 is refused with 10.
unfoldable pub instrument_with : (n count other : ℕ) → List ℕ
unfolding cells
instrument_with n count other =
    u16_bytes 20000 ++ u16_bytes 0 ++ cells (λ i. u16_bytes (cond (ltb i n) count other)) (size_of Kav) ++ cells (λ i. u16_bytes (cond (ltb i n) count other)) (size_of Wg)

-- the bench's least numbers of good thermometers
abbrev pub least_of : Target → ℕ
least_of Kav = 5
least_of Wg = 4

pub record ThermometerRows : Type 0 where
  -- all read 0 °C
  pub low_at : BothTargets (λ target. accepted_thermometers (with_t_low 0) instrument_bytes target ≡ samples_at (size_of target) 1118822)
  pub low_beyond : BothTargets (λ target. accepted_thermometers (with_t_low 1) instrument_bytes target ≡ [])
  pub upp_at : BothTargets (λ target. accepted_thermometers (with_t_upp 0) instrument_bytes target ≡ samples_at (size_of target) 1118822)
  pub upp_beyond : BothTargets (λ target. accepted_thermometers (with_t_upp 0xFFFF_FFFF) instrument_bytes target ≡ [])
  -- the first of each target is 104 above the others
  pub difference_at : BothTargets (λ target. accepted_thermometers (with_dt 104) (instrument_with 1 20002 20000) target ≡ record { place = 0; value = 1118926 } ∷ drop 1 (samples_at (size_of target) 1118822))
  pub difference_beyond : BothTargets (λ target. accepted_thermometers (with_dt 103) (instrument_with 1 20002 20000) target ≡ drop 1 (samples_at (size_of target) 1118822))
  -- two are 104 above the others, so that each differs from two or more and none is good; with the two dropped first, the others would be
  pub two_beyond : BothTargets (λ target. accepted_thermometers (with_dt 103) (instrument_with 2 20002 20000) target ≡ [])
  -- just the least number are good, and one fewer
  pub least_at : BothTargets (λ target. accepted_thermometers bench_settings (instrument_with (least_of target) 20000 0) target ≡ samples_at (least_of target) 1118822)
  pub least_beyond : BothTargets (λ target. accepted_thermometers bench_settings (instrument_with (least_of target - 1) 20000 0) target ≡ [])

-- ---- counts

-- the bench's counts
abbrev pub count_of : Side → ℕ
count_of Warm = 20000
count_of Cold = 10000

abbrev pub four_alike : Side → List ℕ
four_alike side = four (count_of side) (count_of side) (count_of side) (count_of side)

-- limits of both sides, with the difference 50
abbrev pub limits_to : (low upp : Side → ℕ) → Side → Limits
limits_to low upp side = record { low = low side; upp = upp side; difference = 50 }

abbrev pub from_one : Side → Limits
from_one = limits_to (λ side. 1) (λ side. 65535)

-- these counts as a channel's part of field 0x03 or 0x04
abbrev pub count_bytes : List ℕ → List ℕ
count_bytes [] = []
count_bytes (count ∷ more) = u16_bytes count ++ count_bytes more

-- the accepted counts of a side, in a channel with these limits and these counts of its sides
abbrev pub accepted_of : (Side → Limits) → (counts : Side → List ℕ) → Side → List Sample
accepted_of limits counts side =
    let channel : ChannelSettings = record { limits = limits; b = pos 0; rj = 0; sl = 0; tnl = pos 0; pair = rows_pair } in
    of_side side (accepted_counts channel (count_bytes (counts Warm)) (count_bytes (counts Cold)))

-- the first of the four counts is another
abbrev pub first_is : (Side → ℕ) → Side → List ℕ
first_is first side = four (first side) (count_of side) (count_of side) (count_of side)

-- the lowest warm count is this one, and the highest cold 10,000
abbrev pub warm_from : ℕ → Side → List ℕ
warm_from lowest Warm = four 10040 lowest 10030 10020
warm_from lowest Cold = four 9970 9980 10000 9990

pub record CountRows : Type 0 where
  pub low_at : BothSides (λ side. accepted_of (limits_to count_of (λ side. 65535)) four_alike side ≡ samples_at 4 (count_of side))
  pub low_beyond : BothSides (λ side. accepted_of (limits_to (λ side. count_of side + 1) (λ side. 65535)) four_alike side ≡ [])
  pub upp_at : BothSides (λ side. accepted_of (limits_to (λ side. 1) count_of) four_alike side ≡ samples_at 4 (count_of side))
  pub upp_beyond : BothSides (λ side. accepted_of (limits_to (λ side. 1) (λ side. count_of side - 1)) four_alike side ≡ [])
  -- the first is 50 and 51 above the others, and as far below them
  pub above_at : BothSides (λ side. accepted_of from_one (first_is (λ side. count_of side + 50)) side ≡ record { place = 0; value = count_of side + 50 } ∷ drop 1 (samples_at 4 (count_of side)))
  pub above_beyond : BothSides (λ side. accepted_of from_one (first_is (λ side. count_of side + 51)) side ≡ drop 1 (samples_at 4 (count_of side)))
  pub below_at : BothSides (λ side. accepted_of from_one (first_is (λ side. count_of side - 50)) side ≡ record { place = 0; value = count_of side - 50 } ∷ drop 1 (samples_at 4 (count_of side)))
  pub below_beyond : BothSides (λ side. accepted_of from_one (first_is (λ side. count_of side - 51)) side ≡ drop 1 (samples_at 4 (count_of side)))
  -- three good counts, and two
  pub three_at : BothSides (λ side. accepted_of from_one (λ side. four (count_of side) (count_of side) (count_of side) 0) side ≡ samples_at 3 (count_of side))
  pub three_beyond : BothSides (λ side. accepted_of from_one (λ side. four (count_of side) (count_of side) 0 0) side ≡ [])
  -- the lowest good warm is one above the highest good cold, and equal
  pub overlap_at : BothSides (λ side. length (accepted_of from_one (warm_from 10001) side) ≡ 4)
  pub overlap_beyond : BothSides (λ side. accepted_of from_one (warm_from 10000) side ≡ [])

-- ---- flags

-- w and v of three ages are 1, so that the w sum to 3, and v × p to 24 and 21; with these percentages for thermometers, warm and cold
abbrev pub with_percentages : ℕ → ℕ → ℕ → Settings
with_percentages t w c = settings_with 0 (three_ages ++ three_ages ++ (t ∷ w ∷ c ∷ []))
  where
    three_ages : List ℕ
    three_ages = replicate 3 1 ++ replicate (ages - 3) 0

-- sums of a channel with D = Wc
abbrev pub sums : (sumVP Ww Wc : ℕ) → Means
sums sumVP Ww Wc = record { sumVP = sumVP; sumVPT = 0; Ww = Ww; Aw = 1; Wc = Wc; Ac = 0 }

-- sums that suffice, with D = Aw - Ac
abbrev pub count_sums : Target → (Aw Ac : ℕ) → Means
count_sums target Aw Ac = record { sumVP = size_of target; sumVPT = 0; Ww = 1; Aw = Aw; Wc = 1; Ac = Ac }

pub record FlagRows : Type 0 where
  -- 100 × sum is percentage × whole for each of the three; then one of the sums is 1 less
  pub percentages_at : BothTargets (λ target. flag_of (with_percentages 100 100 100) target (sums (3 * size_of target) 3 3) ≡ 0)
  pub thermometers_less : BothTargets (λ target. flag_of (with_percentages 100 100 100) target (sums (3 * size_of target - 1) 3 3) ≡ 1)
  pub warm_less : BothTargets (λ target. flag_of (with_percentages 100 100 100) target (sums (3 * size_of target) 2 3) ≡ 2)
  pub cold_less : BothTargets (λ target. flag_of (with_percentages 100 100 100) target (sums (3 * size_of target) 3 2) ≡ 3)
  -- 100 × sum is one below percentage × whole: 81 × 21 = 1,701 and 67 × 3 = 201. For KAV's 24 no product is one above a multiple of 100.
  pub thermometers_beyond : flag_of (with_percentages 81 1 1) Wg (sums 17 3 3) ≡ 1
  pub warm_beyond : BothTargets (λ target. flag_of (with_percentages 1 67 1) target (sums (3 * size_of target) 2 3) ≡ 2)
  pub cold_beyond : BothTargets (λ target. flag_of (with_percentages 1 1 67) target (sums (3 * size_of target) 3 2) ≡ 3)
  -- D is 1, 0 and -1
  pub d_one : BothTargets (λ target. flag_of bench_settings target (count_sums target 120001 120000) ≡ 0)
  pub d_zero : BothTargets (λ target. flag_of bench_settings target (count_sums target 120000 120000) ≡ 4)
  pub d_below : BothTargets (λ target. flag_of bench_settings target (count_sums target 119999 120000) ≡ 4)
  -- where several apply, the first decides
  pub one_of_all : BothTargets (λ target. flag_of (with_percentages 100 100 100) target (sums 0 0 0) ≡ 1)
  pub two_before_three : BothTargets (λ target. flag_of (with_percentages 100 100 100) target (sums (3 * size_of target) 0 0) ≡ 2)
  pub three_before_four : BothTargets (λ target. flag_of (with_percentages 100 100 100) target (sums (3 * size_of target) 3 0) ≡ 3)

-- ---- ages; every w and every v is 1

abbrev pub even_weights : Settings
even_weights = settings_with 0 (replicate (2 * ages) 1)

-- the sums of n scans with the counts of the bench scan
abbrev pub sums_of_scans : ℕ → Target → Means
sums_of_scans n target =
    record { sumVP = n * size_of target; sumVPT = n * (size_of target * 1118822); Ww = n; Aw = n * 240000; Wc = n; Ac = n * 120000 }

-- the bench scan, number 7, counts at number 14 and not at 15
pub record AgeRows : Type 0 where
  pub age_at : (c : ℕ) → c < channels → means_at even_weights (fed_moment (bench_scan 15000 ∷ []) (numbered_scan 14 15000)) c ≡ sums_of_scans 2 (target_of c)
  pub age_beyond : (c : ℕ) → c < channels → means_at even_weights (fed_moment (bench_scan 15000 ∷ []) (numbered_scan 15 15000)) c ≡ sums_of_scans 1 (target_of c)

pub record BoundaryRows : Type 0 where
  pub ranges : RangeRows
  pub readings : ReadingEnds
  pub thermometers : ThermometerRows
  pub counts : CountRows
  pub flags : FlagRows
  pub ages : AgeRows
