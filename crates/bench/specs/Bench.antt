-- Document 01, "Bench scan", and requests W1 and W4: the bench table and the bench scan as bytes, the rows H1 to H12, which speak of T, before scan
-- bias, and rows of scan bias and of the interpolation.
use Rattle.std.specs.Prelude.{ℕ, ◌-◌, ◌<◌, ◌≡◌, List, [], ◌∷◌, ◌++◌, true, false, ℤ, pos, neg_ℤ, replicate, get_or, Ok}
use Rattle.integers.specs.Rounding.{r}
use Rattle.integers.specs.Fractions.{◌/ᶠ◌}
use Rattle.lists.specs.Build.{tabulate, cells}
use Rattle.thermometer.specs.Rule.{F, answer}
use Rattle.table.specs.declared.Limits.{Limits}
use Rattle.table.specs.declared.ShelfPair.{ShelfPair}
use Rattle.nonlinearity.specs.Interpolation.{unrounded_tnl, tnl_of}
use Rattle.table.specs.Settings.{Settings, table_layout, settings_of}
use Rattle.instrument.specs.Instrument.{thermometers, channels, positions}
use Rattle.table.specs.Opening.{ages}
use Rattle.bias.specs.Bias.{zero_bias}
use Rattle.samples.specs.Good.{Sample, good, at_least}
use Rattle.acceptance.specs.Counts.{Sides, within_limits, good_counts, accepted_sides, scan_value}
use Rattle.scene.specs.Channel.{Channel}
use Rattle.record.specs.Record.{record_layout, shelves_size}
use Rattle.scene.specs.Temperature.{outside, biased}
use Rattle.fields.specs.Numbers.{u16_bytes, u32_bytes}
use Rattle.fields.specs.Fields.{field_at, field_bytes}
use Rattle.calibrator.specs.declared.Calibrator.{Calibrator}
use Rattle.calibrator.specs.Feeding.{fresh_of}
use Rattle.promise.specs.Moments.{Moment, d_at, n_at, t_at}

-- ---- the bench table

-- w0 = v0 = 1, others 0
abbrev pub weights : List ℕ
weights = 1 ∷ replicate (ages - 1) 0

unfoldable pub settings_bytes : List ℕ
settings_bytes =
    -- w and v
    weights ++ weights
    -- least percentages for thermometers, warm and cold
    ++ (100 ∷ 100 ∷ 100 ∷ [])
    -- least good thermometers for KAV and WG
    ++ (5 ∷ 4 ∷ [])
    -- R_PAM
    ++ u32_bytes 2000000
    -- T_low and T_upp at their ends, in two's complement
    ++ u32_bytes (0x1_0000_0000 - 245760)
    ++ u32_bytes 245760
    -- dT
    ++ u32_bytes 100

-- p; R0, alpha, delta, beta
unfoldable pub thermometer_bytes : List ℕ
thermometer_bytes = (1 ∷ []) ++ u32_bytes 2000000 ++ u32_bytes 3850000 ++ u32_bytes 1500000 ++ u32_bytes 0

-- low, upp, difference
abbrev pub limits_bytes : List ℕ
limits_bytes = u16_bytes 0 ++ u16_bytes 65535 ++ u16_bytes 50

-- warm, cold; b, rj, sl and the TNL of 0x12, all 0
unfoldable pub channel_bytes : List ℕ
channel_bytes = limits_bytes ++ limits_bytes ++ u16_bytes 0 ++ u16_bytes 0 ++ u16_bytes 0 ++ u16_bytes 0

-- a pair, its shelf temperature in two's complement: TNL 400
abbrev pub pair_bytes : ℕ → List ℕ
pair_bytes shelf = u32_bytes shelf ++ u16_bytes 400

-- the range of shelf temperatures, from end to end in four equal parts
unfoldable pub pairs_bytes : List ℕ
pairs_bytes =
    pair_bytes (0x1_0000_0000 - 245760) ++ pair_bytes (0x1_0000_0000 - 122880) ++ pair_bytes 0 ++ pair_bytes 122880 ++ pair_bytes 245760

unfoldable pub bench_table : List ℕ
unfolding settings_bytes thermometer_bytes channel_bytes pairs_bytes cells
bench_table =
    field_bytes (field_at (table_layout ages) 0) settings_bytes
    ++ (field_bytes (field_at (table_layout ages) 1) (cells (λ i. thermometer_bytes) thermometers)
    ++ (field_bytes (field_at (table_layout ages) 2) (cells (λ c. channel_bytes) channels)
    ++ field_bytes (field_at (table_layout ages) 3) (cells (λ c. pairs_bytes) channels)))

-- ---- the bench scan

-- n counts a channel, all the same
unfoldable pub per_channel : ℕ → ℕ → List ℕ
unfolding cells
per_channel n count = cells (λ c. cells (λ i. u16_bytes count) n) channels

-- PAM, offset, thermometers
unfoldable pub instrument_bytes : List ℕ
unfolding cells
instrument_bytes = u16_bytes 20000 ++ u16_bytes 0 ++ cells (λ i. u16_bytes 20000) thermometers

-- the shelves are 0
unfoldable pub shelf_bytes : List ℕ
shelf_bytes = replicate shelves_size 0

-- scan 7 with warm, cold and earth counts and shelf temperatures; document 01's earth count is 15,000
unfoldable pub bench_scan : ℕ → List ℕ
unfolding instrument_bytes per_channel shelf_bytes
bench_scan earth =
    field_bytes (field_at record_layout 0) (u32_bytes 7)
    ++ (field_bytes (field_at record_layout 1) instrument_bytes
    ++ (field_bytes (field_at record_layout 2) (per_channel 4 20000)
    ++ (field_bytes (field_at record_layout 3) (per_channel 4 10000)
    ++ (field_bytes (field_at record_layout 4) (per_channel positions earth)
    ++ field_bytes (field_at record_layout 5) shelf_bytes))))

-- the calibrator that is fresh under the bench table and a bias file of zeros
abbrev pub bench_calibrator : Calibrator
bench_calibrator = fresh_of (record { bytes = bench_table }) (record { bytes = zero_bias })

abbrev pub bench_settings : Settings
bench_settings = settings_of ages bench_table

-- each of its channels once it is fed the bench scan: flag 0; Tc, Tw - Tc with Tw = 1,118,822, TNL, D, 12 × Wc × Ww and Ac × Ww
abbrev pub bench_channel : Channel
bench_channel = Ok (record { tc = pos 11166; rise = pos 1107656; tnl = pos 400; d = pos 120000; slope = pos 12; base = pos 120000 })

-- ---- the rows

-- alpha 3,850,000, delta 1,500,000, beta 0
abbrev pub ratio_at : ℤ → ℤ
ratio_at t = F 3850000 1500000 0 t

-- scene i of channel c, in the bench scan with this earth count
abbrev pub bench_moment : ℕ → Moment
bench_moment earth = record { standing = bench_scan earth ∷ []; scan = bench_scan earth }

module _ (earth c i : ℕ) where
  abbrev pub bench_d : ℤ
  bench_d = d_at bench_settings (bench_moment earth) c

  abbrev pub bench_n : ℤ
  bench_n = n_at bench_settings (bench_moment earth) c i

  abbrev pub bench_t : ℤ
  bench_t = t_at bench_settings (bench_moment earth) c i

-- every scene of the bench scan with this earth count is outside
abbrev pub AllOutside : ℕ → Type 0
AllOutside earth = (c i : ℕ) → c < channels → i < positions → outside (bench_n earth c i) (bench_d earth c i) ≡ true

-- none is outside, and each has this T
abbrev pub AllAt : ℕ → ℕ → Type 0
AllAt earth t = (c i : ℕ) → c < channels → i < positions → (outside (bench_n earth c i) (bench_d earth c i) ≡ false) × (bench_t earth c i ≡ pos t)

-- limits 0 and 65,535, differences 50
abbrev pub limits : Limits
limits = record { low = 0; upp = 65535; difference = 50 }

abbrev pub four : ℕ → ℕ → ℕ → ℕ → List ℕ
four a b c d = a ∷ b ∷ c ∷ d ∷ []

-- samples with this value at each of the first n places
abbrev pub samples_at : ℕ → ℕ → List Sample
samples_at n value = tabulate (λ i. record { place = i; value = value }) n

abbrev pub accepted : List ℕ → List ℕ → Sides
accepted warm cold = accepted_sides (record { warm = good_counts limits warm; cold = good_counts limits cold })

pub record Rows : Type 0 where
  pub H1 : ratio_at (pos 0) ≡ pos 16777216
  pub H2 : ratio_at (pos 4096) ≡ pos 16842767
  -- M = 16,842,766 gives t = 4,095
  pub H3 : answer 3850000 1500000 0 (pos 16842766) ≡ pos 4095
  pub H4 : AllAt 15000 565394
  pub H5 : AllAt 10000 11166
  pub H6 : AllOutside 9999
  pub H7 : AllAt 22500 1395236
  pub H8 : AllOutside 22501
  pub H9 : AllAt 10001 11277
  -- warm 20,000 three times and 20,100: fourth bad, a = 240,000
  pub H10_fourth : good (four 20000 20000 20000 20100) (within_limits limits (four 20000 20000 20000 20100)) 50 3 ≡ false
  pub H10_value : scan_value (accepted (four 20000 20000 20000 20100) (four 10000 10000 10000 10000)).warm ≡ 240000
  -- 20,000 and 20,100 twice each: side bad
  pub H11 : at_least 3 (good_counts limits (four 20000 20000 20100 20100)) ≡ []
  -- warm and cold all 10,000: both bad
  pub H12 : accepted (four 10000 10000 10000 10000) (four 10000 10000 10000 10000) ≡ record { warm = []; cold = [] }

-- Request W6: r of halves of both signs, with even and odd neighbours, and of numbers beside them
pub record RoundingRows : Type 0 where
  pub half : r (pos 1) (pos 2) ≡ pos 0
  pub three_halves : r (pos 3) (pos 2) ≡ pos 2
  pub five_halves : r (pos 5) (pos 2) ≡ pos 2
  pub half_below_zero : r (neg_ℤ (pos 1)) (pos 2) ≡ pos 0
  pub three_halves_below_zero : r (neg_ℤ (pos 3)) (pos 2) ≡ neg_ℤ (pos 2)
  pub five_halves_below_zero : r (neg_ℤ (pos 5)) (pos 2) ≡ neg_ℤ (pos 2)
  pub above_half : r (pos 50001) (pos 100000) ≡ pos 1
  pub below_three_halves : r (pos 149999) (pos 100000) ≡ pos 1
  pub above_half_below_zero : r (neg_ℤ (pos 49999)) (pos 100000) ≡ pos 0
  pub above_three_halves_below_zero : r (neg_ℤ (pos 149999)) (pos 100000) ≡ neg_ℤ (pos 1)

-- what is delivered for T by c0 and e of both signs; three of the rows round a half, and c0 comes after it
pub record BiasRows : Type 0 where
  pub no_bias : biased (pos 0) (pos 0) (pos 565394) ≡ pos 565394
  pub least_e : biased (pos 4096) (neg_ℤ (pos 32768)) (pos 565395) ≡ pos 286794
  pub greatest_e : biased (neg_ℤ (pos 4096)) (pos 32767) (pos 565394) ≡ pos 843986
  pub half_more : biased (neg_ℤ (pos 1)) (pos 1) (pos 32768) ≡ pos 32767
  pub half_less : biased (pos 1) (neg_ℤ (pos 1)) (pos 32768) ≡ pos 32769

-- Request W4: pairs at -4, -2, 0, 2 and 5
abbrev pub rows_pair : ℕ → ShelfPair
rows_pair j =
    get_or (record { shelf = neg_ℤ (pos 4); tnl = neg_ℤ (pos 2) } ∷ record { shelf = neg_ℤ (pos 2); tnl = neg_ℤ (pos 1) } ∷ record { shelf = pos 0; tnl = pos 0 } ∷ record { shelf = pos 2; tnl = pos 1 } ∷ record { shelf = pos 5; tnl = pos 8192 } ∷ [])
    j (record { shelf = pos 0; tnl = pos 0 })

-- TNL by these pairs; three of the rows round a half, and two are at the ends of an i32
pub record InterpolationRows : Type 0 where
  pub least : tnl_of rows_pair (neg_ℤ (pos 2147483648)) ≡ neg_ℤ (pos 2)
  pub below_first : tnl_of rows_pair (neg_ℤ (pos 5)) ≡ neg_ℤ (pos 2)
  pub at_first : tnl_of rows_pair (neg_ℤ (pos 4)) ≡ neg_ℤ (pos 2)
  pub half_below : tnl_of rows_pair (neg_ℤ (pos 3)) ≡ neg_ℤ (pos 2)
  pub at_second : tnl_of rows_pair (neg_ℤ (pos 2)) ≡ neg_ℤ (pos 1)
  pub half_to_zero : tnl_of rows_pair (neg_ℤ (pos 1)) ≡ pos 0
  pub half_above : tnl_of rows_pair (pos 1) ≡ pos 0
  pub third_of_the_way : tnl_of rows_pair (pos 3) ≡ pos 2731
  pub third_of_the_way_unrounded : unrounded_tnl rows_pair (pos 3) ≡ pos 8194 /ᶠ pos 3
  pub two_thirds_of_the_way : tnl_of rows_pair (pos 4) ≡ pos 5462
  pub at_last : tnl_of rows_pair (pos 5) ≡ pos 8192
  pub above_last : tnl_of rows_pair (pos 6) ≡ pos 8192
  pub greatest : tnl_of rows_pair (pos 2147483647) ≡ pos 8192
