-- Document 01, "The table", and request W4: the range of each value and of each sum, in the table's order.
use Rattle.std.specs.Prelude.{ℕ, ◌+◌, ◌-◌, [], ◌∷◌, Bool, ◌&&◌, ◌||◌, eqb, leb, ℤ, pos, neg_ℤ}
use Rattle.std.specs.Int.Signed.{le_z, lt_z}
use Rattle.lists.specs.Count.{every, all_hold}
use Rattle.lists.specs.Sum.{sum}
use Rattle.thermometer.specs.Reading.{from_to, resistance_inside, coefficients_inside}
use Rattle.instrument.specs.declared.Side.TheVariants.{Warm, Cold}
use Rattle.instrument.specs.declared.Target.{Target}
use Rattle.instrument.specs.declared.Target.TheVariants.{Kav, Wg}
use Rattle.table.specs.declared.Thermometer.{Thermometer}
use Rattle.table.specs.declared.ShelfPair.{ShelfPair}
use Rattle.table.specs.Settings.{pairs, ChannelSettings, Settings}
use Rattle.instrument.specs.Instrument.{thermometers, channels, first_of, size_of}

-- from -m to m
abbrev pub size_to : ℕ → ℤ → Bool
size_to m z = le_z (neg_ℤ (pos m)) z && le_z z (pos m)

-- percentages 1..100, least good thermometers 1..8 and 1..7
unfoldable pub leasts_inside : Settings → Bool
leasts_inside s =
    all_hold (from_to 1 100 s.percent_thermometers ∷ from_to 1 100 (s.percent Warm) ∷ from_to 1 100 (s.percent Cold)
    ∷ from_to 1 (size_of Kav) (s.least Kav) ∷ from_to 1 (size_of Wg) (s.least Wg) ∷ [])

-- R_PAM, T_low and T_upp -245,760..245,760 with low not above upp, dT 0..491,520
unfoldable pub thermometer_limits_inside : Settings → Bool
thermometer_limits_inside s =
    all_hold (resistance_inside s.r_pam
    ∷ size_to 245760 s.t_low ∷ size_to 245760 s.t_upp ∷ le_z s.t_low s.t_upp ∷ leb s.d_t 491520 ∷ [])

abbrev pub thermometer_inside : Thermometer → Bool
thermometer_inside t = coefficients_inside t.r0 t.alpha t.delta t.beta

-- limits with low not above upp; b -4,096..4,096; rj and sl 0..16,384; TNL 0 (request W4)
unfoldable pub channel_inside : ChannelSettings → Bool
channel_inside c =
    all_hold (leb (c.limits Warm).low (c.limits Warm).upp ∷ leb (c.limits Cold).low (c.limits Cold).upp
    ∷ size_to 4096 c.b ∷ leb c.rj 16384 ∷ leb c.sl 16384 ∷ size_to 0 c.tnl ∷ [])

-- Request W4: shelf temperature -245,760..245,760, TNL -8,192..8,192; strictly rising: the first pair, or above the shelf temperature of
-- the one before
unfoldable pub pair_inside : (ℕ → ShelfPair) → ℕ → Bool
pair_inside pair j = all_hold (size_to 245760 (pair j).shelf ∷ size_to 8192 (pair j).tnl ∷ (eqb j 0 || lt_z (pair (j - 1)).shelf (pair j).shelf) ∷ [])

-- the sum of the p of a target
abbrev pub weight_of : Settings → Target → ℕ
weight_of s target = sum (λ i. (s.thermometer (first_of target + i)).p) (size_of target)

-- the w sum to 1..255, so do the v, so do the p of each target
unfoldable pub sums_inside : Settings → Bool
sums_inside s =
    all_hold (from_to 1 255 (sum s.w s.ages) ∷ from_to 1 255 (sum s.v s.ages)
    ∷ from_to 1 255 (weight_of s Kav) ∷ from_to 1 255 (weight_of s Wg) ∷ [])

unfoldable pub values_inside : Settings → Bool
values_inside s =
    all_hold (leasts_inside s ∷ thermometer_limits_inside s
    ∷ every (λ i. thermometer_inside (s.thermometer i)) thermometers ∷ every (λ c. channel_inside (s.channel c)) channels
    ∷ every (λ c. every (pair_inside (s.channel c).pair) pairs) channels ∷ sums_inside s ∷ [])
