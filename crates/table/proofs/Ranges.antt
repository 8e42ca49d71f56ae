-- Values that pass the tests of `values_inside` are in the ranges of `SettingsRange`.
use Prim.Native.Nat.{ℕ, ◌+◌, ◌-◌, ◌≤◌, ◌<◌}
use native.Mathlib.Omega.{arith}
use mathlib.Core.Path.{◌≡◌}
use mathlib.Core.List.{List, [], ◌∷◌}
use mathlib.Core.Bool.{Bool, true, ◌||◌}
use lib.Dec.{eqb, leb}
use lib.ListN.{get_or}
use lib.IntN.{ℤ, pos, neg_ℤ}
use lib.Signed.{le_z, lt_z, ◌<ℤ◌}
use borrow.Author.Tests.{leb-true, ne_eqb}
use Rattle.integers.specs.Bounds.{Bounded}
use Rattle.integers.proofs.Order.{le_z_true, lt_z_true}
use Rattle.lists.specs.Sum.{sum}
use Rattle.lists.specs.Count.{every}
use Rattle.lists.proofs.Every.{each_of_every, each_of_all}
use Rattle.thermometer.proofs.Ranges.{both_true}
use Rattle.thermometer.specs.Reading.{from_to, resistance_inside}
use Rattle.instrument.specs.declared.Side.{Side}
use Rattle.instrument.specs.declared.Side.TheVariants.{Warm, Cold}
use Rattle.instrument.specs.declared.Target.{Target}
use Rattle.instrument.specs.declared.Target.TheVariants.{Kav, Wg}
use Rattle.instrument.specs.Instrument.{thermometers, channels, size_of}
use Rattle.table.specs.declared.Thermometer.{Thermometer}
use Rattle.table.specs.declared.ShelfPair.{ShelfPair}
use Rattle.table.specs.Settings.{pairs, ChannelSettings, Settings}
use Rattle.table.specs.Ranges.{size_to, leasts_inside, thermometer_limits_inside, thermometer_inside, channel_inside, pair_inside, weight_of, sums_inside, values_inside}
use Rattle.table.specs.ValueRanges.{Between, ThermometerRange, ShelfPairsRange, ChannelRange, SettingsRange}

-- ---- one test
pub in_between : {low high x : ℕ} → from_to low high x ≡ true → Between low high x
in_between {low} {high} {x} holds =
    let tests = both_true (leb low x) (leb x high) holds in
    (leb-true low x tests.0, leb-true x high tests.1)

pub bounded : {m : ℕ} {z : ℤ} → size_to m z ≡ true → Bounded z (pos m)
bounded {m} {z} holds =
    let tests = both_true (le_z (neg_ℤ (pos m)) z) (le_z z (pos m)) holds in
    record { low = le_z_true tests.0; high = le_z_true tests.1 }

-- ---- both sides, both targets
each_side : (Holds : Side → Type 0) → Holds Warm → Holds Cold → (side : Side) → Holds side
each_side Holds warm cold Warm = warm
each_side Holds warm cold Cold = cold

each_target : (Holds : Target → Type 0) → Holds Kav → Holds Wg → (target : Target) → Holds target
each_target Holds kav wg Kav = kav
each_target Holds kav wg Wg = wg

-- ---- one row
thermometer_in_range : (t : Thermometer) → thermometer_inside t ≡ true → ThermometerRange t
thermometer_in_range t holds =
    let r0 = both_true (resistance_inside t.r0) _ holds in
    let alpha = both_true (from_to 3000000 5000000 t.alpha) _ r0.1 in
    let delta = both_true (leb t.delta 2000000) _ alpha.1 in
    let alpha-between : Between 3000000 5000000 t.alpha = in_between alpha.0 in
    record {
      r0 = in_between r0.0;
      coefficients = record {
        alpha_low = alpha-between.0;
        alpha_high = alpha-between.1;
        delta_high = leb-true t.delta 2000000 delta.0;
        beta_high = leb-true t.beta 500000 delta.1;
      };
    }

module _ (pair : ℕ → ShelfPair) (holds : every (pair_inside pair) pairs ≡ true) where
  abbrev pair_tests : ℕ → List Bool
  pair_tests j = size_to 245760 (pair j).shelf ∷ size_to 8192 (pair j).tnl ∷ (eqb j 0 || lt_z (pair (j - 1)).shelf (pair j).shelf) ∷ []

  pair_test : (j : ℕ) → j < pairs → (k : ℕ) → get_or (pair_tests j) k true ≡ true
  unfolding pair_inside
  pair_test j below = each_of_all (pair_tests j) (each_of_every (pair_inside pair) pairs j holds below)

  shelf_rises : (j : ℕ) → j + 1 < pairs → (pair j).shelf <ℤ (pair (j + 1)).shelf
  shelf_rises j below =
      let before : j + 1 - 1 ≡ j = omega arith in
      let rises = pair_test (j + 1) below 2 in
      lt_z_true (rw (ne_eqb (j + 1) 0 (λ first. omega arith), before) at rises)

  shelf_pairs_in_range : ShelfPairsRange pair
  shelf_pairs_in_range = record { shelf = λ j below. bounded (pair_test j below 0); tnl = λ j below. bounded (pair_test j below 1); rises = shelf_rises }

channel_in_range : (c : ChannelSettings) → channel_inside c ≡ true → every (pair_inside c.pair) pairs ≡ true → ChannelRange c
unfolding channel_inside
channel_in_range c holds pairs-hold =
    let test = each_of_all (leb (c.limits Warm).low (c.limits Warm).upp ∷ leb (c.limits Cold).low (c.limits Cold).upp ∷ size_to 4096 c.b ∷ leb c.rj 16384 ∷ leb c.sl 16384 ∷ size_to 0 c.tnl ∷ []) holds in
    record {
      limits = each_side (λ side. (c.limits side).low ≤ (c.limits side).upp) (leb-true _ _ (test 0)) (leb-true _ _ (test 1));
      b = bounded (test 2);
      rj = leb-true _ _ (test 3);
      sl = leb-true _ _ (test 4);
      pair = shelf_pairs_in_range c.pair pairs-hold;
    }

-- ---- the whole table
pub values_in_range : (s : Settings) → values_inside s ≡ true → SettingsRange s
unfolding values_inside leasts_inside thermometer_limits_inside sums_inside
values_in_range s holds =
    let thermometerTest : ℕ → Bool = λ i. thermometer_inside (s.thermometer i) in
    let channelTest : ℕ → Bool = λ c. channel_inside (s.channel c) in
    let pairsTest : ℕ → Bool = λ c. every (pair_inside (s.channel c).pair) pairs in
    let part = each_of_all (leasts_inside s ∷ thermometer_limits_inside s ∷ every thermometerTest thermometers ∷ every channelTest channels ∷ every pairsTest channels ∷ sums_inside s ∷ []) holds in
    let least = each_of_all (from_to 1 100 s.percent_thermometers ∷ from_to 1 100 (s.percent Warm) ∷ from_to 1 100 (s.percent Cold) ∷ from_to 1 (size_of Kav) (s.least Kav) ∷ from_to 1 (size_of Wg) (s.least Wg) ∷ []) (part 0) in
    let limit = each_of_all (resistance_inside s.r_pam ∷ size_to 245760 s.t_low ∷ size_to 245760 s.t_upp ∷ le_z s.t_low s.t_upp ∷ leb s.d_t 491520 ∷ []) (part 1) in
    let total = each_of_all (from_to 1 255 (sum s.w s.ages) ∷ from_to 1 255 (sum s.v s.ages) ∷ from_to 1 255 (weight_of s Kav) ∷ from_to 1 255 (weight_of s Wg) ∷ []) (part 5) in
    record {
      percent_thermometers = in_between (least 0);
      percent = each_side (λ side. Between 1 100 (s.percent side)) (in_between (least 1)) (in_between (least 2));
      least = each_target (λ target. Between 1 (size_of target) (s.least target)) (in_between (least 3)) (in_between (least 4));
      r_pam = in_between (limit 0);
      t_low = bounded (limit 1);
      t_upp = bounded (limit 2);
      t_order = le_z_true (limit 3);
      d_t = leb-true _ _ (limit 4);
      thermometer = λ i below. thermometer_in_range (s.thermometer i) (each_of_every thermometerTest thermometers i (part 2) below);
      channel = λ c below. channel_in_range (s.channel c) (each_of_every channelTest channels c (part 3) below) (each_of_every pairsTest channels c (part 4) below);
      sum_w = in_between (total 0);
      sum_v = in_between (total 1);
      sum_p = each_target (λ target. Between 1 255 (weight_of s target)) (in_between (total 2)) (in_between (total 3));
    }
