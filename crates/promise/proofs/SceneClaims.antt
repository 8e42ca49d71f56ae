-- The scenes of an accepted feed: one is delivered exactly when the rules say, and is then exactly what scan bias makes of T, at most 71/16
-- units from equation 30 over E, which is what equations 25 to 29 give; before scan bias T is at most 21/8 units from E. Read from the
-- product's bytes: the word of a scene is the bits of the scene that the channel's flag and constants give.
use Prim.Native.Nat.{ℕ, ◌+◌, ◌*◌, ◌<◌, ◌≤◌}
use native.Mathlib.Omega.{arith}
use mathlib.Core.Path.{◌≡◌, refl, sym, ap, subst, subst₂, ◌∙◌}
use mathlib.Core.List.{List, [], ◌∷◌, ◌++◌}
use mathlib.Core.Bool.{Bool, true, false, false≢true, cond}
use mathlib.Core.Logic.{inl}
use lib.Dec.{eqb}
use lib.IntN.{ℤ, pos, nat_abs, ◌-ℤ◌, ◌*ℤ◌}
use lib.Signed.{◌≤ℤ◌, ◌<ℤ◌, lt_z_yes}
use lib.ListN.{get_or}
use lib.Ieee.{Float, binary32, of_bits}
use borrow.Author.Tests.{eqb-true, eq-eqb, ne_eqb}
use Rattle.integers.specs.Fractions.{◌/ᶠ◌, whole, ◌-ᶠ◌, Equal, Near, Distance}
use Rattle.integers.proofs.Ring.{◌:+◌, ◌:-◌, ◌:*◌, opp, #, v0, v1, v2, v3}
use Rattle.integers.proofs.Certificate.{◌:≤◌, ◌:<◌, hyp, nat, ◌⊕◌, ◌⊗◌, lt_by}
use Rattle.integers.proofs.Fractions.{product_above, near_of_distance}
use Rattle.integers.proofs.Naturals.{natural_below, natural_at_most}
use Rattle.fields.specs.Numbers.{u16_at}
use Rattle.lists.proofs.Tabulate.{get_d_tabulate}
use Rattle.lists.proofs.Sum.{sum_same}
use Rattle.lists.proofs.Count.{count_same}
use Rattle.lists.proofs.Elements.{zero_of_zeros}
use Rattle.table.specs.Settings.{Settings}
use Rattle.instrument.specs.Instrument.{channels, target_of, positions, thermometers}
use Rattle.table.specs.ValueRanges.{SettingsRange}
use Rattle.table.proofs.OpeningLaws.{accepted_ranges}
use Rattle.record.specs.Record.{scan_number, earth_counts, earth_part}
use Rattle.acceptance.specs.Kept.{least_kelvin, KelvinRange}
use Rattle.acceptance.proofs.Ranges.{kept_scan_kelvins}
use Rattle.nonlinearity.proofs.InterpolationLaws.{unrounded_above, tnl_within_half, tnl_bounded}
use Rattle.window.specs.declared.Means.{Means}
use Rattle.std.specs.Prelude.{Ok}
use Rattle.scene.specs.Channel.{Channel}
use Rattle.scene.proofs.Channels.{channel_unflagged, channel_flagged, constants_of_channel}
use Rattle.window.specs.Ages.{no_scan}
use Rattle.window.specs.Sums.{means_from}
use Rattle.window.specs.Means.{Tw, Tc, D, flag_of, constants_of, channel_state_of}
use Rattle.window.proofs.ConstantsLaws.{MeanWithin, kelvin_sums, temperatures_within}
use Rattle.window.proofs.FlagLaws.{Unflagged, unflagged_flag_zero, flag_zero_unflagged, flag_zero_weights_above, flag_zero_warm_above, flag_zero_cold_above}
use Rattle.scene.specs.declared.Constants.{Constants}
use Rattle.scene.specs.declared.Scene.{Scene}
use Rattle.scene.specs.declared.Scene.TheVariants.{Kelvin, Flagged, Outside, Guard}
use Rattle.scene.specs.Scene.{kelvin, bits, units_of, numerator, scene_of}
use Rattle.scene.specs.Temperature.{temperature}
use Rattle.scene.specs.Unrounded.{unrounded_tw}
use Rattle.scene.proofs.Delivered.{Passes, temperature_of, WithinGuard, N_is_numerator, delivered_exactly_when}
use Rattle.scene.proofs.Ranges.{SceneRange}
use Rattle.scene.proofs.BiasDistance.{biased_distance}
use Rattle.scene.proofs.Distance.{temperature_distance, one_above}
use Rattle.scene.proofs.Equations.{corrected_same}
use Rattle.scene.proofs.Exact.{units_of_kelvin, kelvin_bits_back, kelvin_bits_not_flagged, kelvin_bits_not_outside, kelvin_bits_not_guard}
use Rattle.bias.specs.Bias.{bias_part, c0_in}
use Rattle.bias.specs.Opening.{AcceptedBias}
use Rattle.bias.specs.Ranges.{PairRange}
use Rattle.bias.proofs.RangeLaws.{accepted_bias_ranges}
use Rattle.product.specs.Scenes.{by_bias, scene_in, scene_at, no_channel, scene_delivered}
use Rattle.product.specs.Product.{delivered_count}
use Rattle.product.proofs.Bytes.{scene_in_product}
use Rattle.product.proofs.SceneLaws.{InUnitsBy, temperature_in_units, e_bounded, units_by_bias}
use Rattle.product.proofs.SummaryLaws.{delivered_count_lem}
use Rattle.calibrator.specs.Feeding.{kept_by}
use Rattle.promise.specs.Roll.{Roll}
use Rattle.promise.specs.SameScenes.{settings_of_fed, moment_of_fed}
use Rattle.promise.specs.BeforeBias.{DistanceBeforeBias}
use Rattle.promise.specs.Moments.{Moment, current_number, means_at, shelf_at, tnl_at, unrounded_tnl_at, channels_at, product_at, ByTheRules, SceneClaim, is_delivered, delivered_in, word_at, units_at, n_at, t_at, e_at, delivered_at, biased_e_at, equations_at}
use Rattle.promise.proofs.RollLaws.{scan_of_age}
use Rattle.promise.proofs.SampleLaws.{scans_at, means_at_is}

-- ---- marks are not delivered
mark_outside : is_delivered (bits Outside) ≡ false
unfolding bits
mark_outside = refl

mark_guard : is_delivered (bits Guard) ≡ false
unfolding bits
mark_guard = refl

pub bits_delivered : (deliver : ℤ → ℤ) (channel : Channel) → InUnitsBy deliver channel → (count : ℕ)
    → is_delivered (bits (scene_in deliver channel count)) ≡ scene_delivered (scene_in deliver channel count)
bits_delivered deliver channel units count = tested (scene_in deliver channel count) refl
  where
    tested : (x : Scene) → x ≡ scene_in deliver channel count → is_delivered (bits x) ≡ scene_delivered x
    tested (Kelvin x) e =
        let u = temperature_in_units deliver channel count units x (sym e) in
        let word = bits (Kelvin (kelvin u.units)) in
        subst (λ (y : Float). is_delivered (bits (Kelvin y)) ≡ true) (sym u.same)
        (rw (ne_eqb word (bits Flagged) (kelvin_bits_not_flagged u.units u.low u.high), ne_eqb word (bits Outside) (kelvin_bits_not_outside u.units u.low u.high), ne_eqb word (bits Guard) (kelvin_bits_not_guard u.units u.low u.high)))
    tested Flagged e = rw (eq-eqb (bits Flagged) (bits Flagged) refl)
    tested Outside e = mark_outside
    tested Guard e = mark_guard

-- ---- every T is from 873,062 to 1,364,582, so that Tw is above Tc
no_scan_kelvins : (i : ℕ) → KelvinRange (get_or no_scan.kelvin i 0)
unfolding no_scan
no_scan_kelvins i = inl (zero_of_zeros thermometers i)

by_age_kelvins : (s : Settings) (roll : Roll) (number k i : ℕ) → KelvinRange (get_or (scan_of_age s roll number k).kelvin i 0)
unfolding scan_of_age
by_age_kelvins s [] number k i = no_scan_kelvins i
by_age_kelvins s (scan ∷ roll) number k i = go (eqb (scan_number scan + k) number) (by_age_kelvins s roll number k i)
  where
    go : (t : Bool) → KelvinRange (get_or (scan_of_age s roll number k).kelvin i 0) → KelvinRange (get_or (cond t (kept_by s scan) (scan_of_age s roll number k)).kelvin i 0)
    go true older = kept_scan_kelvins s scan i
    go false older = older

mean_at : (s : Settings) (m : Moment) (c : ℕ) → c < channels → MeanWithin (means_at s m c)
unfolding means_from
mean_at s m c below =
    let sums = kelvin_sums s (target_of c) (λ k i. get_or (scans_at s m k).kelvin i 0) (λ k i. by_age_kelvins s m.standing (current_number m) k i) in
    subst MeanWithin (sym (means_at_is s m c below)) (record { weighted_low = sums.low; weighted_high = sums.high })

-- ---- the scene of a channel with this flag and these constants
module _ (s : Settings) (c : ℕ) (shelf : ℤ) (m : Means) where
  pub flag_zero_scene : (deliver : ℤ → ℤ) (count : ℕ) → flag_of s (target_of c) m ≡ 0 → scene_in deliver (channel_state_of s c shelf m) count ≡ scene_of deliver (constants_of m (s.channel c) shelf) count
  unfolding scene_in channel_state_of
  flag_zero_scene deliver count e = ap (λ (channel : Channel). scene_in deliver channel count) (channel_unflagged (flag_of s (target_of c) m) (constants_of m (s.channel c) shelf) e)

  pub flagged_scene : (deliver : ℤ → ℤ) (count : ℕ) → eqb (flag_of s (target_of c) m) 0 ≡ false → scene_in deliver (channel_state_of s c shelf m) count ≡ Flagged
  unfolding scene_in channel_state_of
  flagged_scene deliver count e = ap (λ (channel : Channel). scene_in deliver channel count) (channel_flagged (flag_of s (target_of c) m) (constants_of m (s.channel c) shelf) e)

  -- what holds of the constants of a channel with flag 0 holds of its state
  flag_zero_constants : (P : Constants → Type 0) → (flag_of s (target_of c) m ≡ 0 → P (constants_of m (s.channel c) shelf)) → (k : Constants) → channel_state_of s c shelf m ≡ Ok k → P k
  unfolding channel_state_of
  flag_zero_constants P holds k is = let own = constants_of_channel (flag_of s (target_of c) m) (constants_of m (s.channel c) shelf) k is in subst P own.1 (holds own.0)

-- ---- the rules of document 01 are flag 0 and the tests of a scene
module _ (s : Settings) (m : Moment) (c i : ℕ) where
  abbrev means : Means
  means = means_at s m c

  abbrev shelf : ℤ
  shelf = shelf_at s m c

  abbrev constants : Constants
  constants = constants_of means (s.channel c) shelf

  abbrev pub count : ℕ
  count = u16_at (earth_part (earth_counts m.scan) c) (2 * i)

  pub n_is_numerator : n_at s m c i ≡ numerator constants count
  unfolding constants_of
  n_is_numerator = N_is_numerator constants (pos means.Ww) (pos means.Wc) (pos means.Ac) count refl refl

  t_is_temperature : t_at s m c i ≡ temperature_of constants count
  unfolding constants_of
  t_is_temperature = ap (λ n. temperature (Tc (s.channel c)) (Tw means (s.channel c) -ℤ Tc (s.channel c)) (tnl_at s m c) (D means) n) n_is_numerator

  rules_unflagged : ByTheRules s m c i → Unflagged s (target_of c) means
  rules_unflagged h = record { thermometers = h.thermometers; warm = h.warm; cold = h.cold; d = h.warm_above_cold }

  rules_flag_zero : ByTheRules s m c i → flag_of s (target_of c) means ≡ 0
  rules_flag_zero h = unflagged_flag_zero s (target_of c) means (rules_unflagged h)

  rules_pass : ByTheRules s m c i → Passes constants count
  unfolding constants_of
  rules_pass h = record {
    not_negative = subst (λ n. pos 0 ≤ℤ n) n_is_numerator h.not_below;
    not_above_lem = subst (λ n. (pos 4 *ℤ n) ≤ℤ (pos 5 *ℤ D means)) n_is_numerator h.not_above;
    guard_low_lem = subst (λ t. pos 1 ≤ℤ t) t_is_temperature h.guard_low;
    guard_high_lem = subst (λ t. t ≤ℤ pos 16777215) t_is_temperature h.guard_high;
  }

  pass_rules : Unflagged s (target_of c) means → Passes constants count → ByTheRules s m c i
  unfolding constants_of
  pass_rules u p = record {
    thermometers = u.thermometers;
    warm = u.warm;
    cold = u.cold;
    warm_above_cold = u.d;
    not_below = subst (λ n. pos 0 ≤ℤ n) (sym n_is_numerator) p.not_negative;
    not_above = subst (λ n. (pos 4 *ℤ n) ≤ℤ (pos 5 *ℤ D means)) (sym n_is_numerator) p.not_above_lem;
    guard_low = subst (λ t. pos 1 ≤ℤ t) (sym t_is_temperature) p.guard_low_lem;
    guard_high = subst (λ t. t ≤ℤ pos 16777215) (sym t_is_temperature) p.guard_high_lem;
  }

  -- T of any count that passes the tests is in its range
  passes_range : SettingsRange s → c < channels → flag_of s (target_of c) means ≡ 0 → (count : ℕ) → Passes constants count
      → SceneRange constants.tc constants.rise constants.tnl constants.d (numerator constants count)
  unfolding constants_of
  passes_range range below zero_flag count passed =
      let within = temperatures_within (mean_at s m c below) (range.channel c below) (flag_zero_weights_above range (target_of c) means zero_flag) in
      record {
        tc_low = within.tc_low;
        tc_high = within.tc_high;
        rise_low = within.rise_low;
        rise_high = within.rise_high;
        tnl_bounded = tnl_bounded (range.channel c below).pair shelf;
        d_above = (flag_zero_unflagged s (target_of c) means zero_flag).d;
        n_low = passed.not_negative;
        n_high = passed.not_above_lem;
      }

  -- ---- the scene of the count, whatever is delivered for T
  module _ (deliver : ℤ → ℤ) where
    abbrev pub scene : Scene
    scene = scene_in deliver (channel_state_of s c shelf means) count

    -- by the rules it is what is delivered for T
    rules_scene : ByTheRules s m c i → scene ≡ Kelvin (kelvin (nat_abs (deliver (temperature_of constants count))))
    rules_scene h =
        flag_zero_scene s c shelf means deliver count (rules_flag_zero h)
        ∙ (delivered_exactly_when deliver constants count).1 (rules_pass h)

    -- and only by the rules is it a temperature
    scene_rules : (flag : Bool) → eqb (flag_of s (target_of c) means) 0 ≡ flag → (x : Float) → scene ≡ Kelvin x → ByTheRules s m c i
    scene_rules true unflagged x e =
        let none = eqb-true (flag_of s (target_of c) means) 0 unflagged in
        pass_rules (flag_zero_unflagged s (target_of c) means none)
        ((delivered_exactly_when deliver constants count).0 x (sym (flag_zero_scene s c shelf means deliver count none) ∙ e))
    scene_rules false some x e = absurd (clash (sym (flagged_scene s c shelf means deliver count some) ∙ e))
      where
        clash : Flagged ≡ Kelvin x → ⊥
        clash q = let z : ◌≡◌ {A = ℕ} 0 1 = cc in omega arith

    delivered_rules : (t : Scene) → t ≡ scene → scene_delivered t ≡ true → ByTheRules s m c i
    delivered_rules (Kelvin x) e d = scene_rules (eqb (flag_of s (target_of c) means) 0) refl x (sym e)
    delivered_rules Flagged e d = absurd (false≢true d)
    delivered_rules Outside e d = absurd (false≢true d)
    delivered_rules Guard e d = absurd (false≢true d)

-- ---- before scan bias: T is at most 21/8 units from E
module _ (s : Settings) (m : Moment) (c : ℕ) (range : SettingsRange s) (below : c < channels) where
  tnl_above : pos 0 <ℤ (unrounded_tnl_at s m c).den
  tnl_above = unrounded_above (range.channel c below).pair (shelf_at s m c)

  weights_above : {i : ℕ} → ByTheRules s m c i → pos 0 <ℤ pos (means_at s m c).sumVP
  weights_above {i} h = natural_below (flag_zero_weights_above range (target_of c) (means_at s m c) (rules_flag_zero s m c i h))

  temperature_near : {i : ℕ} → ByTheRules s m c i → Distance (pos 21 /ᶠ pos 8) (t_at s m c i) (e_at s m c i)
  temperature_near h =
      let sums = means_at s m c in
      let pairs = (range.channel c below).pair in
      temperature_distance (Tc (s.channel c)) (tnl_at s m c) (pos sums.sumVPT) (pos sums.sumVP) (s.channel c).b (unrounded_tnl_at s m c) h.warm_above_cold h.not_below h.not_above
      (tnl_bounded pairs (shelf_at s m c)) (weights_above h) tnl_above (tnl_within_half pairs (shelf_at s m c))

pub distance_before_bias : DistanceBeforeBias
distance_before_bias f i = temperature_near (settings_of_fed f) (moment_of_fed f) f.channel (accepted_ranges f.table_accepted) f.is_channel

-- ---- and the product's bytes
module _ (s : Settings) (bias : List ℕ) (m : Moment) (c i : ℕ) (range : SettingsRange s) (file : AcceptedBias bias) (below : c < channels) (inside : i < positions) (rest : List ℕ) where
  abbrev sums : Means
  sums = means_at s m c

  abbrev of_channel : Constants
  of_channel = constants s m c i

  abbrev scene_count : ℕ
  scene_count = count s m c i

  abbrev deliver : ℤ → ℤ
  deliver = by_bias bias c i

  abbrev pair : PairRange (bias_part bias c) i
  pair = accepted_bias_ranges file c below i inside

  -- what is delivered is a whole number of units whose f32 is exact
  in-units : InUnitsBy deliver (channel_state_of s c (shelf_at s m c) sums)
  in-units = record {
    within = flag_zero_constants s c (shelf_at s m c) sums (λ k. (n : ℕ) → Passes k n → WithinGuard (deliver (temperature_of k n)))
        (λ zero_flag n passed. units_by_bias pair (passes_range s m c i range below zero_flag n passed));
  }

  abbrev product : List ℕ
  product = product_at s m (by_bias bias) ++ rest

  pub word_is : word_at product c i ≡ bits (scene s m c i deliver)
  word_is =
      scene_in_product (by_bias bias) (current_number m) (channels_at s m) (earth_counts m.scan) rest c below i inside
      ∙ ap (λ (channel : Channel). bits (scene_at (by_bias bias c) channel (earth_part (earth_counts m.scan) c) i)) (get_d_tabulate (λ c. channel_state_of s c (shelf_at s m c) (means_at s m c)) channels c no_channel below)

  pub word_delivered : is_delivered (word_at product c i) ≡ scene_delivered (scene s m c i deliver)
  word_delivered = ap is_delivered word_is ∙ bits_delivered deliver (channel_state_of s c (shelf_at s m c) sums) in-units scene_count

  rules : is_delivered (word_at product c i) ≡ true → ByTheRules s m c i
  rules h = delivered_rules s m c i deliver (scene s m c i deliver) refl (sym word_delivered ∙ h)

  delivers : ByTheRules s m c i → is_delivered (word_at product c i) ≡ true
  delivers h = word_delivered ∙ ap scene_delivered (rules_scene s m c i deliver h)

  -- the f32 is that of the delivered temperature
  float_is : (h : ByTheRules s m c i) → of_bits binary32 (word_at product c i) ≡ kelvin (nat_abs (deliver (temperature_of of_channel scene_count)))
  unfolding bits
  float_is h = ap (of_bits binary32) (word_is ∙ ap bits (rules_scene s m c i deliver h)) ∙ kelvin_bits_back (nat_abs (deliver (temperature_of of_channel scene_count)))

  -- 4096 times the f32 is the delivered temperature
  exactly : (h : ByTheRules s m c i) → Equal (units_at product c i) (whole (delivered_at s m c i bias))
  exactly h =
      let within = units_by_bias pair (passes_range s m c i range below (rules_flag_zero s m c i h) scene_count (rules_pass s m c i h)) in
      subst₂ (λ (x : Float) (z : ℤ). Equal (units_of x) (whole z)) (sym (float_is h)) (within.same ∙ sym (ap deliver (t_is_temperature s m c i)))
      (units_of_kelvin (nat_abs (deliver (temperature_of of_channel scene_count))) within.low within.high)

  near_e : (h : ByTheRules s m c i) → Near (pos 71 /ᶠ pos 16) (units_at product c i) (biased_e_at s m c i bias)
  near_e h = near_of_distance (exactly h) (biased_distance (c0_in (bias_part bias c) i) (e_bounded pair) (lt_z_yes tt) (temperature_near s m c range below h))

  -- E by the equations
  rise_above : (h : ByTheRules s m c i) → pos 0 <ℤ (unrounded_tw (pos sums.sumVPT) (pos sums.sumVP) (s.channel c).b -ᶠ whole (Tc (s.channel c))).num
  rise_above h =
      let row = range.channel c below in
      let least : least_kelvin * sums.sumVP ≤ sums.sumVPT = omega (arith, (mean_at s m c below).weighted_low) in
      let cold : 11166 + (s.channel c).rj + (s.channel c).sl ≤ 43934 = omega (arith, row.rj, row.sl) in
      lt_by ((pos sums.sumVPT) ∷ (pos sums.sumVP) ∷ (s.channel c).b ∷ (Tc (s.channel c)) ∷ [])
      ((# 0 :< v1) ∷ (# 873062 :* v1 :≤ v0) ∷ (opp (# 4096) :≤ v2) ∷ (v3 :≤ # 43934) ∷ [])
      (# 0) ((v0 :* # 1 :+ v2 :* v1) :* # 1 :- v3 :* (v1 :* # 1))
      (hyp 0 ⊕ nat 825032 ⊗ hyp 1 ⊕ hyp 2 ⊕ hyp 3 ⊕ hyp 4 ⊕ hyp 1 ⊗ hyp 3 ⊕ hyp 1 ⊗ hyp 4)
      tt (weights_above s m c range below h) (natural_at_most least) row.b.low (natural_at_most cold)

  by_equations : (h : ByTheRules s m c i) → Equal (equations_at s m c i) (e_at s m c i)
  by_equations h =
      let z = rules_flag_zero s m c i h in
      corrected_same (pos sums.Aw) (pos sums.Ac) (pos scene_count) (Tc (s.channel c)) (unrounded_tw (pos sums.sumVPT) (pos sums.sumVP) (s.channel c).b) (unrounded_tnl_at s m c)
      (natural_below (flag_zero_warm_above range (target_of c) sums z)) (natural_below (flag_zero_cold_above range (target_of c) sums z)) h.warm_above_cold
      (product_above (weights_above s m c range below h) one_above) (rise_above h) (tnl_above s m c range below)

  pub scene_claim : SceneClaim s bias m (product_at s m (by_bias bias) ++ rest) c i
  scene_claim = record { rules = rules; delivers = delivers; exact = λ h. exactly (rules h); distance = λ h. near_e (rules h); equations = λ h. by_equations (rules h) }

-- the delivered scenes of a product are as many as its answer says
module _ (s : Settings) (bias : List ℕ) (m : Moment) (range : SettingsRange s) (file : AcceptedBias bias) (rest : List ℕ) where
  pub delivered_in_lem : delivered_count (by_bias bias) (channels_at s m) (earth_counts m.scan) ≡ delivered_in (product_at s m (by_bias bias) ++ rest)
  delivered_in_lem =
      delivered_count_lem (by_bias bias) (channels_at s m) (earth_counts m.scan)
      ∙ sum_same _ _ channels (λ c below. count_same _ _ positions (λ i inside.
      ap (λ (channel : Channel). scene_delivered (scene_at (by_bias bias c) channel (earth_part (earth_counts m.scan) c) i)) (get_d_tabulate (λ c. channel_state_of s c (shelf_at s m c) (means_at s m c)) channels c no_channel below)
      ∙ sym (word_delivered s bias m c i range file below inside rest)))
