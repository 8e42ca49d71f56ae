-- Document 01, "Lists of feeds" and demand 3, and requests W1 and W4, of one moment: the records that stand, and the record whose scenes are meant.
-- Every product is made of one moment, the table and the bias file.
use Rattle.std.specs.Prelude.{ℕ, ◌+◌, ◌*◌, ◌≡◌, List, Bool, true, false, not, ◌&&◌, eqb, ℤ, pos, ◌-ℤ◌, ◌*ℤ◌, ◌≤ℤ◌, ◌<ℤ◌}
use Rattle.std.specs.Float.{binary32}
use Rattle.std.specs.Float.Ieee.{of_bits}
use Rattle.integers.specs.Fractions.{Fraction, ◌/ᶠ◌, whole, Equal, Near}
use Rattle.lists.specs.Build.{tabulate}
use Rattle.lists.specs.Count.{count}
use Rattle.lists.specs.Sum.{sum}
use Rattle.fields.specs.Numbers.{u16_at, u32_at}
use Rattle.fields.specs.Fields.{value_start}
use Rattle.instrument.specs.declared.Side.TheVariants.{Warm, Cold}
use Rattle.table.specs.Settings.{Settings}
use Rattle.instrument.specs.Instrument.{channels, positions, target_of, shelf_of}
use Rattle.record.specs.Record.{scan_number, earth_counts, earth_part, shelf_temperatures, shelf_temperature}
use Rattle.nonlinearity.specs.Interpolation.{unrounded_tnl, tnl_of}
use Rattle.window.specs.declared.Means.{Means}
use Rattle.scene.specs.Channel.{Channel}
use Rattle.window.specs.Means.{Tw, Tc, D, too_few_thermometers, too_few_counts, channel_state_of}
use Rattle.scene.specs.declared.Scene.TheVariants.{Flagged, Outside, Guard}
use Rattle.scene.specs.Scene.{bits, units_of}
use Rattle.scene.specs.Temperature.{N, temperature}
use Rattle.scene.specs.Unrounded.{E, unrounded_tw, biased_e, mean_count, corrected}
use Rattle.bias.specs.Bias.{bias_part, c0_in, e_in}
use Rattle.product.specs.Scenes.{Deliver, by_bias}
use Rattle.product.specs.Product.{product_layout, stretch_size, product_of}
use Rattle.promise.specs.Roll.{Roll}
use Rattle.promise.specs.Samples.{samples_of_age, sums_of}

pub record Moment : Type 0 where
  pub standing : Roll
  pub scan : List ℕ

-- the current number is this record's
abbrev pub current_number : Moment → ℕ
current_number m = scan_number m.scan

-- ---- what channel c makes of a count, by the accepted samples of the window; and the product, with this record's earth counts
-- and shelf temperatures
module _ (s : Settings) (m : Moment) where
  -- the sums of channel c; the window has the standing records with ages 0..7
  abbrev pub means_at : ℕ → Means
  means_at c = sums_of s (λ k. samples_of_age s m.standing (current_number m) k) c

  -- Request W4: TNL of channel c, from this record's own shelf temperature; whole and unrounded
  abbrev pub shelf_at : ℕ → ℤ
  shelf_at c = shelf_temperature (shelf_temperatures m.scan) (shelf_of c)

  abbrev pub tnl_at : ℕ → ℤ
  tnl_at c = tnl_of (s.channel c).pair (shelf_at c)

  abbrev pub unrounded_tnl_at : ℕ → Fraction
  unrounded_tnl_at c = unrounded_tnl (s.channel c).pair (shelf_at c)

  -- D of channel c, and N and T of a count there
  abbrev pub d_at : ℕ → ℤ
  d_at c = D (means_at c)

  abbrev pub n_of : ℕ → ℤ → ℤ
  n_of c count = let sums = means_at c in N (pos sums.Ww) (pos sums.Wc) (pos sums.Ac) count

  abbrev pub t_of : ℕ → ℤ → ℤ
  t_of c count = let channel = s.channel c in temperature (Tc channel) (Tw (means_at c) channel -ℤ Tc channel) (tnl_at c) (d_at c) (n_of c count)

  abbrev pub channels_at : List Channel
  channels_at = tabulate (λ c. channel_state_of s c (shelf_at c) (means_at c)) channels

  abbrev pub product_at : (ℕ → Deliver) → List ℕ
  product_at deliver = product_of deliver (current_number m) channels_at (earth_counts m.scan)

-- ---- the numbers of a scene, position i of channel c
module _ (s : Settings) (m : Moment) (c i : ℕ) where
  abbrev pub count_at : ℤ
  count_at = pos (u16_at (earth_part (earth_counts m.scan) c) (2 * i))

  abbrev pub n_at : ℤ
  n_at = n_of s m c count_at

  abbrev pub t_at : ℤ
  t_at = t_of s m c count_at

  abbrev pub unrounded_tw_at : Fraction
  unrounded_tw_at = let sums = means_at s m c in unrounded_tw (pos sums.sumVPT) (pos sums.sumVP) (s.channel c).b

  abbrev pub e_at : Fraction
  e_at = E (n_at /ᶠ d_at s m c) unrounded_tw_at (whole (Tc (s.channel c))) (unrounded_tnl_at s m c)

  -- T by equations 25 to 29, one by one, from the mean counts, the unrounded Tw and the unrounded TNL
  abbrev pub equations_at : Fraction
  equations_at =
      let sums = means_at s m c in corrected (mean_count (pos sums.Aw) (pos sums.Ww)) (mean_count (pos sums.Ac) (pos sums.Wc)) unrounded_tw_at (whole (Tc (s.channel c))) (unrounded_tnl_at s m c) (whole count_at)

  -- with scan bias: what is delivered for T, and equation 30 over E
  abbrev pub delivered_at : (bias : List ℕ) → ℤ
  delivered_at bias = by_bias bias c i t_at

  abbrev pub biased_e_at : (bias : List ℕ) → Fraction
  biased_e_at bias = let part = bias_part bias c in biased_e (c0_in part i) (e_in part i) e_at

  -- the three weight sums suffice, the mean warm count is above the mean cold, the scene lies from 0 to 1.25, and the guard passes
  pub record ByTheRules : Type 0 where
    pub thermometers : too_few_thermometers s (target_of c) (means_at s m c).sumVP ≡ false
    pub warm : too_few_counts s Warm (means_at s m c).Ww ≡ false
    pub cold : too_few_counts s Cold (means_at s m c).Wc ≡ false
    pub warm_above_cold : pos 0 <ℤ d_at s m c
    pub not_below : pos 0 ≤ℤ n_at
    pub not_above : (pos 4 *ℤ n_at) ≤ℤ (pos 5 *ℤ d_at s m c)
    pub guard_low : pos 1 ≤ℤ t_at
    pub guard_high : t_at ≤ℤ pos 16777215

-- ---- a scene as the product's bytes have it: its four bytes in field 0x22
abbrev pub word_at : List ℕ → ℕ → ℕ → ℕ
word_at product c i = u32_at product (value_start product_layout 2 + stretch_size * c + 4 * i)

-- it is delivered if they are no mark
abbrev pub is_delivered : ℕ → Bool
is_delivered word = not (eqb word (bits Flagged)) && (not (eqb word (bits Outside)) && not (eqb word (bits Guard)))

-- the delivered scenes of a product, counted in its bytes
abbrev pub delivered_in : List ℕ → ℕ
delivered_in product = sum (λ c. count (λ i. is_delivered (word_at product c i)) positions) channels

-- 4096 times the f32 that the four bytes hold
abbrev pub units_at : List ℕ → ℕ → ℕ → Fraction
units_at product c i = units_of (of_bits binary32 (word_at product c i))

-- ---- what is claimed of a scene of the moment's product
pub record SceneClaim (s : Settings) (bias : List ℕ) (m : Moment) (product : List ℕ) (c i : ℕ) : Type 0 where
  -- it is delivered exactly when the rules say
  pub rules : is_delivered (word_at product c i) ≡ true → ByTheRules s m c i
  pub delivers : ByTheRules s m c i → is_delivered (word_at product c i) ≡ true
  -- it is then exactly the delivered temperature / 4096
  pub exact : is_delivered (word_at product c i) ≡ true → Equal (units_at product c i) (whole (delivered_at s m c i bias))
  -- and at most 71/16 units from c0 + (1 + e / 65,536) E
  pub distance : is_delivered (word_at product c i) ≡ true → Near (pos 71 /ᶠ pos 16) (units_at product c i) (biased_e_at s m c i bias)
  -- where E is what equations 25 to 29 give
  pub equations : is_delivered (word_at product c i) ≡ true → Equal (equations_at s m c i) (e_at s m c i)
