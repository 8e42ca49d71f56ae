-- The ranges of an accepted table as orders, which later ranges rest on. A reader of the promises can leave this out.
use Rattle.std.specs.Prelude.{ℕ, ◌+◌, ◌≤◌, ◌<◌, pos, ◌≤ℤ◌, ◌<ℤ◌}
use Rattle.integers.specs.Bounds.{Bounded}
use Rattle.lists.specs.Sum.{sum}
use Rattle.thermometer.specs.Ranges.{Admissible}
use Rattle.instrument.specs.declared.Side.{Side}
use Rattle.instrument.specs.declared.Target.{Target}
use Rattle.table.specs.declared.Thermometer.{Thermometer}
use Rattle.table.specs.declared.ShelfPair.{ShelfPair}
use Rattle.table.specs.Settings.{pairs, ChannelSettings, Settings}
use Rattle.instrument.specs.Instrument.{thermometers, channels, size_of}
use Rattle.table.specs.Ranges.{weight_of}

abbrev pub Between : ℕ → ℕ → ℕ → Type 0
Between low high x = (low ≤ x) × (x ≤ high)

pub record ThermometerRange (t : Thermometer) : Type 0 where
  pub r0 : Between 1000 4000000 t.r0
  pub coefficients : Admissible t.alpha t.delta t.beta

pub record ShelfPairsRange (pair : ℕ → ShelfPair) : Type 0 where
  pub shelf : (j : ℕ) → j < pairs → Bounded (pair j).shelf (pos 245760)
  pub tnl : (j : ℕ) → j < pairs → Bounded (pair j).tnl (pos 8192)
  pub rises : (j : ℕ) → j + 1 < pairs → (pair j).shelf <ℤ (pair (j + 1)).shelf

pub record ChannelRange (c : ChannelSettings) : Type 0 where
  pub limits : (side : Side) → (c.limits side).low ≤ (c.limits side).upp
  pub b : Bounded c.b (pos 4096)
  pub rj : c.rj ≤ 16384
  pub sl : c.sl ≤ 16384
  pub pair : ShelfPairsRange c.pair

pub record SettingsRange (s : Settings) : Type 0 where
  pub percent_thermometers : Between 1 100 s.percent_thermometers
  pub percent : (side : Side) → Between 1 100 (s.percent side)
  pub least : (target : Target) → Between 1 (size_of target) (s.least target)
  pub r_pam : Between 1000 4000000 s.r_pam
  pub t_low : Bounded s.t_low (pos 245760)
  pub t_upp : Bounded s.t_upp (pos 245760)
  pub t_order : s.t_low ≤ℤ s.t_upp
  pub d_t : s.d_t ≤ 491520
  pub thermometer : (i : ℕ) → i < thermometers → ThermometerRange (s.thermometer i)
  pub channel : (c : ℕ) → c < channels → ChannelRange (s.channel c)
  pub sum_w : Between 1 255 (sum s.w s.ages)
  pub sum_v : Between 1 255 (sum s.v s.ages)
  pub sum_p : (target : Target) → Between 1 255 (weight_of s target)
