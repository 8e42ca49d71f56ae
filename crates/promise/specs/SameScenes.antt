-- Request W3: before scan bias a scene needs nothing of its channel but six numbers. Two channels with flag 0, of any two accepted feeds, under
-- any two accepted tables and after any two lists of feeds, that agree in them give every count the same T or the same mark. And it is these
-- scenes that feeds leave in their buffers, after scan bias.
use Rattle.std.specs.Prelude.{ℕ, ◌<◌, ◌≤◌, ◌≡◌, List, [], ◌∷◌, true, cond, eqb, ℤ, pos, ◌-ℤ◌, ◌*ℤ◌}
use Rattle.integers.specs.Fractions.{whole, Equal}
use Rattle.lists.specs.Tests.{passes}
use Rattle.instrument.specs.Instrument.{channels, positions, target_of}
use Rattle.table.specs.Settings.{Settings, settings_of}
use Rattle.table.specs.Opening.{ages, AcceptedTable}
use Rattle.bias.specs.declared.Bias.{Bias}
use Rattle.bias.specs.Opening.{AcceptedBias}
use Rattle.window.specs.Means.{Tw, Tc, flag_of}
use Rattle.scene.specs.declared.Scene.TheVariants.{Flagged, Outside, Guard}
use Rattle.scene.specs.Scene.{bits}
use Rattle.scene.specs.BeforeBias.{TOrMark, just_t, flagged_mark, outside_mark, guard_mark, by_tests}
use Rattle.product.specs.Scenes.{by_bias}
use Rattle.calibrator.specs.Feeding.{Feed, fresh_of, outcome_after}
use Rattle.promise.specs.Roll.{verdict_at}
use Rattle.promise.specs.Restart.{rolled_by}
use Rattle.promise.specs.Outcomes.{fed_moment}
use Rattle.promise.specs.Moments.{Moment, means_at, tnl_at, d_at, n_of, t_of, count_at, word_at, is_delivered, units_at}

-- ---- channel c of a moment
module _ (s : Settings) (m : Moment) (c : ℕ) where
  -- its flag
  abbrev pub flag_at : ℕ
  flag_at = flag_of s (target_of c) (means_at s m c)

  -- what it makes of a count before scan bias (document 01, "Scenes")
  abbrev pub scene_before_bias : ℤ → TOrMark
  scene_before_bias count = cond (eqb flag_at 0) (by_tests (n_of s m c count) (d_at s m c) (t_of s m c count)) flagged_mark

  -- Tc, Tw - Tc, TNL, D, 12 × Wc × Ww and Ac × Ww
  abbrev pub six_numbers : List ℤ
  six_numbers =
      let channel = s.channel c in let sums = means_at s m c in
      Tc channel ∷ (Tw sums channel -ℤ Tc channel) ∷ tnl_at s m c ∷ d_at s m c ∷ (pos 12 *ℤ pos sums.Wc *ℤ pos sums.Ww) ∷ (pos sums.Ac *ℤ pos sums.Ww) ∷ []

-- ---- a channel of an accepted feed, under an accepted table, after a list of feeds from a fresh calibrator
pub record FedChannel : Type 0 where
  pub table : List ℕ
  pub table_accepted : AcceptedTable table
  pub before : List Feed
  pub feed : Feed
  pub feed_accepted : verdict_at (rolled_by [] before) feed ≡ passes
  pub channel : ℕ
  pub is_channel : channel < channels

module _ (f : FedChannel) where
  abbrev pub settings_of_fed : Settings
  settings_of_fed = settings_of ages f.table

  abbrev pub moment_of_fed : Moment
  moment_of_fed = fed_moment (rolled_by [] f.before) f.feed.scan

  abbrev pub fed_flag : ℕ
  fed_flag = flag_at settings_of_fed moment_of_fed f.channel

  abbrev pub fed_numbers : List ℤ
  fed_numbers = six_numbers settings_of_fed moment_of_fed f.channel

  abbrev pub fed_scene : ℤ → TOrMark
  fed_scene = scene_before_bias settings_of_fed moment_of_fed f.channel

  -- of the record's own count at position i
  abbrev pub fed_scene_at : ℕ → TOrMark
  fed_scene_at i = fed_scene (count_at settings_of_fed moment_of_fed f.channel i)

  -- what the feed leaves in its buffer, under a bias file
  abbrev pub fed_buffer : Bias → List ℕ
  fed_buffer bias = (outcome_after (fresh_of (record { bytes = f.table }) bias) f.before f.feed).buffer

-- ---- the law: of two such channels with flag 0 that agree in the six numbers, every count has the same T or the same mark
abbrev pub SameScenes : Type 0
SameScenes =
    (one other : FedChannel) → fed_flag one ≡ 0 → fed_flag other ≡ 0 → fed_numbers one ≡ fed_numbers other
    → (count : ℕ) → count ≤ 65535 → fed_scene one (pos count) ≡ fed_scene other (pos count)

-- ---- and they are the scenes of the products: position i shows what scan bias makes of T, or the mark, of the record's count there
abbrev pub Shows : (product bias : List ℕ) (c i : ℕ) → TOrMark → Type 0
Shows product bias c i (just_t t) = (is_delivered (word_at product c i) ≡ true) × Equal (units_at product c i) (whole (by_bias bias c i t))
Shows product bias c i flagged_mark = word_at product c i ≡ bits Flagged
Shows product bias c i outside_mark = word_at product c i ≡ bits Outside
Shows product bias c i guard_mark = word_at product c i ≡ bits Guard

abbrev pub ScenesShown : Type 0
ScenesShown =
    (f : FedChannel) (bias : Bias) → AcceptedBias bias.bytes → (i : ℕ) → i < positions
    → Shows (fed_buffer f bias) bias.bytes f.channel i (fed_scene_at f i)
