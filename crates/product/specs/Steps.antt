-- What the private functions cite, and the writer that is lent a bias file as numbers. A reader of the promises can leave this out.
use Rattle.std.specs.Prelude.{ℕ, ◌≡◌, ◌+◌, ◌*◌, ◌<◌, List, not, get_or, take, drop, T, ℤ, Result, Ok, Err, MatchResult, IsOkAnd}
use Rattle.instrument.specs.Instrument.{positions}
use Rattle.product.specs.Scenes.{Deliver}
use Rattle.std.specs.Float.Ieee.{is_nan}
use Rattle.scene.specs.declared.Curve.{Curve}
use Rattle.scene.specs.declared.Scene.{Scene}
use Rattle.scene.specs.declared.Scene.TheVariants.{Flagged}
use Rattle.scene.specs.Scene.{scene_of}
use Rattle.scene.specs.Temperature.{biased}
use Rattle.scene.specs.Steps.{c0_of, e_of, BiasNumbers}
use Rattle.scene.specs.declared.Flag.{Flag}
use Rattle.scene.specs.Channel.{Channel}
use Rattle.product.specs.declared.Summary.{Summary}

-- both ends can be written: neither is a NaN
pub record Plain (s : Summary) : Type 0 where
  pub low : T (not (is_nan s.low))
  pub high : T (not (is_nan s.high))

-- ---- what is delivered, by the factors and offsets of a channel's positions, which take turns
abbrev pub with_pairs : List ℕ → Deliver
with_pairs pairs i = biased (c0_of (get_or pairs (2 * i + 1) 0)) (e_of (get_or pairs (2 * i) 0))

-- a channel's part: two numbers for each position
abbrev pub pairs_size : ℕ
pairs_size = 2 * positions

abbrev pub pairs_part : List ℕ → ℕ → List ℕ
pairs_part pairs c = take pairs_size (drop (pairs_size * c) pairs)

abbrev pub by_pairs : List ℕ → ℕ → Deliver
by_pairs pairs c = with_pairs (pairs_part pairs c)

-- the numbers of every position are those of a c0 and an e in their ranges
abbrev pub PairsRange : List ℕ → Type 0
PairsRange part = (i : ℕ) → i < positions → BiasNumbers (get_or part (2 * i) 0) (get_or part (2 * i + 1) 0)

-- the curve of a channel: that of its constants, and none where it is flagged
abbrev pub CurveOf : Channel → Result Curve Flag → Type 0
CurveOf channel curve = MatchResult channel (λ k. IsOkAnd curve (λ c. c.constants ≡ k)) (λ flag. curve ≡ Err flag)

-- the scene of a count by such a curve
abbrev pub scene_by : (ℤ → ℤ) → Result Curve Flag → ℕ → Scene
scene_by deliver (Ok curve) count = scene_of deliver curve.constants count
scene_by deliver (Err flag) count = Flagged
