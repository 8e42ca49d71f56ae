-- Document 01, "The product", 0x23: per channel the count of delivered scenes, then the lowest and highest delivered temperature as
-- f32, both -1.0 where none.
use Rattle.std.specs.Prelude.{ℕ, zero, suc, ◌+◌, List, true, cond, eqb, pos, Float}
use Rattle.std.specs.Float.{fin}
use Rattle.std.specs.Float.Ieee.{lt}
use Rattle.scene.specs.declared.Scene.{Scene}
use Rattle.scene.specs.declared.Scene.TheVariants.{Kelvin}
use Rattle.scene.specs.Channel.{Channel}
use Rattle.instrument.specs.Instrument.{positions}
use Rattle.product.specs.declared.Summary.{Summary}
use Rattle.product.specs.Scenes.{Deliver, scene_at}

abbrev pub none_delivered : Summary
none_delivered = record { count = 0; low = fin true 1 (pos 0); high = fin true 1 (pos 0) }

abbrev pub lesser : Float → Float → Float
lesser x y = cond (lt x y) x y

abbrev pub greater : Float → Float → Float
greater x y = cond (lt y x) x y

-- with one temperature more
unfoldable pub with_temperature : Summary → Float → Summary
with_temperature s x = let first = eqb s.count 0 in record { count = s.count + 1; low = cond first x (lesser x s.low); high = cond first x (greater x s.high) }

-- with one scene more
unfoldable pub with_scene : Summary → Scene → Summary
with_scene s (Kelvin x) = with_temperature s x
with_scene s mark = s

-- of the first n scenes
unfoldable pub summary_to : (ℕ → Scene) → ℕ → Summary
summary_to scenes zero = none_delivered
summary_to scenes (suc n) = with_scene (summary_to scenes n) (scenes n)

-- of a channel's scenes
abbrev pub summary_of : Deliver → Channel → List ℕ → Summary
summary_of deliver channel part = summary_to (scene_at deliver channel part) positions
