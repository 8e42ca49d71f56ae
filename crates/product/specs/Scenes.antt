-- Document 01, "Scenes" and "The product", and request W1: the scenes of all channels. Channels and positions are counted from 0.
use Rattle.std.specs.Prelude.{ℕ, ◌*◌, List, Bool, true, false, ℤ, Ok, Err}
use Rattle.fields.specs.Numbers.{u16_at}
use Rattle.scene.specs.declared.Scene.{Scene}
use Rattle.scene.specs.declared.Scene.TheVariants.{Kelvin, Flagged, Outside, Guard}
use Rattle.bias.specs.Bias.{bias_part, c0_in, e_in}
use Rattle.scene.specs.Temperature.{biased}
use Rattle.scene.specs.Scene.{scene_of, unbiased, no_constants}
use Rattle.scene.specs.Channel.{Channel}

-- which temperature, in units, is delivered for T at each position of a channel
abbrev pub Deliver : Type 0
Deliver = (position : ℕ) (T : ℤ) → ℤ

-- T itself without scan bias; with it what the channel's part of the bias file says
abbrev pub without_bias : Deliver
without_bias i = unbiased

abbrev pub with_bias : List ℕ → Deliver
with_bias part i = biased (c0_in part i) (e_in part i)

-- the same for each channel
abbrev pub by_bias : List ℕ → (channel : ℕ) → Deliver
by_bias bias c = with_bias (bias_part bias c)

-- a flagged channel has no other scene
unfoldable pub scene_in : (ℤ → ℤ) → Channel → ℕ → Scene
scene_in deliver (Ok constants) count = scene_of deliver constants count
scene_in deliver (Err flag) count = Flagged

-- past the last channel; nothing reads it
abbrev pub no_channel : Channel
no_channel = Ok no_constants

-- scene i of a channel with this part of the earth counts
abbrev pub scene_at : Deliver → Channel → List ℕ → ℕ → Scene
scene_at deliver channel part i = scene_in (deliver i) channel (u16_at part (2 * i))

-- a scene is delivered if it is a temperature
abbrev pub scene_delivered : Scene → Bool
scene_delivered (Kelvin x) = true
scene_delivered Flagged = false
scene_delivered Outside = false
scene_delivered Guard = false
