-- Document 01, "Scenes": a scene before scan bias.
use Rattle.std.specs.Prelude.{ℕ, cond, ℤ}
use Rattle.scene.specs.declared.Constants.{Constants}
use Rattle.scene.specs.Temperature.{outside, temperature, guard_fails}
use Rattle.scene.specs.Scene.{numerator}

-- T, in units, or a mark
pub data TOrMark : Type 0 where
  just_t : ℤ → TOrMark
  flagged_mark : TOrMark
  outside_mark : TOrMark
  guard_mark : TOrMark

-- by its tests, in a channel with flag 0
abbrev pub by_tests : (N D T : ℤ) → TOrMark
by_tests n d t = cond (outside n d) outside_mark (cond (guard_fails t) guard_mark (just_t t))

-- of a count
abbrev pub before_bias : Constants → ℕ → TOrMark
before_bias k count = let n = numerator k count in by_tests n k.d (temperature k.tc k.rise k.tnl k.d n)
