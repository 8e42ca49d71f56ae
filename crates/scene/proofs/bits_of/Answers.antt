-- `scene::bits_of` meets its contract: the bits are those of the value.
use mathlib.Core.Path.{ap}
use lib.Ieee.{binary32, to_bits}
use Rattle.scene.specs.Scene.{bits}
use Rattle.scene.proofs.bits_of.Goals as goal

pub returns : goal.returns
unfolding bits
returns c = ap (to_bits binary32) c.value_of.ensures
