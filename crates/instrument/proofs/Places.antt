-- How far the thermometers of a target go.
use Prim.Native.Nat.{◌+◌, ◌≤◌}
use native.Mathlib.Omega.{arith}
use Rattle.instrument.specs.declared.Target.{Target}
use Rattle.instrument.specs.declared.Target.TheVariants.{Kav, Wg}
use Rattle.instrument.specs.Instrument.{thermometers, first_of, size_of}

pub last_at_most : (target : Target) → first_of target + size_of target ≤ thermometers
last_at_most Kav = omega arith
last_at_most Wg = omega arith
