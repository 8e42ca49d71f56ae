-- Document 01, "Scenes": a scene is either a temperature in kelvin or a mark.
use Rattle.std.specs.Prelude.{ℕ, ◌*◌, true, false, cond, ℤ, pos, neg_ℤ, nat_abs, ◌-ℤ◌, ◌*ℤ◌, Float}
use Rattle.std.specs.Float.{nan, inf, fin, binary32}
use Rattle.std.specs.Float.Ieee.{round, to_bits, up, down}
use Rattle.integers.specs.Fractions.{Fraction, ◌/ᶠ◌}
use Rattle.scene.specs.declared.Scene.{Scene}
use Rattle.scene.specs.declared.Scene.TheVariants.{Kelvin, Flagged, Outside, Guard}
use Rattle.scene.specs.declared.Constants.{Constants}
use Rattle.scene.specs.Temperature.{outside, temperature, guard_fails}

-- the f32 nearest to t / 4096, which for t from 1 to 16,777,215 is t / 4096 itself (law `kelvin_exact`)
unfoldable pub kelvin : ℕ → Float
unfolding round
kelvin t = round binary32 false t 4096

-- the value of each case: the temperature; or -1.0 (flagged channel), -2.0 (outside), -3.0 (guard)
abbrev pub value : Scene → Float
value (Kelvin x) = x
value Flagged = fin true 1 (pos 0)
value Outside = fin true 1 (pos 1)
value Guard = fin true 3 (pos 0)

unfoldable pub bits : Scene → ℕ
unfolding to_bits
bits s = to_bits binary32 (value s)

-- 4096 times a float, with its sign and its fraction: a unit is 1/4096 K. A NaN or an infinity has no value: its denominator is 0, which
-- nothing is near to.
abbrev pub units_of : Float → Fraction
units_of nan = pos 0 /ᶠ pos 0
units_of (inf negative) = pos 0 /ᶠ pos 0
units_of (fin negative m e) = cond negative (neg_ℤ (pos (m * up e * 4096))) (pos (m * up e * 4096)) /ᶠ pos (down e)

-- ---- the scene of a count in a channel with flag 0. Before scan bias a scene needs of its channel Tc, rise = Tw - Tc, TNL, D,
-- slope = 12 × Wc × Ww and base = Ac × Ww alone: N = slope × C - base
abbrev pub numerator : Constants → ℕ → ℤ
numerator k count = k.slope *ℤ pos count -ℤ k.base

-- guard and marks look at T. `deliver` says which temperature, in units, is delivered for T: T itself without scan bias, `biased` with it
unfoldable pub scene_of : (deliver : ℤ → ℤ) → Constants → ℕ → Scene
unfolding kelvin temperature
scene_of deliver k count =
    let n = numerator k count in let t = temperature k.tc k.rise k.tnl k.d n in
    cond (outside n k.d) Outside (cond (guard_fails t) Guard (Kelvin (kelvin (nat_abs (deliver t)))))

-- without scan bias
abbrev pub unbiased : ℤ → ℤ
unbiased t = t

-- past the last channel stand these; nothing reads them
abbrev pub no_constants : Constants
no_constants = record { tc = pos 0; rise = pos 0; tnl = pos 0; d = pos 0; slope = pos 0; base = pos 0 }
