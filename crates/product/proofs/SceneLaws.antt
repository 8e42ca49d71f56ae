-- The scenes of a channel: none is a NaN, and by an accepted bias file a temperature is t / 4096 with t from 1 to 16,777,215.
use Prim.Native.Nat.{ℕ, ◌≤◌}
use native.Mathlib.Omega.{arith}
use mathlib.Core.Path.{◌≡◌, refl, sym, ap, ◌∙◌}
use mathlib.Core.Bool.{not}
use mathlib.Core.List.{List}
use lib.Dec.{T}
use lib.IntN.{ℤ, pos, nat_abs}
use lib.Ieee.{Float, is_nan}
use Rattle.std.specs.Prelude.{Result, Ok, Err}
use Rattle.integers.specs.Bounds.{Bounded}
use Rattle.integers.proofs.Order.{at_most_trans}
use Rattle.integers.proofs.Naturals.{natural_at_most}
use Rattle.bias.specs.Bias.{e_in}
use Rattle.bias.specs.Ranges.{PairRange}
use Rattle.scene.specs.declared.Scene.{Scene}
use Rattle.scene.specs.declared.Scene.TheVariants.{Kelvin, Flagged}
use Rattle.scene.specs.Scene.{kelvin, value, scene_of}
use Rattle.scene.proofs.Exact.{scene_not_nan, flagged_not_nan}
use Rattle.scene.proofs.Delivered.{temperature_of, Passes, WithinGuard, delivered_exactly_when}
use Rattle.scene.proofs.Ranges.{SceneRange}
use Rattle.scene.proofs.BiasRange.{temperature_low, temperature_high, biased_within}
use Rattle.scene.specs.Temperature.{temperature}
use Rattle.scene.specs.declared.Constants.{Constants}
use Rattle.scene.specs.declared.Flag.{Flag}
use Rattle.scene.specs.Channel.{Channel}
use Rattle.scene.specs.declared.Curve.{Curve}
use Rattle.product.specs.Scenes.{with_bias, scene_in}
use Rattle.product.specs.Steps.{CurveOf, scene_by}

-- a temperature in whole units
pub record InUnits (x : Float) : Type 0 where
  pub units : ℕ
  pub low : 1 ≤ units
  pub high : units ≤ 16777215
  pub same : x ≡ kelvin units

-- what is delivered in a channel is a whole number of units from 1 to 16,777,215
pub record InUnitsBy (deliver : ℤ → ℤ) (channel : Channel) : Type 0 where
  pub within : (k : Constants) → channel ≡ Ok k → (count : ℕ) → Passes k count → WithinGuard (deliver (temperature_of k count))

-- what holds of the mark of a flagged channel and of the scene of the constants holds of the channel's scene
scene_in_cases : (deliver : ℤ → ℤ) (channel : Channel) (count : ℕ) (P : Scene → Type 0)
    → P Flagged → ((k : Constants) → channel ≡ Ok k → P (scene_of deliver k count)) → P (scene_in deliver channel count)
unfolding scene_in
scene_in_cases deliver (Ok k) count P flagged scene = scene k refl
scene_in_cases deliver (Err flag) count P flagged scene = flagged

module _ (deliver : ℤ → ℤ) (channel : Channel) (count : ℕ) where
  pub scene_in_not_nan : T (not (is_nan (value (scene_in deliver channel count))))
  scene_in_not_nan = scene_in_cases deliver channel count (λ s. T (not (is_nan (value s)))) flagged_not_nan (λ k is. scene_not_nan deliver k count)

  pub temperature_in_units : InUnitsBy deliver channel → (x : Float) → scene_in deliver channel count ≡ Kelvin x → InUnits x
  temperature_in_units units x = scene_in_cases deliver channel count (λ s. s ≡ Kelvin x → InUnits x) flagged_is_none scene
    where
      flagged_is_none : Flagged ≡ Kelvin x → InUnits x
      flagged_is_none e = let z : ◌≡◌ {A = ℕ} 0 1 = cc in absurd (omega arith)

      scene : (k : Constants) → channel ≡ Ok k → scene_of deliver k count ≡ Kelvin x → InUnits x
      scene k is e =
          let both = delivered_exactly_when deliver k count in
          let passed = both.0 x e in
          let within = units.within k is count passed in
          record {
            units = nat_abs (deliver (temperature_of k count));
            low = within.low;
            high = within.high;
            same = ap value (sym e ∙ both.1 passed);
          }

-- ---- by the curve of a channel
pub scene_by_curve : (deliver : ℤ → ℤ) (channel : Channel) (curve : Result Curve Flag) (count : ℕ) → CurveOf channel curve → scene_by deliver curve count ≡ scene_in deliver channel count
unfolding scene_in
scene_by_curve deliver (Ok k) (Ok curve) count same = ap (λ k. scene_of deliver k count) same
scene_by_curve deliver (Err flag) (Ok curve) count same = let clash : ◌≡◌ {A = ℕ} 0 1 = cc in absurd (omega arith)
scene_by_curve deliver (Ok k) (Err other) count same = absurd same
scene_by_curve deliver (Err flag) (Err other) count same = refl

-- ---- by an accepted bias file
pub e_bounded : {part : List ℕ} {i : ℕ} → PairRange part i → Bounded (e_in part i) (pos 32768)
e_bounded h = record { low = h.e_low; high = at_most_trans h.e_high (natural_at_most (omega arith)) }

-- of a scene that is not outside, in a channel whose constants are in their ranges
pub units_by_bias : {part : List ℕ} {i : ℕ} → PairRange part i → {tc rise tnl d n : ℤ} → SceneRange tc rise tnl d n → WithinGuard (with_bias part i (temperature tc rise tnl d n))
units_by_bias h range = biased_within h.c0 (e_bounded h) (temperature_low range) (temperature_high range)
