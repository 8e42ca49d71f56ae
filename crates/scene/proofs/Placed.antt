-- What is placed for a count, by the outcomes of its tests; and from or to a count whose scene is not outside it rises with the count.
use Prim.Native.Nat.{ℕ, ◌<◌}
use mathlib.Core.Path.{◌≡◌, refl, sym, ap, subst₂, ◌∙◌}
use mathlib.Core.Bool.{Bool, true, false, ◌||◌, cond}
use mathlib.Core.List.{[], ◌∷◌}
use lib.IntN.{ℤ, pos, neg_ℤ, ◌*ℤ◌}
use lib.Signed.{◌≤ℤ◌, ◌<ℤ◌, lt_z}
use native.Mathlib.Omega.{arith}
use Rattle.integers.proofs.Ring.{◌:*◌, #, v0, v1}
use Rattle.integers.proofs.Certificate.{◌:≤◌, hyp, nat, ◌⊕◌, ◌⊗◌, le_by}
use Rattle.integers.proofs.Linear.{order}
use Rattle.integers.proofs.Order.{lt_z_false, at_most_fails, at_most_trans}
use Rattle.scene.specs.declared.Constants.{Constants}
use Rattle.scene.specs.Scene.{numerator}
use Rattle.scene.specs.Ranges.{ConstantsRange}
use Rattle.scene.specs.Steps.{placed}
use Rattle.scene.specs.Temperature.{guard_fails}
use Rattle.scene.specs.BeforeBias.{just_t, outside_mark, guard_mark, before_bias}
use Rattle.scene.proofs.Ranges.{SceneRange, scene_range}
use Rattle.scene.proofs.BiasRange.{temperature_low, temperature_high}
use Rattle.scene.proofs.Delivered.{temperature_of}
use Rattle.scene.proofs.Rises.{temperature_rises_with_count, numerator_rises}

module _ (k : Constants) (count : ℕ) where
  pub placed_below : lt_z (numerator k count) (pos 0) ≡ true → neg_ℤ (pos 1) ≡ placed k count
  unfolding placed
  placed_below a = rw a

  module _ (a : lt_z (numerator k count) (pos 0) ≡ false) where
    pub placed_above : lt_z (pos 5 *ℤ k.d) (pos 4 *ℤ numerator k count) ≡ true → pos 4294967296 ≡ placed k count
    unfolding placed
    placed_above b = rw (a, b)

    pub placed_between : lt_z (pos 5 *ℤ k.d) (pos 4 *ℤ numerator k count) ≡ false → temperature_of k count ≡ placed k count
    unfolding placed
    placed_between b = rw (a, b)

four_times : {n m : ℤ} → n ≤ℤ m → (pos 4 *ℤ n) ≤ℤ (pos 4 *ℤ m)
four_times {n} {m} h = (le_by (n ∷ m ∷ []) ((v0 :≤ v1) ∷ []) (# 4 :* v0) (# 4 :* v1) (hyp 0 ⊕ nat 4 ⊗ hyp 1) tt h)

-- the scene of a count is not outside
pub record NotOutside (k : Constants) (count : ℕ) : Type 0 where
  pub low : pos 0 ≤ℤ numerator k count
  pub high : (pos 4 *ℤ numerator k count) ≤ℤ (pos 5 *ℤ k.d)

-- what a delivered scene says of its count, by the outcomes of its tests
tests_say : (negative above fails : Bool) (x t : ℤ) → cond (negative || above) outside_mark (cond fails guard_mark (just_t x)) ≡ just_t t
    → (negative ≡ false) × (above ≡ false) × (fails ≡ false) × (x ≡ t)
tests_say true above fails x t e = let clash : ◌≡◌ {A = ℕ} 0 1 = cc in absurd (omega arith)
tests_say false true fails x t e = let clash : ◌≡◌ {A = ℕ} 0 1 = cc in absurd (omega arith)
tests_say false false true x t e = let clash : ◌≡◌ {A = ℕ} 0 1 = cc in absurd (omega arith)
tests_say false false false x t e = (refl, refl, refl, cc)

module _ (k : Constants) (count : ℕ) (t : ℤ) (e : before_bias k count ≡ just_t t) where
  abbrev says : (lt_z (numerator k count) (pos 0) ≡ false) × (lt_z (pos 5 *ℤ k.d) (pos 4 *ℤ numerator k count) ≡ false) × (guard_fails (temperature_of k count) ≡ false) × (temperature_of k count ≡ t)
  says = tests_say (lt_z (numerator k count) (pos 0)) (lt_z (pos 5 *ℤ k.d) (pos 4 *ℤ numerator k count)) (guard_fails (temperature_of k count)) (temperature_of k count) t e

  pub just_not_outside : NotOutside k count
  just_not_outside = record { low = lt_z_false says.0; high = lt_z_false says.1 }

  pub just_temperature : temperature_of k count ≡ t
  just_temperature = says.3

  pub just_guarded : guard_fails t ≡ false
  just_guarded = ap guard_fails (sym says.3) ∙ says.2

pub placed_is_temperature : {k : Constants} {count : ℕ} → NotOutside k count → temperature_of k count ≡ placed k count
placed_is_temperature {k} {count} inside = placed_between k count (at_most_fails inside.low) (at_most_fails inside.high)

module _ {k : Constants} (h : ConstantsRange k) where
  range_of : {count : ℕ} → NotOutside k count → SceneRange k.tc k.rise k.tnl k.d (numerator k count)
  range_of inside = scene_range h inside.low inside.high

  module _ {count higher : ℕ} (more : count < higher) where
    pub placed_rises_from : NotOutside k count → placed k count <ℤ placed k higher
    placed_rises_from inside = by_test (lt_z (pos 5 *ℤ k.d) (pos 4 *ℤ numerator k higher)) refl
      where
        low : pos 0 ≤ℤ numerator k higher
        low = at_most_trans inside.low (numerator_rises h more)

        by_test : (b : Bool) → lt_z (pos 5 *ℤ k.d) (pos 4 *ℤ numerator k higher) ≡ b → placed k count <ℤ placed k higher
        by_test true above =
            let t = temperature_high (range_of inside) in
            subst₂ ◌<ℤ◌ (placed_is_temperature inside) (placed_above k higher (at_most_fails low) above) (omega (arith, order))
        by_test false not_above_lem =
            let also : NotOutside k higher = record { low = low; high = lt_z_false not_above_lem } in
            subst₂ ◌<ℤ◌ (placed_is_temperature inside) (placed_is_temperature also) (temperature_rises_with_count h more inside.low inside.high also.low also.high)

    pub placed_rises_to : NotOutside k higher → placed k count <ℤ placed k higher
    placed_rises_to inside = by_test (lt_z (numerator k count) (pos 0)) refl
      where
        by_test : (b : Bool) → lt_z (numerator k count) (pos 0) ≡ b → placed k count <ℤ placed k higher
        by_test true negative =
            let t = temperature_low (range_of inside) in
            subst₂ ◌<ℤ◌ (placed_below k count negative) (placed_is_temperature inside) (omega (arith, order))
        by_test false not_negative =
            let also : NotOutside k count = record { low = lt_z_false not_negative; high = (at_most_trans (four_times (numerator_rises h more)) inside.high) } in
            subst₂ ◌<ℤ◌ (placed_is_temperature also) (placed_is_temperature inside) (temperature_rises_with_count h more also.low also.high inside.low inside.high)
