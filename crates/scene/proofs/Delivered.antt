-- Which scene a count has, whatever is delivered for T: one law for each outcome of the four tests. A temperature is delivered exactly when
-- all four pass.
use mathlib.Core.Path.{◌≡◌, refl, sym, ◌∙◌, ap₂}
use mathlib.Core.Bool.{true, false}
use mathlib.Core.List.{[], ◌∷◌}
use Prim.Native.Nat.{ℕ, ◌≤◌}
use native.Mathlib.Omega.{arith}
use lib.IntN.{ℤ, pos, negsuc, nat_abs, ◌-ℤ◌, ◌*ℤ◌}
use lib.Signed.{◌≤ℤ◌, lt_z}
use lib.Ieee.{Float}
use Rattle.integers.proofs.Ring.{◌:-◌, ◌:*◌, ring, #, v0, v1, v2, v3}
use Rattle.integers.proofs.Naturals.{at_most_natural}
use Rattle.integers.proofs.Order.{lt_z_false, test_fails, at_most_fails}
use Rattle.scene.specs.declared.Scene.TheVariants.{Kelvin, Outside, Guard}
use Rattle.scene.specs.declared.Constants.{Constants}
use Rattle.scene.specs.Temperature.{N, temperature}
use Rattle.scene.specs.Scene.{kelvin, numerator, scene_of}

-- N needs two products of its channel, 12 Wc Ww and Ac Ww
pub N_by_products : (Ww Wc Ac C : ℤ) → N Ww Wc Ac C ≡ pos 12 *ℤ Wc *ℤ Ww *ℤ C -ℤ Ac *ℤ Ww
N_by_products Ww Wc Ac C = ring (Ww ∷ Wc ∷ Ac ∷ C ∷ []) ((# 12 :* v1 :* v3 :- v2) :* v0) (# 12 :* v1 :* v0 :* v3 :- v2 :* v0) tt

-- where slope is 12 Wc Ww and base is Ac Ww
pub N_is_numerator : (k : Constants) (Ww Wc Ac : ℤ) (count : ℕ) → k.slope ≡ pos 12 *ℤ Wc *ℤ Ww → k.base ≡ Ac *ℤ Ww → N Ww Wc Ac (pos count) ≡ numerator k count
N_is_numerator k Ww Wc Ac count s b = N_by_products Ww Wc Ac (pos count) ∙ ap₂ (λ x y. x *ℤ pos count -ℤ y) (sym s) (sym b)

-- T of a count
abbrev pub temperature_of : Constants → ℕ → ℤ
temperature_of k count = temperature k.tc k.rise k.tnl k.d (numerator k count)

-- ---- the scene by the outcomes of the tests, in the order of the code
module _ (deliver : ℤ → ℤ) (k : Constants) (count : ℕ) where
  pub scene_negative : lt_z (numerator k count) (pos 0) ≡ true → Outside ≡ scene_of deliver k count
  unfolding scene_of
  scene_negative a = rw a

  module _ (a : lt_z (numerator k count) (pos 0) ≡ false) where
    pub scene_above : lt_z (pos 5 *ℤ k.d) (pos 4 *ℤ numerator k count) ≡ true → Outside ≡ scene_of deliver k count
    unfolding scene_of
    scene_above b = rw (a, b)

    module _ (b : lt_z (pos 5 *ℤ k.d) (pos 4 *ℤ numerator k count) ≡ false) where
      pub scene_guard_low : lt_z (temperature_of k count) (pos 1) ≡ true → Guard ≡ scene_of deliver k count
      unfolding scene_of
      scene_guard_low c = rw (a, b, c)

      module _ (c : lt_z (temperature_of k count) (pos 1) ≡ false) where
        pub scene_guard_high : lt_z (pos 16777215) (temperature_of k count) ≡ true → Guard ≡ scene_of deliver k count
        unfolding scene_of
        scene_guard_high d = rw (a, b, c, d)

        pub scene_kelvin : lt_z (pos 16777215) (temperature_of k count) ≡ false → Kelvin (kelvin (nat_abs (deliver (temperature_of k count)))) ≡ scene_of deliver k count
        unfolding scene_of
        scene_kelvin d = rw (a, b, c, d)

-- ---- a temperature whose f32 is exact is a natural number of units
pub record WithinGuard (t : ℤ) : Type 0 where
  pub low : 1 ≤ nat_abs t
  pub high : nat_abs t ≤ 16777215
  pub same : pos (nat_abs t) ≡ t

pub within_guard : {t : ℤ} → pos 1 ≤ℤ t → t ≤ℤ pos 16777215 → WithinGuard t
within_guard {t = pos n} h g = record { low = at_most_natural h; high = at_most_natural g; same = refl }
within_guard {t = negsuc n} h g = absurd h.le

-- ---- delivered exactly when
pub record Passes (k : Constants) (count : ℕ) : Type 0 where
  pub not_negative : pos 0 ≤ℤ numerator k count
  pub not_above_lem : (pos 4 *ℤ numerator k count) ≤ℤ (pos 5 *ℤ k.d)
  pub guard_low_lem : pos 1 ≤ℤ temperature_of k count
  pub guard_high_lem : temperature_of k count ≤ℤ pos 16777215

module _ (deliver : ℤ → ℤ) where
  delivers : (k : Constants) (count : ℕ) → Passes k count → scene_of deliver k count ≡ Kelvin (kelvin (nat_abs (deliver (temperature_of k count))))
  delivers k count p =
      sym (scene_kelvin deliver k count (at_most_fails p.not_negative) (at_most_fails p.not_above_lem) (at_most_fails p.guard_low_lem) (at_most_fails p.guard_high_lem))

  module _ (k : Constants) (count : ℕ) (x : Float) (e : scene_of deliver k count ≡ Kelvin x) where
    not_outside : Outside ≡ scene_of deliver k count → ⊥
    not_outside q = let z : ◌≡◌ {A = ℕ} 0 1 = cc in omega arith

    not_guard : Guard ≡ scene_of deliver k count → ⊥
    not_guard q = let z : ◌≡◌ {A = ℕ} 0 1 = cc in omega arith

    negative_fails : lt_z (numerator k count) (pos 0) ≡ false
    negative_fails = test_fails (lt_z (numerator k count) (pos 0)) (λ t. not_outside (scene_negative deliver k count t))

    above_fails : lt_z (pos 5 *ℤ k.d) (pos 4 *ℤ numerator k count) ≡ false
    above_fails = test_fails (lt_z (pos 5 *ℤ k.d) (pos 4 *ℤ numerator k count)) (λ t. not_outside (scene_above deliver k count negative_fails t))

    below_one_fails : lt_z (temperature_of k count) (pos 1) ≡ false
    below_one_fails = test_fails (lt_z (temperature_of k count) (pos 1)) (λ t. not_guard (scene_guard_low deliver k count negative_fails above_fails t))

    above_greatest_fails : lt_z (pos 16777215) (temperature_of k count) ≡ false
    above_greatest_fails =
        test_fails (lt_z (pos 16777215) (temperature_of k count)) (λ t. not_guard (scene_guard_high deliver k count negative_fails above_fails below_one_fails t))

    delivered_passes : Passes k count
    delivered_passes = record {
      not_negative = lt_z_false negative_fails;
      not_above_lem = lt_z_false above_fails;
      guard_low_lem = lt_z_false below_one_fails;
      guard_high_lem = lt_z_false above_greatest_fails;
    }

  -- both directions
  pub delivered_exactly_when : (k : Constants) (count : ℕ)
      → ((x : Float) → scene_of deliver k count ≡ Kelvin x → Passes k count)
      × (Passes k count → scene_of deliver k count ≡ Kelvin (kelvin (nat_abs (deliver (temperature_of k count)))))
  delivered_exactly_when k count = (delivered_passes k count, delivers k count)
