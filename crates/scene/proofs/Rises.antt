-- T rises with the count, roundings included: from a count to a higher one N grows by at least D / 65,535, the linear part then by more than the
-- bend and the roundings can take back. Of each rounding only that it is within a half is used.
use mathlib.Core.List.{[], ◌∷◌}
use Prim.Native.Nat.{ℕ, ◌<◌}
use lib.IntN.{ℤ, pos, ◌+ℤ◌, ◌-ℤ◌, ◌*ℤ◌}
use lib.Signed.{◌≤ℤ◌, ◌<ℤ◌, lt_z_yes}
use Rattle.integers.specs.Rounding.{r}
use Rattle.integers.specs.Bounds.{Bounded}
use Rattle.integers.proofs.Ring.{◌:+◌, ◌:-◌, ◌:*◌, opp, #, v0, v1, v2, v3, v4, v5, v6, v7, v8, v9}
use Rattle.integers.proofs.Certificate.{◌:≤◌, ◌:<◌, hyp, nat, ◌⊕◌, ◌⊗◌, le_by, lt_by}
use Rattle.integers.proofs.Bounds.{bounded_difference, bounded_product, number_bounded}
use Rattle.integers.proofs.Naturals.{natural_below}
use Rattle.integers.proofs.Nearest.{r_within_half}
use Rattle.scene.specs.declared.Constants.{Constants}
use Rattle.scene.specs.Temperature.{X, temperature}
use Rattle.scene.specs.Scene.{numerator}
use Rattle.scene.specs.Ranges.{ConstantsRange}
use Rattle.scene.proofs.Ranges.{SceneRange, scene_range, scene_x_bounded}
use Rattle.scene.proofs.Delivered.{temperature_of}

-- ---- one step of each part; n is N and m the N of a higher count
module _ {d : ℤ} (n m : ℤ) (above : pos 0 <ℤ d) (step : d ≤ℤ (pos 65535 *ℤ (m -ℤ n))) where
  x_rises : X n d ≤ℤ X m d
  x_rises =
      let low = (r_within_half (pos 65536 *ℤ n) above).twice.high in
      let high = (r_within_half (pos 65536 *ℤ m) above).twice.low in
      (le_by (d ∷ n ∷ m ∷ (X n d) ∷ (X m d) ∷ []) ((# 0 :< v0) ∷ (v0 :≤ # 65535 :* (v2 :- v1)) ∷ (# 2 :* (v0 :* v3 :- # 65536 :* v1) :≤ v0) ∷ (opp v0 :≤ # 2 :* (v0 :* v4 :- # 65536 :* v2)) ∷ []) v3 v4 (nat 131070 ⊗ hyp 0 ⊕ nat 131072 ⊗ hyp 1 ⊕ nat 131072 ⊗ hyp 2 ⊕ nat 65535 ⊗ hyp 3 ⊕ nat 65535 ⊗ hyp 4 ⊕ nat 131070 ⊗ hyp 0 ⊗ hyp 1) tt above step low high)

  x_step : (d *ℤ (X m d -ℤ X n d)) ≤ℤ (pos 65536 *ℤ (m -ℤ n) +ℤ d)
  x_step =
      let low = (r_within_half (pos 65536 *ℤ n) above).twice.low in
      let high = (r_within_half (pos 65536 *ℤ m) above).twice.high in
      (le_by (d ∷ n ∷ m ∷ (X n d) ∷ (X m d) ∷ []) ((opp v0 :≤ # 2 :* (v0 :* v3 :- # 65536 :* v1)) ∷ (# 2 :* (v0 :* v4 :- # 65536 :* v2) :≤ v0) ∷ []) (v0 :* (v4 :- v3)) (# 65536 :* (v2 :- v1) :+ v0) (nat 2 ⊗ hyp 0 ⊕ hyp 1 ⊕ hyp 2) tt low high)

  linear_step : (rise : ℤ) → ((m -ℤ n) *ℤ rise -ℤ d) ≤ℤ (d *ℤ (r (m *ℤ rise) d -ℤ r (n *ℤ rise) d))
  linear_step rise =
      let low = (r_within_half (n *ℤ rise) above).twice.high in
      let high = (r_within_half (m *ℤ rise) above).twice.low in
      (le_by (d ∷ n ∷ m ∷ rise ∷ (r (n *ℤ rise) d) ∷ (r (m *ℤ rise) d) ∷ []) ((# 2 :* (v0 :* v4 :- v1 :* v3) :≤ v0) ∷ (opp v0 :≤ # 2 :* (v0 :* v5 :- v2 :* v3)) ∷ []) ((v2 :- v1) :* v3 :- v0) (v0 :* (v5 :- v4)) (nat 2 ⊗ hyp 0 ⊕ hyp 1 ⊕ hyp 2) tt low high)

-- ---- the bend takes back at most 7/4 for each step of X, and 1 for its roundings
module _ {x y tnl : ℤ} (hx : Bounded x (pos 81920)) (hy : Bounded y (pos 81920)) (h : Bounded tnl (pos 8192)) (order : x ≤ℤ y) where
  abbrev bend : ℤ → ℤ
  bend z = r (pos 4 *ℤ z *ℤ (pos 65536 -ℤ z) *ℤ tnl) (pos 4294967296)

  bend_step : (pos 0 -ℤ pos 7516192768 *ℤ (y -ℤ x) -ℤ pos 4294967296) ≤ℤ (pos 4294967296 *ℤ (bend y -ℤ bend x))
  bend_step =
      let slope = (bounded_product h (bounded_difference (bounded_difference (number_bounded 65536) hx) hy)).low in
      let low = (r_within_half (pos 4 *ℤ x *ℤ (pos 65536 -ℤ x) *ℤ tnl) {b = pos 4294967296} (lt_z_yes tt)).twice.high in
      let high = (r_within_half (pos 4 *ℤ y *ℤ (pos 65536 -ℤ y) *ℤ tnl) {b = pos 4294967296} (lt_z_yes tt)).twice.low in
      (le_by (x ∷ y ∷ tnl ∷ (bend x) ∷ (bend y) ∷ []) ((v0 :≤ v1) ∷ (opp (# 1879048192) :≤ v2 :* (# 65536 :- v0 :- v1)) ∷ (# 2 :* (# 4294967296 :* v3 :- # 4 :* v0 :* (# 65536 :- v0) :* v2) :≤ # 4294967296) ∷ (opp (# 4294967296) :≤ # 2 :* (# 4294967296 :* v4 :- # 4 :* v1 :* (# 65536 :- v1) :* v2)) ∷ []) (# 0 :- # 7516192768 :* (v1 :- v0) :- # 4294967296) (# 4294967296 :* (v4 :- v3)) (nat 2 ⊗ hyp 0 ⊕ nat 8 ⊗ hyp 1 ⊗ hyp 2 ⊕ hyp 3 ⊕ hyp 4) tt order slope low high)

-- ---- T of a higher N that is at least D / 65,535 more
module _ {tc rise tnl d n m : ℤ} (one : SceneRange tc rise tnl d n) (other : SceneRange tc rise tnl d m) (step : d ≤ℤ (pos 65535 *ℤ (m -ℤ n))) where
  grows : pos 0 <ℤ (m -ℤ n)
  grows = (lt_by (d ∷ n ∷ m ∷ []) ((# 0 :< v0) ∷ (v0 :≤ # 65535 :* (v2 :- v1)) ∷ []) (# 0) (v2 :- v1) (nat 65535 ⊗ hyp 0 ⊕ hyp 1 ⊕ hyp 2) tt one.d_above step)

  temperature_rises : temperature tc rise tnl d n <ℤ temperature tc rise tnl d m
  unfolding temperature
  temperature_rises =
      let x-order = x_rises n m one.d_above step in
      (lt_by (d ∷ (m -ℤ n) ∷ rise ∷ tc ∷ (r (n *ℤ rise) d) ∷ (r (m *ℤ rise) d) ∷ (X n d) ∷ (X m d) ∷ (bend (scene_x_bounded one) (scene_x_bounded other) one.tnl_bounded x-order (X n d)) ∷ (bend (scene_x_bounded one) (scene_x_bounded other) one.tnl_bounded x-order (X m d)) ∷ []) ((# 0 :< v0) ∷ (# 0 :< v1) ∷ (# 825032 :≤ v2) ∷ (v1 :* v2 :- v0 :≤ v0 :* (v5 :- v4)) ∷ (# 0 :- # 7516192768 :* (v7 :- v6) :- # 4294967296 :≤ # 4294967296 :* (v9 :- v8)) ∷ (v0 :* (v7 :- v6) :≤ # 65536 :* v1 :+ v0) ∷ (v0 :≤ # 65535 :* v1) ∷ []) (v3 :+ v4 :+ v8) (v3 :+ v5 :+ v9) (nat 4294967296 ⊗ hyp 0 ⊗ hyp 1 ⊕ nat 1995389192372224 ⊗ hyp 2 ⊕ nat 4294967296 ⊗ hyp 2 ⊗ hyp 3 ⊕ nat 4294967296 ⊗ hyp 3 ⊕ nat 4294967296 ⊗ hyp 4 ⊕ hyp 1 ⊗ hyp 5 ⊕ hyp 5 ⊕ nat 7516192768 ⊗ hyp 6 ⊕ nat 16106127360 ⊗ hyp 7 ⊕ nat 4294967296 ⊗ hyp 0) tt one.d_above grows one.rise_low (linear_step n m one.d_above step rise) (bend_step (scene_x_bounded one) (scene_x_bounded other) one.tnl_bounded x-order) (x_step n m one.d_above step) step)

-- ---- N of a higher count
module _ {k : Constants} (h : ConstantsRange k) {count higher : ℕ} (more : count < higher) where
  numerator_grows : k.d ≤ℤ (pos 65535 *ℤ (numerator k higher -ℤ numerator k count))
  numerator_grows = (le_by (k.d ∷ k.slope ∷ k.base ∷ (pos count) ∷ (pos higher) ∷ []) ((v0 :≤ # 65535 :* v1) ∷ (# 0 :≤ v1) ∷ (v3 :< v4) ∷ []) v0 (# 65535 :* (v1 :* v4 :- v2 :- (v1 :* v3 :- v2))) (hyp 0 ⊕ hyp 1 ⊕ nat 65535 ⊗ hyp 2 ⊗ hyp 3) tt h.reach h.slope_low (natural_below more))

  -- of two counts that are not outside the higher has the higher T
  pub temperature_rises_with_count : pos 0 ≤ℤ numerator k count → (pos 4 *ℤ numerator k count) ≤ℤ (pos 5 *ℤ k.d)
      → pos 0 ≤ℤ numerator k higher → (pos 4 *ℤ numerator k higher) ≤ℤ (pos 5 *ℤ k.d) → temperature_of k count <ℤ temperature_of k higher
  temperature_rises_with_count low high low-too high-too = temperature_rises (scene_range h low high) (scene_range h low-too high-too) numerator_grows

  -- N does not fall with the count
  pub numerator_rises : numerator k count ≤ℤ numerator k higher
  numerator_rises = (le_by (k.slope ∷ k.base ∷ (pos count) ∷ (pos higher) ∷ []) ((# 0 :≤ v0) ∷ (v2 :< v3) ∷ []) (v0 :* v2 :- v1) (v0 :* v3 :- v1) (hyp 0 ⊕ hyp 1 ⊕ hyp 1 ⊗ hyp 2) tt h.slope_low (natural_below more))
