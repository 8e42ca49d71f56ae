-- Under an accepted table T of a scene that is not outside is from 11,166 to 1,832,984: the linear part makes up for whatever the bend takes
-- off. So under an accepted bias file what is delivered is from 1 to 16,777,215, and its f32 is exact.
use mathlib.Core.Path.{◌≡◌, ◌∙◌}
use mathlib.Core.Logic.{⊎_elim}
use mathlib.Core.List.{[], ◌∷◌}
use lib.IntN.{ℤ, pos, ◌+ℤ◌, ◌-ℤ◌, ◌*ℤ◌, +ℤ_idl}
use lib.Signed.{◌≤ℤ◌, ◌<ℤ◌, lt_z_yes}
use Rattle.integers.specs.Rounding.{r}
use Rattle.integers.specs.Bounds.{Bounded}
use Rattle.integers.proofs.Ring.{◌:+◌, ◌:-◌, ◌:*◌, opp, ring, #, v0, v1, v2, v3, v4}
use Rattle.integers.proofs.Certificate.{◌:≤◌, ◌:<◌, hyp, nat, ◌⊕◌, ◌⊗◌, le_by}
use Rattle.integers.proofs.Bounds.{bounded_product, bounded_not_negative, bounded_by_itself, number_bounded}
use Rattle.integers.proofs.Nearest.{r_within_half, r_of_multiple, within_half_at_least, within_half_at_most}
use Rattle.integers.proofs.Order.{product_not_negative, at_most_or_above}
use Rattle.scene.specs.Temperature.{X, temperature, biased}
use Rattle.scene.specs.Scene.{unbiased}
use Rattle.scene.proofs.Delivered.{WithinGuard, within_guard}
use Rattle.scene.proofs.Distance.{SceneRoundings, roundings_of}
use Rattle.scene.proofs.Ranges.{SceneRange, scene_rise_not_negative, scene_x_bounded, scene_linear_bounded, bend_bounded, four_tnl_bounded, bend_of_four_tnl}

-- ---- the linear part and the bend, by X
module _ {tc rise tnl d n x linear bend : ℤ} (s : SceneRoundings tc rise tnl d n x linear bend) (rise_low : pos 825032 ≤ℤ rise)
    (linear-low : pos 0 ≤ℤ linear) (x-low : pos 0 ≤ℤ x) (x_high : x ≤ℤ pos 81920) where
  -- the linear part is at least (X - 1/2) rise / 65,536, less a half
  linear_by_x : ((pos 2 *ℤ x -ℤ pos 1) *ℤ rise -ℤ pos 65536) ≤ℤ (pos 131072 *ℤ linear)
  linear_by_x = (le_by (d ∷ n ∷ x ∷ rise ∷ linear ∷ []) ((# 0 :< v0) ∷ (# 825032 :≤ v3) ∷ (# 2 :* (v0 :* v2 :- # 65536 :* v1) :≤ v0) ∷ (opp v0 :≤ # 2 :* (v0 :* v4 :- v1 :* v3)) ∷ []) ((# 2 :* v2 :- # 1) :* v3 :- # 65536) (# 131072 :* v4) (hyp 0 ⊕ hyp 1 ⊕ hyp 0 ⊗ hyp 1 ⊕ nat 825032 ⊗ hyp 3 ⊕ nat 65536 ⊗ hyp 4 ⊕ hyp 2 ⊗ hyp 3) tt s.d_above rise_low s.x_near.twice.high s.linear_near.twice.low)

  rest_bounded : Bounded (pos 65536 -ℤ x) (pos 65536)
  rest_bounded = record {
    low = (le_by (x ∷ []) ((v0 :≤ # 81920) ∷ []) (opp (# 65536)) (# 65536 :- v0) (hyp 0 ⊕ hyp 1) tt x_high);
    high = (le_by (x ∷ []) ((# 0 :≤ v0) ∷ []) (# 65536 :- v0) (# 65536) (hyp 0 ⊕ hyp 1) tt x-low);
  }

  -- the bend is at least -X / 2, less a half
  bend_by_x : (pos 0 -ℤ x -ℤ pos 1) ≤ℤ (pos 2 *ℤ bend)
  bend_by_x =
      let p = pos 4 *ℤ x *ℤ (pos 65536 -ℤ x) *ℤ tnl in
      let product = bounded_product (bounded_product (bounded_product (number_bounded 4) (bounded_by_itself x-low)) rest_bounded) s.tnl_bounded in
      (le_by (x ∷ p ∷ bend ∷ []) ((opp (# 4 :* v0 :* # 65536 :* # 8192) :≤ v1) ∷ (opp (# 4294967296) :≤ # 2 :* (# 4294967296 :* v2 :- v1)) ∷ []) (# 0 :- v0 :- # 1) (# 2 :* v2) (nat 4294967296 ⊗ hyp 0 ⊕ nat 2 ⊗ hyp 1 ⊕ hyp 2) tt product.low s.bend_near.twice.low)

  parts_not_negative : pos 0 <ℤ x → pos 0 ≤ℤ (linear +ℤ bend)
  parts_not_negative some = (le_by (x ∷ rise ∷ linear ∷ bend ∷ []) ((# 0 :< v0) ∷ (# 825032 :≤ v1) ∷ ((# 2 :* v0 :- # 1) :* v1 :- # 65536 :≤ # 131072 :* v2) ∷ (# 0 :- v0 :- # 1 :≤ # 2 :* v3) ∷ []) (# 0) (v2 :+ v3) (nat 131072 ⊗ hyp 0 ⊕ nat 1584528 ⊗ hyp 1 ⊕ hyp 2 ⊕ hyp 3 ⊕ nat 65536 ⊗ hyp 4 ⊕ nat 2 ⊗ hyp 1 ⊗ hyp 2) tt some rise_low linear_by_x bend_by_x)

  none_taken_off : x ≤ℤ pos 0 → pos 0 ≤ℤ (linear +ℤ bend)
  none_taken_off none = (le_by (x ∷ linear ∷ bend ∷ []) ((v0 :≤ # 0) ∷ (# 0 :≤ v1) ∷ (# 0 :- v0 :- # 1 :≤ # 2 :* v2) ∷ []) (# 0) (v1 :+ v2) (nat 2 ⊗ hyp 0 ⊕ hyp 1 ⊕ nat 2 ⊗ hyp 2 ⊕ hyp 3) tt none linear-low bend_by_x)

  -- what the bend takes off, the linear part has put on
  parts_together : pos 0 ≤ℤ (linear +ℤ bend)
  parts_together = ⊎_elim none_taken_off parts_not_negative (at_most_or_above x (pos 0))

module _ {tc rise tnl d n : ℤ} (s : SceneRange tc rise tnl d n) where
  x_not_negative : pos 0 ≤ℤ X n d
  x_not_negative = within_half_at_least s.d_above (r_within_half (pos 65536 *ℤ n) s.d_above) (pos 0) (le_by (n ∷ d ∷ []) ((# 0 :≤ v0) ∷ []) (# 0 :* v1) (# 65536 :* v0) (hyp 0 ⊕ nat 65536 ⊗ hyp 1) tt s.n_low)

  linear_not_negative : pos 0 ≤ℤ r (n *ℤ rise) d
  linear_not_negative =
      let product = product_not_negative s.n_low (scene_rise_not_negative s) in
      let p = n *ℤ rise in
      within_half_at_least s.d_above (r_within_half (n *ℤ rise) s.d_above) (pos 0) (le_by (p ∷ d ∷ []) ((# 0 :≤ v0) ∷ []) (# 0 :* v1) v0 (hyp 0 ⊕ hyp 1) tt product)

  pub temperature_low : pos 11166 ≤ℤ temperature tc rise tnl d n
  unfolding temperature
  temperature_low =
      let x = X n d in
      let linear = r (n *ℤ rise) d in
      let bend = r (pos 4 *ℤ x *ℤ (pos 65536 -ℤ x) *ℤ tnl) (pos 4294967296) in
      let together = parts_together (roundings_of tc rise tnl s.d_above s.n_low s.n_high s.tnl_bounded) s.rise_low linear_not_negative x_not_negative (scene_x_bounded s).high in
      (le_by (tc ∷ linear ∷ bend ∷ []) ((# 11166 :≤ v0) ∷ (# 0 :≤ v1 :+ v2) ∷ []) (# 11166) (v0 :+ v1 :+ v2) (hyp 0 ⊕ hyp 1 ⊕ hyp 2) tt s.tc_low together)

  pub temperature_high : temperature tc rise tnl d n ≤ℤ pos 1832984
  unfolding temperature
  temperature_high =
      let x = X n d in
      let linear = r (n *ℤ rise) d in
      let bend = r (pos 4 *ℤ x *ℤ (pos 65536 -ℤ x) *ℤ tnl) (pos 4294967296) in
      (le_by (tc ∷ linear ∷ bend ∷ []) ((v0 :≤ # 43934) ∷ (v1 :≤ # 1696890) ∷ (v2 :≤ # 92160) ∷ []) (v0 :+ v1 :+ v2) (# 1832984) (hyp 0 ⊕ hyp 1 ⊕ hyp 2 ⊕ hyp 3) tt s.tc_high (scene_linear_bounded s).high (rw (bend_of_four_tnl x tnl) at (bend_bounded (scene_x_bounded s) (four_tnl_bounded s.tnl_bounded)).high))

-- ---- scan bias
module _ {c0 e t : ℤ} (of-c0 : Bounded c0 (pos 4096)) (of-e : Bounded e (pos 32768)) (low : pos 11166 ≤ℤ t) (high : t ≤ℤ pos 1832984) where
  pub product_not_below : pos 0 ≤ℤ ((pos 65536 +ℤ e) *ℤ t)
  product_not_below = (le_by (e ∷ t ∷ []) ((opp (# 32768) :≤ v0) ∷ (# 11166 :≤ v1) ∷ []) (# 0) ((# 65536 :+ v0) :* v1) (hyp 0 ⊕ nat 11166 ⊗ hyp 1 ⊕ nat 32768 ⊗ hyp 2 ⊕ hyp 1 ⊗ hyp 2) tt of-e.low low)

  pub product_bounded : Bounded ((pos 65536 +ℤ e) *ℤ t) (pos 180189659136)
  product_bounded = bounded_not_negative product_not_below (le_by (e ∷ t ∷ []) ((opp (# 32768) :≤ v0) ∷ (v0 :≤ # 32768) ∷ (v1 :≤ # 1832984) ∷ []) ((# 65536 :+ v0) :* v1) (# 180189659136) (hyp 0 ⊕ nat 1832984 ⊗ hyp 2 ⊕ nat 32768 ⊗ hyp 3 ⊕ hyp 1 ⊗ hyp 3) tt of-e.low of-e.high high)

  -- a half to one and a half of T
  pub rounded_low : pos 5583 ≤ℤ r ((pos 65536 +ℤ e) *ℤ t) (pos 65536)
  rounded_low = within_half_at_least (lt_z_yes tt) (r_within_half ((pos 65536 +ℤ e) *ℤ t) (lt_z_yes tt)) (pos 5583) (le_by (e ∷ t ∷ []) ((opp (# 32768) :≤ v0) ∷ (# 11166 :≤ v1) ∷ []) (# 5583 :* # 65536) ((# 65536 :+ v0) :* v1) (hyp 0 ⊕ nat 11166 ⊗ hyp 1 ⊕ nat 32768 ⊗ hyp 2 ⊕ hyp 1 ⊗ hyp 2) tt of-e.low low)

  pub rounded_high : r ((pos 65536 +ℤ e) *ℤ t) (pos 65536) ≤ℤ pos 2749476
  rounded_high = within_half_at_most (lt_z_yes tt) (r_within_half ((pos 65536 +ℤ e) *ℤ t) (lt_z_yes tt)) (pos 2749476) (le_by (e ∷ t ∷ []) ((opp (# 32768) :≤ v0) ∷ (v0 :≤ # 32768) ∷ (v1 :≤ # 1832984) ∷ []) ((# 65536 :+ v0) :* v1) (# 2749476 :* # 65536) (hyp 0 ⊕ nat 1832984 ⊗ hyp 2 ⊕ nat 32768 ⊗ hyp 3 ⊕ hyp 1 ⊗ hyp 3) tt of-e.low of-e.high high)

  pub biased_low : pos 1 ≤ℤ biased c0 e t
  unfolding biased
  biased_low =
      let rounded = r ((pos 65536 +ℤ e) *ℤ t) (pos 65536) in
      (le_by (c0 ∷ rounded ∷ []) ((opp (# 4096) :≤ v0) ∷ (# 5583 :≤ v1) ∷ []) (# 1) (v0 :+ v1) (hyp 0 ⊕ hyp 1 ⊕ hyp 2) tt of-c0.low rounded_low)

  pub biased_high : biased c0 e t ≤ℤ pos 16777215
  unfolding biased
  biased_high =
      let rounded = r ((pos 65536 +ℤ e) *ℤ t) (pos 65536) in
      (le_by (c0 ∷ rounded ∷ []) ((v0 :≤ # 4096) ∷ (v1 :≤ # 2749476) ∷ []) (v0 :+ v1) (# 16777215) (hyp 0 ⊕ hyp 1 ⊕ hyp 2) tt of-c0.high rounded_high)

  -- what is delivered is a whole number of units whose f32 is exact
  pub biased_within : WithinGuard (biased c0 e t)
  biased_within = within_guard biased_low biased_high

-- with c0 and e 0 it is T
pub biased_by_zeros : (t : ℤ) → biased (pos 0) (pos 0) t ≡ unbiased t
unfolding biased
biased_by_zeros t =
    +ℤ_idl (r ((pos 65536 +ℤ pos 0) *ℤ t) (pos 65536))
    ∙ r_of_multiple ((pos 65536 +ℤ pos 0) *ℤ t) t (lt_z_yes tt) (ring (t ∷ []) ((# 65536 :+ # 0) :* v0) (v0 :* # 65536) tt)
