-- The range of every number on the way to a scene. For a channel's constants N is within 51,136,960,500 at every count; where it is not
-- negative and 4N is at most 5D, X is within 81,920. The greatest signed number is N(Tw - Tc), below 10^17, so each fits.
use mathlib.Core.Path.{◌≡◌, ap, ◌∙◌}
use mathlib.Core.List.{[], ◌∷◌}
use Prim.Native.Nat.{ℕ, ◌-◌, ◌*◌, ◌/◌, ◌≤◌}
use lib.Dec.{lit<}
use lib.IntN.{ℤ, pos, nat_abs, ◌+ℤ◌, ◌-ℤ◌, ◌*ℤ◌}
use lib.Signed.{◌≤ℤ◌, ◌<ℤ◌, lt_z_yes}
use mir.Syntax.{w64}
use mir.Val.{SFits, to_z, of_z}
use Rattle.integers.specs.Rounding.{floor, r}
use Rattle.integers.specs.Bounds.{Bounded}
use Rattle.integers.proofs.Ring.{◌:+◌, ◌:-◌, ◌:*◌, opp, ring, #, v0, v1, v2, v3}
use Rattle.integers.proofs.Certificate.{◌:≤◌, ◌:<◌, hyp, nat, ◌⊕◌, ◌⊗◌, le_by}
use Rattle.integers.proofs.Bounds.{bounded_sum, bounded_difference, bounded_product, bounded_not_negative, natural_bounded, number_bounded}
use Rattle.integers.proofs.Machine.{bounded_fits, reads_back, floor_fits}
use Rattle.integers.proofs.Order.{below_at_most, product_not_negative}
use Rattle.integers.proofs.Naturals.{natural_not_negative}
use Rattle.integers.proofs.Nearest.{r_bounded}
use Rattle.scene.specs.declared.Constants.{Constants}
use Rattle.scene.specs.declared.Scale.{Scale}
use Rattle.scene.specs.declared.Curve.{Curve}
use Rattle.scene.specs.Temperature.{X}
use Rattle.scene.specs.Scene.{numerator}
use Rattle.scene.specs.Ranges.{ConstantsRange}
use Rattle.scene.specs.Steps.{bend_of}

-- ---- the bend
module _ {x curve : ℤ} (h : Bounded x (pos 81920)) (k : Bounded curve (pos 32768)) where
  pub rest_of_x_bounded : Bounded (pos 65536 -ℤ x) (pos 147456)
  rest_of_x_bounded = bounded_difference (number_bounded 65536) h

  pub x_product_bounded : Bounded (x *ℤ (pos 65536 -ℤ x)) (pos 12079595520)
  x_product_bounded = bounded_product h rest_of_x_bounded

  pub x_curve_bounded : Bounded (x *ℤ (pos 65536 -ℤ x) *ℤ curve) (pos 395824185999360)
  x_curve_bounded = bounded_product x_product_bounded k

  -- 2^20 times 2^32 more than what is rounded
  pub raised_not_negative : pos 0 ≤ℤ (x *ℤ (pos 65536 -ℤ x) *ℤ curve +ℤ pos 4503599627370496)
  raised_not_negative = (le_by ((x *ℤ (pos 65536 -ℤ x) *ℤ curve) ∷ []) ((opp (# 395824185999360) :≤ v0) ∷ []) (# 0) (v0 :+ # 4503599627370496) (hyp 0 ⊕ hyp 1) tt x_curve_bounded.low)

  pub raised_bounded : Bounded (x *ℤ (pos 65536 -ℤ x) *ℤ curve +ℤ pos 4503599627370496) (pos 4899423813369856)
  raised_bounded = bounded_sum x_curve_bounded (number_bounded 4503599627370496)

  pub bend_bounded : Bounded (bend_of x curve) (pos 92160)
  bend_bounded = r_bounded (x *ℤ (pos 65536 -ℤ x) *ℤ curve) (lt_z_yes tt) x_curve_bounded

  pub raised_bend_bounded : Bounded (bend_of x curve +ℤ pos 1048576) (pos 1140736)
  raised_bend_bounded = bounded_sum bend_bounded (number_bounded 1048576)

pub four_tnl_bounded : {tnl : ℤ} → Bounded tnl (pos 8192) → Bounded (pos 4 *ℤ tnl) (pos 32768)
four_tnl_bounded h = bounded_product (number_bounded 4) h

-- with 4 TNL formed first it is the bend of document 01's words
pub bend_of_four_tnl : (x tnl : ℤ) → bend_of x (pos 4 *ℤ tnl) ≡ r (pos 4 *ℤ x *ℤ (pos 65536 -ℤ x) *ℤ tnl) (pos 4294967296)
bend_of_four_tnl x tnl = ap (λ z. r z (pos 4294967296)) (ring (x ∷ tnl ∷ []) (v0 :* (# 65536 :- v0) :* (# 4 :* v1)) (# 4 :* v0 :* (# 65536 :- v0) :* v1) tt)

-- ---- X and the linear part of a scene that is not outside
pub record SceneRange (tc rise tnl d n : ℤ) : Type 0 where
  pub tc_low : pos 11166 ≤ℤ tc
  pub tc_high : tc ≤ℤ pos 43934
  pub rise_low : pos 825032 ≤ℤ rise
  pub rise_high : rise ≤ℤ pos 1357512
  pub tnl_bounded : Bounded tnl (pos 8192)
  pub d_above : pos 0 <ℤ d
  pub n_low : pos 0 ≤ℤ n
  pub n_high : (pos 4 *ℤ n) ≤ℤ (pos 5 *ℤ d)

module _ {tc rise tnl d n : ℤ} (s : SceneRange tc rise tnl d n) where
  pub scene_rise_not_negative : pos 0 ≤ℤ rise
  scene_rise_not_negative = (le_by (rise ∷ []) ((# 825032 :≤ v0) ∷ []) (# 0) v0 (hyp 0 ⊕ hyp 1) tt s.rise_low)

  pub scene_x_bounded : Bounded (X n d) (pos 81920)
  scene_x_bounded = r_bounded (pos 65536 *ℤ n) s.d_above (bounded_not_negative (le_by (n ∷ []) ((# 0 :≤ v0) ∷ []) (# 0) (# 65536 :* v0) (hyp 0 ⊕ nat 65536 ⊗ hyp 1) tt s.n_low) (le_by (n ∷ d ∷ []) ((# 4 :* v0 :≤ # 5 :* v1) ∷ []) (# 65536 :* v0) (# 81920 :* v1) (hyp 0 ⊕ nat 16384 ⊗ hyp 1) tt s.n_high))

  pub scene_linear_bounded : Bounded (r (n *ℤ rise) d) (pos 1696890)
  scene_linear_bounded = r_bounded (n *ℤ rise) s.d_above (bounded_not_negative (product_not_negative s.n_low scene_rise_not_negative) (le_by (n ∷ d ∷ rise ∷ []) ((# 0 :< v1) ∷ (# 0 :≤ v2) ∷ (v2 :≤ # 1357512) ∷ (# 4 :* v0 :≤ # 5 :* v1) ∷ []) (v0 :* v2) (# 1696890 :* v1) (nat 4 ⊗ hyp 0 ⊕ nat 5 ⊗ hyp 3 ⊕ nat 5 ⊗ hyp 1 ⊗ hyp 3 ⊕ hyp 2 ⊗ hyp 4) tt s.d_above scene_rise_not_negative s.rise_high s.n_high))

-- ---- the constants
module _ {k : Constants} (h : ConstantsRange k) where
  pub tc_bounded : Bounded k.tc (pos 43934)
  tc_bounded = bounded_not_negative (le_by (k.tc ∷ []) ((# 11166 :≤ v0) ∷ []) (# 0) v0 (hyp 0 ⊕ hyp 1) tt h.tc_low) h.tc_high

  pub rise_not_negative : pos 0 ≤ℤ k.rise
  rise_not_negative = (le_by (k.rise ∷ []) ((# 825032 :≤ v0) ∷ []) (# 0) v0 (hyp 0 ⊕ hyp 1) tt h.rise_low)

  pub rise_bounded : Bounded k.rise (pos 1357512)
  rise_bounded = bounded_not_negative rise_not_negative h.rise_high

  pub d_bounded : Bounded k.d (pos 51136960500)
  d_bounded = bounded_not_negative (below_at_most h.d_low) h.d_high

  pub d_fits : SFits w64 k.d
  d_fits = bounded_fits d_bounded (lit< tt)

  pub tc_fits : SFits w64 k.tc
  tc_fits = bounded_fits tc_bounded (lit< tt)

  pub rise_fits : SFits w64 k.rise
  rise_fits = bounded_fits rise_bounded (lit< tt)

  pub tnl_fits : SFits w64 k.tnl
  tnl_fits = bounded_fits h.tnl (lit< tt)

  pub four_tnl_fits : SFits w64 (pos 4 *ℤ k.tnl)
  four_tnl_fits = bounded_fits (four_tnl_bounded h.tnl) (lit< tt)

  pub start_bounded : Bounded (k.tc -ℤ pos 1048576) (pos 1037410)
  start_bounded = record {
    low = (le_by (k.tc ∷ []) ((# 11166 :≤ v0) ∷ []) (opp (# 1037410)) (v0 :- # 1048576) (hyp 0 ⊕ hyp 1) tt h.tc_low);
    high = (le_by (k.tc ∷ []) ((v0 :≤ # 43934) ∷ []) (v0 :- # 1048576) (# 1037410) (hyp 0 ⊕ hyp 1) tt h.tc_high);
  }

  pub start_fits : SFits w64 (k.tc -ℤ pos 1048576)
  start_fits = bounded_fits start_bounded (lit< tt)

  pub twice_d_fits : SFits w64 (pos 2 *ℤ k.d)
  twice_d_fits = bounded_fits (bounded_product (number_bounded 2) d_bounded) (lit< tt)

  pub slope_bounded : Bounded k.slope (pos 780300)
  slope_bounded = bounded_not_negative h.slope_low h.slope_high

  pub base_bounded : Bounded k.base (pos 51136960500)
  base_bounded = bounded_not_negative h.base_low h.base_high

  -- ---- N at every count
  module _ {count : ℕ} (c : count ≤ 65535) where
    pub slope_count_bounded : Bounded (k.slope *ℤ pos count) (pos 51136960500)
    slope_count_bounded = bounded_product slope_bounded (natural_bounded c)

    pub numerator_bounded : Bounded (numerator k count) (pos 51136960500)
    numerator_bounded = record {
      low = (le_by ((k.slope *ℤ pos count) ∷ k.base ∷ []) ((# 0 :≤ v0) ∷ (v1 :≤ # 51136960500) ∷ []) (opp (# 51136960500)) (v0 :- v1) (hyp 0 ⊕ hyp 1 ⊕ hyp 2) tt slope_count_not_negative h.base_high);
      high = (le_by ((k.slope *ℤ pos count) ∷ k.base ∷ []) ((v0 :≤ # 51136960500) ∷ (# 0 :≤ v1) ∷ []) (v0 :- v1) (# 51136960500) (hyp 0 ⊕ hyp 1 ⊕ hyp 2) tt slope_count_bounded.high h.base_low);
    }
      where
        slope_count_not_negative : pos 0 ≤ℤ (k.slope *ℤ pos count)
        slope_count_not_negative = product_not_negative h.slope_low (natural_not_negative count)

    pub four_n_bounded : Bounded (pos 4 *ℤ numerator k count) (pos 204547842000)
    four_n_bounded = bounded_product (number_bounded 4) numerator_bounded

  pub five_d_bounded : Bounded (pos 5 *ℤ k.d) (pos 255684802500)
  five_d_bounded = bounded_product (number_bounded 5) d_bounded

  -- ---- the parts of T, where N is not negative and 4N is at most 5D
  module _ {n : ℤ} (low : pos 0 ≤ℤ n) (high : (pos 4 *ℤ n) ≤ℤ (pos 5 *ℤ k.d)) where
    pub n_bounded : Bounded n (pos 63921200625)
    n_bounded = bounded_not_negative low (le_by (n ∷ k.d ∷ []) ((# 4 :* v0 :≤ # 5 :* v1) ∷ (v1 :≤ # 51136960500) ∷ []) v0 (# 63921200625) (nat 4 ⊗ hyp 0 ⊕ hyp 1 ⊕ nat 5 ⊗ hyp 2) tt high h.d_high)

    pub scene_range : SceneRange k.tc k.rise k.tnl k.d n
    scene_range = record {
      tc_low = h.tc_low;
      tc_high = h.tc_high;
      rise_low = h.rise_low;
      rise_high = h.rise_high;
      tnl_bounded = h.tnl;
      d_above = h.d_low;
      n_low = low;
      n_high = high;
    }

    pub x_bounded : Bounded (X n k.d) (pos 81920)
    x_bounded = scene_x_bounded scene_range

    pub n_rise_bounded : Bounded (n *ℤ k.rise) (pos 86773796902845000)
    n_rise_bounded = bounded_product n_bounded rise_bounded

    pub linear_bounded : Bounded (r (n *ℤ k.rise) k.d) (pos 1696890)
    linear_bounded = scene_linear_bounded scene_range

-- ---- what its scale lends to a scene
module _ (s : Curve) where
  pub inverse_is : s.scale.inverse ≡ 9223372036854775808 / nat_abs s.constants.d
  inverse_is = ap (λ (x : Scale). x.inverse) s.formed

  pub edge_is : s.scale.edge ≡ 4294967294 - 33 * nat_abs s.constants.rise
  edge_is = ap (λ (x : Scale). x.edge) s.formed

  pub top_reads_back : to_z w64 (of_z w64 s.scale.top) ≡ floor (pos 5 *ℤ s.constants.d) (pos 4)
  top_reads_back = ap (λ (x : Scale). to_z w64 (of_z w64 x.top)) s.formed ∙ reads_back (floor_fits (pos 4) (bounded_fits (five_d_bounded s.range) (lit< tt)))

  pub curve_reads_back : to_z w64 (of_z w64 s.scale.curve) ≡ pos 4 *ℤ s.constants.tnl
  curve_reads_back = ap (λ (x : Scale). to_z w64 (of_z w64 x.curve)) s.formed ∙ reads_back (four_tnl_fits s.range)

  pub start_reads_back : to_z w64 (of_z w64 s.scale.start) ≡ s.constants.tc -ℤ pos 1048576
  start_reads_back = ap (λ (x : Scale). to_z w64 (of_z w64 x.start)) s.formed ∙ reads_back (start_fits s.range)

  pub twice_reads_back : to_z w64 (of_z w64 s.scale.twice) ≡ pos 2 *ℤ s.constants.d
  twice_reads_back = ap (λ (x : Scale). to_z w64 (of_z w64 x.twice)) s.formed ∙ reads_back (twice_d_fits s.range)

-- ---- T of X and the linear part, from the start
module _ {start curve x linear : ℤ} (of-start : Bounded start (pos 1037410)) (of-curve : Bounded curve (pos 32768)) (of_x : Bounded x (pos 81920)) (of_linear : Bounded linear (pos 1696890)) where
  pub linear_sum_bounded : Bounded (start +ℤ linear) (pos 2734300)
  linear_sum_bounded = bounded_sum of-start of_linear

  pub units_bounded : Bounded (start +ℤ linear +ℤ (bend_of x curve +ℤ pos 1048576)) (pos 3875036)
  units_bounded = bounded_sum linear_sum_bounded (raised_bend_bounded of_x of-curve)

-- it is T of document 01's words
pub units_from_start : (tc linear x tnl : ℤ)
    → tc -ℤ pos 1048576 +ℤ linear +ℤ (bend_of x (pos 4 *ℤ tnl) +ℤ pos 1048576) ≡ tc +ℤ linear +ℤ r (pos 4 *ℤ x *ℤ (pos 65536 -ℤ x) *ℤ tnl) (pos 4294967296)
units_from_start tc linear x tnl =
    ring (tc ∷ linear ∷ bend_of x (pos 4 *ℤ tnl) ∷ pos 1048576 ∷ []) (v0 :- v3 :+ v1 :+ (v2 :+ v3)) (v0 :+ v1 :+ v2) tt
    ∙ ap (λ z. tc +ℤ linear +ℤ z) (bend_of_four_tnl x tnl)
