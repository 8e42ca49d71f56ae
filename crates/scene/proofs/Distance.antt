-- How far T is from the unrounded temperature, in layers. Of each rounding only `WithinHalf` is used.
-- With Tw and TNL rounded: 1/2 from the linear part, 1/2 from the bend, 3/8 from X. Tw's own rounding adds 5/8, and TNL's, which is that of
-- an interpolation, 5/8 more, so T is within 21/8 of E.
use mathlib.Core.List.{[], ◌∷◌}
use lib.IntN.{ℤ, pos, ◌+ℤ◌, ◌-ℤ◌, ◌*ℤ◌}
use lib.Signed.{◌≤ℤ◌, ◌<ℤ◌, le_z_yes, lt_z_yes}
use Rattle.integers.specs.Rounding.{r}
use Rattle.integers.specs.Bounds.{Bounded, WithinHalf}
use Rattle.integers.specs.Fractions.{Fraction, ◌/ᶠ◌, whole, ◌+ᶠ◌, ◌*ᶠ◌, Distance}
use Rattle.integers.proofs.Ring.{◌:+◌, ◌:-◌, ◌:*◌, opp, ring, #, v0, v1, v2, v3, v4, v5, v6, v7, v8, v9}
use Rattle.integers.proofs.Order.{below_at_most, product_not_negative}
use Rattle.integers.proofs.Naturals.{natural_not_negative}
use Rattle.integers.proofs.Certificate.{◌:≤◌, ◌:<◌, hyp, nat, sqr, ◌⊕◌, ◌⊗◌, le_by}
use Rattle.integers.proofs.Bounds.{bounded_sum, bounded_product, bounded_equal, bounded_cancel, bounded_not_negative, bounded_by_itself, number_bounded}
use Rattle.integers.proofs.Nearest.{r_within_half, within_half_at_most}
use Rattle.integers.proofs.Fractions.{product_above, distance_same, distance_weaker}
use Rattle.scene.specs.Temperature.{X, temperature}
use Rattle.scene.specs.Unrounded.{unrounded_tw, E, quadratic}
use Rattle.integers.proofs.Formal.{Formal, ◌/ᵉ◌, wholeᵉ, ◌+ᵉ◌, ◌-ᵉ◌, ◌*ᵉ◌, same_fraction}

-- the three roundings of a scene: x is X, T is tc + linear + bend
pub record SceneRoundings (tc rise tnl d n x linear bend : ℤ) : Type 0 where
  pub d_above : pos 0 <ℤ d
  pub n_low : pos 0 ≤ℤ n
  pub n_high : (pos 4 *ℤ n) ≤ℤ (pos 5 *ℤ d)
  pub tnl_bounded : Bounded tnl (pos 8192)
  pub x_near : WithinHalf (pos 65536 *ℤ n) d x
  pub linear_near : WithinHalf (n *ℤ rise) d linear
  pub bend_near : WithinHalf (pos 4 *ℤ x *ℤ (pos 65536 -ℤ x) *ℤ tnl) (pos 4294967296) bend

above_bounded : {z : ℤ} → pos 0 <ℤ z → Bounded z z
above_bounded h = bounded_by_itself (below_at_most h)

pub one_above : pos 0 <ℤ pos 1
one_above = lt_z_yes tt

-- the same expressions as `quadratic` and `E`, for `ring`
abbrev quadraticᵉ : (x tnl : Formal) → Formal
quadraticᵉ x tnl = wholeᵉ (# 4) *ᵉ x *ᵉ (wholeᵉ (# 1) -ᵉ x) *ᵉ tnl

abbrev Eᵉ : (x tw tc tnl : Formal) → Formal
Eᵉ x tw tc tnl = tc +ᵉ x *ᵉ (tw -ᵉ tc) +ᵉ quadraticᵉ x tnl

-- their denominators are above 0
quadratic_den_above : {d e : ℤ} → pos 0 <ℤ d → pos 0 <ℤ e → pos 0 <ℤ (pos 1 *ℤ d *ℤ (pos 1 *ℤ d) *ℤ e)
quadratic_den_above p q = product_above (product_above (product_above one_above p) (product_above one_above p)) q

E_den_above : {weights d e : ℤ} → pos 0 <ℤ weights → pos 0 <ℤ d → pos 0 <ℤ e → pos 0 <ℤ (pos 1 *ℤ (d *ℤ (weights *ℤ pos 1 *ℤ pos 1)) *ℤ (pos 1 *ℤ d *ℤ (pos 1 *ℤ d) *ℤ e))
E_den_above w p q = product_above (product_above one_above (product_above p (product_above (product_above w one_above) one_above))) (quadratic_den_above p q)

-- ---- Tw and TNL rounded: Tc + x rise + 4x(1 - x) TNL, x = N / D, over D D
abbrev with_rise : (tc rise tnl d n : ℤ) → Fraction
with_rise tc rise tnl d n = (tc *ℤ (d *ℤ d) +ℤ n *ℤ d *ℤ rise +ℤ pos 4 *ℤ n *ℤ (d -ℤ n) *ℤ tnl) /ᶠ (d *ℤ d)

module _ {tc rise tnl d n x linear bend : ℤ} (s : SceneRoundings tc rise tnl d n x linear bend) where
  x_high : x ≤ℤ pos 81920
  x_high = within_half_at_most s.d_above s.x_near (pos 81920) (le_by (n ∷ d ∷ []) ((# 4 :* v0 :≤ # 5 :* v1) ∷ []) (# 65536 :* v0) (# 81920 :* v1) (hyp 0 ⊕ nat 16384 ⊗ hyp 1) tt s.n_high)

  -- 1 - N / D - X / 65,536 is within 3/2
  both_x_bounded : Bounded (pos 65536 *ℤ d -ℤ pos 65536 *ℤ n -ℤ x *ℤ d) (pos 98304 *ℤ d)
  both_x_bounded = record {
    low = (le_by (d ∷ n ∷ x ∷ []) ((# 0 :< v0) ∷ (# 4 :* v1 :≤ # 5 :* v0) ∷ (v2 :≤ # 81920) ∷ []) (opp (# 98304 :* v0)) (# 65536 :* v0 :- # 65536 :* v1 :- v2 :* v0) (hyp 0 ⊕ nat 16384 ⊗ hyp 2 ⊕ hyp 3 ⊕ hyp 1 ⊗ hyp 3) tt s.d_above s.n_high x_high);
    high = (le_by (d ∷ n ∷ x ∷ []) ((# 0 :< v0) ∷ (# 0 :≤ v1) ∷ (opp v0 :≤ # 2 :* (v0 :* v2 :- # 65536 :* v1)) ∷ []) (# 65536 :* v0 :- # 65536 :* v1 :- v2 :* v0) (# 98304 :* v0) (nat 2 ⊗ hyp 0 ⊕ nat 65535 ⊗ hyp 1 ⊕ nat 262144 ⊗ hyp 2 ⊕ hyp 3) tt s.d_above s.n_low s.x_near.twice.low);
  }

  distance_over_d : Distance (pos 11 /ᶠ pos 8) (tc +ℤ linear +ℤ bend) (with_rise tc rise tnl d n)
  distance_over_d = record {
    den_above = product_above s.d_above s.d_above;
    apart = bounded_cancel {k = pos 4294967296} (lt_z_yes tt) (bounded_equal
        (ring (tc ∷ tnl ∷ d ∷ n ∷ rise ∷ x ∷ linear ∷ bend ∷ []) (# 4294967296 :* # 4 :* (# 2 :* (v2 :* v6 :- v3 :* v4)) :* v2 :+ v2 :* v2 :* # 4 :* (# 2 :* (# 4294967296 :* v7 :- # 4 :* v5 :* (# 65536 :- v5) :* v1)) :+ # 16 :* (# 2 :* (v2 :* v5 :- # 65536 :* v3)) :* (# 65536 :* v2 :- # 65536 :* v3 :- v5 :* v2) :* v1) (# 4294967296 :* (# 8 :* ((v0 :+ v6 :+ v7) :* (v2 :* v2) :- (v0 :* (v2 :* v2) :+ v3 :* v2 :* v4 :+ # 4 :* v3 :* (v2 :- v3) :* v1)))) tt)
        (ring (d ∷ []) (# 4294967296 :* # 4 :* v0 :* v0 :+ v0 :* v0 :* # 4 :* # 4294967296 :+ # 16 :* v0 :* (# 98304 :* v0) :* # 8192) (# 4294967296 :* (# 11 :* (v0 :* v0))) tt)
        (bounded_sum (bounded_sum
        (bounded_product (bounded_product (bounded_product (number_bounded 4294967296) (number_bounded 4)) s.linear_near.twice) (above_bounded s.d_above))
        (bounded_product (bounded_product (bounded_product (above_bounded s.d_above) (above_bounded s.d_above)) (number_bounded 4)) s.bend_near.twice))
        (bounded_product (bounded_product (bounded_product (number_bounded 16) s.x_near.twice) both_x_bounded) s.tnl_bounded)));
  }

  -- T is within 11/8 of Tc + x rise + 4x(1 - x) TNL
  pub distance_with_rise : Distance (pos 11 /ᶠ pos 8) (tc +ℤ linear +ℤ bend) (whole tc +ᶠ n /ᶠ d *ᶠ whole rise +ᶠ quadratic (n /ᶠ d) (whole tnl))
  distance_with_rise = distance_same (whole tc +ᶠ n /ᶠ d *ᶠ whole rise +ᶠ quadratic (n /ᶠ d) (whole tnl))
      (product_above (product_above one_above (product_above s.d_above one_above)) (quadratic_den_above s.d_above one_above))
      (same_fraction (tc ∷ rise ∷ tnl ∷ d ∷ n ∷ [])
      ((v0 :* (v3 :* v3) :+ v4 :* v3 :* v1 :+ # 4 :* v4 :* (v3 :- v4) :* v2) /ᵉ (v3 :* v3))
      (wholeᵉ v0 +ᵉ v4 /ᵉ v3 *ᵉ wholeᵉ v1 +ᵉ quadraticᵉ (v4 /ᵉ v3) (wholeᵉ v2)) tt)
      distance_over_d

-- ---- Tw unrounded: weighted / weights + b, over weights D D
abbrev with_mean : (weights weighted b tc tnl d n : ℤ) → Fraction
with_mean weights weighted b tc tnl d n =
    (tc *ℤ (weights *ℤ d *ℤ d) +ℤ n *ℤ d *ℤ (weighted +ℤ (b -ℤ tc) *ℤ weights) +ℤ pos 4 *ℤ n *ℤ (d -ℤ n) *ℤ tnl *ℤ weights) /ᶠ (weights *ℤ d *ℤ d)

module _ (b : ℤ) {weights weighted tc tnl d n mean x linear bend : ℤ} (w : pos 0 <ℤ weights) (m : WithinHalf weighted weights mean)
    (s : SceneRoundings tc (mean +ℤ b -ℤ tc) tnl d n x linear bend) where
  four_n_bounded : Bounded (pos 4 *ℤ n) (pos 5 *ℤ d)
  four_n_bounded = bounded_not_negative (product_not_negative (natural_not_negative 4) s.n_low) s.n_high

  -- 11/8 + 5/4 × 1/2
  distance_over_weights : Distance (pos 16 /ᶠ pos 8) (tc +ℤ linear +ℤ bend) (with_mean weights weighted b tc tnl d n)
  distance_over_weights = record {
    den_above = product_above (product_above w s.d_above) s.d_above;
    apart = bounded_equal
        (ring (weights ∷ weighted ∷ b ∷ tc ∷ tnl ∷ d ∷ n ∷ mean ∷ (tc +ℤ linear +ℤ bend) ∷ []) (# 8 :* (v8 :* (v5 :* v5) :- (v3 :* (v5 :* v5) :+ v6 :* v5 :* (v7 :+ v2 :- v3) :+ # 4 :* v6 :* (v5 :- v6) :* v4)) :* v0 :+ # 4 :* v6 :* (# 2 :* (v0 :* v7 :- v1)) :* v5) (# 8 :* (v8 :* (v0 :* v5 :* v5) :- (v3 :* (v0 :* v5 :* v5) :+ v6 :* v5 :* (v1 :+ (v2 :- v3) :* v0) :+ # 4 :* v6 :* (v5 :- v6) :* v4 :* v0))) tt)
        (ring (weights ∷ d ∷ []) (# 11 :* (v1 :* v1) :* v0 :+ # 5 :* v1 :* v0 :* v1) (# 16 :* (v0 :* v1 :* v1)) tt)
        (bounded_sum (bounded_product (distance_over_d s).apart (above_bounded w)) (bounded_product (bounded_product four_n_bounded m.twice) (above_bounded s.d_above)));
  }

  -- T is within 2 of E with TNL rounded
  pub distance_with_mean : Distance (pos 2 /ᶠ pos 1) (tc +ℤ linear +ℤ bend) (E (n /ᶠ d) (unrounded_tw weighted weights b) (whole tc) (whole tnl))
  distance_with_mean = distance_same (E (n /ᶠ d) (unrounded_tw weighted weights b) (whole tc) (whole tnl))
      (E_den_above w s.d_above one_above)
      (same_fraction (weights ∷ weighted ∷ b ∷ tc ∷ tnl ∷ d ∷ n ∷ [])
      ((v3 :* (v0 :* v5 :* v5) :+ v6 :* v5 :* (v1 :+ (v2 :- v3) :* v0) :+ # 4 :* v6 :* (v5 :- v6) :* v4 :* v0) /ᵉ (v0 :* v5 :* v5))
      (Eᵉ (v6 /ᵉ v5) (v1 /ᵉ v0 +ᵉ wholeᵉ v2) (wholeᵉ v3) (wholeᵉ v4)) tt)
      (distance_weaker (lt_z_yes tt) (lt_z_yes tt) (le_z_yes tt) distance_over_weights)

  -- ---- TNL unrounded, a fraction: 2 + 5/4 × 1/2
  sixteen_x_bounded : Bounded (pos 16 *ℤ n *ℤ (d -ℤ n)) (pos 5 *ℤ (d *ℤ d))
  sixteen_x_bounded = record {
    low = (le_by (d ∷ n ∷ []) ((# 0 :≤ v1) ∷ (# 4 :* v1 :≤ # 5 :* v0) ∷ (# 0 :< v0) ∷ []) (opp (# 5 :* (v0 :* v0))) (# 16 :* v1 :* (v0 :- v1)) (nat 5 ⊗ hyp 0 ⊕ nat 24 ⊗ hyp 1 ⊗ hyp 2 ⊕ hyp 2 ⊗ hyp 2) tt s.n_low s.n_high s.d_above);
    high = (le_by (d ∷ n ∷ []) ((# 0 :< v0) ∷ []) (# 16 :* v1 :* (v0 :- v1)) (# 5 :* (v0 :* v0)) (hyp 0 ⊕ nat 2 ⊗ hyp 1 ⊕ nat 4 ⊗ sqr (v0 :- # 2 :* v1) ⊕ hyp 1 ⊗ hyp 1) tt s.d_above);
  }

  pub distance_with_any_tnl : {numerator denominator : ℤ} → pos 0 <ℤ denominator → WithinHalf numerator denominator tnl
      → Distance (pos 21 /ᶠ pos 8) (tc +ℤ linear +ℤ bend) (E (n /ᶠ d) (unrounded_tw weighted weights b) (whole tc) (numerator /ᶠ denominator))
  distance_with_any_tnl {numerator} {denominator} p t = distance_same (E (n /ᶠ d) (unrounded_tw weighted weights b) (whole tc) (numerator /ᶠ denominator))
      (E_den_above w s.d_above p)
      (same_fraction (weights ∷ weighted ∷ b ∷ tc ∷ d ∷ n ∷ numerator ∷ denominator ∷ [])
      ((v3 :* (v0 :* v4 :* v4 :* v7) :+ v5 :* v4 :* (v1 :+ (v2 :- v3) :* v0) :* v7 :+ # 4 :* v5 :* (v4 :- v5) :* v6 :* v0) /ᵉ (v0 :* v4 :* v4 :* v7))
      (Eᵉ (v5 /ᵉ v4) (v1 /ᵉ v0 +ᵉ wholeᵉ v2) (wholeᵉ v3) (v6 /ᵉ v7)) tt)
      over_denominator
    where
      over_denominator : Distance (pos 21 /ᶠ pos 8) (tc +ℤ linear +ℤ bend)
          ((tc *ℤ (weights *ℤ d *ℤ d *ℤ denominator) +ℤ n *ℤ d *ℤ (weighted +ℤ (b -ℤ tc) *ℤ weights) *ℤ denominator +ℤ pos 4 *ℤ n *ℤ (d -ℤ n) *ℤ numerator *ℤ weights)
          /ᶠ (weights *ℤ d *ℤ d *ℤ denominator))
      over_denominator = record {
        den_above = product_above (product_above (product_above w s.d_above) s.d_above) p;
        apart = bounded_equal
            (ring (weights ∷ weighted ∷ b ∷ tc ∷ tnl ∷ d ∷ n ∷ (tc +ℤ linear +ℤ bend) ∷ numerator ∷ denominator ∷ []) (# 8 :* (v7 :* (v0 :* v5 :* v5) :- (v3 :* (v0 :* v5 :* v5) :+ v6 :* v5 :* (v1 :+ (v2 :- v3) :* v0) :+ # 4 :* v6 :* (v5 :- v6) :* v4 :* v0)) :* v9 :+ # 16 :* v6 :* (v5 :- v6) :* v0 :* (# 2 :* (v9 :* v4 :- v8))) (# 8 :* (v7 :* (v0 :* v5 :* v5 :* v9) :- (v3 :* (v0 :* v5 :* v5 :* v9) :+ v6 :* v5 :* (v1 :+ (v2 :- v3) :* v0) :* v9 :+ # 4 :* v6 :* (v5 :- v6) :* v8 :* v0))) tt)
            (ring (weights ∷ d ∷ denominator ∷ []) (# 16 :* (v0 :* v1 :* v1) :* v2 :+ # 5 :* (v1 :* v1) :* v0 :* v2) (# 21 :* (v0 :* v1 :* v1 :* v2)) tt)
            (bounded_sum (bounded_product distance_over_weights.apart (above_bounded p)) (bounded_product (bounded_product sixteen_x_bounded (above_bounded w)) t.twice));
      }

-- ---- on the definitions
pub roundings_of : (tc rise tnl : ℤ) {d n : ℤ} → pos 0 <ℤ d → pos 0 ≤ℤ n → (pos 4 *ℤ n) ≤ℤ (pos 5 *ℤ d) → Bounded tnl (pos 8192)
    → SceneRoundings tc rise tnl d n (X n d) (r (n *ℤ rise) d) (r (pos 4 *ℤ X n d *ℤ (pos 65536 -ℤ X n d) *ℤ tnl) (pos 4294967296))
roundings_of tc rise tnl {d} {n} p low high t = record {
  d_above = p;
  n_low = low;
  n_high = high;
  tnl_bounded = t;
  x_near = r_within_half (pos 65536 *ℤ n) p;
  linear_near = r_within_half (n *ℤ rise) p;
  bend_near = r_within_half (pos 4 *ℤ X n d *ℤ (pos 65536 -ℤ X n d) *ℤ tnl) (lt_z_yes tt);
}

-- T is within 21/8 units of E, with Tw = r(weighted, weights) + b and TNL within a half of a fraction
pub temperature_distance : (tc tnl weighted weights b : ℤ) {d n : ℤ} (unrounded : Fraction)
    → pos 0 <ℤ d → pos 0 ≤ℤ n → (pos 4 *ℤ n) ≤ℤ (pos 5 *ℤ d) → Bounded tnl (pos 8192) → pos 0 <ℤ weights
    → pos 0 <ℤ unrounded.den → WithinHalf unrounded.num unrounded.den tnl
    → Distance (pos 21 /ᶠ pos 8) (temperature tc (r weighted weights +ℤ b -ℤ tc) tnl d n) (E (n /ᶠ d) (unrounded_tw weighted weights b) (whole tc) unrounded)
unfolding temperature
temperature_distance tc tnl weighted weights b unrounded p low high t w above near =
    distance_with_any_tnl b w (r_within_half weighted w) (roundings_of tc (r weighted weights +ℤ b -ℤ tc) tnl p low high t) above near
