-- How far what is delivered is from equation 30 over E: 3/2 of how far T is from E, since 65,536 + e is at most 3/2 of 65,536, and a half for
-- the rounding of scan bias itself. So 21/8 becomes 71/16.
use mathlib.Core.List.{[], ◌∷◌}
use lib.IntN.{ℤ, pos, ◌+ℤ◌, ◌*ℤ◌}
use lib.Signed.{◌<ℤ◌, lt_z_yes}
use Rattle.integers.specs.Rounding.{r}
use Rattle.integers.specs.Bounds.{Bounded}
use Rattle.integers.specs.Fractions.{Fraction, ◌/ᶠ◌, Distance}
use Rattle.integers.proofs.Ring.{◌:+◌, ◌:-◌, ◌:*◌, ring, #, v0, v1, v2, v3, v4, v5, v6}
use Rattle.integers.proofs.Order.{below_at_most}
use Rattle.integers.proofs.Bounds.{bounded_sum, bounded_product, bounded_equal, bounded_by_itself, number_bounded}
use Rattle.integers.proofs.Nearest.{r_within_half}
use Rattle.integers.proofs.Fractions.{product_above}
use Rattle.scene.specs.Temperature.{biased}
use Rattle.scene.specs.Unrounded.{biased_e}

module _ {limit unrounded : Fraction} {t : ℤ} (c0 : ℤ) {e : ℤ} (of-e : Bounded e (pos 32768)) (limit-above : pos 0 <ℤ limit.den) (near : Distance limit t unrounded) where
  abbrev ln : ℤ
  ln = limit.num

  abbrev ld : ℤ
  ld = limit.den

  abbrev en : ℤ
  en = unrounded.num

  abbrev ed : ℤ
  ed = unrounded.den

  abbrev rounded : ℤ
  rounded = r ((pos 65536 +ℤ e) *ℤ t) (pos 65536)

  pub biased_distance : Distance ((pos 3 *ℤ limit.num +ℤ limit.den) /ᶠ (pos 2 *ℤ limit.den)) (biased c0 e t) (biased_e c0 e unrounded)
  unfolding biased
  biased_distance = record {
    den_above = product_above {a = pos 1} (lt_z_yes tt) (product_above {a = pos 1 *ℤ pos 65536} (lt_z_yes tt) near.den_above);
    apart = bounded_equal
        (ring (ld ∷ ed ∷ e ∷ t ∷ rounded ∷ c0 ∷ en ∷ []) (v0 :* v1 :* (# 2 :* (# 65536 :* v4 :- (# 65536 :+ v2) :* v3)) :+ # 2 :* (# 65536 :+ v2) :* (v0 :* (v3 :* v1 :- v6))) (# 2 :* v0 :* ((v5 :+ v4) :* (# 1 :* (# 1 :* # 65536 :* v1)) :- (v5 :* (# 1 :* # 65536 :* v1) :+ (# 1 :* # 65536 :+ v2 :* # 1) :* v6 :* # 1))) tt)
        (ring (ld ∷ ed ∷ ln ∷ []) (v0 :* v1 :* # 65536 :+ # 2 :* # 98304 :* (v2 :* v1)) ((# 3 :* v2 :+ v0) :* (# 1 :* (# 1 :* # 65536 :* v1))) tt)
        (bounded_sum
        (bounded_product (bounded_product (bounded_by_itself (below_at_most limit-above)) (bounded_by_itself (below_at_most near.den_above))) (r_within_half ((pos 65536 +ℤ e) *ℤ t) (lt_z_yes tt)).twice)
        (bounded_product (bounded_product (number_bounded 2) (bounded_sum (number_bounded 65536) of-e)) near.apart));
  }
