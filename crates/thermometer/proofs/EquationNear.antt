-- F is near 2^24 times equation 19's ratio: over one denominator the equation is F without the floors, and each floor takes less than 1 of
-- its stage. So F is less than 1 below, by its own floor, and at most 1/6 above, by those before it.
use Prim.Native.Nat.{ℕ, ◌≤◌}
use mathlib.Core.Path.{◌≡◌, refl, sym, ◌∙◌}
use mathlib.Core.List.{[], ◌∷◌}
use mathlib.Core.Bool.{Bool, true, false, cond}
use lib.IntN.{ℤ, pos, ◌+ℤ◌, ◌-ℤ◌, ◌*ℤ◌}
use lib.Signed.{◌≤ℤ◌, ◌<ℤ◌, lt_z, lt_z_yes}
use Rattle.integers.specs.Rounding.{floor}
use Rattle.integers.specs.Fractions.{◌/ᶠ◌, whole, ◌*ᶠ◌, ◌≡ᶠ◌, Equal, Distance}
use Rattle.integers.proofs.Ring.{◌:+◌, ◌:-◌, ◌:*◌, opp, ring, #, v0, v1, v2, v3, v4}
use Rattle.integers.proofs.Naturals.{natural_at_most, natural_not_negative}
use Rattle.integers.proofs.Order.{lt_z_true, square_not_negative}
use Rattle.integers.proofs.Certificate.{◌:≤◌, ◌:<◌, hyp, nat, ◌⊕◌, ◌⊗◌, le_by, lt_by}
use Rattle.integers.proofs.Floor.{floor_low, floor_high}
use Rattle.integers.proofs.Fractions.{product_above, distance_same}
use Rattle.thermometer.specs.Rule.{one, q, s1, y, w, h, s2, F, InRange}
use Rattle.thermometer.specs.Ranges.{Admissible}
use Rattle.thermometer.specs.Equations.{beta_at, equation_ratio, FNearEquation}
use Rattle.thermometer.proofs.Bounds.{bracket, y_bounded, w_bounded}
use Rattle.thermometer.proofs.Rises.{q_not_negative, y_not_negative, w_not_negative}

-- ---- the equation over one denominator
-- 2^28 × 10^14, over which s1 and s2 without their floors are whole
abbrev pub scale : ℤ
scale = pos 26843545600000000000000

-- 62,500,000 times that: what a part, 1 of F, comes to
abbrev pub part : ℤ
part = pos 1677721600000000000000000000000

-- what beta is multiplied by: q × t²
abbrev pub quartic : ℤ → ℤ
quartic t = q t *ℤ (t *ℤ t)

-- scale times 256t - s1 - s2 without floors
abbrev pub exact_before_alpha : (delta : ℕ) (beta t : ℤ) → ℤ
exact_before_alpha delta beta t = scale *ℤ (pos 256 *ℤ t) -ℤ pos 167772160000 *ℤ (pos delta *ℤ q t) -ℤ beta *ℤ quartic t

-- a part times F without floors
unfoldable pub exact_f : (alpha delta beta : ℕ) → ℤ → ℤ
exact_f alpha delta beta t = part *ℤ one +ℤ pos alpha *ℤ exact_before_alpha delta (beta_at beta t) t

pub equation_is : (alpha delta beta : ℕ) (t : ℤ) → Equal (equation_ratio alpha delta beta t) (exact_f alpha delta beta t /ᶠ (part *ℤ one))
unfolding equation_ratio exact_f q
equation_is alpha delta beta t = record {
  left_above = lt_z_yes tt;
  right_above = lt_z_yes tt;
  same = (ring ((pos alpha) ∷ (pos delta) ∷ (beta_at beta t) ∷ t ∷ []) ((# 1 :* # 19342813113834066795298816000000000000000000000000000000000 :+ v0 :* ((v3 :* # 167772160000000000 :- v1 :* (v3 :* # 1 :* # 1 :- # 1 :* # 409600) :* (v3 :* # 1) :* # 4096) :* # 28147497671065600000000000000 :- v2 :* (v3 :* # 1 :* # 1 :- # 1 :* # 409600) :* (v3 :* # 1 :* (v3 :* # 1) :* (v3 :* # 1)) :* # 687194767360000000000) :* # 1) :* (# 1677721600000000000000000000000 :* # 16777216)) ((# 1677721600000000000000000000000 :* # 16777216 :+ v0 :* (# 26843545600000000000000 :* (# 256 :* v3) :- # 167772160000 :* (v1 :* (v3 :* (v3 :- # 409600))) :- v2 :* (v3 :* (v3 :- # 409600) :* (v3 :* v3)))) :* # 19342813113834066795298816000000000000000000000000000000000) tt);
}

-- ---- s1 and s2 each take less than 1 by their floors; s2 takes up to 1/12 more, by those of y, w and h
pub s1_low : (delta : ℕ) (t : ℤ) → (scale *ℤ s1 delta t) ≤ℤ (pos 167772160000 *ℤ (pos delta *ℤ q t))
unfolding s1
s1_low delta t = (le_by ((pos delta *ℤ q t) ∷ (floor (pos delta *ℤ q t) (pos 160000000000)) ∷ []) ((# 160000000000 :* v1 :≤ v0) ∷ []) (# 26843545600000000000000 :* v1) (# 167772160000 :* v0) (hyp 0 ⊕ nat 167772160000 ⊗ hyp 1) tt (floor_low (pos delta *ℤ q t) {b = pos 160000000000} (lt_z_yes tt)))

pub s1_high : (delta : ℕ) (t : ℤ) → (pos 167772160000 *ℤ (pos delta *ℤ q t)) ≤ℤ (scale *ℤ s1 delta t +ℤ scale)
unfolding s1
s1_high delta t = (le_by ((pos delta *ℤ q t) ∷ (floor (pos delta *ℤ q t) (pos 160000000000)) ∷ []) ((v0 :< # 160000000000 :* v1 :+ # 160000000000) ∷ []) (# 167772160000 :* v0) (# 26843545600000000000000 :* v1 :+ # 26843545600000000000000) (hyp 0 ⊕ nat 167772160000 ⊗ hyp 1) tt (floor_high (pos delta *ℤ q t) {b = pos 160000000000} (lt_z_yes tt)))

module _ {t : ℤ} (range : InRange t) (below : t <ℤ pos 0) where
  -- it is from 10^8 × y × w to 10^8 × (y × w + 22,145,927)
  staged_product_low : (pos 100000000 *ℤ (y t *ℤ w t)) ≤ℤ quartic t
  unfolding y w
  staged_product_low = (le_by ((q t) ∷ (t *ℤ t) ∷ (floor (q t) (pos 10000)) ∷ (floor (t *ℤ t) (pos 10000)) ∷ []) ((# 10000 :* v2 :≤ v0) ∷ (# 10000 :* v3 :≤ v1) ∷ (# 0 :≤ v2) ∷ (# 0 :≤ v3) ∷ []) (# 100000000 :* (v2 :* v3)) (v0 :* v1) (hyp 0 ⊕ hyp 1 ⊗ hyp 2 ⊕ nat 10000 ⊗ hyp 1 ⊗ hyp 4 ⊕ nat 10000 ⊗ hyp 2 ⊗ hyp 3) tt (floor_low (q t) {b = pos 10000} (lt_z_yes tt)) (floor_low (t *ℤ t) {b = pos 10000} (lt_z_yes tt)) (y_not_negative below) (w_not_negative t))

  staged_product_high : quartic t ≤ℤ (pos 100000000 *ℤ (y t *ℤ w t +ℤ pos 22145927))
  unfolding y w
  staged_product_high = (le_by ((q t) ∷ (t *ℤ t) ∷ (floor (q t) (pos 10000)) ∷ (floor (t *ℤ t) (pos 10000)) ∷ []) ((v0 :< # 10000 :* v2 :+ # 10000) ∷ (v1 :< # 10000 :* v3 :+ # 10000) ∷ (# 0 :≤ v0) ∷ (# 0 :≤ v1) ∷ (v2 :≤ # 16106128) ∷ (v3 :≤ # 6039798) ∷ []) (v0 :* v1) (# 100000000 :* (v2 :* v3 :+ # 22145927)) (hyp 0 ⊕ nat 99990000 ⊗ hyp 5 ⊕ nat 99990000 ⊗ hyp 6 ⊕ hyp 1 ⊗ hyp 2 ⊕ hyp 1 ⊗ hyp 4 ⊕ hyp 2 ⊗ hyp 3) tt (floor_high (q t) {b = pos 10000} (lt_z_yes tt)) (floor_high (t *ℤ t) {b = pos 10000} (lt_z_yes tt)) (q_not_negative below) (square_not_negative t) (y_bounded range).high (w_bounded range).high)

  staged_h_low : (pos 1677721600000000 *ℤ h t) ≤ℤ quartic t
  unfolding h
  staged_h_low = (le_by ((y t *ℤ w t) ∷ (floor (y t *ℤ w t) one) ∷ (quartic t) ∷ []) ((# 16777216 :* v1 :≤ v0) ∷ (# 100000000 :* v0 :≤ v2) ∷ []) (# 1677721600000000 :* v1) v2 (hyp 0 ⊕ nat 100000000 ⊗ hyp 1 ⊕ hyp 2) tt (floor_low (y t *ℤ w t) {b = one} (lt_z_yes tt)) staged_product_low)

  staged_h_high : quartic t ≤ℤ (pos 1677721600000000 *ℤ h t +ℤ pos 3892314300000000)
  unfolding h
  staged_h_high = (le_by ((y t *ℤ w t) ∷ (floor (y t *ℤ w t) one) ∷ (quartic t) ∷ []) ((v0 :< # 16777216 :* v1 :+ # 16777216) ∷ (v2 :≤ # 100000000 :* (v0 :+ # 22145927)) ∷ []) v2 (# 1677721600000000 :* v1 :+ # 3892314300000000) (hyp 0 ⊕ nat 100000000 ⊗ hyp 1 ⊕ hyp 2) tt (floor_high (y t *ℤ w t) {b = one} (lt_z_yes tt)) staged_product_high)

-- s is s2, and x scale times s2 without floors
record QuarticNear (s x : ℤ) : Type 0 where
  low : (scale *ℤ s) ≤ℤ x
  high : (pos 12 *ℤ x) ≤ℤ (pos 12 *ℤ (scale *ℤ s) +ℤ pos 13 *ℤ scale)

-- the test is whether t is below 0
quartic_near_by : {beta : ℕ} {t : ℤ} → beta ≤ 500000 → InRange t → (below : Bool) → lt_z t (pos 0) ≡ below
    → QuarticNear (cond below (floor (pos beta *ℤ h t) (pos 16000000)) (pos 0)) (cond below (pos beta) (pos 0) *ℤ quartic t)
quartic_near_by {beta} {t} beta_high range true e = record {
  low = (le_by ((pos beta) ∷ (h t) ∷ (quartic t) ∷ (floor (pos beta *ℤ h t) (pos 16000000)) ∷ []) ((# 0 :≤ v0) ∷ (# 16000000 :* v3 :≤ v0 :* v1) ∷ (# 1677721600000000 :* v1 :≤ v2) ∷ []) (# 26843545600000000000000 :* v3) (v0 :* v2) (hyp 0 ⊕ nat 1677721600000000 ⊗ hyp 2 ⊕ hyp 1 ⊗ hyp 3) tt (natural_not_negative beta) (floor_low (pos beta *ℤ h t) {b = pos 16000000} (lt_z_yes tt)) (staged_h_low range (lt_z_true e)));
  high = (le_by ((pos beta) ∷ (h t) ∷ (quartic t) ∷ (floor (pos beta *ℤ h t) (pos 16000000)) ∷ []) ((# 0 :≤ v0) ∷ (v0 :≤ # 500000) ∷ (v0 :* v1 :< # 16000000 :* v3 :+ # 16000000) ∷ (v2 :≤ # 1677721600000000 :* v1 :+ # 3892314300000000) ∷ []) (# 12 :* (v0 :* v2)) (# 12 :* (# 26843545600000000000000 :* v3) :+ # 13 :* # 26843545600000000000000) (hyp 0 ⊕ nat 46707771600000000 ⊗ hyp 2 ⊕ nat 20132659200000000 ⊗ hyp 3 ⊕ nat 12 ⊗ hyp 1 ⊗ hyp 4) tt (natural_not_negative beta) (natural_at_most beta_high) (floor_high (pos beta *ℤ h t) {b = pos 16000000} (lt_z_yes tt)) (staged_h_high range (lt_z_true e)));
}
quartic_near_by {beta} {t} beta_high range false e = record {
  low = (le_by ((quartic t) ∷ []) ([]) (# 26843545600000000000000 :* # 0) (# 0 :* v0) (hyp 0) tt);
  high = (le_by ((quartic t) ∷ []) ([]) (# 12 :* (# 0 :* v0)) (# 12 :* (# 26843545600000000000000 :* # 0) :+ # 13 :* # 26843545600000000000000) (hyp 0) tt);
}

s2_near : {beta : ℕ} {t : ℤ} → beta ≤ 500000 → InRange t → QuarticNear (s2 beta t) (beta_at beta t *ℤ quartic t)
unfolding s2
s2_near {beta} {t} beta_high range = quartic_near_by beta_high range (lt_z t (pos 0)) refl

-- ---- F
module _ {alpha delta beta : ℕ} (admissible : Admissible alpha delta beta) {t : ℤ} (range : InRange t) where
  -- all stages before alpha take at most 25/12
  pub before_alpha_low : exact_before_alpha delta (beta_at beta t) t ≤ℤ (scale *ℤ bracket delta beta t)
  before_alpha_low = (le_by ((pos 256 *ℤ t) ∷ (pos delta *ℤ q t) ∷ (beta_at beta t *ℤ quartic t) ∷ (s1 delta t) ∷ (s2 beta t) ∷ []) ((# 26843545600000000000000 :* v3 :≤ # 167772160000 :* v1) ∷ (# 26843545600000000000000 :* v4 :≤ v2) ∷ []) (# 26843545600000000000000 :* v0 :- # 167772160000 :* v1 :- v2) (# 26843545600000000000000 :* (v0 :- v3 :- v4)) (hyp 0 ⊕ hyp 1 ⊕ hyp 2) tt (s1_low delta t) (s2_near admissible.beta_high range).low)

  pub before_alpha_high : (pos 12 *ℤ (scale *ℤ bracket delta beta t)) ≤ℤ (pos 12 *ℤ exact_before_alpha delta (beta_at beta t) t +ℤ pos 25 *ℤ scale)
  before_alpha_high = (le_by ((pos 256 *ℤ t) ∷ (pos delta *ℤ q t) ∷ (beta_at beta t *ℤ quartic t) ∷ (s1 delta t) ∷ (s2 beta t) ∷ []) ((# 167772160000 :* v1 :≤ # 26843545600000000000000 :* v3 :+ # 26843545600000000000000) ∷ (# 12 :* v2 :≤ # 12 :* (# 26843545600000000000000 :* v4) :+ # 13 :* # 26843545600000000000000) ∷ []) (# 12 :* (# 26843545600000000000000 :* (v0 :- v3 :- v4))) (# 12 :* (# 26843545600000000000000 :* v0 :- # 167772160000 :* v1 :- v2) :+ # 25 :* # 26843545600000000000000) (hyp 0 ⊕ nat 12 ⊗ hyp 1 ⊕ hyp 2) tt (s1_high delta t) (s2_near admissible.beta_high range).high)

  -- F is less than 1 below the equation
  pub F_low : exact_f alpha delta beta t <ℤ (part *ℤ (F alpha delta beta t +ℤ pos 1))
  unfolding F exact_f
  F_low =
      let a = pos alpha in
      let g = bracket delta beta t in
      (lt_by (a ∷ (exact_before_alpha delta (beta_at beta t) t) ∷ g ∷ (floor (a *ℤ g) (pos 62500000)) ∷ []) ((# 0 :≤ v0) ∷ (v1 :≤ # 26843545600000000000000 :* v2) ∷ (v0 :* v2 :< # 62500000 :* v3 :+ # 62500000) ∷ []) (# 1677721600000000000000000000000 :* # 16777216 :+ v0 :* v1) (# 1677721600000000000000000000000 :* (# 16777216 :+ v3 :+ # 1)) (hyp 0 ⊕ nat 26843545600000000000000 ⊗ hyp 3 ⊕ hyp 1 ⊗ hyp 2) tt (natural_not_negative alpha) before_alpha_low (floor_high (a *ℤ g) {b = pos 62500000} (lt_z_yes tt)))

  -- and at most 1/6 above it
  pub F_high : (pos 6 *ℤ (part *ℤ F alpha delta beta t)) ≤ℤ (pos 6 *ℤ exact_f alpha delta beta t +ℤ part)
  unfolding F exact_f
  F_high =
      let a = pos alpha in
      let g = bracket delta beta t in
      (le_by (a ∷ (exact_before_alpha delta (beta_at beta t) t) ∷ g ∷ (floor (a *ℤ g) (pos 62500000)) ∷ []) ((# 0 :≤ v0) ∷ (v0 :≤ # 5000000) ∷ (# 12 :* (# 26843545600000000000000 :* v2) :≤ # 12 :* v1 :+ # 25 :* # 26843545600000000000000) ∷ (# 62500000 :* v3 :≤ v0 :* v2) ∷ []) (# 6 :* (# 1677721600000000000000000000000 :* (# 16777216 :+ v3))) (# 6 :* (# 1677721600000000000000000000000 :* # 16777216 :+ v0 :* v1) :+ # 1677721600000000000000000000000) (nat 2 ⊗ hyp 0 ⊕ nat 671088640000000000000000 ⊗ hyp 2 ⊕ nat 322122547200000000000000 ⊗ hyp 4 ⊕ hyp 1 ⊗ hyp 3) tt (natural_not_negative alpha) (natural_at_most admissible.alpha_high) before_alpha_high (floor_low (a *ℤ g) {b = pos 62500000} (lt_z_yes tt)))

  near_exact : Distance (whole (pos 2)) (F alpha delta beta t) (exact_f alpha delta beta t /ᶠ part)
  near_exact = record {
    den_above = lt_z_yes tt;
    apart = record {
      low = (le_by ((F alpha delta beta t) ∷ (exact_f alpha delta beta t) ∷ []) ((v1 :< # 1677721600000000000000000000000 :* (v0 :+ # 1)) ∷ []) (opp (# 2 :* # 1677721600000000000000000000000)) (# 1 :* (v0 :* # 1677721600000000000000000000000 :- v1)) (hyp 0 ⊕ hyp 1) tt F_low);
      high = (le_by ((F alpha delta beta t) ∷ (exact_f alpha delta beta t) ∷ []) ((# 6 :* (# 1677721600000000000000000000000 :* v0) :≤ # 6 :* v1 :+ # 1677721600000000000000000000000) ∷ []) (# 1 :* (v0 :* # 1677721600000000000000000000000 :- v1)) (# 2 :* # 1677721600000000000000000000000) (nat 6 ⊗ hyp 0 ⊕ hyp 1) tt F_high);
    };
  }

exact_is_equation : (alpha delta beta : ℕ) (t : ℤ) → (exact_f alpha delta beta t /ᶠ part) ≡ᶠ (whole one *ᶠ equation_ratio alpha delta beta t)
exact_is_equation alpha delta beta t =
    let e = equation_ratio alpha delta beta t in
    (ring ((exact_f alpha delta beta t) ∷ e.den ∷ []) (v0 :* (# 1 :* v1)) (v0 :* v1) tt)
    ∙ sym (equation_is alpha delta beta t).same
    ∙ (ring (e.num ∷ []) (v0 :* (# 1677721600000000000000000000000 :* # 16777216)) (# 16777216 :* v0 :* # 1677721600000000000000000000000) tt)

pub F_near_equation : FNearEquation
F_near_equation alpha delta beta admissible t range =
    distance_same (whole one *ᶠ equation_ratio alpha delta beta t) above (exact_is_equation alpha delta beta t) (near_exact admissible range)
  where
    above : pos 0 <ℤ (pos 1 *ℤ (equation_ratio alpha delta beta t).den)
    above = product_above {a = pos 1} {b = (equation_ratio alpha delta beta t).den} (lt_z_yes tt) (equation_is alpha delta beta t).left_above
