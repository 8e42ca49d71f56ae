-- Equation 19's ratio rises with t by at least 12 parts of 2^-24 a unit, up to the second unit above the range: delta's term takes at most 2
-- of the 256 that a unit brings, and beta's term, which is taken away, does not rise.
use Prim.Native.Nat.{ℕ}
use mathlib.Core.Path.{◌≡◌, refl, sym, subst, subst₂}
use mathlib.Core.List.{[], ◌∷◌}
use mathlib.Core.Bool.{Bool, true, false, cond}
use lib.IntN.{ℤ, pos, ◌+ℤ◌, ◌*ℤ◌}
use lib.Signed.{◌≤ℤ◌, ◌<ℤ◌, lt_z}
use Rattle.integers.proofs.Ring.{◌:+◌, ◌:-◌, ◌:*◌, ring, #, v0, v1, v2, v3, v4}
use Rattle.integers.proofs.Naturals.{natural_at_most, natural_not_negative}
use Rattle.integers.proofs.Order.{square_not_negative, product_not_negative}
use Rattle.integers.proofs.Certificate.{◌:≤◌, ◌:≡◌, hyp, nat, ◌⊕◌, ◌⊗◌, le_by}
use Rattle.thermometer.specs.Rule.{q}
use Rattle.thermometer.specs.Ranges.{Admissible}
use Rattle.thermometer.specs.Equations.{beta_at}
use Rattle.thermometer.proofs.Rises.{q_not_negative, q_falls, square_falls, counted_below_zero_does_not_rise}
use Rattle.thermometer.proofs.EquationNear.{scale, part, quartic, exact_before_alpha, exact_f}

-- ---- beta's term does not rise
module _ {t : ℤ} (below : t <ℤ pos 0) where
  quartic_not_negative : pos 0 ≤ℤ quartic t
  quartic_not_negative = product_not_negative (q_not_negative below) (square_not_negative t)

  quartic_falls : quartic (t +ℤ pos 1) ≤ℤ quartic t
  quartic_falls = (le_by ((q t) ∷ (t *ℤ t) ∷ (q (t +ℤ pos 1)) ∷ ((t +ℤ pos 1) *ℤ (t +ℤ pos 1)) ∷ []) ((# 0 :≤ v0) ∷ (# 0 :≤ v3) ∷ (v2 :≤ v0) ∷ (v3 :≤ v1) ∷ []) (v2 :* v3) (v0 :* v1) (hyp 0 ⊕ hyp 1 ⊗ hyp 4 ⊕ hyp 2 ⊗ hyp 3) tt (q_not_negative below) (square_not_negative (t +ℤ pos 1)) (q_falls below) (square_falls below))

counted_when : (counts : Bool) (beta z : ℤ) → cond counts beta (pos 0) *ℤ z ≡ cond counts (beta *ℤ z) (pos 0)
counted_when true beta z = refl
counted_when false beta z = (ring (z ∷ []) (# 0 :* v0) (# 0) tt)

quartic_does_not_rise : (beta : ℕ) (t : ℤ) → (beta_at beta (t +ℤ pos 1) *ℤ quartic (t +ℤ pos 1)) ≤ℤ (beta_at beta t *ℤ quartic t)
quartic_does_not_rise beta t =
    subst₂ ◌≤ℤ◌ (sym (counted_when (lt_z (t +ℤ pos 1) (pos 0)) (pos beta) (quartic (t +ℤ pos 1)))) (sym (counted_when (lt_z t (pos 0)) (pos beta) (quartic t)))
    (counted_below_zero_does_not_rise (λ u. pos beta *ℤ quartic u)
    (λ u below. product_not_negative (natural_not_negative beta) (quartic_not_negative below))
    (λ u below. (le_by ((pos beta) ∷ (quartic (u +ℤ pos 1)) ∷ (quartic u) ∷ []) ((# 0 :≤ v0) ∷ (v1 :≤ v2) ∷ []) (v0 :* v1) (v0 :* v2) (hyp 0 ⊕ hyp 1 ⊗ hyp 2) tt (natural_not_negative beta) (quartic_falls below))) t)

-- ---- from t to t + 1; the last t + 1 is 245,762
module _ (t : ℤ) (last : t ≤ℤ pos 245761) {alpha delta beta : ℕ} (admissible : Admissible alpha delta beta) where
  delta_q_rises : (pos delta *ℤ q (t +ℤ pos 1)) ≤ℤ (pos delta *ℤ q t +ℤ pos 163846000000)
  unfolding q
  delta_q_rises = (le_by ((pos delta) ∷ t ∷ []) ((# 0 :≤ v0) ∷ (v0 :≤ # 2000000) ∷ (v1 :≤ # 245761) ∷ []) (v0 :* ((v1 :+ # 1) :* (v1 :+ # 1 :- # 409600))) (v0 :* (v1 :* (v1 :- # 409600)) :+ # 163846000000) (hyp 0 ⊕ nat 81923 ⊗ hyp 2 ⊕ nat 2 ⊗ hyp 1 ⊗ hyp 3) tt (natural_not_negative delta) (natural_at_most admissible.delta_high) last)

  before_alpha_rises : (exact_before_alpha delta (beta_at beta t) t +ℤ pos 254 *ℤ scale) ≤ℤ exact_before_alpha delta (beta_at beta (t +ℤ pos 1)) (t +ℤ pos 1)
  before_alpha_rises = (le_by (t ∷ (pos delta *ℤ q t) ∷ (pos delta *ℤ q (t +ℤ pos 1)) ∷ (beta_at beta t *ℤ quartic t) ∷ (beta_at beta (t +ℤ pos 1) *ℤ quartic (t +ℤ pos 1)) ∷ []) ((v2 :≤ v1 :+ # 163846000000) ∷ (v4 :≤ v3) ∷ []) (# 26843545600000000000000 :* (# 256 :* v0) :- # 167772160000 :* v1 :- v3 :+ # 254 :* # 26843545600000000000000) (# 26843545600000000000000 :* (# 256 :* (v0 :+ # 1)) :- # 167772160000 :* v2 :- v4) (hyp 0 ⊕ nat 167772160000 ⊗ hyp 1 ⊕ hyp 2) tt delta_q_rises (quartic_does_not_rise beta t))

  exact_rises_by_one : (exact_f alpha delta beta t +ℤ pos 12 *ℤ part) ≤ℤ exact_f alpha delta beta (t +ℤ pos 1)
  unfolding exact_f
  exact_rises_by_one = (le_by ((pos alpha) ∷ (exact_before_alpha delta (beta_at beta t) t) ∷ (exact_before_alpha delta (beta_at beta (t +ℤ pos 1)) (t +ℤ pos 1)) ∷ []) ((# 3000000 :≤ v0) ∷ (v1 :+ # 254 :* # 26843545600000000000000 :≤ v2) ∷ []) (# 1677721600000000000000000000000 :* # 16777216 :+ v0 :* v1 :+ # 12 :* # 1677721600000000000000000000000) (# 1677721600000000000000000000000 :* # 16777216 :+ v0 :* v2) (hyp 0 ⊕ nat 6818260582400000000000000 ⊗ hyp 1 ⊕ nat 3000000 ⊗ hyp 2 ⊕ hyp 1 ⊗ hyp 2) tt (natural_at_most admissible.alpha_low) before_alpha_rises)

pub exact_rises : {alpha delta beta : ℕ} → Admissible alpha delta beta → (t : ℤ) {next : ℤ} → t +ℤ pos 1 ≡ next → next ≤ℤ pos 245762 → (exact_f alpha delta beta t +ℤ pos 12 *ℤ part) ≤ℤ exact_f alpha delta beta next
exact_rises {alpha} {delta} {beta} admissible t {next} step last =
    subst (λ u. (exact_f alpha delta beta t +ℤ pos 12 *ℤ part) ≤ℤ exact_f alpha delta beta u) step
    (exact_rises_by_one t (le_by (t ∷ next ∷ []) ((v0 :+ # 1 :≡ v1) ∷ (v1 :≤ # 245762) ∷ []) v0 (# 245761) (hyp 0 ⊕ hyp 1 ⊕ hyp 2) tt step last) admissible)
