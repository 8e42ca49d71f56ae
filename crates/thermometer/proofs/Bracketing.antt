-- The answer is bracketed by the equation. F(t) is at most M, so at t the equation is below M + 1; t + 1 is not reached or outside the range,
-- so at t + 1 it is at least M. A unit makes 12, and 2^24 times the measured ratio is from M to below M + 1.
use Prim.Native.Nat.{ℕ}
use mathlib.Core.Path.{◌≡◌, refl, subst}
use mathlib.Core.Logic.{◌⊎◌, inl, inr}
use mathlib.Core.List.{[], ◌∷◌}
use lib.IntN.{ℤ, pos, ◌+ℤ◌, ◌-ℤ◌, ◌*ℤ◌}
use lib.Signed.{◌≤ℤ◌, ◌<ℤ◌, lt_z_yes}
use Rattle.integers.proofs.Ring.{◌:+◌, ◌:-◌, ◌:*◌, opp, ring, #, v0, v1, v2, v3}
use Rattle.integers.proofs.Order.{at_most_antisym, at_most_or_above}
use Rattle.integers.proofs.Certificate.{◌:≤◌, ◌:<◌, hyp, nat, ◌⊕◌, ◌⊗◌, le_by, lt_by, clash_by}
use Rattle.integers.proofs.Floor.{floor_low, floor_high}
use Rattle.integers.proofs.Fractions.{product_above, below_same_left, below_same_right}
use Rattle.thermometer.specs.Rule.{one, M, F, highest_units, InRange, Greatest}
use Rattle.thermometer.specs.Ranges.{Admissible}
use Rattle.thermometer.specs.Equations.{AnswersBracketed}
use Rattle.thermometer.proofs.ReadingLaws.{reading_units_answered}
use Rattle.thermometer.proofs.EquationNear.{part, exact_f, equation_is, F_low, F_high}
use Rattle.thermometer.proofs.EquationRises.{exact_rises}

-- ---- around M
module _ {alpha delta beta : ℕ} (admissible : Admissible alpha delta beta) {m t : ℤ} (answer : Greatest alpha delta beta m t) where
  abbrev exact : ℤ → ℤ
  exact u = exact_f alpha delta beta u

  at_most_past : t ≤ℤ pos 245762
  at_most_past = (le_by (t ∷ []) ((v0 :≤ # 245760) ∷ []) v0 (# 245762) (hyp 0 ⊕ hyp 1) tt answer.inside.high)

  next_at_most_past : (t +ℤ pos 1) ≤ℤ pos 245762
  next_at_most_past = (le_by (t ∷ []) ((v0 :≤ # 245760) ∷ []) (v0 :+ # 1) (# 245762) (hyp 0 ⊕ hyp 1) tt answer.inside.high)

  second_at_most_past : (t +ℤ pos 2) ≤ℤ pos 245762
  second_at_most_past = (le_by (t ∷ []) ((v0 :≤ # 245760) ∷ []) (v0 :+ # 2) (# 245762) (hyp 0 ⊕ hyp 1) tt answer.inside.high)

  exact_before : exact (t -ℤ pos 1) <ℤ (part *ℤ m)
  exact_before = (lt_by ((exact (t -ℤ pos 1)) ∷ (exact t) ∷ (F alpha delta beta t) ∷ m ∷ []) ((v0 :+ # 12 :* # 1677721600000000000000000000000 :≤ v1) ∷ (v1 :< # 1677721600000000000000000000000 :* (v2 :+ # 1)) ∷ (v2 :≤ v3) ∷ []) v0 (# 1677721600000000000000000000000 :* v3) (hyp 0 ⊕ hyp 1 ⊕ hyp 2 ⊕ nat 1677721600000000000000000000000 ⊗ hyp 3) tt (exact_rises admissible (t -ℤ pos 1) (ring (t ∷ []) (v0 :- # 1 :+ # 1) v0 tt) at_most_past) (F_low admissible answer.inside) answer.reached)

  -- t + 1 is in the range, and not reached
  exact_next_inside : InRange (t +ℤ pos 1) → (part *ℤ m) ≤ℤ exact (t +ℤ pos 1)
  exact_next_inside range = by_reach (at_most_or_above (F alpha delta beta (t +ℤ pos 1)) m)
    where
      by_reach : (F alpha delta beta (t +ℤ pos 1) ≤ℤ m) ⊎ (m <ℤ F alpha delta beta (t +ℤ pos 1)) → (part *ℤ m) ≤ℤ exact (t +ℤ pos 1)
      by_reach (inl reached) = absurd (clash_by (t ∷ []) ((v0 :+ # 1 :≤ v0) ∷ []) (hyp 0) tt (answer.most (t +ℤ pos 1) range reached))
      by_reach (inr past) = (le_by ((exact (t +ℤ pos 1)) ∷ (F alpha delta beta (t +ℤ pos 1)) ∷ m ∷ []) ((# 6 :* (# 1677721600000000000000000000000 :* v1) :≤ # 6 :* v0 :+ # 1677721600000000000000000000000) ∷ (v2 :< v1) ∷ []) (# 1677721600000000000000000000000 :* v2) v0 (nat 6 ⊗ hyp 0 ⊕ hyp 1 ⊕ nat 10066329600000000000000000000000 ⊗ hyp 2) tt (F_high admissible range) past)

  -- t is the last of the range, and M is not above its F
  exact_next_outside : m ≤ℤ F alpha delta beta t → (part *ℤ m) ≤ℤ exact (t +ℤ pos 1)
  exact_next_outside within = (le_by ((exact (t +ℤ pos 1)) ∷ (exact t) ∷ (F alpha delta beta t) ∷ m ∷ []) ((v1 :+ # 12 :* # 1677721600000000000000000000000 :≤ v0) ∷ (# 6 :* (# 1677721600000000000000000000000 :* v2) :≤ # 6 :* v1 :+ # 1677721600000000000000000000000) ∷ (v3 :≤ v2) ∷ []) (# 1677721600000000000000000000000 :* v3) v0 (nat 6 ⊗ hyp 0 ⊕ nat 6 ⊗ hyp 1 ⊕ hyp 2 ⊕ nat 10066329600000000000000000000000 ⊗ hyp 3) tt (exact_rises admissible t refl next_at_most_past) (F_high admissible answer.inside) within)

  exact_next : m ≤ℤ F alpha delta beta highest_units → (part *ℤ m) ≤ℤ exact (t +ℤ pos 1)
  exact_next within = by_place (at_most_or_above (t +ℤ pos 1) highest_units)
    where
      by_place : ((t +ℤ pos 1) ≤ℤ highest_units) ⊎ (highest_units <ℤ (t +ℤ pos 1)) → (part *ℤ m) ≤ℤ exact (t +ℤ pos 1)
      by_place (inl inside) = exact_next_inside (record { low = (le_by (t ∷ []) ((opp (# 245760) :≤ v0) ∷ []) (opp (# 245760)) (v0 :+ # 1) (hyp 0 ⊕ hyp 1) tt answer.inside.low); high = inside })
      by_place (inr outside) =
          let last : highest_units ≡ t
          = at_most_antisym (le_by (t ∷ []) ((# 245760 :< v0 :+ # 1) ∷ []) (# 245760) v0 (hyp 0 ⊕ hyp 1) tt outside) answer.inside.high in
          exact_next_outside (subst (λ u. m ≤ℤ F alpha delta beta u) last within)

  exact_second : m ≤ℤ F alpha delta beta highest_units → (part *ℤ (m +ℤ pos 1)) ≤ℤ exact (t +ℤ pos 2)
  exact_second within = (le_by ((exact (t +ℤ pos 2)) ∷ (exact (t +ℤ pos 1)) ∷ m ∷ []) ((v1 :+ # 12 :* # 1677721600000000000000000000000 :≤ v0) ∷ (# 1677721600000000000000000000000 :* v2 :≤ v1) ∷ []) (# 1677721600000000000000000000000 :* (v2 :+ # 1)) v0 (hyp 0 ⊕ hyp 1 ⊕ hyp 2) tt (exact_rises admissible (t +ℤ pos 1) (ring (t ∷ []) (v0 :+ # 1 :+ # 1) (v0 :+ # 2) tt) second_at_most_past) (exact_next within))

-- ---- the measured ratio n / d: M is the floor of 2^24 n / d
pub answers_bracketed : AnswersBracketed
unfolding M
answers_bracketed r_pam r0 alpha delta beta pam offset count t e =
    let met = reading_units_answered r_pam r0 alpha delta beta pam offset count e in
    let n = pos r_pam *ℤ (pos count -ℤ pos offset) in
    let d = (pos pam -ℤ pos offset) *ℤ pos r0 in
    let m = M r_pam r0 pam offset count in
    let d_above : pos 0 <ℤ d = product_above met.pam_above met.r0_above in
    record {
      below = below_same_left (equation_is alpha delta beta (t -ℤ pos 1)) (record { left_above = lt_z_yes tt; right_above = d_above; below = (lt_by ((exact_f alpha delta beta (t -ℤ pos 1)) ∷ d ∷ n ∷ m ∷ []) ((# 0 :< v1) ∷ (v0 :< # 1677721600000000000000000000000 :* v3) ∷ (v1 :* v3 :≤ v2 :* # 16777216) ∷ []) (v0 :* v1) (v2 :* (# 1677721600000000000000000000000 :* # 16777216)) (hyp 0 ⊕ hyp 1 ⊕ hyp 2 ⊕ nat 1677721600000000000000000000000 ⊗ hyp 3 ⊕ hyp 1 ⊗ hyp 2) tt d_above (exact_before met.admissible met.greatest) (floor_low (n *ℤ one) d_above)) });
      above = below_same_right (equation_is alpha delta beta (t +ℤ pos 2)) (record { left_above = d_above; right_above = lt_z_yes tt; below = (lt_by ((exact_f alpha delta beta (t +ℤ pos 2)) ∷ d ∷ n ∷ m ∷ []) ((# 0 :< v1) ∷ (# 1677721600000000000000000000000 :* (v3 :+ # 1) :≤ v0) ∷ (v2 :* # 16777216 :< v1 :* v3 :+ v1) ∷ []) (v2 :* (# 1677721600000000000000000000000 :* # 16777216)) (v0 :* v1) (hyp 0 ⊕ hyp 2 ⊕ nat 1677721600000000000000000000000 ⊗ hyp 3 ⊕ hyp 1 ⊗ hyp 2) tt d_above (exact_second met.admissible met.greatest met.within) (floor_high (n *ℤ one) d_above)) });
    }
