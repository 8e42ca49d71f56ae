-- Rows that show what the equation and the bracket say. At 0 °C the ratio is 1, at 100 °C alpha alone counts, and at -100 °C delta and beta count too.
-- A t itself won't do for t - 1 of the bracket, nor t + 1 for t + 2; and both ends of the range are answered, so that t - 1 and t + 2 do lie
-- outside it.
use Prim.Native.Nat.{ℕ}
use native.Mathlib.Omega.{arith}
use mathlib.Core.Path.{◌≡◌, refl, ap}
use mathlib.Core.List.{[], ◌∷◌}
use lib.IntN.{ℤ, pos, neg_ℤ, ◌+ℤ◌, ◌*ℤ◌}
use lib.Signed.{le_z_yes, lt_z_yes}
use Rattle.integers.proofs.Ring.{◌:+◌, ◌:-◌, ◌:*◌, opp, ring, #, v0, v1, v2}
use Rattle.integers.proofs.EqualFractions.{same_trans}
use Rattle.integers.specs.Rounding.{floor}
use Rattle.integers.specs.Fractions.{Fraction, ◌/ᶠ◌, whole, ◌+ᶠ◌, ◌-ᶠ◌, ◌*ᶠ◌, Equal, Below}
use Rattle.thermometer.specs.Rule.{M, q, s1, y, w, h, s2, F, lowest_units, highest_units, units_at_place}
use Rattle.thermometer.specs.Reading.{Result, units, reading}
use Rattle.thermometer.specs.Equations.{measured_ratio, equation_ratio}
use Rattle.thermometer.proofs.Answer.{answer_is}
use Rattle.thermometer.proofs.EquationNear.{exact_f, equation_is}
use Rattle.thermometer.proofs.Bench.{answer_at_place}

-- ---- the equation
module _ (alpha delta beta : ℕ) where
  pub at_0 : Equal (equation_ratio alpha delta beta (pos 0)) (whole (pos 1))
  unfolding exact_f q
  at_0 = same_trans (equation_is alpha delta beta (pos 0)) (record { left_above = lt_z_yes tt; right_above = lt_z_yes tt; same = (ring ((pos alpha) ∷ (pos delta) ∷ []) ((# 1677721600000000000000000000000 :* # 16777216 :+ v0 :* (# 26843545600000000000000 :* (# 256 :* # 0) :- # 167772160000 :* (v1 :* (# 0 :* (# 0 :- # 409600))) :- # 0 :* (# 0 :* (# 0 :- # 409600) :* (# 0 :* # 0)))) :* # 1) (# 1 :* (# 1677721600000000000000000000000 :* # 16777216)) tt) })

  -- 1 + 100 alpha
  pub at_100 : Equal (equation_ratio alpha delta beta (pos 409600)) (whole (pos 1) +ᶠ whole (pos 100) *ᶠ pos alpha /ᶠ pos 1000000000)
  unfolding exact_f q
  at_100 = same_trans (equation_is alpha delta beta (pos 409600)) (record { left_above = lt_z_yes tt; right_above = lt_z_yes tt; same = (ring ((pos alpha) ∷ (pos delta) ∷ []) ((# 1677721600000000000000000000000 :* # 16777216 :+ v0 :* (# 26843545600000000000000 :* (# 256 :* # 409600) :- # 167772160000 :* (v1 :* (# 409600 :* (# 409600 :- # 409600))) :- # 0 :* (# 409600 :* (# 409600 :- # 409600) :* (# 409600 :* # 409600)))) :* # 1000000000) ((# 1 :* # 1000000000 :+ # 100 :* v0 :* # 1) :* (# 1677721600000000000000000000000 :* # 16777216)) tt) })

  -- 1 - alpha (100 + 2 delta + 2 beta)
  pub at_minus_100 : Equal (equation_ratio alpha delta beta (neg_ℤ (pos 409600)))
      (whole (pos 1) -ᶠ pos alpha /ᶠ pos 1000000000 *ᶠ (whole (pos 100) +ᶠ (pos 2 *ℤ pos delta +ℤ pos 2 *ℤ pos beta) /ᶠ pos 1000000))
  unfolding exact_f q
  at_minus_100 = same_trans (equation_is alpha delta beta (neg_ℤ (pos 409600))) (record { left_above = lt_z_yes tt; right_above = lt_z_yes tt; same = (ring ((pos alpha) ∷ (pos delta) ∷ (pos beta) ∷ []) ((# 1677721600000000000000000000000 :* # 16777216 :+ v0 :* (# 26843545600000000000000 :* (# 256 :* opp (# 409600)) :- # 167772160000 :* (v1 :* (opp (# 409600) :* (opp (# 409600) :- # 409600))) :- v2 :* (opp (# 409600) :* (opp (# 409600) :- # 409600) :* (opp (# 409600) :* opp (# 409600))))) :* # 1000000000000000) ((# 1 :* # 1000000000000000 :- v0 :* (# 100 :* # 1000000 :+ (# 2 :* v1 :+ # 2 :* v2) :* # 1) :* # 1) :* (# 1677721600000000000000000000000 :* # 16777216)) tt) })

-- ---- the bench's thermometer: offset 0, all R 2,000,000
-- what it reads at a PAM count and a count, and its two ratios
abbrev reading_of : (pam count : ℕ) → Result
reading_of pam count = reading 2000000 2000000 3850000 1500000 0 pam 0 count

abbrev measured_of : (pam count : ℕ) → Fraction
measured_of pam count = measured_ratio 2000000 2000000 pam 0 count

abbrev equation_at : ℤ → Fraction
equation_at t = equation_ratio 3850000 1500000 0 t

abbrev FAt : ℤ → ℤ
FAt t = F 3850000 1500000 0 t

-- ---- t won't do for t - 1: the equation at the answered t is above the measured ratio
F_at_place_38307 : FAt (units_at_place 38307) ≡ pos 13431839
unfolding F s1 s2 h w y q floor
F_at_place_38307 = refl

F_at_place_38308 : FAt (units_at_place 38308) ≡ pos 13431855
unfolding F s1 s2 h w y q floor
F_at_place_38308 = refl

pub reads_minus_207453 : reading_of 20000 16012 ≡ units (neg_ℤ (pos 207453))
unfolding reading M F s1 s2 h w y q floor
reads_minus_207453 = ap units (answer_at_place 38307 (pos 13431839) (omega arith) F_at_place_38307 F_at_place_38308 (le_z_yes tt) (lt_z_yes tt))

pub above_at_t : Below (measured_of 20000 16012) (equation_at (neg_ℤ (pos 207453)))
unfolding equation_ratio
above_at_t = record { left_above = lt_z_yes tt; right_above = lt_z_yes tt; below = lt_z_yes tt }

-- ---- t + 1 won't do for t + 2: the equation there is not above the measured ratio
F_at_place_151840 : FAt (units_at_place 151840) ≡ pos 15268824
unfolding F s1 s2 h w y q floor
F_at_place_151840 = refl

F_at_place_151841 : FAt (units_at_place 151841) ≡ pos 15268841
unfolding F s1 s2 h w y q floor
F_at_place_151841 = refl

pub reads_minus_93920 : reading_of 65535 59643 ≡ units (neg_ℤ (pos 93920))
unfolding reading M F s1 s2 h w y q floor
reads_minus_93920 = ap units (answer_at_place 151840 (pos 15268840) (omega arith) F_at_place_151840 F_at_place_151841 (le_z_yes tt) (lt_z_yes tt))

pub below_at_next : Below (equation_at (neg_ℤ (pos 93919))) (measured_of 65535 59643)
unfolding equation_ratio
below_at_next = record { left_above = lt_z_yes tt; right_above = lt_z_yes tt; below = lt_z_yes tt }

-- ---- the ends of the range are answered
F_at_place_0 : FAt (units_at_place 0) ≡ pos 12808666
unfolding F s1 s2 h w y q floor
F_at_place_0 = refl

F_at_place_1 : FAt (units_at_place 1) ≡ pos 12808682
unfolding F s1 s2 h w y q floor
F_at_place_1 = refl

pub reads_lowest : reading_of 30041 22935 ≡ units lowest_units
unfolding reading M F s1 s2 h w y q floor
reads_lowest = ap units (answer_at_place 0 (pos 12808676) (omega arith) F_at_place_0 F_at_place_1 (le_z_yes tt) (lt_z_yes tt))

pub reads_highest : reading_of 30402 37467 ≡ units highest_units
unfolding reading M F s1 s2 h w y q floor
reads_highest = ap units (answer_is 3850000 1500000 0 (pos 20676006) {k = 491520} (omega arith) (le_z_yes tt) (λ j inside also. inside))
