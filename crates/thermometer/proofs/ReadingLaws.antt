-- What one thermometer gives, case by case: document 01's number of the first test that applies, and the answer where none does. Where
-- it gives a t, that is the greatest with F(t) at most M, and in the range.
use mathlib.Core.Path.{◌≡◌, refl, subst}
use mathlib.Core.Bool.{true, false, ◌&&◌}
use Prim.Native.Nat.{ℕ, ◌≤◌, ◌<◌}
use native.Mathlib.Omega.{arith}
use lib.IntN.{ℤ, pos, ◌-ℤ◌}
use lib.Signed.{◌≤ℤ◌, ◌<ℤ◌}
use borrow.Author.Tests.{not-false, leb-false, le-leb, lt-leb, lt-ltb, le-ltb}
use Rattle.lists.specs.Tests.{Verdict, passes, fails, first_that_applies}
use Rattle.lists.proofs.Tests.{none_applies}
use Rattle.integers.proofs.Linear.{order, difference_parts}
use Rattle.integers.proofs.Naturals.{natural_below}
use Rattle.integers.proofs.Order.{lt_z_false, below_test, at_most_fails}
use Rattle.thermometer.specs.Rule.{M, F, answer, lowest_units, highest_units, InRange, Greatest}
use Rattle.thermometer.specs.Reading.{units, not_read, resistance_inside, coefficients_inside, tests, result_by, reading}
use Rattle.thermometer.specs.Ranges.{Admissible}
use Rattle.thermometer.proofs.Ranges.{both_true, coefficients_admissible}
use Rattle.thermometer.proofs.Answer.{answer_greatest}

-- ---- the result from the tests
module _ (r_pam r0 alpha delta beta pam offset count : ℕ) where
  pub reading_coefficient_outside : (resistance_inside r_pam && coefficients_inside r0 alpha delta beta) ≡ false → reading r_pam r0 alpha delta beta pam offset count ≡ not_read 8
  unfolding reading
  reading_coefficient_outside outside = rw outside

  module _ (inside : (resistance_inside r_pam && coefficients_inside r0 alpha delta beta) ≡ true) where
    pub reading_pam_not_above : pam ≤ offset → reading r_pam r0 alpha delta beta pam offset count ≡ not_read 9
    unfolding reading
    reading_pam_not_above below = rw (inside, le-leb pam offset below)

    module _ (above : offset < pam) where
      pub reading_count_below : count < offset → reading r_pam r0 alpha delta beta pam offset count ≡ not_read 10
      unfolding reading
      reading_count_below below = rw (inside, lt-leb pam offset above, lt-ltb count offset below)

      module _ (counted : offset ≤ count) where
        pub reading_ratio_below : M r_pam r0 pam offset count <ℤ F alpha delta beta lowest_units → reading r_pam r0 alpha delta beta pam offset count ≡ not_read 10
        unfolding reading
        reading_ratio_below below = rw (inside, lt-leb pam offset above, le-ltb count offset counted, below_test below)

        module _ (reached : F alpha delta beta lowest_units ≤ℤ M r_pam r0 pam offset count) where
          pub reading_ratio_above : F alpha delta beta highest_units <ℤ M r_pam r0 pam offset count → reading r_pam r0 alpha delta beta pam offset count ≡ not_read 10
          unfolding reading
          reading_ratio_above beyond = rw (inside, lt-leb pam offset above, le-ltb count offset counted, at_most_fails reached, below_test beyond)

          pub reading_units : M r_pam r0 pam offset count ≤ℤ F alpha delta beta highest_units → reading r_pam r0 alpha delta beta pam offset count ≡ units (answer alpha delta beta (M r_pam r0 pam offset count))
          unfolding reading
          reading_units within = rw (inside, lt-leb pam offset above, le-ltb count offset counted, at_most_fails reached, at_most_fails within)

-- ---- a result that is a t: no test applied, and the t is the answer
passed_with_units : (verdict : Verdict) (a : ℤ) {t : ℤ} → result_by verdict a ≡ units t → (verdict ≡ passes) × (a ≡ t)
passed_with_units passes a e = (refl, cc)
passed_with_units (fails n) a e = let clash : ◌≡◌ {A = ℕ} 0 1 = cc in absurd (omega arith)

-- what an answered t has met
pub record Answered (r0 alpha delta beta pam offset : ℕ) (m t : ℤ) : Type 0 where
  pub r0_above : pos 0 <ℤ pos r0
  pub admissible : Admissible alpha delta beta
  pub pam_above : pos 0 <ℤ (pos pam -ℤ pos offset)
  pub greatest : Greatest alpha delta beta m t
  pub within : m ≤ℤ F alpha delta beta highest_units

pub reading_units_answered : (r_pam r0 alpha delta beta pam offset count : ℕ) {t : ℤ} → reading r_pam r0 alpha delta beta pam offset count ≡ units t → Answered r0 alpha delta beta pam offset (M r_pam r0 pam offset count) t
unfolding reading
reading_units_answered r_pam r0 alpha delta beta pam offset count {t} e =
    let m = M r_pam r0 pam offset count in
    let met = tests r_pam r0 alpha delta beta pam offset count in
    let passed = passed_with_units (first_that_applies met) (answer alpha delta beta m) e in
    let none = none_applies met passed.0 in
    let coefficients = coefficients_admissible r0 alpha delta beta (both_true (resistance_inside r_pam) (coefficients_inside r0 alpha delta beta) (not-false (resistance_inside r_pam && coefficients_inside r0 alpha delta beta) none.0)).1 in
    let above : offset < pam = leb-false pam offset none.1.0 in
    record {
      r0_above = natural_below (omega (arith, coefficients.0));
      admissible = coefficients.2;
      pam_above = omega (arith, order, difference_parts (pos pam) (pos offset));
      greatest = subst (Greatest alpha delta beta m) passed.1 (answer_greatest alpha delta beta m (lt_z_false none.1.1.1.0));
      within = lt_z_false none.1.1.1.1.0;
    }

pub reading_units_greatest : (r_pam r0 alpha delta beta pam offset count : ℕ) {t : ℤ} → reading r_pam r0 alpha delta beta pam offset count ≡ units t → Greatest alpha delta beta (M r_pam r0 pam offset count) t
reading_units_greatest r_pam r0 alpha delta beta pam offset count e = (reading_units_answered r_pam r0 alpha delta beta pam offset count e).greatest

pub reading_units_in_range : (r_pam r0 alpha delta beta pam offset count : ℕ) {t : ℤ} → reading r_pam r0 alpha delta beta pam offset count ≡ units t → InRange t
reading_units_in_range r_pam r0 alpha delta beta pam offset count e = (reading_units_greatest r_pam r0 alpha delta beta pam offset count e).inside
