-- Document 01, "One thermometer".
use Rattle.std.specs.Prelude.{ℕ, List, [], ◌∷◌, Bool, not, ◌&&◌, leb, ltb, ℤ, Ok, Err}
use Rattle.std.specs.Prelude.{Result as Answered}
use Rattle.std.specs.Int.Signed.{lt_z}
use Rattle.lists.specs.Tests.{Verdict, passes, fails, Test, ◌when◌, first_that_applies}
use Rattle.thermometer.specs.declared.Refusal.{Refusal}
use Rattle.thermometer.specs.declared.Refusal.TheVariants.{CoefficientOutside, PamNotAboveOffset, RatioOutside}
use Rattle.thermometer.specs.Rule.{M, F, answer, lowest_units, highest_units}

-- what One thermometer gives: t in units of °C, or the number of its refusal
pub data Result : Type 0 where
  units : ℤ → Result
  not_read : ℕ → Result

-- the number of a result; 0, which is no refusal of document 01, beside a t
abbrev pub number : Result → ℕ
number (units t) = 0
number (not_read n) = n

-- document 01's number and value for each case of the code's answer
abbrev pub refusal_number : Refusal → ℕ
refusal_number CoefficientOutside = 8
refusal_number PamNotAboveOffset = 9
refusal_number RatioOutside = 10

abbrev pub result_of : Answered ℤ Refusal → Result
result_of (Ok t) = units t
result_of (Err refusal) = not_read (refusal_number refusal)

-- ---- the ranges of R_PAM and R0 and of the coefficients (document 01, "The table")
abbrev pub from_to : ℕ → ℕ → ℕ → Bool
from_to low high x = leb low x && leb x high

abbrev pub resistance_inside : ℕ → Bool
resistance_inside r = from_to 1000 4000000 r

abbrev pub coefficients_inside : (r0 alpha delta beta : ℕ) → Bool
coefficients_inside r0 alpha delta beta = resistance_inside r0 && (from_to 3000000 5000000 alpha && (leb delta 2000000 && leb beta 500000))

-- 8 if R_PAM or a coefficient is outside, 9 if PAM isn't above offset, 10 if the count is below offset, M below F(-245,760) or M above
-- F(245,760)
abbrev pub tests : (r_pam r0 alpha delta beta pam offset count : ℕ) → List Test
tests r_pam r0 alpha delta beta pam offset count =
    let m = M r_pam r0 pam offset count in
    (8 when not (resistance_inside r_pam && coefficients_inside r0 alpha delta beta))
    ∷ (9 when leb pam offset)
    ∷ (10 when ltb count offset) ∷ (10 when lt_z m (F alpha delta beta lowest_units)) ∷ (10 when lt_z (F alpha delta beta highest_units) m) ∷ []

-- the answer where no test applies, and else the number alone
abbrev pub result_by : Verdict → ℤ → Result
result_by passes t = units t
result_by (fails n) t = not_read n

unfoldable pub reading : (r_pam r0 alpha delta beta pam offset count : ℕ) → Result
reading r_pam r0 alpha delta beta pam offset count =
    result_by (first_that_applies (tests r_pam r0 alpha delta beta pam offset count)) (answer alpha delta beta (M r_pam r0 pam offset count))
