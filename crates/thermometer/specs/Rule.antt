-- Document 01, "Thermometer rule (equations 18, 19)", with s2 as request W2 has it. Every division is a floor; t is in units of °C. The
-- letters are document 01's.
use Rattle.std.specs.Prelude.{ℕ, zero, suc, Bool, cond, ℤ, pos, neg_ℤ, ◌+ℤ◌, ◌-ℤ◌, ◌*ℤ◌, ◌≤ℤ◌}
use Rattle.std.specs.Int.Signed.{le_z, lt_z}
use Rattle.integers.specs.Rounding.{floor}

-- 2^24, at which a ratio of resistances counts as 1
abbrev pub one : ℤ
one = pos 16777216

-- M = floor(R_PAM × (count - offset) × 2^24 / ((PAM - offset) × R0))
unfoldable pub M : (r_pam r0 pam offset count : ℕ) → ℤ
M r_pam r0 pam offset count = floor (pos r_pam *ℤ (pos count -ℤ pos offset) *ℤ one) ((pos pam -ℤ pos offset) *ℤ pos r0)

-- q = t(t - 409,600)
unfoldable pub q : ℤ → ℤ
q t = t *ℤ (t -ℤ pos 409600)

-- s1 = delta × q / 160,000,000,000
unfoldable pub s1 : ℕ → ℤ → ℤ
s1 delta t = floor (pos delta *ℤ q t) (pos 160000000000)

-- y = q / 10,000
unfoldable pub y : ℤ → ℤ
y t = floor (q t) (pos 10000)

-- w = t² / 10,000
unfoldable pub w : ℤ → ℤ
w t = floor (t *ℤ t) (pos 10000)

-- h = y × w / 2^24
unfoldable pub h : ℤ → ℤ
h t = floor (y t *ℤ w t) one

-- s2 = beta × h / 16,000,000 for t below 0, and 0 for t at or above 0
unfoldable pub s2 : ℕ → ℤ → ℤ
s2 beta t = cond (lt_z t (pos 0)) (floor (pos beta *ℤ h t) (pos 16000000)) (pos 0)

-- F(t) = 2^24 + alpha × (256t - s1 - s2) / 62,500,000
unfoldable pub F : (alpha delta beta : ℕ) → ℤ → ℤ
F alpha delta beta t = one +ℤ floor (pos alpha *ℤ (pos 256 *ℤ t -ℤ s1 delta t -ℤ s2 beta t)) (pos 62500000)

-- ---- the answer: the greatest t in -245,760..245,760 with F(t) at most M
abbrev pub lowest_units : ℤ
lowest_units = neg_ℤ (pos 245760)

abbrev pub highest_units : ℤ
highest_units = pos 245760

-- the t at place k of that range; the last place is 491,520
abbrev pub units_at_place : ℕ → ℤ
units_at_place k = pos k -ℤ pos 245760

-- the greatest k from 0 to n at which the test holds, and 0 where it holds at none
unfoldable pub greatest : (ℕ → Bool) → ℕ → ℕ
greatest holds zero = zero
greatest holds (suc n) = cond (holds (suc n)) (suc n) (greatest holds n)

unfoldable pub answer : (alpha delta beta : ℕ) → ℤ → ℤ
answer alpha delta beta m = units_at_place (greatest (λ k. le_z (F alpha delta beta (units_at_place k)) m) 491520)

-- ---- the same in words, which the law `answer_greatest` shows of `answer` wherever M is not below F(-245,760)
pub record InRange (t : ℤ) : Type 0 where
  pub low : lowest_units ≤ℤ t
  pub high : t ≤ℤ highest_units

pub record Greatest (alpha delta beta : ℕ) (m t : ℤ) : Type 0 where
  pub inside : InRange t
  pub reached : F alpha delta beta t ≤ℤ m
  pub most : (u : ℤ) → InRange u → F alpha delta beta u ≤ℤ m → u ≤ℤ t
