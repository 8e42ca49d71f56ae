-- A number's places are the fewest digits that hold it, which are the digits that `io::decimal` writes.
use Prim.Native.Nat.{ℕ, zero, suc, ◌+◌, ◌-◌, ◌^◌, ◌<◌, ◌≤◌}
use native.Mathlib.Decide.{dec_lt, dec_le}
use native.Mathlib.Nat.{le_trans, lt_of_lt_of_le, pow-le-pow_right, pow-suc}
use native.Mathlib.Omega.{arith}
use mathlib.Core.Path.{◌≡◌, sym, ap, ◌∙◌}
use lib.Dec.{leb}
use borrow.Author.Tests.{le-leb, lt-leb}
use Rattle.io.specs.Digits.{last_digits, IsDigitCount}
use Rattle.lists.proofs.Count.{count_of_first}
use Rattle.lines.specs.Lines.{places, decimal}

below_power : (k : ℕ) → k < 10 ^ k
below_power zero = omega arith
below_power (suc k) = rw (pow-suc 10 k) (omega (arith, below_power k))

module _ (n r : ℕ) (fewest : IsDigitCount 10 1 n r) where
  few_reached : Dec (1 < r) → r - 1 ≤ n
  few_reached (yes more) = omega (arith, below_power (r - 1), fewest.2 more)
  few_reached (no one) = omega (arith, fewest.0)

  reached : (k : ℕ) → k < r - 1 → 10 ^ (k + 1) ≤ n
  reached k below =
      let powers : 10 ^ (k + 1) ≤ 10 ^ (r - 1) = pow-le-pow_right (omega arith) (omega arith) in
      le_trans powers (fewest.2 (omega arith))

  not_reached : (k : ℕ) → r - 1 ≤ k → n < 10 ^ (k + 1)
  not_reached k past =
      let powers : 10 ^ r ≤ 10 ^ (k + 1) = pow-le-pow_right (omega arith) (omega arith) in
      lt_of_lt_of_le fewest.1 powers

  pub places_are_fewest : places n ≡ r
  unfolding places
  places_are_fewest =
      let counted = count_of_first (λ k. leb (10 ^ (k + 1)) n) (r - 1) n (few_reached (dec_lt 1 r))
      (λ k below. le-leb (10 ^ (k + 1)) n (reached k below))
      (λ k past below. lt-leb (10 ^ (k + 1)) n (not_reached k past)) in
      ap (λ (m : ℕ). 1 + m) counted ∙ omega (arith, fewest.0)

  pub digits_are_decimal : last_digits 10 r n ≡ decimal n
  unfolding decimal
  digits_are_decimal = ap (λ (k : ℕ). last_digits 10 k n) (sym places_are_fewest)

  -- a number of 32 bits
  pub ten_digits : n < 4294967296 → r ≤ 10
  ten_digits small = by_order (dec_le r 10)
    where
      by_order : Dec (r ≤ 10) → r ≤ 10
      by_order (yes few) = few
      by_order (no many) =
          let power : 10 ^ 10 ≤ 10 ^ (r - 1) = pow-le-pow_right (omega arith) {i = 10} {j = r - 1} (omega arith) in
          absurd (omega (arith, power, fewest.2 (omega arith)))
