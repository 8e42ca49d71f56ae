-- Which whole numbers are even. The size of a number is the sum of its two parts, `plus` and `minus`, and `omega` reads those.
use mathlib.Core.Path.{◌≡◌, subst}
use mathlib.Core.Bool.{true, false}
use mathlib.Core.List.{[], ◌∷◌}
use Prim.Native.Nat.{◌%◌}
use native.Mathlib.Omega.{arith}
use lib.IntN.{ℤ, pos, nat_abs, ◌+ℤ◌, ◌-ℤ◌, ◌*ℤ◌}
use borrow.Author.Tests.{eqb-true, eqb-false, eq-eqb}
use Rattle.integers.specs.Rounding.{is_even}
use Rattle.integers.proofs.Ring.{◌:+◌, ◌:*◌, ring, #, v0}
use Rattle.integers.proofs.Linear.{size_parts, sum_parts, difference_parts}

module _ (n : ℤ) where
  pub one_after_even : is_even n ≡ true → is_even (n +ℤ pos 1) ≡ true → ⊥
  one_after_even h k = omega (arith, size_parts n, size_parts (n +ℤ pos 1), sum_parts n (pos 1), eqb-true (nat_abs n % 2) 0 h, eqb-true (nat_abs (n +ℤ pos 1) % 2) 0 k)

  pub after_odd : is_even n ≡ false → is_even (n +ℤ pos 1) ≡ true
  after_odd h =
      let odd : nat_abs n % 2 ≡ 1 = omega (arith, eqb-false (nat_abs n % 2) 0 h) in
      eq-eqb (nat_abs (n +ℤ pos 1) % 2) 0 (omega (arith, size_parts n, size_parts (n +ℤ pos 1), sum_parts n (pos 1)))

  pub before_odd : is_even n ≡ false → is_even (n -ℤ pos 1) ≡ true
  before_odd h =
      let odd : nat_abs n % 2 ≡ 1 = omega (arith, eqb-false (nat_abs n % 2) 0 h) in
      eq-eqb (nat_abs (n -ℤ pos 1) % 2) 0 (omega (arith, size_parts n, size_parts (n -ℤ pos 1), difference_parts n (pos 1)))

  -- an even number more
  pub even_more : (k : ℤ) → is_even n ≡ true → is_even (n +ℤ pos 2 *ℤ k) ≡ true
  even_more k h =
      subst (λ z. is_even (n +ℤ z) ≡ true) (ring (k ∷ []) (v0 :+ v0) (# 2 :* v0) tt)
      (eq-eqb (nat_abs (n +ℤ (k +ℤ k)) % 2) 0 (omega (arith, size_parts n, size_parts (n +ℤ (k +ℤ k)), sum_parts n (k +ℤ k), sum_parts k k, eqb-true (nat_abs n % 2) 0 h)))
