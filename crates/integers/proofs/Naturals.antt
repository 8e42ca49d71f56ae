-- Bridges to ℕ. Sums and products of `pos m` and `pos n` compute to `pos (m + n)` and `pos (m * n)`, so an order or an equation on
-- naturals is shown on ℤ, by `le_by` or `ring`, and carried over by these.
use mathlib.Core.Path.{◌≡◌, refl, sym, subst}
use Prim.Native.Nat.{ℕ, ◌-◌, ◌≤◌, ◌<◌}
use native.Mathlib.Omega.{arith}
use lib.Dec.{leb→le, le→leb, ltb→lt, lt→ltb}
use lib.IntN.{ℤ, pos, negsuc, ◌-ℤ◌}
use lib.Signed.{◌≤ℤ◌, ◌<ℤ◌}
use Rattle.integers.proofs.Linear.{parts_equal, difference_parts}

pub natural_at_most : {m n : ℕ} → m ≤ n → pos m ≤ℤ pos n
natural_at_most {m} {n} h = record { le = le→leb m n h }

pub at_most_natural : {m n : ℕ} → pos m ≤ℤ pos n → m ≤ n
at_most_natural {m} {n} h = leb→le m n h.le

pub natural_below : {m n : ℕ} → m < n → pos m <ℤ pos n
natural_below {m} {n} h = record { lt = lt→ltb m n h }

pub natural_not_negative : (n : ℕ) → pos 0 ≤ℤ pos n
natural_not_negative n = natural_at_most (omega arith)

-- a number that is not negative is a natural
pub natural_of : {z : ℤ} → pos 0 ≤ℤ z → (n : ℕ) × (z ≡ pos n)
natural_of {z = pos n} h = (n, refl)
natural_of {z = negsuc n} h = absurd h.le

-- a number above 0 is a natural above 0
pub natural_above : {z : ℤ} → pos 0 <ℤ z → (n : ℕ) × (z ≡ pos n) × (0 < n)
natural_above {z = pos n} h = (n, refl, ltb→lt 0 n h.lt)
natural_above {z = negsuc n} h = absurd h.lt

pub not_negative_is : {z : ℤ} (n : ℕ) → z ≡ pos n → pos 0 ≤ℤ z
not_negative_is n e = subst (λ z. pos 0 ≤ℤ z) (sym e) (natural_not_negative n)

-- the difference of two naturals, the second not above the first, is a natural
pub natural_difference : {a b : ℕ} → b ≤ a → pos a -ℤ pos b ≡ pos (a - b)
natural_difference {a} {b} h = parts_equal (pos a -ℤ pos b) (pos (a - b)) (omega (arith, difference_parts (pos a) (pos b)))
