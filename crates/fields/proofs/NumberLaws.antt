-- The numbers in a list of bytes: their ranges, and that they depend on nothing but the bytes they stand in.
use Prim.Native.Nat.{ℕ, zero, suc, ◌+◌, ◌-◌, ◌*◌, ◌<◌, ◌≤◌}
use native.Mathlib.Nat.{add-zero, add_assoc}
use native.Mathlib.Decide.{dec_lt}
use native.Mathlib.Omega.{arith}
use mathlib.Core.Path.{◌≡◌, ap₂}
use mathlib.Core.List.{List}
use lib.Dec.{le→leb}
use lib.IntN.{pos, negsuc, neg_ℤ, ◌-ℤ◌}
use lib.Signed.{◌≤ℤ◌, le_z_yes}
use lib.ListN.{get_or}
use borrow.Author.Tests.{lt-ltb, le-ltb}
use Rattle.fields.specs.Numbers.{u16_at, u32_at, signed}

-- ---- the range of a number in bytes

module _ (s : List ℕ) (bytes : (k : ℕ) → get_or s k 0 < 256) (i : ℕ) where
  pub u16_below : u16_at s i < 65536
  u16_below = omega (arith, bytes i, bytes (i + 1))

-- ---- two lists with the same bytes have the same number there

module _ (s t : List ℕ) where
  pub u16_same : (i k : ℕ) → ((j : ℕ) → j < 2 → get_or s (i + j) 0 ≡ get_or t (k + j) 0) → u16_at s i ≡ u16_at t k
  u16_same i k same =
      let first : get_or s i 0 ≡ get_or t k 0 = simp add-zero at (same 0 (omega arith)) in
      ap₂ (λ (high low : ℕ). 256 * high + low) first (same 1 (omega arith))

  pub u32_same : (i k : ℕ) → ((j : ℕ) → j < 4 → get_or s (i + j) 0 ≡ get_or t (k + j) 0) → u32_at s i ≡ u32_at t k
  u32_same i k same =
      ap₂ (λ (high low : ℕ). 65536 * high + low)
      (u16_same i k (λ j inside. same j (omega arith)))
      (u16_same (i + 2) (k + 2) (λ j inside. simp add_assoc (same (2 + j) (omega arith))))

-- ---- two's complement

pub difference_below_zero : (a b : ℕ) → a < b → pos a -ℤ pos b ≡ negsuc (b - suc a)
difference_below_zero a zero less = absurd (omega arith)
difference_below_zero a (suc b) less = rw (lt-ltb a (suc b) less)

negated_below_pos : (half n : ℕ) → neg_ℤ (pos half) ≤ℤ pos n
negated_below_pos zero n = le_z_yes (le→leb 0 n (omega arith))
negated_below_pos (suc half) n = le_z_yes tt

negated_below_negsuc : (half m : ℕ) → m < half → neg_ℤ (pos half) ≤ℤ negsuc m
negated_below_negsuc zero m below = absurd (omega arith)
negated_below_negsuc (suc half) m below = le_z_yes (le→leb m half (omega arith))

module _ (half n : ℕ) where
  pub signed_when_low : n < half → signed half n ≡ pos n
  signed_when_low low = rw (lt-ltb n half low)

  pub signed_when_high : half ≤ n → n < half + half → signed half n ≡ negsuc (half + half - suc n)
  signed_when_high high top = rw (le-ltb n half high) (difference_below_zero n (half + half) top)

  pub signed_range : n < half + half → (neg_ℤ (pos half) ≤ℤ signed half n) × (signed half n ≤ℤ pos (half - 1))
  signed_range top = by_order (dec_lt n half)
    where
      by_order : Dec (n < half) → (neg_ℤ (pos half) ≤ℤ signed half n) × (signed half n ≤ℤ pos (half - 1))
      by_order (yes low) = rw (signed_when_low low) (negated_below_pos half n, le_z_yes (le→leb n (half - 1) (omega arith)))
      by_order (no not_low) =
          rw (signed_when_high (omega arith) top) (negated_below_negsuc half (half + half - suc n) (omega arith), le_z_yes tt)
