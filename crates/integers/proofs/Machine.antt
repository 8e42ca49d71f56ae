-- Bridges to the machine's i64, and to every signed width where that costs nothing. The check writes a signed value x as its bits,
-- `of_z w64 x`, and reads bits n as `to_z w64 n`.
use mathlib.Core.Path.{◌≡◌}
use Prim.Native.Nat.{ℕ, ◌≤◌, ◌<◌, ◌^◌}
use native.Mathlib.Nat.{lt_of_le_of_lt}
use native.Mathlib.Omega.{arith}
use lib.IntN.{ℤ, pos, negsuc, nat_abs}
use lib.Dec.{T, leb→le, le→leb}
use lib.Signed.{◌≤ℤ◌, non_neg, mag, mag_shr}
use mir.Syntax.{Width, w64}
use mir.Val.{hbits, Fits, SFits, to_z, of_z}
use mir.ValLaws.{to_z-of_z, to_z_pos}
use Rattle.integers.specs.Rounding.{floor}
use Rattle.integers.specs.Bounds.{Bounded}
use Rattle.integers.proofs.Bounds.{bounded_size}

-- ---- which numbers fit
pub small_fits : {w : Width} (x : ℤ) → nat_abs x < 2 ^ hbits w → SFits w x
small_fits (pos n) h = record { sfits = h }
small_fits (negsuc n) h = record { sfits = omega arith }

pub bounded_fits : {w : Width} {x : ℤ} {m : ℕ} → Bounded x (pos m) → m < 2 ^ hbits w → SFits w x
bounded_fits {x = x} h k = small_fits x (lt_of_le_of_lt (bounded_size h) k)

least_to_greatest : (x : ℤ) → negsuc 9223372036854775807 ≤ℤ x → x ≤ℤ pos 9223372036854775807 → mag x < 9223372036854775808
least_to_greatest (pos n) h k = omega (arith, leb→le n 9223372036854775807 k.le)
least_to_greatest (negsuc n) h k = omega (arith, leb→le n 9223372036854775807 h.le)

pub range_fits : {x : ℤ} → negsuc 9223372036854775807 ≤ℤ x → x ≤ℤ pos 9223372036854775807 → SFits w64 x
range_fits {x} h k = record { sfits = least_to_greatest x h k }

-- ---- the ends of an i64
pub fits_low : {x : ℤ} → SFits w64 x → negsuc 9223372036854775807 ≤ℤ x
fits_low {x = pos n} h = record { le = tt }
fits_low {x = negsuc n} h = record { le = le→leb n 9223372036854775807 (omega (arith, h.sfits)) }

pub fits_high : {x : ℤ} → SFits w64 x → x ≤ℤ pos 9223372036854775807
fits_high {x = pos n} h = record { le = le→leb n 9223372036854775807 (omega (arith, h.sfits)) }
fits_high {x = negsuc n} h = record { le = tt }

-- ---- a value that fits is read back as itself
pub reads_back : {w : Width} {x : ℤ} → SFits w x → to_z w (of_z w x) ≡ x
reads_back {w} {x} h = to_z-of_z w x h

-- the result of a call, by its `.ok`
pub result_reads_back : (x : ℤ) → mag x < 9223372036854775808 → to_z w64 (of_z w64 x) ≡ x
result_reads_back x h = to_z-of_z w64 x (record { sfits = h })

-- an unsigned number, cast
pub natural_reads_back : (n : ℕ) → n < 9223372036854775808 → to_z w64 n ≡ pos n
natural_reads_back n h = to_z_pos w64 n h

-- ---- a number that is not negative, cast to an unsigned one
pub unsigned_fits : {x : ℤ} → pos 0 ≤ℤ x → SFits w64 x → T (non_neg x) × Fits w64 (nat_abs x)
unsigned_fits {x = pos n} h f = (tt, record { fits = omega (arith, f.sfits) })
unsigned_fits {x = negsuc n} h f = absurd h.le

-- ---- the floor
floor_size : (a b : ℤ) → mag (floor a b) ≤ mag a
unfolding floor
floor_size (pos n) b = mag_shr (pos n) (nat_abs b)
floor_size (negsuc n) b = mag_shr (negsuc n) (nat_abs b)

pub floor_fits : {a : ℤ} (b : ℤ) → SFits w64 a → SFits w64 (floor a b)
floor_fits {a} b f = record { sfits = lt_of_le_of_lt (floor_size a b) f.sfits }
