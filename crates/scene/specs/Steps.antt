-- What the functions on the way to a scene give. A reader of the promises can leave this out: `scene_of` does not cite it.
use Rattle.std.specs.Prelude.{ℕ, ◌-◌, ◌*◌, ◌/◌, ◌%◌, Bool, ◌||◌, cond, ltb, ℤ, pos, neg_ℤ, nat_abs, ◌+ℤ◌, ◌-ℤ◌, ◌*ℤ◌, ◌≤ℤ◌, ◌≡◌}
use Rattle.std.specs.Int.Signed.{lt_z}
use Rattle.integers.specs.Rounding.{floor, r}
use Rattle.integers.specs.Bounds.{Bounded}
use Rattle.scene.specs.declared.Constants.{Constants}
use Rattle.scene.specs.declared.Scale.{Scale}
use Rattle.scene.specs.Temperature.{temperature}
use Rattle.scene.specs.Scene.{numerator}

-- 2^63 / D, cut off; the greatest rest of 2^32 that 33 times the rise does not fill; the greatest N with 4N at most 5D; 4 TNL;
-- Tc - 2^20; and 2D
abbrev pub scale_of : Constants → Scale
scale_of k = record { inverse = 9223372036854775808 / nat_abs k.d; edge = 4294967294 - 33 * nat_abs k.rise; top = floor (pos 5 *ℤ k.d) (pos 4); curve = pos 4 *ℤ k.tnl; start = k.tc -ℤ pos 1048576; twice = pos 2 *ℤ k.d }

-- N / D is from w to w + 33, in 2^32ths
pub record Bracket (n d : ℤ) (w : ℕ) : Type 0 where
  pub low : (pos w *ℤ d) ≤ℤ (pos 4294967296 *ℤ n)
  pub high : (pos 4294967296 *ℤ n) ≤ℤ ((pos w +ℤ pos 33) *ℤ d)

-- a rest of 2^16 that 33 more would fill, or one of 2^32 beyond the edge
abbrev pub unsure_of : (x linear edge : ℕ) → Bool
unsure_of x linear edge = ltb 65501 (x % 65536) || ltb edge (linear % 4294967296)

-- ---- the scan bias of a position as two numbers: the factor 65,536 + e and the offset 65,536 (c0 + 32,768) + 32,767, which has
-- one less than the half of the rounding
abbrev pub e_of : ℕ → ℤ
e_of factor = pos factor -ℤ pos 65536

abbrev pub c0_of : ℕ → ℤ
c0_of offset = pos (offset / 65536) -ℤ pos 32768

pub record BiasNumbers (factor offset : ℕ) : Type 0 where
  pub e : Bounded (e_of factor) (pos 32768)
  pub c0 : Bounded (c0_of offset) (pos 4096)
  pub below_half : offset % 65536 ≡ 32767

-- r(X(65,536 - X) × 4 TNL, 2^32), where the curve is 4 TNL
abbrev pub bend_of : (X curve : ℤ) → ℤ
bend_of x curve = r (x *ℤ (pos 65536 -ℤ x) *ℤ curve) (pos 4294967296)

-- T of a count; where N is negative a number below every wanted T, and where 4N exceeds 5D one above every wanted T
unfoldable pub placed : Constants → ℕ → ℤ
placed k count =
    let n = numerator k count in
    cond (lt_z n (pos 0)) (neg_ℤ (pos 1)) (cond (lt_z (pos 5 *ℤ k.d) (pos 4 *ℤ n)) (pos 4294967296) (temperature k.tc k.rise k.tnl k.d n))
