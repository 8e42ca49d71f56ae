-- The f32 of a temperature: for t from 1 to 16,777,215 it is t / 4096 itself, it is the product that the code forms, 4096 times it is t
-- again, its bits give it back and are no mark's, and its order is that of t. No scene is NaN.
use Prim.Native.Nat.{ℕ, zero, suc, ◌+◌, ◌-◌, ◌*◌, ◌/◌, ◌%◌, ◌^◌, ◌<◌, ◌≤◌, compare}
use native.Mathlib.Nat.{mul-one, mul_assoc, lt_of_lt_of_le, mul_right_comm, mul-lt-mul_of_pos_right, mul-le-mul_right, mul-pos}
use native.Mathlib.Omega.{arith}
use mathlib.Core.Path.{◌≡◌, refl, sym, ap, ◌∙◌, subst}
use mathlib.Core.Bool.{Bool, true, false, not, cond, false≢true}
use lib.Dec.{T, ltb, lit<, lit≤}
use borrow.Author.Tests.{lt-ltb, le-ltb, ltb-true, ltb-false}
use lib.IntN.{ℤ, pos, negsuc, nat_abs}
use lib.Signed.{lt_z_yes}
use lib.Pow.{shl_lt}
use lib.Ieee.{Float, Format, nan, inf, fin, binary32, round, units as roundedUnits, odd, low, emax, prec, size, nearest, mul, div, of_int, of_bits, to_bits, is_nan, fits, up, down, lt, below}
use lib.Ieee.Fits.{round-fits, down_pos}
use lib.Ieee.Bits.{of_bits-to_bits}
use lib.Ieee.Exact.{HasValue, round_exact}
use lib.Ieee.Back.{round_whole}
use lib.Ieee.Positive.{positive_of_value, mul_at}
use Rattle.integers.specs.Fractions.{whole, Equal}
use Rattle.integers.proofs.Fractions.{times_one}
use Rattle.integers.proofs.Naturals.{natural_below}
use Rattle.scene.specs.declared.Scene.{Scene}
use Rattle.scene.specs.declared.Scene.TheVariants.{Kelvin, Flagged, Outside, Guard}
use Rattle.scene.specs.declared.Constants.{Constants}
use Rattle.scene.specs.Temperature.{outside, temperature, guard_fails}
use Rattle.scene.specs.Scene.{kelvin, value, bits, units_of, numerator, scene_of}

-- ---- as the code forms it
abbrev unit : Float
unit = fin false 1 (negsuc 11)

module _ (t : ℕ) (low : 1 ≤ t) (high : t ≤ 16777215) where
  below_2^24 : t < 2 ^ 24
  below_2^24 = omega arith

  pub kelvin_exact : HasValue (kelvin t) false t 4096
  unfolding kelvin
  kelvin_exact = round_exact binary32 false t 4096 t 137 (lit< tt) below_2^24 (lt_of_lt_of_le (shl_lt 24 137 below_2^24) (lit≤ tt)) (sym (mul_assoc t (2 ^ 137) 4096))

  cast_exact : HasValue (of_int binary32 (pos t)) false t 1
  unfolding of_int
  cast_exact = round_whole binary32 false t (omega arith)

  -- with the two literals as their bits
  pub product_is_kelvin : mul binary32 (of_int binary32 (pos t)) (div binary32 (of_bits binary32 1065353216) (of_bits binary32 1166016512)) ≡ kelvin t
  unfolding kelvin div of_bits
  product_is_kelvin =
      mul_at binary32 (of_int binary32 (pos t)) unit t 1 1 4096 (positive_of_value (of_int binary32 (pos t)) t 1 cast_exact low) tt (lit< tt) (lit< tt) cast_exact (refl, refl)
      ∙ ap (λ n. round binary32 false n 4096) (mul-one t)

-- ---- 4096 times it is t again
value_units : (x : Float) (t : ℕ) → HasValue x false t 4096 → Equal (units_of x) (whole (pos t))
value_units nan t h = absurd h
value_units (inf s) t h = absurd h
value_units (fin true m e) t h = absurd (false≢true (sym h.0))
value_units (fin false m e) t h = record { left_above = natural_below (down_pos e); right_above = lt_z_yes tt; same = times_one _ ∙ ap pos h.1 }

pub units_of_kelvin : (t : ℕ) → 1 ≤ t → t ≤ 16777215 → Equal (units_of (kelvin t)) (whole (pos t))
units_of_kelvin t low high = value_units (kelvin t) t (kelvin_exact t low high)

-- ---- bits and back
pub kelvin_fits : (t : ℕ) → T (fits binary32 (kelvin t))
unfolding kelvin
kelvin_fits t = round-fits binary32 false t 4096

pub kelvin_bits_back : (t : ℕ) → of_bits binary32 (to_bits binary32 (kelvin t)) ≡ kelvin t
kelvin_bits_back t = of_bits-to_bits binary32 (kelvin t) (kelvin_fits t)

-- ---- a temperature's bits are no mark's: no negative float has them
value_not_negative : (x : Float) (t : ℕ) {m : ℕ} {e : ℤ} → HasValue x false t 4096 → x ≡ fin true m e → ⊥
value_not_negative x t h q = subst T (subst (λ y. HasValue y false t 4096) q h).0 tt

pub kelvin_bits_not_negative : (t m : ℕ) (e : ℤ) → 1 ≤ t → t ≤ 16777215 → T (fits binary32 (fin true m e)) → to_bits binary32 (kelvin t) ≡ to_bits binary32 (fin true m e) → ⊥
kelvin_bits_not_negative t m e low high f q =
    value_not_negative (kelvin t) t (kelvin_exact t low high) (sym (kelvin_bits_back t) ∙ ap (of_bits binary32) q ∙ of_bits-to_bits binary32 (fin true m e) f)

module _ (t : ℕ) (low : 1 ≤ t) (high : t ≤ 16777215) where
  pub kelvin_bits_not_flagged : bits (Kelvin (kelvin t)) ≡ bits Flagged → ⊥
  unfolding bits fits
  kelvin_bits_not_flagged = kelvin_bits_not_negative t 1 (pos 0) low high tt

  pub kelvin_bits_not_outside : bits (Kelvin (kelvin t)) ≡ bits Outside → ⊥
  unfolding bits fits
  kelvin_bits_not_outside = kelvin_bits_not_negative t 1 (pos 1) low high tt

  pub kelvin_bits_not_guard : bits (Kelvin (kelvin t)) ≡ bits Guard → ⊥
  unfolding bits fits
  kelvin_bits_not_guard = kelvin_bits_not_negative t 3 (pos 0) low high tt

-- ---- the order of two is that of their numbers of units
scale_by : (p q k : ℕ) → 0 < k → (b : Bool) → ltb p q ≡ b → ltb (p * k) (q * k) ≡ b
scale_by p q k h true e = lt-ltb (p * k) (q * k) (mul-lt-mul_of_pos_right (ltb-true p q e) h)
scale_by p q k h false e = le-ltb (p * k) (q * k) (mul-le-mul_right k (ltb-false p q e))

test_scaled : (p q k : ℕ) → 0 < k → ltb (p * k) (q * k) ≡ ltb p q
test_scaled p q k h = scale_by p q k h (ltb p q) refl

-- x / c = a / 4096 and y / d = b / 4096, multiplied out
test_multiplied_out : (x y c d a b : ℕ) → 0 < c → 0 < d → x * 4096 ≡ a * c → y * 4096 ≡ b * d → ltb (x * d) (y * c) ≡ ltb a b
test_multiplied_out x y c d a b hc hd p q =
    let left : x * d * 4096 ≡ a * (c * d) = mul_right_comm x d 4096 ∙ ap (λ z. z * d) p ∙ mul_assoc a c d in
    let right : y * c * 4096 ≡ b * (c * d) = mul_right_comm y c 4096 ∙ ap (λ z. z * c) q ∙ mul_right_comm b d c ∙ mul_assoc b c d in
    sym (test_scaled (x * d) (y * c) 4096 (lit< tt)) ∙ ap (λ z. ltb z (y * c * 4096)) left ∙ ap (ltb (a * (c * d))) right ∙ test_scaled a b (c * d) (mul-pos hc hd)

value_order : (x y : Float) (a b : ℕ) → HasValue x false a 4096 → HasValue y false b 4096 → lt x y ≡ ltb a b
unfolding lt
value_order nan y a b h k = absurd h
value_order (inf s) y a b h k = absurd h
value_order (fin s m e) nan a b h k = absurd k
value_order (fin s m e) (inf t) a b h k = absurd k
value_order (fin s m e) (fin t n d) a b h k =
    ap (λ u. below u (m * up e * down d) t (n * up d * down e)) h.0
    ∙ ap (λ u. below false (m * up e * down d) u (n * up d * down e)) k.0
    ∙ test_multiplied_out (m * up e) (n * up d) (down e) (down d) a b (down_pos e) (down_pos d) h.1 k.1

pub kelvin_order : (a b : ℕ) → 1 ≤ a → a ≤ 16777215 → 1 ≤ b → b ≤ 16777215 → lt (kelvin a) (kelvin b) ≡ ltb a b
kelvin_order a b la ha lb hb = value_order (kelvin a) (kelvin b) a b (kelvin_exact a la ha) (kelvin_exact b lb hb)

-- ---- no rounding, so no temperature and no scene, is NaN
odd_not_nan : (d : ℕ) (s : Bool) (q k l : ℕ) → T (not (is_nan (odd d s q k l)))
unfolding odd is_nan
odd_not_nan d s zero k l = tt
odd_not_nan d s (suc q) k l = tt

either_not_nan : (b : Bool) (x : Float) (s : Bool) → T (not (is_nan x)) → T (not (is_nan (cond b x (inf s))))
unfolding is_nan
either_not_nan true x s h = h
either_not_nan false x s h = tt

units_not_nan : (f : Format) (s : Bool) (q k : ℕ) → T (not (is_nan (roundedUnits f s q k)))
unfolding roundedUnits
units_not_nan f s q k = either_not_nan (ltb (q * 2 ^ k) (2 ^ (low f + suc (emax f)))) (odd (suc (prec f)) s q k (low f)) s (odd_not_nan (suc (prec f)) s q k (low f))

round_not_nan : (f : Format) (s : Bool) (num den : ℕ) → T (not (is_nan (round f s num den)))
unfolding round
round_not_nan f s num den =
    let n = num * 2 ^ low f in
    let k = size (n / den) - prec f in
    let u = den * 2 ^ k in
    units_not_nan f s (nearest (n / u) (compare (n % u * 2) u)) k

pub kelvin_not_nan : (t : ℕ) → T (not (is_nan (kelvin t)))
unfolding kelvin
kelvin_not_nan t = round_not_nan binary32 false t 4096

-- what holds of both marks and of every temperature holds of each scene in a channel with flag 0
pub scene_cases : (P : Scene → Type 0) → P Outside → P Guard → ((t : ℕ) → P (Kelvin (kelvin t))) → (deliver : ℤ → ℤ) (k : Constants) (count : ℕ) → P (scene_of deliver k count)
unfolding scene_of
scene_cases P a b f deliver k count = by_tests_lem (outside n k.d) (guard_fails t) (nat_abs (deliver t))
  where
    n : ℤ
    n = numerator k count

    t : ℤ
    t = temperature k.tc k.rise k.tnl k.d n

    by_tests_lem : (o g : Bool) (t : ℕ) → P (cond o Outside (cond g Guard (Kelvin (kelvin t))))
    by_tests_lem true g t = a
    by_tests_lem false true t = b
    by_tests_lem false false t = f t

pub scene_not_nan : (deliver : ℤ → ℤ) (k : Constants) (count : ℕ) → T (not (is_nan (value (scene_of deliver k count))))
unfolding is_nan
scene_not_nan = scene_cases (λ s. T (not (is_nan (value s)))) tt tt kelvin_not_nan

pub flagged_not_nan : T (not (is_nan (value Flagged)))
unfolding is_nan
flagged_not_nan = tt
