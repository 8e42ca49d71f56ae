-- What the tests of the ranges say, as orders.
use mathlib.Core.Path.{◌≡◌, refl, sym, subst}
use mathlib.Core.Bool.{Bool, true, false, ◌&&◌}
use Prim.Native.Nat.{ℕ, ◌≤◌}
use native.Mathlib.Omega.{arith}
use lib.Dec.{T, leb}
use borrow.Author.Tests.{leb-true}
use Rattle.thermometer.specs.Ranges.{Admissible}
use Rattle.thermometer.specs.Reading.{from_to, resistance_inside, coefficients_inside}

pub both_true : (a b : Bool) → (a && b) ≡ true → (a ≡ true) × (b ≡ true)
both_true true b e = (refl, e)
both_true false b e = absurd (subst T (sym e) tt)

pub resistance_range : (r : ℕ) → resistance_inside r ≡ true → (1000 ≤ r) × (r ≤ 4000000)
resistance_range r e = let p = both_true (leb 1000 r) (leb r 4000000) e in omega (arith, leb-true)

pub coefficients_admissible : (r0 alpha delta beta : ℕ) → coefficients_inside r0 alpha delta beta ≡ true → (1000 ≤ r0) × (r0 ≤ 4000000) × Admissible alpha delta beta
coefficients_admissible r0 alpha delta beta e =
    let a = both_true (resistance_inside r0) (from_to 3000000 5000000 alpha && (leb delta 2000000 && leb beta 500000)) e in
    let r = resistance_range r0 a.0 in
    let b = both_true (from_to 3000000 5000000 alpha) (leb delta 2000000 && leb beta 500000) a.1 in
    let p = both_true (leb 3000000 alpha) (leb alpha 5000000) b.0 in
    let d = both_true (leb delta 2000000) (leb beta 500000) b.1 in
    omega (arith, leb-true)
