-- The order of ℤ (lib.Signed's): transitive, total, kept by sums and by products of numbers that are not negative.
use mathlib.Core.Path.{◌≡◌, refl, sym, ap₂, subst}
use mathlib.Core.Bool.{Bool, true, false, not}
use mathlib.Core.Logic.{◌⊎◌, inl, inr}
use Prim.Native.Nat.{suc, ◌*◌}
use native.Mathlib.Omega.{arith}
use lib.Dec.{T, le→leb, lt→ltb}
use lib.IntN.{ℤ, pos, negsuc, ◌+ℤ◌, ◌-ℤ◌, ◌*ℤ◌}
use lib.Signed.{◌≤ℤ◌, ◌<ℤ◌, le_z, lt_z, lt_z_no, lt_z_yes, ≤ℤ_refl, clash_ℤ}
use borrow.Author.Tests.{leb-false, ltb-false}
use Rattle.integers.proofs.Linear.{order, parts_equal, sum_parts, difference_parts}
use Rattle.integers.proofs.Naturals.{natural_of, natural_not_negative, not_negative_is}

pub at_most_equal : {a b : ℤ} → a ≡ b → a ≤ℤ b
at_most_equal {a} e = subst (λ z. a ≤ℤ z) e (≤ℤ_refl a)

pub at_most_trans : {a b c : ℤ} → a ≤ℤ b → b ≤ℤ c → a ≤ℤ c
at_most_trans {a} {b} {c} h k = omega (arith, order)

pub below_trans : {a b c : ℤ} → a <ℤ b → b <ℤ c → a <ℤ c
below_trans {a} {b} {c} h k = omega (arith, order)

pub at_most_antisym : {a b : ℤ} → a ≤ℤ b → b ≤ℤ a → a ≡ b
at_most_antisym {a} {b} h k = parts_equal a b (omega (arith, order))

pub below_at_most : {a b : ℤ} → a <ℤ b → a ≤ℤ b
below_at_most {a} {b} h = omega (arith, order)

-- of two numbers one is at most the other, or above it
pub at_most_or_above : (a b : ℤ) → (a ≤ℤ b) ⊎ (b <ℤ a)
at_most_or_above a b = go (lt_z b a) (λ t. lt_z_no t) (λ t. lt_z_yes t)
  where
    go : (c : Bool) → (T (not c) → a ≤ℤ b) → (T c → b <ℤ a) → (a ≤ℤ b) ⊎ (b <ℤ a)
    go true f g = inr (g tt)
    go false f g = inl (f tt)

-- ---- not negative
pub sum_not_negative : {a b : ℤ} → pos 0 ≤ℤ a → pos 0 ≤ℤ b → pos 0 ≤ℤ (a +ℤ b)
sum_not_negative {a} {b} h k = omega (arith, order, sum_parts a b)

pub product_not_negative : {a b : ℤ} → pos 0 ≤ℤ a → pos 0 ≤ℤ b → pos 0 ≤ℤ (a *ℤ b)
product_not_negative h k = let m = natural_of h in let n = natural_of k in not_negative_is (m.0 * n.0) (ap₂ ◌*ℤ◌ m.1 n.1)

pub square_not_negative : (a : ℤ) → pos 0 ≤ℤ (a *ℤ a)
square_not_negative (pos n) = natural_not_negative (n * n)
square_not_negative (negsuc n) = natural_not_negative (suc n * suc n)

-- ---- an order and its gap
pub gap : {a b : ℤ} → a ≤ℤ b → pos 0 ≤ℤ (b -ℤ a)
gap {a} {b} h = omega (arith, order, difference_parts b a)

pub strict_gap : {a b : ℤ} → a <ℤ b → pos 0 ≤ℤ (b -ℤ a -ℤ pos 1)
strict_gap {a} {b} h = omega (arith, order, difference_parts b a, difference_parts (b -ℤ a) (pos 1))

-- ---- what a test of two numbers leaves
pub le_z_true : {x y : ℤ} → le_z x y ≡ true → x ≤ℤ y
le_z_true h = record { le = subst T (sym h) tt }

pub lt_z_true : {x y : ℤ} → lt_z x y ≡ true → x <ℤ y
lt_z_true h = record { lt = subst T (sym h) tt }

pub le_z_false : {x y : ℤ} → le_z x y ≡ false → y <ℤ x
le_z_false {x = pos a} {y = pos b} h = record { lt = lt→ltb b a (leb-false a b h) }
le_z_false {x = pos a} {y = negsuc b} h = record { lt = tt }
le_z_false {x = negsuc a} {y = pos b} h = absurd (subst T h tt)
le_z_false {x = negsuc a} {y = negsuc b} h = record { lt = lt→ltb a b (leb-false b a h) }

pub lt_z_false : {x y : ℤ} → lt_z x y ≡ false → y ≤ℤ x
lt_z_false {x = pos a} {y = pos b} h = record { le = le→leb b a (ltb-false a b h) }
lt_z_false {x = pos a} {y = negsuc b} h = record { le = tt }
lt_z_false {x = negsuc a} {y = pos b} h = absurd (subst T h tt)
lt_z_false {x = negsuc a} {y = negsuc b} h = record { le = le→leb a b (ltb-false b a h) }

holds_true : (b : Bool) → T b → b ≡ true
holds_true true t = refl
holds_true false t = absurd t

pub at_most_test : {x y : ℤ} → x ≤ℤ y → le_z x y ≡ true
at_most_test {x} {y} h = holds_true (le_z x y) h.le

pub below_test : {x y : ℤ} → x <ℤ y → lt_z x y ≡ true
below_test {x} {y} h = holds_true (lt_z x y) h.lt

pub test_fails : (b : Bool) → (b ≡ true → ⊥) → b ≡ false
test_fails true f = absurd (f refl)
test_fails false f = refl

pub at_most_fails : {x y : ℤ} → x ≤ℤ y → lt_z y x ≡ false
at_most_fails {x} {y} h = test_fails (lt_z y x) (λ t. clash_ℤ (lt_z_true t) h)
