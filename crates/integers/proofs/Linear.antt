-- The linear reading: z is `plus z` - `minus z`, two naturals of which one is 0, and `omega` reads naturals.
-- `omega (arith, order, sum_parts x y)` proves an order of ℤ from orders of ℤ and what the operations do to the parts.
use mathlib.Core.Path.{◌≡◌, refl, ap}
use Prim.Native.Nat.{ℕ, zero, suc, ◌+◌, ◌-◌, ◌≤◌, ◌<◌}
use native.Mathlib.Decide.{dec_lt}
use native.Mathlib.Omega.{arith}
use lib.Dec.{leb→le, le→leb, ltb→lt, lt→ltb}
use lib.IntN.{ℤ, pos, negsuc, neg_ℤ, nat_abs, sub_ℕ, ◌+ℤ◌, ◌-ℤ◌}
use lib.Signed.{◌≤ℤ◌, ◌<ℤ◌}
use borrow.Author.Tests.{lt-ltb, le-ltb}

abbrev pub plus : ℤ → ℕ
plus (pos n) = n
plus (negsuc n) = 0

abbrev pub minus : ℤ → ℕ
minus (pos n) = 0
minus (negsuc n) = suc n

-- ---- a difference of two naturals
pub difference_from : (a b : ℕ) → b ≤ a → sub_ℕ a b ≡ pos (a - b)
difference_from a b h = simp (le-ltb a b h)

pub difference_below : (a b : ℕ) → a < b → sub_ℕ a b ≡ negsuc (b - suc a)
difference_below a b h = simp (lt-ltb a b h)

natural_difference_parts : (a b : ℕ) → plus (sub_ℕ a b) + b ≡ a + minus (sub_ℕ a b)
natural_difference_parts a b = go (dec_lt a b)
  where
    go : Dec (a < b) → plus (sub_ℕ a b) + b ≡ a + minus (sub_ℕ a b)
    go (yes h) = rw (difference_below a b h) (omega arith)
    go (no h) = rw (difference_from a b (omega arith)) (omega arith)

-- ---- what the operations do to the parts
pub sum_parts : (x y : ℤ) → plus (x +ℤ y) + (minus x + minus y) ≡ plus x + plus y + minus (x +ℤ y)
sum_parts (pos a) (pos b) = omega arith
sum_parts (pos a) (negsuc b) = omega (arith, natural_difference_parts a (suc b))
sum_parts (negsuc a) (pos b) = omega (arith, natural_difference_parts b (suc a))
sum_parts (negsuc a) (negsuc b) = omega arith

pub plus_neg : (x : ℤ) → plus (neg_ℤ x) ≡ minus x
plus_neg (pos zero) = refl
plus_neg (pos (suc n)) = refl
plus_neg (negsuc n) = refl

pub minus_neg : (x : ℤ) → minus (neg_ℤ x) ≡ plus x
minus_neg (pos zero) = refl
minus_neg (pos (suc n)) = refl
minus_neg (negsuc n) = refl

pub difference_parts : (x y : ℤ) → plus (x -ℤ y) + (minus x + plus y) ≡ plus x + minus y + minus (x -ℤ y)
difference_parts x y = omega (arith, sum_parts x (neg_ℤ y), plus_neg y, minus_neg y)

-- ---- the order and equality by parts
pub at_most_parts : {x y : ℤ} → x ≤ℤ y → plus x + minus y ≤ plus y + minus x
at_most_parts {x = pos a} {y = pos b} h = omega (arith, leb→le a b h.le)
at_most_parts {x = pos a} {y = negsuc b} h = absurd h.le
at_most_parts {x = negsuc a} {y = pos b} h = omega arith
at_most_parts {x = negsuc a} {y = negsuc b} h = omega (arith, leb→le b a h.le)

pub parts_at_most : {x y : ℤ} → plus x + minus y ≤ plus y + minus x → x ≤ℤ y
parts_at_most {x = pos a} {y = pos b} h = record { le = le→leb a b (omega arith) }
parts_at_most {x = pos a} {y = negsuc b} h = absurd (omega arith)
parts_at_most {x = negsuc a} {y = pos b} h = record { le = tt }
parts_at_most {x = negsuc a} {y = negsuc b} h = record { le = le→leb b a (omega arith) }

pub below_parts : {x y : ℤ} → x <ℤ y → plus x + minus y < plus y + minus x
below_parts {x = pos a} {y = pos b} h = omega (arith, ltb→lt a b h.lt)
below_parts {x = pos a} {y = negsuc b} h = absurd h.lt
below_parts {x = negsuc a} {y = pos b} h = omega arith
below_parts {x = negsuc a} {y = negsuc b} h = omega (arith, ltb→lt b a h.lt)

pub parts_below : {x y : ℤ} → plus x + minus y < plus y + minus x → x <ℤ y
parts_below {x = pos a} {y = pos b} h = record { lt = lt→ltb a b (omega arith) }
parts_below {x = pos a} {y = negsuc b} h = absurd (omega arith)
parts_below {x = negsuc a} {y = pos b} h = record { lt = tt }
parts_below {x = negsuc a} {y = negsuc b} h = record { lt = lt→ltb b a (omega arith) }

pub parts_equal : (x y : ℤ) → plus x + minus y ≡ plus y + minus x → x ≡ y
parts_equal (pos a) (pos b) h = ap pos (omega arith)
parts_equal (pos a) (negsuc b) h = absurd (omega arith)
parts_equal (negsuc a) (pos b) h = absurd (omega arith)
parts_equal (negsuc a) (negsuc b) h = ap negsuc (omega arith)

pub ruleset order = (at_most_parts, below_parts, parts_at_most, parts_below)

pub size_parts : (x : ℤ) → nat_abs x ≡ plus x + minus x
size_parts (pos a) = omega arith
size_parts (negsuc a) = omega arith
