-- The floor of a / b, b above 0, is the one whole number q with b q ≤ a < b q + b; Euclid's quotient is it.
use mathlib.Core.Path.{◌≡◌, refl, sym, subst}
use mathlib.Core.List.{[], ◌∷◌}
use Prim.Native.Nat.{ℕ, suc, ◌*◌, ◌/◌, ◌<◌}
use native.Mathlib.Omega.{arith}
use native.Mathlib.Nat.{div-add-mod, mod-lt}
use lib.IntN.{ℤ, pos, negsuc, neg_ℤ, ◌+ℤ◌, ◌-ℤ◌, ◌*ℤ◌}
use lib.Signed.{◌≤ℤ◌, ◌<ℤ◌}
use Rattle.std.specs.Int.{int_div_euclid}
use Rattle.integers.specs.Rounding.{floor}
use Rattle.integers.specs.Bounds.{Bounded}
use Rattle.integers.proofs.Ring.{◌:+◌, ◌:-◌, ◌:*◌, opp, #, v0, v1, v2, v3, v4, v5}
use Rattle.integers.proofs.Linear.{order, sum_parts, plus_neg, minus_neg}
use Rattle.integers.proofs.Naturals.{natural_above}
use Rattle.integers.proofs.Order.{at_most_trans, at_most_antisym}
use Rattle.integers.proofs.Certificate.{◌:≤◌, ◌:<◌, hyp, ◌⊕◌, ◌⊗◌, le_by, lt_by}

natural_floor_low : (a : ℤ) (m : ℕ) → 0 < m → (pos m *ℤ floor a (pos m)) ≤ℤ a
unfolding floor
natural_floor_low (pos n) m h = omega (arith, order, div-add-mod n m)
natural_floor_low (negsuc n) m h = omega (arith, order, div-add-mod n m, mod-lt n h, plus_neg (pos (m * suc (n / m))), minus_neg (pos (m * suc (n / m))))

natural_floor_high : (a : ℤ) (m : ℕ) → 0 < m → a <ℤ (pos m *ℤ floor a (pos m) +ℤ pos m)
unfolding floor
natural_floor_high (pos n) m h = omega (arith, order, div-add-mod n m, mod-lt n h)
natural_floor_high (negsuc n) m h = omega (arith, order, div-add-mod n m, plus_neg (pos (m * suc (n / m))), minus_neg (pos (m * suc (n / m))), sum_parts (neg_ℤ (pos (m * suc (n / m)))) (pos m))

pub floor_low : (a : ℤ) {b : ℤ} → pos 0 <ℤ b → (b *ℤ floor a b) ≤ℤ a
floor_low a h = let m = natural_above h in subst (λ z. (z *ℤ floor a z) ≤ℤ a) (sym m.1) (natural_floor_low a m.0 m.2)

pub floor_high : (a : ℤ) {b : ℤ} → pos 0 <ℤ b → a <ℤ (b *ℤ floor a b +ℤ b)
floor_high a h = let m = natural_above h in subst (λ z. a <ℤ (z *ℤ floor a z +ℤ z)) (sym m.1) (natural_floor_high a m.0 m.2)

-- two numbers that both meet the bounds are equal
same_floor : {a b q f : ℤ} → pos 0 <ℤ b → (b *ℤ q) ≤ℤ a → a <ℤ (b *ℤ f +ℤ b) → q ≤ℤ f
same_floor {a} {b} {q} {f} p h k = (le_by (q ∷ f ∷ a ∷ b ∷ []) ((# 0 :< v3) ∷ (v3 :* v0 :≤ v2) ∷ (v2 :< v3 :* v1 :+ v3) ∷ []) v0 v1 (hyp 0 ⊕ hyp 2 ⊕ hyp 3 ⊕ hyp 0 ⊗ hyp 1) tt p h k)

pub floor_unique : {a b q : ℤ} → pos 0 <ℤ b → (b *ℤ q) ≤ℤ a → a <ℤ (b *ℤ q +ℤ b) → q ≡ floor a b
floor_unique {a} p h k = at_most_antisym (same_floor p h (floor_high a p)) (same_floor p (floor_low a p) k)

-- the floor of a / b stays between whole numbers that a / b is between
pub floor_bounded : (a : ℤ) {b n : ℤ} → pos 0 <ℤ b → Bounded a (n *ℤ b) → Bounded (floor a b) n
floor_bounded a {b} {n} p h = record {
  low = (le_by (a ∷ b ∷ n ∷ (floor a b) ∷ []) ((# 0 :< v1) ∷ (v0 :< v1 :* v3 :+ v1) ∷ (opp (v2 :* v1) :≤ v0) ∷ []) (opp v2) v3 (hyp 0 ⊕ hyp 2 ⊕ hyp 3 ⊕ hyp 0 ⊗ hyp 1) tt p (floor_high a p) h.low);
  high = (le_by (a ∷ b ∷ n ∷ (floor a b) ∷ []) ((# 0 :< v1) ∷ (v1 :* v3 :≤ v0) ∷ (v0 :≤ v2 :* v1) ∷ []) v3 v2 (hyp 0 ⊕ hyp 1 ⊕ hyp 2 ⊕ hyp 3 ⊕ hyp 0 ⊗ hyp 1) tt p (floor_low a p) h.high);
}

-- a floor keeps an order; `floor_rise` has the same with a distance
pub floor_order : (a c : ℤ) {b : ℤ} → pos 0 <ℤ b → a ≤ℤ c → floor a b ≤ℤ floor c b
floor_order a c p h = same_floor p (at_most_trans (floor_low a p) h) (floor_high c p)

pub floor_not_negative : (a : ℤ) {b : ℤ} → pos 0 <ℤ b → pos 0 ≤ℤ a → pos 0 ≤ℤ floor a b
floor_not_negative a {b} p h = (le_by (a ∷ b ∷ (floor a b) ∷ []) ((# 0 :< v1) ∷ (# 0 :≤ v0) ∷ (v0 :< v1 :* v2 :+ v1) ∷ []) (# 0) v2 (hyp 0 ⊕ hyp 2 ⊕ hyp 3 ⊕ hyp 0 ⊗ hyp 1) tt p h (floor_high a p))

-- where a number rises by at most n times the divisor, its floor rises by at most n; n may be below 0
pub floor_rise : (n from to : ℤ) {b : ℤ} → pos 0 <ℤ b → to ≤ℤ (from +ℤ n *ℤ b) → floor to b ≤ℤ (floor from b +ℤ n)
floor_rise n from to {b} above step =
    (le_by (from ∷ to ∷ b ∷ n ∷ (floor from b) ∷ (floor to b) ∷ []) ((# 0 :< v2) ∷ (v1 :≤ v0 :+ v3 :* v2) ∷ (v0 :< v2 :* v4 :+ v2) ∷ (v2 :* v5 :≤ v1) ∷ []) v5 (v4 :+ v3) (hyp 0 ⊕ hyp 2 ⊕ hyp 3 ⊕ hyp 4 ⊕ hyp 0 ⊗ hyp 1) tt above step (floor_high from above) (floor_low to above))

-- ---- Euclid's division
pub quotient_is_floor : (a : ℤ) {b : ℤ} → pos 0 <ℤ b → int_div_euclid a b ≡ floor a b
unfolding floor
quotient_is_floor (pos n) {b = pos m} p = refl
quotient_is_floor (negsuc n) {b = pos m} p = refl
quotient_is_floor a {b = negsuc m} p = absurd p.lt

module _ (a : ℤ) {b : ℤ} (p : pos 0 <ℤ b) where
  -- what the floor leaves of a is from 0 to b - 1
  pub rest_low : pos 0 ≤ℤ (a -ℤ b *ℤ floor a b)
  rest_low = (le_by (a ∷ b ∷ (floor a b) ∷ []) ((v1 :* v2 :≤ v0) ∷ []) (# 0) (v0 :- v1 :* v2) (hyp 0 ⊕ hyp 1) tt (floor_low a p))

  pub rest_high : (a -ℤ b *ℤ floor a b) <ℤ b
  rest_high = (lt_by (a ∷ b ∷ (floor a b) ∷ []) ((v0 :< v1 :* v2 :+ v1) ∷ []) (v0 :- v1 :* v2) v1 (hyp 0 ⊕ hyp 1) tt (floor_high a p))
