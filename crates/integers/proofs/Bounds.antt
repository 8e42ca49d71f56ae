-- Absolute bounds: `Bounded x m` says -m ≤ x ≤ m. Sums, products, weakening, a factor above 0 cancelled.
use mathlib.Core.Path.{◌≡◌, subst₂}
use mathlib.Core.List.{[], ◌∷◌}
use Prim.Native.Nat.{ℕ, ◌≤◌}
use native.Mathlib.Omega.{arith}
use lib.IntN.{ℤ, pos, negsuc, neg_ℤ, nat_abs, ◌+ℤ◌, ◌-ℤ◌, ◌*ℤ◌}
use lib.Signed.{◌≤ℤ◌, ◌<ℤ◌, ≤ℤ_refl}
use Rattle.integers.specs.Bounds.{Bounded}
use Rattle.integers.proofs.Ring.{◌:+◌, ◌:*◌, opp, #, v0, v1, v2, v3}
use Rattle.integers.proofs.Linear.{order, plus_neg, minus_neg}
use Rattle.integers.proofs.Naturals.{natural_not_negative, natural_at_most}
use Rattle.integers.proofs.Certificate.{◌:≤◌, ◌:<◌, hyp, nat, ◌⊕◌, ◌⊗◌, le_by}

pub bounded_sum : {x y m n : ℤ} → Bounded x m → Bounded y n → Bounded (x +ℤ y) (m +ℤ n)
bounded_sum {x} {y} {m} {n} h k = record {
  low = (le_by (x ∷ y ∷ m ∷ n ∷ []) ((opp v2 :≤ v0) ∷ (opp v3 :≤ v1) ∷ []) (opp (v2 :+ v3)) (v0 :+ v1) (hyp 0 ⊕ hyp 1 ⊕ hyp 2) tt h.low k.low);
  high = (le_by (x ∷ y ∷ m ∷ n ∷ []) ((v0 :≤ v2) ∷ (v1 :≤ v3) ∷ []) (v0 :+ v1) (v2 :+ v3) (hyp 0 ⊕ hyp 1 ⊕ hyp 2) tt h.high k.high);
}

pub bounded_neg : {x m : ℤ} → Bounded x m → Bounded (neg_ℤ x) m
bounded_neg {x} {m} h = record {
  low = (le_by (x ∷ m ∷ []) ((v0 :≤ v1) ∷ []) (opp v1) (opp v0) (hyp 0 ⊕ hyp 1) tt h.high);
  high = (le_by (x ∷ m ∷ []) ((opp v1 :≤ v0) ∷ []) (opp v0) v1 (hyp 0 ⊕ hyp 1) tt h.low);
}

pub bounded_difference : {x y m n : ℤ} → Bounded x m → Bounded y n → Bounded (x -ℤ y) (m +ℤ n)
bounded_difference h k = bounded_sum h (bounded_neg k)

pub bounded_product : {x y m n : ℤ} → Bounded x m → Bounded y n → Bounded (x *ℤ y) (m *ℤ n)
bounded_product {x} {y} {m} {n} h k = record {
  low = (le_by (x ∷ y ∷ m ∷ n ∷ []) ((opp v2 :≤ v0) ∷ (v0 :≤ v2) ∷ (opp v3 :≤ v1) ∷ (v1 :≤ v3) ∷ []) (opp (v2 :* v3)) (v0 :* v1) (nat 2 ⊗ hyp 0 ⊕ hyp 1 ⊗ hyp 3 ⊕ hyp 2 ⊗ hyp 4) tt h.low h.high k.low k.high);
  high = (le_by (x ∷ y ∷ m ∷ n ∷ []) ((opp v2 :≤ v0) ∷ (v0 :≤ v2) ∷ (opp v3 :≤ v1) ∷ (v1 :≤ v3) ∷ []) (v0 :* v1) (v2 :* v3) (nat 2 ⊗ hyp 0 ⊕ hyp 1 ⊗ hyp 4 ⊕ hyp 2 ⊗ hyp 3) tt h.low h.high k.low k.high);
}

pub bounded_weaker : {x m n : ℤ} → Bounded x m → m ≤ℤ n → Bounded x n
bounded_weaker {x} {m} {n} h k = record {
  low = (le_by (x ∷ m ∷ n ∷ []) ((opp v1 :≤ v0) ∷ (v1 :≤ v2) ∷ []) (opp v2) v0 (hyp 0 ⊕ hyp 1 ⊕ hyp 2) tt h.low k);
  high = (le_by (x ∷ m ∷ n ∷ []) ((v0 :≤ v1) ∷ (v1 :≤ v2) ∷ []) v0 v2 (hyp 0 ⊕ hyp 1 ⊕ hyp 2) tt h.high k);
}

pub bounded_equal : {x y m n : ℤ} → x ≡ y → m ≡ n → Bounded x m → Bounded y n
bounded_equal p q h = subst₂ Bounded p q h

-- from 0 to m
pub bounded_not_negative : {x m : ℤ} → pos 0 ≤ℤ x → x ≤ℤ m → Bounded x m
bounded_not_negative {x} {m} h k = record {
  low = (le_by (x ∷ m ∷ []) ((# 0 :≤ v0) ∷ (v0 :≤ v1) ∷ []) (opp v1) v0 (hyp 0 ⊕ nat 2 ⊗ hyp 1 ⊕ hyp 2) tt h k);
  high = k;
}

pub bounded_by_itself : {x : ℤ} → pos 0 ≤ℤ x → Bounded x x
bounded_by_itself h = bounded_not_negative h (≤ℤ_refl _)

pub number_bounded : (n : ℕ) → Bounded (pos n) (pos n)
number_bounded n = bounded_by_itself (natural_not_negative n)

pub bounded_cancel : {k x m : ℤ} → pos 0 <ℤ k → Bounded (k *ℤ x) (k *ℤ m) → Bounded x m
bounded_cancel {k} {x} {m} p h = record {
  low = (le_by (k ∷ x ∷ m ∷ []) ((# 0 :< v0) ∷ (opp (v0 :* v2) :≤ v0 :* v1) ∷ []) (opp v2) v1 (hyp 0 ⊕ hyp 1 ⊕ hyp 2 ⊕ hyp 0 ⊗ hyp 1) tt p h.low);
  high = (le_by (k ∷ x ∷ m ∷ []) ((# 0 :< v0) ∷ (v0 :* v1 :≤ v0 :* v2) ∷ []) v1 v2 (hyp 0 ⊕ hyp 1 ⊕ hyp 2 ⊕ hyp 0 ⊗ hyp 1) tt p h.high);
}

-- ---- a bound that is a natural, as one on the size, which `omega` reads
pub bounded_size : {x : ℤ} {m : ℕ} → Bounded x (pos m) → nat_abs x ≤ m
bounded_size {x = pos n} {m} h = omega (arith, order, h.high)
bounded_size {x = negsuc n} {m} h = omega (arith, order, h.low, plus_neg (pos m), minus_neg (pos m))

pub natural_bounded : {n m : ℕ} → n ≤ m → Bounded (pos n) (pos m)
natural_bounded h = bounded_not_negative (natural_not_negative _) (natural_at_most h)
