-- Laws on fractions whose denominators are above 0: products of denominators; a distance and an order do not depend on how a fraction is written.
use mathlib.Core.Path.{◌≡◌, sym, ◌∙◌, ap}
use mathlib.Core.List.{[], ◌∷◌}
use lib.IntN.{ℤ, pos, ◌-ℤ◌, ◌*ℤ◌}
use lib.Signed.{◌<ℤ◌}
use Rattle.integers.specs.Fractions.{Fraction, whole, ◌≡ᶠ◌, ◌≤ᶠ◌, Equal, Below, Near, Distance}
use Rattle.integers.proofs.Ring.{◌:-◌, ◌:*◌, opp, ring, #, v0, v1, v2, v3, v4, v5}
use Rattle.integers.proofs.Order.{below_at_most}
use Rattle.integers.proofs.Certificate.{◌:≤◌, ◌:<◌, ◌:≡◌, hyp, tim, ◌⊕◌, ◌⊗◌, le_by, lt_by}
use Rattle.integers.proofs.Bounds.{bounded_product, bounded_by_itself, bounded_equal, bounded_cancel}

pub product_above : {a b : ℤ} → pos 0 <ℤ a → pos 0 <ℤ b → pos 0 <ℤ (a *ℤ b)
product_above {a} {b} h k = (lt_by (a ∷ b ∷ []) ((# 0 :< v0) ∷ (# 0 :< v1) ∷ []) (# 0) (v0 :* v1) (hyp 0 ⊕ hyp 1 ⊕ hyp 2 ⊕ hyp 1 ⊗ hyp 2) tt h k)

pub times_one : (z : ℤ) → z *ℤ pos 1 ≡ z
times_one z = (ring (z ∷ []) (v0 :* # 1) v0 tt)

-- a fraction that is equal, written otherwise, is as far away
pub distance_same : {limit : Fraction} {t : ℤ} {e : Fraction} (d : Fraction) → pos 0 <ℤ d.den → e ≡ᶠ d → Distance limit t e → Distance limit t d
distance_same {limit} {t} {e} d p s h = record {
  den_above = p;
  apart = bounded_cancel h.den_above (bounded_equal (expand ∙ ap (λ z. limit.den *ℤ (t *ℤ e.den *ℤ d.den -ℤ z)) s ∙ collect)
      (ring (limit.num ∷ e.den ∷ d.den ∷ []) (v0 :* v1 :* v2) (v1 :* (v0 :* v2)) tt)
      (bounded_product h.apart (bounded_by_itself (below_at_most p))));
}
  where
    expand : limit.den *ℤ (t *ℤ e.den -ℤ e.num) *ℤ d.den ≡ limit.den *ℤ (t *ℤ e.den *ℤ d.den -ℤ e.num *ℤ d.den)
    expand = (ring (limit.den ∷ t ∷ e.den ∷ e.num ∷ d.den ∷ []) (v0 :* (v1 :* v2 :- v3) :* v4) (v0 :* (v1 :* v2 :* v4 :- v3 :* v4)) tt)

    collect : limit.den *ℤ (t *ℤ e.den *ℤ d.den -ℤ d.num *ℤ e.den) ≡ e.den *ℤ (limit.den *ℤ (t *ℤ d.den -ℤ d.num))
    collect = (ring (limit.den ∷ t ∷ e.den ∷ d.num ∷ d.den ∷ []) (v0 :* (v1 :* v2 :* v4 :- v3 :* v2)) (v2 :* (v0 :* (v1 :* v4 :- v3))) tt)

-- a larger limit
pub distance_weaker : {limit more : Fraction} {t : ℤ} {e : Fraction} → pos 0 <ℤ limit.den → pos 0 <ℤ more.den → limit ≤ᶠ more → Distance limit t e → Distance more t e
distance_weaker {limit} {more} {t} {e} p q h d = record {
  den_above = d.den_above;
  apart = record {
    low = (le_by (limit.num ∷ limit.den ∷ more.num ∷ more.den ∷ e.den ∷ (t *ℤ e.den -ℤ e.num) ∷ []) ((# 0 :< v1) ∷ (# 0 :< v3) ∷ (v0 :* v3 :≤ v2 :* v1) ∷ (# 0 :< v4) ∷ (opp (v0 :* v4) :≤ v1 :* v5) ∷ []) (opp (v2 :* v4)) (v3 :* v5) (hyp 0 ⊕ hyp 1 ⊕ hyp 3 ⊕ hyp 5 ⊕ hyp 0 ⊗ hyp 1 ⊕ hyp 2 ⊗ hyp 5 ⊕ hyp 3 ⊗ hyp 4) tt p q h d.den_above d.apart.low);
    high = (le_by (limit.num ∷ limit.den ∷ more.num ∷ more.den ∷ e.den ∷ (t *ℤ e.den -ℤ e.num) ∷ []) ((# 0 :< v1) ∷ (# 0 :< v3) ∷ (v0 :* v3 :≤ v2 :* v1) ∷ (# 0 :< v4) ∷ (v1 :* v5 :≤ v0 :* v4) ∷ []) (v3 :* v5) (v2 :* v4) (hyp 0 ⊕ hyp 1 ⊕ hyp 3 ⊕ hyp 5 ⊕ hyp 0 ⊗ hyp 1 ⊕ hyp 2 ⊗ hyp 5 ⊕ hyp 3 ⊗ hyp 4) tt p q h d.den_above d.apart.high);
  };
}

-- a fraction that is the whole number t is as far from e as t is
pub near_of_distance : {limit e : Fraction} {t : ℤ} {a : Fraction} → Equal a (whole t) → Distance limit t e → Near limit a e
near_of_distance {limit} {e} {t} {a} is h = record {
  left_above = is.left_above;
  right_above = h.den_above;
  apart = bounded_equal
      ((ring (limit.den ∷ t ∷ e.den ∷ e.num ∷ a.den ∷ []) (v0 :* (v1 :* v2 :- v3) :* v4) (v0 :* (v1 :* v4 :* v2 :- v3 :* v4)) tt)
      ∙ ap (λ n. limit.den *ℤ (n *ℤ e.den -ℤ e.num *ℤ a.den)) (sym is.same ∙ times_one a.num))
      (ring (limit.num ∷ e.den ∷ a.den ∷ []) (v0 :* v1 :* v2) (v0 :* (v2 :* v1)) tt)
      (bounded_product h.apart (bounded_by_itself (below_at_most is.left_above)));
}

-- a fraction that is equal, written otherwise, is below the same fractions, and above the same
pub below_same_left : {a b c : Fraction} → Equal a b → Below b c → Below a c
below_same_left {a} {b} {c} s h = record {
  left_above = s.left_above;
  right_above = h.right_above;
  below = (lt_by (a.num ∷ a.den ∷ b.num ∷ b.den ∷ c.num ∷ c.den ∷ []) ((# 0 :< v1) ∷ (# 0 :< v3) ∷ (v0 :* v3 :≡ v2 :* v1) ∷ (v2 :* v5 :< v4 :* v3) ∷ []) (v0 :* v5) (v4 :* v1) (hyp 0 ⊕ hyp 1 ⊕ hyp 4 ⊕ hyp 0 ⊗ hyp 2 ⊕ hyp 1 ⊗ hyp 4 ⊕ tim (# 1 :* v5) 3) tt s.left_above s.right_above s.same h.below);
}

pub below_same_right : {a b c : Fraction} → Equal c b → Below a b → Below a c
below_same_right {a} {b} {c} s h = record {
  left_above = h.left_above;
  right_above = s.left_above;
  below = (lt_by (a.num ∷ a.den ∷ b.num ∷ b.den ∷ c.num ∷ c.den ∷ []) ((# 0 :< v5) ∷ (# 0 :< v3) ∷ (v4 :* v3 :≡ v2 :* v5) ∷ (v0 :* v3 :< v2 :* v1) ∷ []) (v0 :* v5) (v4 :* v1) (hyp 0 ⊕ hyp 1 ⊕ hyp 4 ⊕ hyp 0 ⊗ hyp 2 ⊕ hyp 1 ⊗ hyp 4 ⊕ tim (opp (# 1 :* v1)) 3) tt s.left_above s.right_above s.same h.below);
}
