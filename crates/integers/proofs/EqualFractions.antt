-- Equality of fractions whose denominators are above 0: transitive, and kept by sums, differences, products, and quotients by what is above 0.
use mathlib.Core.Path.{refl, ◌∙◌, ap₂}
use mathlib.Core.List.{[], ◌∷◌}
use lib.IntN.{pos, ◌+ℤ◌, ◌-ℤ◌, ◌*ℤ◌}
use lib.Signed.{◌<ℤ◌}
use Rattle.integers.specs.Fractions.{Fraction, ◌/ᶠ◌, ◌+ᶠ◌, ◌-ᶠ◌, ◌*ᶠ◌, ◌÷ᶠ◌, Equal}
use Rattle.integers.proofs.Ring.{◌:+◌, ◌:-◌, ◌:*◌, opp, ring, #, v0, v1, v2, v3, v4, v5, v6, v7}
use Rattle.integers.proofs.Order.{at_most_antisym}
use Rattle.integers.proofs.Certificate.{◌:<◌, ◌:≡◌, hyp, tim, ◌⊕◌, ◌⊗◌, le_by}
use Rattle.integers.proofs.Fractions.{product_above}

pub same_itself : {a : Fraction} → pos 0 <ℤ a.den → Equal a a
same_itself p = record { left_above = p; right_above = p; same = refl }

pub same_trans : {a b c : Fraction} → Equal a b → Equal b c → Equal a c
same_trans {a} {b} {c} h k = record {
  left_above = h.left_above;
  right_above = k.right_above;
  same = at_most_antisym
      (le_by (a.num ∷ a.den ∷ b.num ∷ b.den ∷ c.num ∷ c.den ∷ []) ((# 0 :< v3) ∷ (v0 :* v3 :≡ v2 :* v1) ∷ (v2 :* v5 :≡ v4 :* v3) ∷ []) (v0 :* v5) (v4 :* v1) (hyp 0 ⊕ hyp 1 ⊕ hyp 0 ⊗ hyp 1 ⊕ tim (# 1 :* v5) 2 ⊕ tim (# 1 :* v1) 3) tt h.right_above h.same k.same)
      (le_by (a.num ∷ a.den ∷ b.num ∷ b.den ∷ c.num ∷ c.den ∷ []) ((# 0 :< v3) ∷ (v0 :* v3 :≡ v2 :* v1) ∷ (v2 :* v5 :≡ v4 :* v3) ∷ []) (v4 :* v1) (v0 :* v5) (hyp 0 ⊕ hyp 1 ⊕ hyp 0 ⊗ hyp 1 ⊕ tim (opp (# 1 :* v5)) 2 ⊕ tim (opp (# 1 :* v1)) 3) tt h.right_above h.same k.same);
}

module _ {a b c d : Fraction} (h : Equal a b) (k : Equal c d) where
  pub same_sum : Equal (a +ᶠ c) (b +ᶠ d)
  same_sum = record {
    left_above = product_above h.left_above k.left_above;
    right_above = product_above h.right_above k.right_above;
    same = (ring (a.num ∷ a.den ∷ b.num ∷ b.den ∷ c.num ∷ c.den ∷ d.num ∷ d.den ∷ []) ((v0 :* v5 :+ v4 :* v1) :* (v3 :* v7)) (v0 :* v3 :* (v5 :* v7) :+ v4 :* v7 :* (v1 :* v3)) tt)
        ∙ ap₂ (λ x y. x *ℤ (c.den *ℤ d.den) +ℤ y *ℤ (a.den *ℤ b.den)) h.same k.same
        ∙ (ring (a.num ∷ a.den ∷ b.num ∷ b.den ∷ c.num ∷ c.den ∷ d.num ∷ d.den ∷ []) (v2 :* v1 :* (v5 :* v7) :+ v6 :* v5 :* (v1 :* v3)) ((v2 :* v7 :+ v6 :* v3) :* (v1 :* v5)) tt);
  }

  pub same_difference : Equal (a -ᶠ c) (b -ᶠ d)
  same_difference = record {
    left_above = product_above h.left_above k.left_above;
    right_above = product_above h.right_above k.right_above;
    same = (ring (a.num ∷ a.den ∷ b.num ∷ b.den ∷ c.num ∷ c.den ∷ d.num ∷ d.den ∷ []) ((v0 :* v5 :- v4 :* v1) :* (v3 :* v7)) (v0 :* v3 :* (v5 :* v7) :- v4 :* v7 :* (v1 :* v3)) tt)
        ∙ ap₂ (λ x y. x *ℤ (c.den *ℤ d.den) -ℤ y *ℤ (a.den *ℤ b.den)) h.same k.same
        ∙ (ring (a.num ∷ a.den ∷ b.num ∷ b.den ∷ c.num ∷ c.den ∷ d.num ∷ d.den ∷ []) (v2 :* v1 :* (v5 :* v7) :- v6 :* v5 :* (v1 :* v3)) ((v2 :* v7 :- v6 :* v3) :* (v1 :* v5)) tt);
  }

  pub same_product : Equal (a *ᶠ c) (b *ᶠ d)
  same_product = record {
    left_above = product_above h.left_above k.left_above;
    right_above = product_above h.right_above k.right_above;
    same = (ring (a.num ∷ a.den ∷ b.num ∷ b.den ∷ c.num ∷ c.den ∷ d.num ∷ d.den ∷ []) (v0 :* v4 :* (v3 :* v7)) (v0 :* v3 :* (v4 :* v7)) tt)
        ∙ ap₂ ◌*ℤ◌ h.same k.same
        ∙ (ring (a.num ∷ a.den ∷ b.num ∷ b.den ∷ c.num ∷ c.den ∷ d.num ∷ d.den ∷ []) (v2 :* v1 :* (v6 :* v5)) (v2 :* v6 :* (v1 :* v5)) tt);
  }

-- a divisor above 0
pub same_divided : {a b : Fraction} (c : Fraction) → pos 0 <ℤ c.num → Equal a b → Equal (a ÷ᶠ c) (b ÷ᶠ c)
same_divided c p h = same_product h (same_itself {a = c.den /ᶠ c.num} p)
