-- Document 004, equations 25 to 29, give E: with the mean counts Aw / (12 Ww) and Ac / (12 Wc), x is N / D and T_lin is Tc + x(Tw - Tc).
use mathlib.Core.List.{[], ◌∷◌}
use lib.IntN.{ℤ, pos, ◌-ℤ◌, ◌*ℤ◌}
use lib.Signed.{◌<ℤ◌, lt_z_yes}
use Rattle.integers.specs.Fractions.{Fraction, ◌/ᶠ◌, whole, ◌+ᶠ◌, ◌-ᶠ◌, ◌*ᶠ◌, ◌÷ᶠ◌, ◌≡ᶠ◌, Equal}
use Rattle.integers.proofs.Ring.{◌:-◌, ◌:*◌, #, v0, v1, v2, v3, v4, v5, v6, v7}
use Rattle.integers.proofs.Certificate.{◌:<◌, hyp, nat, ◌⊕◌, ◌⊗◌, lt_by}
use Rattle.integers.proofs.Fractions.{product_above}
use Rattle.scene.specs.Temperature.{N}
use Rattle.scene.specs.Unrounded.{E, linear, relative, quadratic, corrected, mean_count}
use Rattle.integers.proofs.Formal.{◌/ᵉ◌, wholeᵉ, ◌+ᵉ◌, ◌-ᵉ◌, ◌*ᵉ◌, ◌÷ᵉ◌, same_fraction}
use Rattle.integers.proofs.EqualFractions.{same_itself, same_trans, same_sum, same_difference, same_product, same_divided}
use Rattle.scene.proofs.Distance.{one_above}

-- ---- three identities, in which k is C - Cw, w is Cw - Cc and t is Tw - Tc
linear_identity : (k w tw tc : Fraction) → tw +ᶠ k ÷ᶠ (w ÷ᶠ (tw -ᶠ tc)) ≡ᶠ tc +ᶠ (whole (pos 1) +ᶠ k ÷ᶠ w) *ᶠ (tw -ᶠ tc)
linear_identity k w tw tc = same_fraction (k.num ∷ k.den ∷ w.num ∷ w.den ∷ tw.num ∷ tw.den ∷ tc.num ∷ tc.den ∷ [])
    (v4 /ᵉ v5 +ᵉ v0 /ᵉ v1 ÷ᵉ (v2 /ᵉ v3 ÷ᵉ (v4 /ᵉ v5 -ᵉ v6 /ᵉ v7)))
    (v6 /ᵉ v7 +ᵉ (wholeᵉ (# 1) +ᵉ v0 /ᵉ v1 ÷ᵉ v2 /ᵉ v3) *ᵉ (v4 /ᵉ v5 -ᵉ v6 /ᵉ v7)) tt

relative_identity : (x t tc : Fraction) → (tc +ᶠ x *ᶠ t -ᶠ tc) ÷ᶠ t ≡ᶠ x
relative_identity x t tc = same_fraction (x.num ∷ x.den ∷ t.num ∷ t.den ∷ tc.num ∷ tc.den ∷ [])
    ((v4 /ᵉ v5 +ᵉ v0 /ᵉ v1 *ᵉ v2 /ᵉ v3 -ᵉ v4 /ᵉ v5) ÷ᵉ v2 /ᵉ v3) (v0 /ᵉ v1) tt

counts_identity : (Aw Ww Ac Wc C : ℤ) → whole (pos 1) +ᶠ (whole C -ᶠ mean_count Aw Ww) ÷ᶠ (mean_count Aw Ww -ᶠ mean_count Ac Wc) ≡ᶠ N Ww Wc Ac C /ᶠ (Aw *ℤ Wc -ℤ Ac *ℤ Ww)
counts_identity Aw Ww Ac Wc C = same_fraction (Aw ∷ Ww ∷ Ac ∷ Wc ∷ C ∷ [])
    (wholeᵉ (# 1) +ᵉ (wholeᵉ v4 -ᵉ v0 /ᵉ (# 12 :* v1)) ÷ᵉ (v0 /ᵉ (# 12 :* v1) -ᵉ v2 /ᵉ (# 12 :* v3)))
    (((# 12 :* v3 :* v4 :- v2) :* v1) /ᵉ (v0 :* v3 :- v2 :* v1)) tt

-- ---- the equations. Each divisor is above 0: the weights, D, the denominators of Tw and TNL, and Tw - Tc
module _ (Aw Ac C tc : ℤ) (tw tnl : Fraction) {Ww Wc : ℤ} (warm : pos 0 <ℤ Ww) (cold : pos 0 <ℤ Wc) (d : pos 0 <ℤ (Aw *ℤ Wc -ℤ Ac *ℤ Ww))
    (tw-above : pos 0 <ℤ tw.den) (rise_above : pos 0 <ℤ (tw -ᶠ whole tc).num) (tnl_above : pos 0 <ℤ tnl.den) where
  mean_above : pos 0 <ℤ (pos 12 *ℤ Ww)
  mean_above = product_above {a = pos 12} (lt_z_yes tt) warm

  -- Cw - Cc is above 0
  counts_apart : pos 0 <ℤ (mean_count Aw Ww -ᶠ mean_count Ac Wc).num
  counts_apart = (lt_by (Aw ∷ Ac ∷ Ww ∷ Wc ∷ []) ((# 0 :< v0 :* v3 :- v1 :* v2) ∷ []) (# 0) (v0 :* (# 12 :* v3) :- v1 :* (# 12 :* v2)) (hyp 0 ⊕ nat 12 ⊗ hyp 1) tt d)

  x_same : Equal (whole (pos 1) +ᶠ (whole C -ᶠ mean_count Aw Ww) ÷ᶠ (mean_count Aw Ww -ᶠ mean_count Ac Wc)) (N Ww Wc Ac C /ᶠ (Aw *ℤ Wc -ℤ Ac *ℤ Ww))
  x_same = record {
    left_above = product_above one_above (product_above (product_above one_above mean_above) counts_apart);
    right_above = d;
    same = counts_identity Aw Ww Ac Wc C;
  }

  rise_same : Equal (tw -ᶠ whole tc) (tw -ᶠ whole tc)
  rise_same = same_itself (product_above tw-above one_above)

  -- T_lin is Tc + x(Tw - Tc)
  pub linear_same : Equal (linear (mean_count Aw Ww) (mean_count Ac Wc) tw (whole tc) (whole C)) (whole tc +ᶠ N Ww Wc Ac C /ᶠ (Aw *ℤ Wc -ℤ Ac *ℤ Ww) *ᶠ (tw -ᶠ whole tc))
  linear_same = same_trans by_relative (same_sum (same_itself {a = whole tc} one_above) (same_product x_same rise_same))
    where
      by_relative : Equal (linear (mean_count Aw Ww) (mean_count Ac Wc) tw (whole tc) (whole C)) (whole tc +ᶠ (whole (pos 1) +ᶠ (whole C -ᶠ mean_count Aw Ww) ÷ᶠ (mean_count Aw Ww -ᶠ mean_count Ac Wc)) *ᶠ (tw -ᶠ whole tc))
      by_relative = record {
        left_above = product_above tw-above (product_above (product_above one_above mean_above) (product_above counts_apart (product_above tw-above one_above)));
        right_above = product_above one_above (product_above x_same.left_above rise_same.left_above);
        same = linear_identity (whole C -ᶠ mean_count Aw Ww) (mean_count Aw Ww -ᶠ mean_count Ac Wc) tw (whole tc);
      }

  -- x_lin is N / D
  pub relative_same : Equal (relative (mean_count Aw Ww) (mean_count Ac Wc) tw (whole tc) (whole C)) (N Ww Wc Ac C /ᶠ (Aw *ℤ Wc -ℤ Ac *ℤ Ww))
  relative_same =
      let divided = same_divided (tw -ᶠ whole tc) rise_above (same_difference linear_same (same_itself {a = whole tc} one_above)) in
      same_trans divided (record { left_above = divided.right_above; right_above = d; same = relative_identity (N Ww Wc Ac C /ᶠ (Aw *ℤ Wc -ℤ Ac *ℤ Ww)) (tw -ᶠ whole tc) (whole tc) })

  quadratic_same : Equal (quadratic (relative (mean_count Aw Ww) (mean_count Ac Wc) tw (whole tc) (whole C)) tnl) (quadratic (N Ww Wc Ac C /ᶠ (Aw *ℤ Wc -ℤ Ac *ℤ Ww)) tnl)
  quadratic_same =
      same_product (same_product (same_product (same_itself {a = whole (pos 4)} one_above) relative_same) (same_difference (same_itself {a = whole (pos 1)} one_above) relative_same)) (same_itself tnl_above)

  -- T is E
  pub corrected_same : Equal (corrected (mean_count Aw Ww) (mean_count Ac Wc) tw (whole tc) tnl (whole C)) (E (N Ww Wc Ac C /ᶠ (Aw *ℤ Wc -ℤ Ac *ℤ Ww)) tw (whole tc) tnl)
  corrected_same = same_sum linear_same quadratic_same
