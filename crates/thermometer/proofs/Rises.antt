-- F rises with t: by at least 12 a unit, whatever the coefficients in their ranges.
-- From t to t + 1, s1 rises by at most 2 and s2 does not rise: below 0 it falls or stays with q and t², and from 0 on it is 0. So
-- 256t - s1 - s2 rises by at least 254, and alpha is at least 3,000,000.
use mathlib.Core.Path.{◌≡◌, refl, sym, ap, subst, ◌∙◌}
use mathlib.Core.List.{[], ◌∷◌}
use mathlib.Core.Bool.{Bool, true, false, cond}
use Prim.Native.Nat.{ℕ, zero, suc}
use native.Mathlib.Omega.{arith}
use lib.IntN.{ℤ, pos, negsuc, ◌+ℤ◌, ◌-ℤ◌, ◌*ℤ◌, +ℤ_idr}
use lib.Signed.{◌≤ℤ◌, ◌<ℤ◌, lt_z, lt_z_yes, ≤ℤ_refl}
use Rattle.integers.proofs.Ring.{◌:+◌, ◌:-◌, ◌:*◌, opp, ring, #, v0, v1, v2, v3, v4}
use Rattle.integers.proofs.Linear.{order, parts_equal, sum_parts}
use Rattle.integers.proofs.Naturals.{natural_at_most, natural_not_negative, natural_of}
use Rattle.integers.proofs.Order.{at_most_equal, below_at_most, gap, square_not_negative, product_not_negative, lt_z_true, lt_z_false}
use Rattle.integers.proofs.Certificate.{◌:≤◌, ◌:<◌, hyp, nat, ◌⊕◌, ◌⊗◌, le_by, lt_by, clash_by}
use Rattle.integers.proofs.Floor.{floor_order, floor_not_negative, floor_rise}
use Rattle.integers.specs.Rounding.{floor}
use Rattle.thermometer.specs.Rule.{q, s1, y, w, h, s2, F, InRange}
use Rattle.thermometer.specs.Ranges.{Admissible}
use Rattle.thermometer.proofs.Bounds.{bracket}

-- ---- s2 does not rise
pub w_not_negative : (t : ℤ) → pos 0 ≤ℤ w t
unfolding w
w_not_negative t = floor_not_negative (t *ℤ t) (lt_z_yes tt) (square_not_negative t)

-- below 0, q and t² fall or stay, and so does all that is formed of them
module _ {t : ℤ} (below : t <ℤ pos 0) where
  pub q_not_negative : pos 0 ≤ℤ q t
  unfolding q
  q_not_negative = (le_by (t ∷ []) ((v0 :< # 0) ∷ []) (# 0) (v0 :* (v0 :- # 409600)) (hyp 0 ⊕ nat 409602 ⊗ hyp 1 ⊕ hyp 1 ⊗ hyp 1) tt below)

  pub q_falls : q (t +ℤ pos 1) ≤ℤ q t
  unfolding q
  q_falls = (le_by (t ∷ []) ((v0 :< # 0) ∷ []) ((v0 :+ # 1) :* (v0 :+ # 1 :- # 409600)) (v0 :* (v0 :- # 409600)) (hyp 0 ⊕ nat 2 ⊗ hyp 1) tt below)

  pub square_falls : ((t +ℤ pos 1) *ℤ (t +ℤ pos 1)) ≤ℤ (t *ℤ t)
  square_falls = (le_by (t ∷ []) ((v0 :< # 0) ∷ []) ((v0 :+ # 1) :* (v0 :+ # 1)) (v0 :* v0) (hyp 0 ⊕ nat 2 ⊗ hyp 1) tt below)

  pub y_not_negative : pos 0 ≤ℤ y t
  unfolding y
  y_not_negative = floor_not_negative (q t) (lt_z_yes tt) q_not_negative

  y_falls : y (t +ℤ pos 1) ≤ℤ y t
  unfolding y
  y_falls = floor_order (q (t +ℤ pos 1)) (q t) (lt_z_yes tt) q_falls

  w_falls : w (t +ℤ pos 1) ≤ℤ w t
  unfolding w
  w_falls = floor_order ((t +ℤ pos 1) *ℤ (t +ℤ pos 1)) (t *ℤ t) (lt_z_yes tt) square_falls

  yw_falls : (y (t +ℤ pos 1) *ℤ w (t +ℤ pos 1)) ≤ℤ (y t *ℤ w t)
  yw_falls = (le_by ((y t) ∷ (w t) ∷ (y (t +ℤ pos 1)) ∷ (w (t +ℤ pos 1)) ∷ []) ((# 0 :≤ v0) ∷ (# 0 :≤ v3) ∷ (v2 :≤ v0) ∷ (v3 :≤ v1) ∷ []) (v2 :* v3) (v0 :* v1) (hyp 0 ⊕ hyp 1 ⊗ hyp 4 ⊕ hyp 2 ⊗ hyp 3) tt y_not_negative (w_not_negative (t +ℤ pos 1)) y_falls w_falls)

  h_not_negative : pos 0 ≤ℤ h t
  unfolding h
  h_not_negative = floor_not_negative (y t *ℤ w t) (lt_z_yes tt) (product_not_negative y_not_negative (w_not_negative t))

  h_falls : h (t +ℤ pos 1) ≤ℤ h t
  unfolding h
  h_falls = floor_order (y (t +ℤ pos 1) *ℤ w (t +ℤ pos 1)) (y t *ℤ w t) (lt_z_yes tt) yw_falls

  beta_h_falls : (beta : ℕ) → (pos beta *ℤ h (t +ℤ pos 1)) ≤ℤ (pos beta *ℤ h t)
  beta_h_falls beta = (le_by ((pos beta) ∷ (h t) ∷ (h (t +ℤ pos 1)) ∷ []) ((# 0 :≤ v0) ∷ (v2 :≤ v1) ∷ []) (v0 :* v2) (v0 :* v1) (hyp 0 ⊕ hyp 1 ⊗ hyp 2) tt (natural_not_negative beta) h_falls)

-- what counts below 0 alone, is not negative there and does not rise there, does not rise anywhere
module _ (f : ℤ → ℤ) (not_negative : (t : ℤ) → t <ℤ pos 0 → pos 0 ≤ℤ f t) (falls : (t : ℤ) → t <ℤ pos 0 → f (t +ℤ pos 1) ≤ℤ f t) where
  -- the two tests are whether t, and whether t + 1, is below 0
  by_tests_lem : (t : ℤ) (now after : Bool) → lt_z t (pos 0) ≡ now → lt_z (t +ℤ pos 1) (pos 0) ≡ after → cond after (f (t +ℤ pos 1)) (pos 0) ≤ℤ cond now (f t) (pos 0)
  by_tests_lem t true true e g = falls t (lt_z_true e)
  by_tests_lem t true false e g = not_negative t (lt_z_true e)
  by_tests_lem t false true e g = absurd (clash_by (t ∷ []) ((# 0 :≤ v0) ∷ (v0 :+ # 1 :< # 0) ∷ []) (hyp 0 ⊕ hyp 1) tt (lt_z_false e) (lt_z_true g))
  by_tests_lem t false false e g = ≤ℤ_refl (pos 0)

  pub counted_below_zero_does_not_rise : (t : ℤ) → cond (lt_z (t +ℤ pos 1) (pos 0)) (f (t +ℤ pos 1)) (pos 0) ≤ℤ cond (lt_z t (pos 0)) (f t) (pos 0)
  counted_below_zero_does_not_rise t = by_tests_lem t (lt_z t (pos 0)) (lt_z (t +ℤ pos 1) (pos 0)) refl refl

s2_does_not_rise : (beta : ℕ) (t : ℤ) → s2 beta (t +ℤ pos 1) ≤ℤ s2 beta t
unfolding s2
s2_does_not_rise beta t =
    counted_below_zero_does_not_rise (λ u. floor (pos beta *ℤ h u) (pos 16000000))
    (λ u below. floor_not_negative (pos beta *ℤ h u) (lt_z_yes tt) (product_not_negative (natural_not_negative beta) (h_not_negative below)))
    (λ u below. floor_order (pos beta *ℤ h (u +ℤ pos 1)) (pos beta *ℤ h u) (lt_z_yes tt) (beta_h_falls below beta)) t

-- ---- from t to t + 1
module _ (t : ℤ) (next : InRange (t +ℤ pos 1)) where
  q_rises : q (t +ℤ pos 1) ≤ℤ (q t +ℤ pos 81919)
  unfolding q
  q_rises = (le_by (t ∷ []) ((v0 :+ # 1 :≤ # 245760) ∷ []) ((v0 :+ # 1) :* (v0 :+ # 1 :- # 409600)) (v0 :* (v0 :- # 409600) :+ # 81919) (hyp 0 ⊕ nat 2 ⊗ hyp 1) tt next.high)

  module _ {alpha delta beta : ℕ} (admissible : Admissible alpha delta beta) where
    s1_rises : s1 delta (t +ℤ pos 1) ≤ℤ (s1 delta t +ℤ pos 2)
    unfolding s1
    s1_rises =
        floor_rise (pos 2) (pos delta *ℤ q t) (pos delta *ℤ q (t +ℤ pos 1)) (lt_z_yes tt)
        (le_by ((pos delta) ∷ (q t) ∷ (q (t +ℤ pos 1)) ∷ []) ((# 0 :≤ v0) ∷ (v0 :≤ # 2000000) ∷ (v2 :≤ v1 :+ # 81919) ∷ []) (v0 :* v2) (v0 :* v1 :+ # 2 :* # 160000000000) (hyp 0 ⊕ nat 81919 ⊗ hyp 2 ⊕ hyp 1 ⊗ hyp 3) tt (natural_not_negative delta) (natural_at_most admissible.delta_high) q_rises)

    bracket_rises : (bracket delta beta t +ℤ pos 254) ≤ℤ bracket delta beta (t +ℤ pos 1)
    bracket_rises = (le_by (t ∷ (s1 delta t) ∷ (s2 beta t) ∷ (s1 delta (t +ℤ pos 1)) ∷ (s2 beta (t +ℤ pos 1)) ∷ []) ((v3 :≤ v1 :+ # 2) ∷ (v4 :≤ v2) ∷ []) (# 256 :* v0 :- v1 :- v2 :+ # 254) (# 256 :* (v0 :+ # 1) :- v3 :- v4) (hyp 0 ⊕ hyp 1 ⊕ hyp 2) tt s1_rises (s2_does_not_rise beta t))

    pub rises_by_twelve : (F alpha delta beta t +ℤ pos 12) ≤ℤ F alpha delta beta (t +ℤ pos 1)
    unfolding F
    rises_by_twelve =
        let a = pos alpha in
        let g = bracket delta beta t in
        let k = bracket delta beta (t +ℤ pos 1) in
        let falls : (a *ℤ g) ≤ℤ (a *ℤ k +ℤ negsuc 11 *ℤ pos 62500000)
        = (le_by (a ∷ g ∷ k ∷ []) ((# 3000000 :≤ v0) ∷ (v1 :+ # 254 :≤ v2) ∷ []) (v0 :* v1) (v0 :* v2 :+ opp (# 12) :* # 62500000) (hyp 0 ⊕ nat 254 ⊗ hyp 1 ⊕ nat 3000000 ⊗ hyp 2 ⊕ hyp 1 ⊗ hyp 2) tt (natural_at_most admissible.alpha_low) bracket_rises) in
        (le_by ((floor (a *ℤ g) (pos 62500000)) ∷ (floor (a *ℤ k) (pos 62500000)) ∷ []) ((v0 :≤ v1 :+ opp (# 12)) ∷ []) (# 16777216 :+ v0 :+ # 12) (# 16777216 :+ v1) (hyp 0 ⊕ hyp 1) tt (floor_rise (negsuc 11) (a *ℤ k) (a *ℤ g) (lt_z_yes tt) falls))

    pub rises : F alpha delta beta t <ℤ F alpha delta beta (t +ℤ pos 1)
    rises =
        (lt_by ((F alpha delta beta t) ∷ (F alpha delta beta (t +ℤ pos 1)) ∷ []) ((v0 :+ # 12 :≤ v1) ∷ []) v0 v1 (hyp 0 ⊕ hyp 1) tt rises_by_twelve)

-- ---- over any distance
one_more : (u : ℤ) (n : ℕ) → u +ℤ pos (suc n) ≡ u +ℤ pos n +ℤ pos 1
one_more u n = parts_equal (u +ℤ pos (suc n)) (u +ℤ pos n +ℤ pos 1) (omega (arith, sum_parts u (pos (suc n)), sum_parts u (pos n), sum_parts (u +ℤ pos n) (pos 1)))

between_in_range : {u : ℤ} (n : ℕ) → InRange u → InRange (u +ℤ pos (suc n)) → InRange (u +ℤ pos n)
between_in_range {u} n low high = omega (arith, order, sum_parts u (pos n), sum_parts u (pos (suc n)))

module _ {alpha delta beta : ℕ} (admissible : Admissible alpha delta beta) where
  rises_along : {u : ℤ} (n : ℕ) → InRange u → InRange (u +ℤ pos n) → (F alpha delta beta u +ℤ pos n) ≤ℤ F alpha delta beta (u +ℤ pos n)
  rises_along {u} zero low high = at_most_equal (+ℤ_idr (F alpha delta beta u) ∙ ap (F alpha delta beta) (sym (+ℤ_idr u)))
  rises_along {u} (suc n) low high =
      let f = F alpha delta beta u in
      let between = between_in_range n low high in
      rw (one_more u n)
      (omega (
        arith,
        order,
        sum_parts f (pos n),
        sum_parts f (pos (suc n)),
        rises_along n low between,
        rises (u +ℤ pos n) (subst InRange (one_more u n) high) admissible,
      ))

  -- F rises by at least the distance
  pub rises_at_least : {u v : ℤ} → InRange u → InRange v → u ≤ℤ v → (F alpha delta beta u +ℤ (v -ℤ u)) ≤ℤ F alpha delta beta v
  rises_at_least {u} {v} low high above =
      let n = natural_of (gap above) in
      let there : u +ℤ (v -ℤ u) ≡ v = (ring (u ∷ v ∷ []) (v0 :+ (v1 :- v0)) v1 tt) in
      subst (λ x. (F alpha delta beta u +ℤ (v -ℤ u)) ≤ℤ F alpha delta beta x) there
      (subst (λ d. (F alpha delta beta u +ℤ d) ≤ℤ F alpha delta beta (u +ℤ d)) (sym n.1)
      (rises_along n.0 low (subst (λ d. InRange (u +ℤ d)) n.1 (subst InRange (sym there) high))))

  pub rises_over : {u v : ℤ} → InRange u → InRange v → u ≤ℤ v → F alpha delta beta u ≤ℤ F alpha delta beta v
  rises_over {u} {v} low high above =
      (le_by (u ∷ v ∷ (F alpha delta beta u) ∷ (F alpha delta beta v) ∷ []) ((v0 :≤ v1) ∷ (v2 :+ (v1 :- v0) :≤ v3) ∷ []) v2 v3 (hyp 0 ⊕ hyp 1 ⊕ hyp 2) tt above (rises_at_least low high above))

  pub rises_strictly : {u v : ℤ} → InRange u → InRange v → u <ℤ v → F alpha delta beta u <ℤ F alpha delta beta v
  rises_strictly {u} {v} low high above =
      (lt_by (u ∷ v ∷ (F alpha delta beta u) ∷ (F alpha delta beta v) ∷ []) ((v0 :< v1) ∷ (v2 :+ (v1 :- v0) :≤ v3) ∷ []) v2 v3 (hyp 0 ⊕ hyp 1 ⊕ hyp 2) tt above (rises_at_least low high (below_at_most above)))
