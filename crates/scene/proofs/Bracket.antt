-- The bracket around N / D, from w to w + 33 in 2^32ths. w is found by the channel's 2^63 / D; the greatest number on the way is N times
-- this, below 2^64. Where c times both ends of the bracket is nearer than a half to one whole number, so is c N / D, and this is its r.
use mathlib.Core.Path.{◌≡◌, refl, sym, ◌∙◌, ap, subst}
use mathlib.Core.List.{[], ◌∷◌}
use mathlib.Core.Bool.{Bool, true, false, ◌||◌, true≢false}
use Prim.Native.Nat.{ℕ, ◌+◌, ◌*◌, ◌/◌, ◌%◌, ◌≤◌}
use native.Mathlib.Nat.{div-add-mod, lt_of_le_of_lt}
use native.Mathlib.Omega.{arith}
use lib.Dec.{lit<, ltb}
use borrow.Author.Tests.{ltb-false}
use lib.IntN.{ℤ, pos, negsuc, nat_abs, ◌+ℤ◌, ◌*ℤ◌}
use lib.Signed.{◌≤ℤ◌, ◌<ℤ◌, lt_z, lt_z_yes}
use mir.Syntax.{w64}
use mir.Val.{Fits}
use Rattle.integers.specs.Rounding.{floor, r}
use Rattle.integers.proofs.Ring.{◌:+◌, ◌:*◌, ring, #, v0, v1, v2, v3, v4}
use Rattle.integers.proofs.Certificate.{◌:≤◌, ◌:<◌, hyp, nat, ◌⊕◌, ◌⊗◌, le_by, lt_by}
use Rattle.integers.proofs.Naturals.{natural_below, natural_not_negative, at_most_natural}
use Rattle.integers.proofs.Order.{lt_z_true, lt_z_false, below_test, at_most_fails}
use Rattle.integers.proofs.Floor.{floor_low, floor_high}
use Rattle.integers.proofs.Nearest.{r_within_half, within_half_nearest}
use Rattle.scene.specs.Steps.{Bracket, unsure_of}

-- ---- the low end
floor_of_naturals : (m i : ℕ) → pos (m * i / 2147483648) ≡ floor (pos m *ℤ pos i) (pos 2147483648)
unfolding floor
floor_of_naturals m i = refl

inverse_is : (d : ℤ) → pos (9223372036854775808 / nat_abs d) ≡ floor (pos 9223372036854775808) d
unfolding floor
inverse_is d = refl

inverse_low : (d : ℤ) → pos 0 <ℤ d → (d *ℤ pos (9223372036854775808 / nat_abs d)) ≤ℤ pos 9223372036854775808
inverse_low d p = subst (λ z. (d *ℤ z) ≤ℤ pos 9223372036854775808) (sym (inverse_is d)) (floor_low (pos 9223372036854775808) p)

inverse_high : (d : ℤ) → pos 0 <ℤ d → pos 9223372036854775808 <ℤ (d *ℤ pos (9223372036854775808 / nat_abs d) +ℤ d)
inverse_high d p = subst (λ z. pos 9223372036854775808 <ℤ (d *ℤ z +ℤ d)) (sym (inverse_is d)) (floor_high (pos 9223372036854775808) p)

-- w is n i in 2^31ths, cut off, and i is 2^63 / d, cut off
module _ (n i w d : ℤ) (p : pos 0 <ℤ d) (z : pos 0 ≤ℤ n) where
  end_low : (pos 2147483648 *ℤ w) ≤ℤ (n *ℤ i) → (d *ℤ i) ≤ℤ pos 9223372036854775808 → (w *ℤ d) ≤ℤ (pos 4294967296 *ℤ n)
  end_low f g = (le_by (n ∷ i ∷ w ∷ d ∷ []) ((# 2147483648 :* v2 :≤ v0 :* v1) ∷ (v3 :* v1 :≤ # 9223372036854775808) ∷ (# 0 :≤ v0) ∷ (# 0 :< v3) ∷ []) (v2 :* v3) (# 4294967296 :* v0) (nat 2147483648 ⊗ hyp 0 ⊕ hyp 1 ⊗ (hyp 4 ⊕ nat 1) ⊕ hyp 3 ⊗ hyp 2) tt f g z p)

  end_high : (n *ℤ i) <ℤ (pos 2147483648 *ℤ w +ℤ pos 2147483648) → pos 9223372036854775808 <ℤ (d *ℤ i +ℤ d) → n ≤ℤ pos 68719476736 → (pos 4294967296 *ℤ n) ≤ℤ ((w +ℤ pos 33) *ℤ d)
  end_high f g m = (le_by (n ∷ i ∷ w ∷ d ∷ []) ((v0 :* v1 :< # 2147483648 :* v2 :+ # 2147483648) ∷ (# 9223372036854775808 :< v3 :* v1 :+ v3) ∷ (# 0 :≤ v0) ∷ (# 0 :< v3) ∷ (v0 :≤ # 68719476736) ∷ []) (# 4294967296 :* v0) ((v2 :+ # 33) :* v3) (nat 2147483648 ⊗ hyp 0 ⊕ hyp 3 ⊗ hyp 2 ⊕ (hyp 4 ⊕ nat 1) ⊗ hyp 1 ⊕ (hyp 4 ⊕ nat 1) ⊗ hyp 5 ⊕ hyp 3 ⊕ hyp 4) tt f g z p m)

pub bracket_found : (n d : ℤ) → pos 0 <ℤ d → pos 0 ≤ℤ n → n ≤ℤ pos 63921200625 → Bracket n d (nat_abs n * (9223372036854775808 / nat_abs d) / 2147483648)
bracket_found (pos m) d p z h =
    let i = 9223372036854775808 / nat_abs d in
    let w = m * i / 2147483648 in
    let e : pos w ≡ floor (pos m *ℤ pos i) (pos 2147483648) = floor_of_naturals m i in
    let b : pos 0 <ℤ pos 2147483648 = lt_z_yes tt in
    record {
      low = end_low (pos m) (pos i) (pos w) d p z (subst (λ q. (pos 2147483648 *ℤ q) ≤ℤ (pos m *ℤ pos i)) (sym e) (floor_low (pos m *ℤ pos i) b)) (inverse_low d p);
      high = end_high (pos m) (pos i) (pos w) d p z (subst (λ q. (pos m *ℤ pos i) <ℤ (pos 2147483648 *ℤ q +ℤ pos 2147483648)) (sym e) (floor_high (pos m *ℤ pos i) b)) (inverse_high d p) (le_by ((pos m) ∷ []) ((v0 :≤ # 63921200625) ∷ []) v0 (# 68719476736) (hyp 0 ⊕ hyp 1) tt h);
    }
bracket_found (negsuc m) d p z h = absurd z.le

product_small : (n i d : ℤ) → (pos 4 *ℤ n) ≤ℤ (pos 5 *ℤ d) → (d *ℤ i) ≤ℤ pos 9223372036854775808 → pos 0 ≤ℤ i → (n *ℤ i) ≤ℤ pos 11529215046068469760
product_small n i d f g z = (le_by (n ∷ i ∷ d ∷ []) ((# 4 :* v0 :≤ # 5 :* v2) ∷ (v2 :* v1 :≤ # 9223372036854775808) ∷ (# 0 :≤ v1) ∷ []) (v0 :* v1) (# 11529215046068469760) (nat 4 ⊗ hyp 0 ⊕ hyp 3 ⊗ hyp 1 ⊕ nat 5 ⊗ hyp 2) tt f g z)

pub low_end_fits : (n d : ℤ) → pos 0 <ℤ d → pos 0 ≤ℤ n → (pos 4 *ℤ n) ≤ℤ (pos 5 *ℤ d) → Fits w64 (nat_abs n * (9223372036854775808 / nat_abs d))
low_end_fits (pos m) d p z f =
    let i = 9223372036854775808 / nat_abs d in
    record { fits = lt_of_le_of_lt (at_most_natural (product_small (pos m) (pos i) d f (inverse_low d p) (natural_not_negative i))) (lit< tt) }
low_end_fits (negsuc m) d p z f = absurd z.le

pub low_end_small : {n d : ℤ} {w : ℕ} → pos 0 <ℤ d → (pos 4 *ℤ n) ≤ℤ (pos 5 *ℤ d) → Bracket n d w → w ≤ 5368709120
low_end_small {n} {d} {w} p f e = at_most_natural (le_by (n ∷ d ∷ (pos w) ∷ []) ((v2 :* v1 :≤ # 4294967296 :* v0) ∷ (# 4 :* v0 :≤ # 5 :* v1) ∷ (# 0 :< v1) ∷ []) v2 (# 5368709120) (nat 4 ⊗ hyp 1 ⊕ nat 4294967296 ⊗ hyp 2 ⊕ nat 4 ⊗ (hyp 3 ⊕ nat 1) ⊗ hyp 0 ⊕ nat 4 ⊗ hyp 3) tt e.low f p)

-- ---- no half in the bracket
nearest_in_bracket : (n d c w q : ℤ) → pos 0 <ℤ d → pos 0 ≤ℤ c → (w *ℤ d) ≤ℤ (pos 4294967296 *ℤ n) → (pos 4294967296 *ℤ n) ≤ℤ ((w +ℤ pos 33) *ℤ d)
    → (pos 4294967296 *ℤ q) <ℤ (w *ℤ c +ℤ pos 2147483648) → (w *ℤ c +ℤ pos 33 *ℤ c) <ℤ (pos 4294967296 *ℤ q +ℤ pos 2147483648) → q ≡ r (n *ℤ c) d
nearest_in_bracket n d c w q p z low high f g = within_half_nearest p (r_within_half (n *ℤ c) p) q
    (lt_by (n ∷ d ∷ c ∷ w ∷ q ∷ []) ((# 0 :< v1) ∷ (# 0 :≤ v2) ∷ (v3 :* v1 :≤ # 4294967296 :* v0) ∷ (# 4294967296 :* v4 :< v3 :* v2 :+ # 2147483648) ∷ []) (# 2 :* v1 :* v4) (# 2 :* (v0 :* v2) :+ v1) (nat 2147483648 ⊗ hyp 0 ⊕ hyp 1 ⊕ hyp 4 ⊕ hyp 1 ⊗ hyp 4 ⊕ hyp 2 ⊗ hyp 3) tt p z low f)
    (lt_by (n ∷ d ∷ c ∷ w ∷ q ∷ []) ((# 0 :< v1) ∷ (# 0 :≤ v2) ∷ (# 4294967296 :* v0 :≤ (v3 :+ # 33) :* v1) ∷ (v3 :* v2 :+ # 33 :* v2 :< # 4294967296 :* v4 :+ # 2147483648) ∷ []) (# 2 :* (v0 :* v2)) (# 2 :* v1 :* v4 :+ v1) (nat 2147483648 ⊗ hyp 0 ⊕ hyp 1 ⊕ hyp 4 ⊕ hyp 1 ⊗ hyp 4 ⊕ hyp 2 ⊗ hyp 3) tt p z high g)

module _ {n d : ℤ} {w : ℕ} (p : pos 0 <ℤ d) (e : Bracket n d w) where
  pub linear_nearest : (c : ℕ) → (w * c + 2147483647) % 4294967296 + 33 * c ≤ 4294967294 → pos ((w * c + 2147483647) / 4294967296) ≡ r (n *ℤ pos c) d
  linear_nearest c h =
      let s = w * c + 2147483647 in
      nearest_in_bracket n d (pos c) (pos w) (pos (s / 4294967296)) p (natural_not_negative c) e.low e.high
      (natural_below (omega (arith, div-add-mod s 4294967296)))
      (natural_below (omega (arith, h, div-add-mod s 4294967296)))

  pub x_nearest : (w + 32767) % 65536 ≤ 65501 → pos ((w + 32767) / 65536) ≡ r (pos 65536 *ℤ n) d
  x_nearest h =
      let s = w + 32767 in
      nearest_in_bracket n d (pos 65536) (pos w) (pos (s / 65536)) p (natural_not_negative 65536) e.low e.high
      (natural_below (omega (arith, div-add-mod s 65536)))
      (natural_below (omega (arith, h, div-add-mod s 65536)))
      ∙ ap (λ z. r z d) (ring (n ∷ []) (v0 :* # 65536) (# 65536 :* v0) tt)

-- ---- where nothing is unsure
pub record Sure (x linear edge : ℕ) : Type 0 where
  pub of_x : x % 65536 ≤ 65501
  pub of_linear : linear % 4294967296 ≤ edge

or_left : (a b : Bool) → (a || b) ≡ false → a ≡ false
or_left false b h = refl
or_left true b h = absurd (true≢false h)

or_right : (a b : Bool) → (a || b) ≡ false → b ≡ false
or_right false b h = h
or_right true b h = absurd (true≢false h)

pub sure_by : (x linear edge : ℕ) → unsure_of x linear edge ≡ false → Sure x linear edge
sure_by x linear edge h = record {
  of_x = ltb-false 65501 (x % 65536) (or_left (ltb 65501 (x % 65536)) (ltb edge (linear % 4294967296)) h);
  of_linear = ltb-false edge (linear % 4294967296) (or_right (ltb 65501 (x % 65536)) (ltb edge (linear % 4294967296)) h);
}

-- ---- the greatest N that is not outside
-- N is above 5D / 4 cut off where 4N is above 5D, and nowhere else
pub top_test : (d n : ℤ) (b : Bool) → lt_z (floor (pos 5 *ℤ d) (pos 4)) n ≡ b → lt_z (pos 5 *ℤ d) (pos 4 *ℤ n) ≡ b
top_test d n true h = below_test (lt_by (d ∷ n ∷ (floor (pos 5 *ℤ d) (pos 4)) ∷ []) ((# 5 :* v0 :< # 4 :* v2 :+ # 4) ∷ (v2 :< v1) ∷ []) (# 5 :* v0) (# 4 :* v1) (hyp 0 ⊕ hyp 1 ⊕ nat 4 ⊗ hyp 2) tt (floor_high (pos 5 *ℤ d) {b = pos 4} (lt_z_yes tt)) (lt_z_true h))
top_test d n false h = at_most_fails (le_by (d ∷ n ∷ (floor (pos 5 *ℤ d) (pos 4)) ∷ []) ((# 4 :* v2 :≤ # 5 :* v0) ∷ (v1 :≤ v2) ∷ []) (# 4 :* v1) (# 5 :* v0) (hyp 0 ⊕ hyp 1 ⊕ nat 4 ⊗ hyp 2) tt (floor_low (pos 5 *ℤ d) {b = pos 4} (lt_z_yes tt)) (lt_z_false h))
