-- r(a, b), b above 0, is the nearest whole number to a / b and of two equally near the even one, and no other number is; how the remainder
-- decides it. And what is within a half of a / b stays between whole numbers that a / b is between, and is the whole number that a / b is
-- nearer to than a half.
use mathlib.Core.Path.{◌≡◌, refl, sym, ◌∙◌, ap, subst}
use mathlib.Core.Logic.{inl, inr, ⊎_elim}
use mathlib.Core.Bool.{Bool, true, false, cond}
use mathlib.Core.List.{[], ◌∷◌}
use Prim.Native.Nat.{ℕ, ◌+◌, ◌-◌, ◌*◌, ◌/◌, ◌%◌, ◌≤◌, ◌<◌}
use native.Mathlib.Nat.{div-add-mod, mod-lt}
use native.Mathlib.Omega.{arith}
use borrow.Author.Tests.{eq-eqb}
use lib.IntN.{ℤ, pos, neg_ℤ, ◌+ℤ◌, ◌-ℤ◌, ◌*ℤ◌}
use lib.Signed.{◌≤ℤ◌, ◌<ℤ◌, clash_ℤ}
use Rattle.integers.specs.Rounding.{floor, is_even, even_of, r}
use Rattle.integers.specs.Bounds.{Bounded, WithinHalf}
use Rattle.integers.specs.NearestEven.{AtHalf, NearestEven, RIsNearestEven}
use Rattle.integers.proofs.Ring.{◌:+◌, ◌:-◌, ◌:*◌, opp, ring, #, v0, v1, v2, v3}
use Rattle.integers.proofs.Naturals.{natural_at_most, at_most_natural, natural_below, natural_not_negative}
use Rattle.integers.proofs.Certificate.{◌:≤◌, ◌:<◌, ◌:≡◌, hyp, nat, tim, ◌⊕◌, ◌⊗◌, le_by, lt_by}
use Rattle.integers.proofs.Order.{at_most_equal, at_most_antisym, at_most_or_above, below_at_most, below_test, at_most_fails}
use Rattle.integers.proofs.Floor.{floor_low, floor_high}
use Rattle.integers.proofs.Parity.{one_after_even, after_odd, before_odd, even_more}

-- ---- how the remainder decides
module _ (a b : ℤ) where
  -- with less than half of b left, r is the floor
  pub r_is_floor : (a -ℤ b *ℤ floor a b) <ℤ (b -ℤ (a -ℤ b *ℤ floor a b)) → floor a b ≡ r a b
  unfolding r
  r_is_floor h = sym (simp (below_test h))

  -- with more, it is one more
  pub r_above_floor : (b -ℤ (a -ℤ b *ℤ floor a b)) <ℤ (a -ℤ b *ℤ floor a b) → floor a b +ℤ pos 1 ≡ r a b
  unfolding r
  r_above_floor h = sym (simp (at_most_fails (below_at_most h), below_test h))

  -- with just half, it is the even one of the two
  pub r_midway : a -ℤ b *ℤ floor a b ≡ b -ℤ (a -ℤ b *ℤ floor a b) → even_of (floor a b) ≡ r a b
  unfolding r
  r_midway e = sym (simp (at_most_fails (at_most_equal (sym e)), at_most_fails (at_most_equal e)))

-- ---- what makes a number the nearest, and of two the even one
nearer_than_half : {a b q : ℤ} → neg_ℤ b <ℤ (pos 2 *ℤ (b *ℤ q -ℤ a)) → (pos 2 *ℤ (b *ℤ q -ℤ a)) <ℤ b → NearestEven a b q
nearer_than_half low high = record {
  near = record { twice = record { low = below_at_most low; high = below_at_most high } };
  even = ⊎_elim (λ e. absurd (clash_ℤ high (at_most_equal (sym e)))) (λ e. absurd (clash_ℤ low (at_most_equal e)));
}

even_at_half : {a b q : ℤ} → pos 0 <ℤ b → AtHalf a b q → is_even q ≡ true → NearestEven a b q
even_at_half {a} {b} {q} p at-half is-even = record { near = ⊎_elim above below at-half; even = λ _. is-even }
  where
    above : pos 2 *ℤ (b *ℤ q -ℤ a) ≡ b → WithinHalf a b q
    above e = record { twice = record { low = (le_by ((pos 2 *ℤ (b *ℤ q -ℤ a)) ∷ b ∷ []) ((# 0 :< v1) ∷ (v0 :≡ v1) ∷ []) (opp v1) v0 (hyp 0 ⊕ nat 2 ⊗ hyp 1 ⊕ tim (opp (# 1)) 2) tt p e); high = at_most_equal e } }

    below : pos 2 *ℤ (b *ℤ q -ℤ a) ≡ neg_ℤ b → WithinHalf a b q
    below e = record { twice = record { low = at_most_equal (sym e); high = (le_by ((pos 2 *ℤ (b *ℤ q -ℤ a)) ∷ b ∷ []) ((# 0 :< v1) ∷ (v0 :≡ opp v1) ∷ []) v0 v1 (hyp 0 ⊕ nat 2 ⊗ hyp 1 ⊕ hyp 2) tt p e) } }

-- ---- r is that number
module _ (a : ℤ) {b : ℤ} (p : pos 0 <ℤ b) where
  floor_nearest : (a -ℤ b *ℤ floor a b) <ℤ (b -ℤ (a -ℤ b *ℤ floor a b)) → NearestEven a b (floor a b)
  floor_nearest h = nearer_than_half
      (lt_by (a ∷ b ∷ (floor a b) ∷ []) ((v0 :- v1 :* v2 :< v1 :- (v0 :- v1 :* v2)) ∷ []) (opp v1) (# 2 :* (v1 :* v2 :- v0)) (hyp 0 ⊕ hyp 1) tt h)
      (lt_by (a ∷ b ∷ (floor a b) ∷ []) ((# 0 :< v1) ∷ (v1 :* v2 :≤ v0) ∷ []) (# 2 :* (v1 :* v2 :- v0)) v1 (hyp 0 ⊕ hyp 1 ⊕ nat 2 ⊗ hyp 2) tt p (floor_low a p))

  next_nearest : (b -ℤ (a -ℤ b *ℤ floor a b)) <ℤ (a -ℤ b *ℤ floor a b) → NearestEven a b (floor a b +ℤ pos 1)
  next_nearest h = nearer_than_half
      (lt_by (a ∷ b ∷ (floor a b) ∷ []) ((# 0 :< v1) ∷ (v0 :< v1 :* v2 :+ v1) ∷ []) (opp v1) (# 2 :* (v1 :* (v2 :+ # 1) :- v0)) (hyp 0 ⊕ hyp 1 ⊕ nat 2 ⊗ hyp 2) tt p (floor_high a p))
      (lt_by (a ∷ b ∷ (floor a b) ∷ []) ((v1 :- (v0 :- v1 :* v2) :< v0 :- v1 :* v2) ∷ []) (# 2 :* (v1 :* (v2 :+ # 1) :- v0)) v1 (hyp 0 ⊕ hyp 1) tt h)

  -- midway: the floor is a half below, and the number after it a half above
  even_of_both : a -ℤ b *ℤ floor a b ≡ b -ℤ (a -ℤ b *ℤ floor a b) → (t : Bool) → is_even (floor a b) ≡ t → NearestEven a b (cond t (floor a b) (floor a b +ℤ pos 1))
  even_of_both e true h = even_at_half p (inr
      ((ring (a ∷ b ∷ (floor a b) ∷ []) (# 2 :* (v1 :* v2 :- v0)) (opp (v0 :- v1 :* v2 :+ (v0 :- v1 :* v2))) tt)
      ∙ ap (λ z. neg_ℤ (a -ℤ b *ℤ floor a b +ℤ z)) e
      ∙ (ring (a ∷ b ∷ (floor a b) ∷ []) (opp (v0 :- v1 :* v2 :+ (v1 :- (v0 :- v1 :* v2)))) (opp v1) tt))) h
  even_of_both e false h = even_at_half p (inl
      ((ring (a ∷ b ∷ (floor a b) ∷ []) (# 2 :* (v1 :* (v2 :+ # 1) :- v0)) (v1 :- (v0 :- v1 :* v2) :+ (v1 :- (v0 :- v1 :* v2))) tt)
      ∙ ap (λ z. z +ℤ (b -ℤ (a -ℤ b *ℤ floor a b))) (sym e)
      ∙ (ring (a ∷ b ∷ (floor a b) ∷ []) (v0 :- v1 :* v2 :+ (v1 :- (v0 :- v1 :* v2))) v1 tt))) (after_odd (floor a b) h)

  pub r_nearest_even : NearestEven a b (r a b)
  r_nearest_even =
      let past = a -ℤ b *ℤ floor a b in
      let short = b -ℤ (a -ℤ b *ℤ floor a b) in
      ⊎_elim
      (λ h. ⊎_elim
      (λ k. let e = at_most_antisym k h in subst (NearestEven a b) (r_midway a b e) (even_of_both e (is_even (floor a b)) refl))
      (λ k. subst (NearestEven a b) (r_above_floor a b k) (next_nearest k))
      (at_most_or_above past short))
      (λ h. subst (NearestEven a b) (r_is_floor a b h) (floor_nearest h))
      (at_most_or_above short past)

  pub r_within_half : WithinHalf a b (r a b)
  r_within_half = r_nearest_even.near

  pub r_even_at_half : AtHalf a b (r a b) → is_even (r a b) ≡ true
  r_even_at_half = r_nearest_even.even

-- ---- and no other number is
module _ {a b q s : ℤ} (p : pos 0 <ℤ b) (of-q : NearestEven a b q) (of-s : NearestEven a b s) where
  -- of two different ones the lower would be a half below a / b and the higher, the next number, a half above it: both even
  not_two : q <ℤ s → ⊥
  not_two h =
      let next : s ≡ q +ℤ pos 1 = at_most_antisym
      (le_by (a ∷ b ∷ q ∷ s ∷ []) ((# 0 :< v1) ∷ (opp v1 :≤ # 2 :* (v1 :* v2 :- v0)) ∷ (# 2 :* (v1 :* v3 :- v0) :≤ v1) ∷ []) v3 (v2 :+ # 1) (nat 2 ⊗ hyp 0 ⊕ nat 2 ⊗ hyp 1 ⊕ hyp 2 ⊕ hyp 3 ⊕ nat 2 ⊗ hyp 0 ⊗ hyp 1) tt p of-q.near.twice.low of-s.near.twice.high)
      (le_by (q ∷ s ∷ []) ((v0 :< v1) ∷ []) (v0 :+ # 1) v1 (hyp 0 ⊕ hyp 1) tt h) in
      let lower : pos 2 *ℤ (b *ℤ q -ℤ a) ≡ neg_ℤ b = at_most_antisym
      (le_by (a ∷ b ∷ q ∷ s ∷ []) ((v3 :≡ v2 :+ # 1) ∷ (# 2 :* (v1 :* v3 :- v0) :≤ v1) ∷ []) (# 2 :* (v1 :* v2 :- v0)) (opp v1) (hyp 0 ⊕ hyp 2 ⊕ tim (opp (# 2 :* v1)) 1) tt next of-s.near.twice.high)
      of-q.near.twice.low in
      let higher : pos 2 *ℤ (b *ℤ s -ℤ a) ≡ b = at_most_antisym
      of-s.near.twice.high
      (le_by (a ∷ b ∷ q ∷ s ∷ []) ((v3 :≡ v2 :+ # 1) ∷ (opp v1 :≤ # 2 :* (v1 :* v2 :- v0)) ∷ []) v1 (# 2 :* (v1 :* v3 :- v0)) (hyp 0 ⊕ hyp 2 ⊕ tim (opp (# 2 :* v1)) 1) tt next of-q.near.twice.low) in
      one_after_even q (of-q.even (inr lower)) (subst (λ z. is_even z ≡ true) next (of-s.even (inl higher)))

  not_below : s ≤ℤ q
  not_below = ⊎_elim (λ h. h) (λ h. absurd (not_two h)) (at_most_or_above s q)

pub r_unique : (a : ℤ) {b q : ℤ} → pos 0 <ℤ b → NearestEven a b q → q ≡ r a b
r_unique a p of-q = at_most_antisym (not_below p (r_nearest_even a p) of-q) (not_below p of-q (r_nearest_even a p))

pub r_is_nearest_even : RIsNearestEven
r_is_nearest_even a b p = (r_nearest_even a p, λ q of-q. r_unique a p of-q)

-- the statement in plain numbers, which ask nothing but b above 0: r is a half away at most, even where it is exactly a half away, and a whole number
-- that is both is r
pub r_is_nearest_even_says : RIsNearestEven → (a b : ℤ) → pos 0 <ℤ b
    → (neg_ℤ b ≤ℤ (pos 2 *ℤ (b *ℤ r a b -ℤ a))) × ((pos 2 *ℤ (b *ℤ r a b -ℤ a)) ≤ℤ b)
    × (pos 2 *ℤ (b *ℤ r a b -ℤ a) ≡ b → is_even (r a b) ≡ true) × (pos 2 *ℤ (b *ℤ r a b -ℤ a) ≡ neg_ℤ b → is_even (r a b) ≡ true)
    × ((q : ℤ) → neg_ℤ b ≤ℤ (pos 2 *ℤ (b *ℤ q -ℤ a)) → (pos 2 *ℤ (b *ℤ q -ℤ a)) ≤ℤ b
    → (pos 2 *ℤ (b *ℤ q -ℤ a) ≡ b → is_even q ≡ true) → (pos 2 *ℤ (b *ℤ q -ℤ a) ≡ neg_ℤ b → is_even q ≡ true) → q ≡ r a b)
r_is_nearest_even_says law a b p =
    let is = (law a b p).0 in (
      is.near.twice.low,
      is.near.twice.high,
      λ at. is.even (inl at),
      λ at. is.even (inr at),
      λ q low high above below. (law a b p).1 q (record { near = record { twice = record { low = low; high = high } }; even = λ at. ⊎_elim above below at }),
    )

-- ---- by the floor of (2a + b) / (2b), which is nearest with halves up
module _ (a : ℤ) {b : ℤ} (up : ℤ) (p : pos 0 <ℤ b) where
  -- no half: something is left
  pub r_when_rest : (pos 2 *ℤ a +ℤ b) <ℤ (pos 2 *ℤ b *ℤ up +ℤ pos 2 *ℤ b) → pos 0 <ℤ (pos 2 *ℤ a +ℤ b -ℤ pos 2 *ℤ b *ℤ up) → up ≡ r a b
  r_when_rest high rest = r_unique a p (nearer_than_half
      (lt_by (a ∷ b ∷ up ∷ []) ((# 2 :* v0 :+ v1 :< # 2 :* v1 :* v2 :+ # 2 :* v1) ∷ []) (opp v1) (# 2 :* (v1 :* v2 :- v0)) (hyp 0 ⊕ hyp 1) tt high)
      (lt_by (a ∷ b ∷ up ∷ []) ((# 0 :< # 2 :* v0 :+ v1 :- # 2 :* v1 :* v2) ∷ []) (# 2 :* (v1 :* v2 :- v0)) v1 (hyp 0 ⊕ hyp 1) tt rest))

  -- nothing is left: it is a half above, and the number before it a half below
  pub r_at_even_half : pos 2 *ℤ a +ℤ b -ℤ pos 2 *ℤ b *ℤ up ≡ pos 0 → is_even up ≡ true → up ≡ r a b
  r_at_even_half e is-even = r_unique a p (even_at_half p (inl
      ((ring (a ∷ b ∷ up ∷ []) (# 2 :* (v1 :* v2 :- v0)) (v1 :- (# 2 :* v0 :+ v1 :- # 2 :* v1 :* v2)) tt)
      ∙ ap (λ z. b -ℤ z) e
      ∙ (ring (b ∷ []) (v0 :- # 0) v0 tt))) is-even)

  pub r_at_odd_half : pos 2 *ℤ a +ℤ b -ℤ pos 2 *ℤ b *ℤ up ≡ pos 0 → is_even up ≡ false → up -ℤ pos 1 ≡ r a b
  r_at_odd_half e is_odd = r_unique a p (even_at_half p (inr
      ((ring (a ∷ b ∷ up ∷ []) (# 2 :* (v1 :* (v2 :- # 1) :- v0)) (opp v1 :- (# 2 :* v0 :+ v1 :- # 2 :* v1 :* v2)) tt)
      ∙ ap (λ z. neg_ℤ b -ℤ z) e
      ∙ (ring (b ∷ []) (opp v0 :- # 0) (opp v0) tt))) (before_odd up is_odd))

-- ---- by an even number 2h: to what is divided comes h, less 1 where a / 2h, cut off, is even
module _ (a h : ℕ) (p : 0 < h) where
  abbrev quotient : ℕ
  quotient = a / (2 * h)

  abbrev sum : ℕ
  sum = a + (h - 1) + a / (2 * h) % 2

  abbrev nearest : ℕ
  nearest = (a + (h - 1) + a / (2 * h) % 2) / (2 * h)

  quotient_low : (pos 2 *ℤ pos h *ℤ pos quotient) ≤ℤ pos a
  quotient_low = natural_at_most (omega (arith, div-add-mod a (2 * h)))

  quotient_high : pos a <ℤ (pos 2 *ℤ pos h *ℤ pos quotient +ℤ pos 2 *ℤ pos h)
  quotient_high = natural_below (omega (arith, div-add-mod a (2 * h), mod-lt a {m = 2 * h} (omega arith)))

  nearest_low : (pos 2 *ℤ pos h *ℤ pos nearest) <ℤ (pos a +ℤ pos h +ℤ pos (quotient % 2))
  nearest_low = natural_below (omega (arith, div-add-mod sum (2 * h)))

  nearest_high : (pos a +ℤ pos h +ℤ pos (quotient % 2)) ≤ℤ (pos 2 *ℤ pos h *ℤ pos nearest +ℤ pos 2 *ℤ pos h)
  nearest_high = natural_at_most (omega (arith, div-add-mod sum (2 * h), mod-lt sum {m = 2 * h} (omega arith)))

  last_bit : pos (quotient % 2) ≤ℤ pos 1
  last_bit = natural_at_most (omega arith)

  -- a half above a / 2h: the quotient is the number before, and odd
  even_above : pos 2 *ℤ (pos 2 *ℤ pos h *ℤ pos nearest -ℤ pos a) ≡ pos 2 *ℤ pos h → is_even (pos nearest) ≡ true
  even_above e =
      let odd : 1 ≤ quotient % 2 = at_most_natural ((le_by ((pos a) ∷ (pos h) ∷ (pos nearest) ∷ (pos (quotient % 2)) ∷ []) ((# 2 :* (# 2 :* v1 :* v2 :- v0) :≡ # 2 :* v1) ∷ (# 2 :* v1 :* v2 :< v0 :+ v1 :+ v3) ∷ []) (# 1) v3 (nat 2 ⊗ hyp 0 ⊕ nat 2 ⊗ hyp 2 ⊕ tim (opp (# 1)) 1) tt e nearest_low)) in
      let before : quotient + 1 ≤ nearest = at_most_natural ((le_by ((pos a) ∷ (pos h) ∷ (pos nearest) ∷ (pos quotient) ∷ []) ((# 0 :< v1) ∷ (# 2 :* (# 2 :* v1 :* v2 :- v0) :≡ # 2 :* v1) ∷ (# 2 :* v1 :* v3 :≤ v0) ∷ []) (v3 :+ # 1) v2 (nat 4 ⊗ hyp 0 ⊕ nat 2 ⊗ hyp 1 ⊕ nat 2 ⊗ hyp 3 ⊕ nat 4 ⊗ hyp 0 ⊗ hyp 1 ⊕ tim (opp (# 1)) 2) tt (natural_below p) e quotient_low)) in
      let after : nearest ≤ quotient + 1 = at_most_natural ((le_by ((pos a) ∷ (pos h) ∷ (pos nearest) ∷ (pos quotient) ∷ []) ((# 0 :< v1) ∷ (# 2 :* (# 2 :* v1 :* v2 :- v0) :≡ # 2 :* v1) ∷ (v0 :< # 2 :* v1 :* v3 :+ # 2 :* v1) ∷ []) v2 (v3 :+ # 1) (nat 4 ⊗ hyp 0 ⊕ nat 2 ⊗ hyp 1 ⊕ hyp 2 ⊕ nat 2 ⊗ hyp 3 ⊕ nat 4 ⊗ hyp 0 ⊗ hyp 1) tt (natural_below p) e quotient_high)) in
      eq-eqb (nearest % 2) 0 (omega arith)

  -- a half below it: the quotient is the number itself, and even
  even_below : pos 2 *ℤ (pos 2 *ℤ pos h *ℤ pos nearest -ℤ pos a) ≡ neg_ℤ (pos 2 *ℤ pos h) → is_even (pos nearest) ≡ true
  even_below e =
      let even : quotient % 2 ≤ 0 = at_most_natural ((le_by ((pos a) ∷ (pos h) ∷ (pos nearest) ∷ (pos (quotient % 2)) ∷ []) ((# 2 :* (# 2 :* v1 :* v2 :- v0) :≡ opp (# 2 :* v1)) ∷ (v0 :+ v1 :+ v3 :≤ # 2 :* v1 :* v2 :+ # 2 :* v1) ∷ []) v3 (# 0) (nat 2 ⊗ hyp 0 ⊕ hyp 1 ⊕ nat 2 ⊗ hyp 2) tt e nearest_high)) in
      let not_after : quotient ≤ nearest = at_most_natural ((le_by ((pos a) ∷ (pos h) ∷ (pos nearest) ∷ (pos quotient) ∷ []) ((# 0 :< v1) ∷ (# 2 :* (# 2 :* v1 :* v2 :- v0) :≡ opp (# 2 :* v1)) ∷ (# 2 :* v1 :* v3 :≤ v0) ∷ []) v3 v2 (nat 4 ⊗ hyp 0 ⊕ nat 2 ⊗ hyp 1 ⊕ nat 2 ⊗ hyp 3 ⊕ nat 4 ⊗ hyp 0 ⊗ hyp 1 ⊕ tim (opp (# 1)) 2) tt (natural_below p) e quotient_low)) in
      let not-before : nearest ≤ quotient = at_most_natural ((le_by ((pos a) ∷ (pos h) ∷ (pos nearest) ∷ (pos quotient) ∷ []) ((# 0 :< v1) ∷ (# 2 :* (# 2 :* v1 :* v2 :- v0) :≡ opp (# 2 :* v1)) ∷ (v0 :< # 2 :* v1 :* v3 :+ # 2 :* v1) ∷ []) v2 v3 (nat 4 ⊗ hyp 0 ⊕ nat 2 ⊗ hyp 1 ⊕ hyp 2 ⊕ nat 2 ⊗ hyp 3 ⊕ nat 4 ⊗ hyp 0 ⊗ hyp 1) tt (natural_below p) e quotient_high)) in
      eq-eqb (nearest % 2) 0 (omega arith)

  pub r_of_naturals : pos ((a + (h - 1) + a / (2 * h) % 2) / (2 * h)) ≡ r (pos a) (pos 2 *ℤ pos h)
  r_of_naturals = r_unique (pos a) (natural_below (omega arith)) (record {
    near = record {
      twice = record {
        low = (le_by ((pos a) ∷ (pos h) ∷ (pos nearest) ∷ (pos (quotient % 2)) ∷ []) ((v0 :+ v1 :+ v3 :≤ # 2 :* v1 :* v2 :+ # 2 :* v1) ∷ (# 0 :≤ v3) ∷ []) (opp (# 2 :* v1)) (# 2 :* (# 2 :* v1 :* v2 :- v0)) (hyp 0 ⊕ nat 2 ⊗ hyp 1 ⊕ nat 2 ⊗ hyp 2) tt nearest_high (natural_not_negative (quotient % 2)));
        high = (le_by ((pos a) ∷ (pos h) ∷ (pos nearest) ∷ (pos (quotient % 2)) ∷ []) ((# 2 :* v1 :* v2 :< v0 :+ v1 :+ v3) ∷ (v3 :≤ # 1) ∷ []) (# 2 :* (# 2 :* v1 :* v2 :- v0)) (# 2 :* v1) (hyp 0 ⊕ nat 2 ⊗ hyp 1 ⊕ nat 2 ⊗ hyp 2) tt nearest_low last_bit);
      };
    };
    even = ⊎_elim even_above even_below;
  })

-- an even number of whole numbers more is as many more after it
pub r_shifted : (a k : ℤ) {b : ℤ} → pos 0 <ℤ b → r (a +ℤ pos 2 *ℤ k *ℤ b) b ≡ r a b +ℤ pos 2 *ℤ k
r_shifted a k {b} p =
    let of-a = r_nearest_even a p in
    let same : b *ℤ (r a b +ℤ pos 2 *ℤ k) -ℤ (a +ℤ pos 2 *ℤ k *ℤ b) ≡ b *ℤ r a b -ℤ a = (ring (a ∷ k ∷ b ∷ (r a b) ∷ []) (v2 :* (v3 :+ # 2 :* v1) :- (v0 :+ # 2 :* v1 :* v2)) (v2 :* v3 :- v0) tt) in
    sym (r_unique (a +ℤ pos 2 *ℤ k *ℤ b) p (record {
      near = record { twice = rw same of-a.near.twice };
      even = λ at-half. even_more (r a b) k (of-a.even (rw same at at-half));
    }))

-- ---- of any rounding that is within a half
module _ {a b q : ℤ} (p : pos 0 <ℤ b) (h : WithinHalf a b q) where
  pub within_half_at_most : (m : ℤ) → a ≤ℤ (m *ℤ b) → q ≤ℤ m
  within_half_at_most m k = (le_by (a ∷ b ∷ q ∷ m ∷ []) ((# 0 :< v1) ∷ (# 2 :* (v1 :* v2 :- v0) :≤ v1) ∷ (v0 :≤ v3 :* v1) ∷ []) v2 v3 (nat 2 ⊗ hyp 0 ⊕ hyp 1 ⊕ hyp 2 ⊕ nat 2 ⊗ hyp 3 ⊕ nat 2 ⊗ hyp 0 ⊗ hyp 1) tt p h.twice.high k)

  pub within_half_at_least : (m : ℤ) → (m *ℤ b) ≤ℤ a → m ≤ℤ q
  within_half_at_least m k = (le_by (a ∷ b ∷ q ∷ m ∷ []) ((# 0 :< v1) ∷ (opp v1 :≤ # 2 :* (v1 :* v2 :- v0)) ∷ (v3 :* v1 :≤ v0) ∷ []) v3 v2 (nat 2 ⊗ hyp 0 ⊕ hyp 1 ⊕ hyp 2 ⊕ nat 2 ⊗ hyp 3 ⊕ nat 2 ⊗ hyp 0 ⊗ hyp 1) tt p h.twice.low k)

  -- a whole number that a / b is nearer to than a half
  pub within_half_nearest : (m : ℤ) → (pos 2 *ℤ b *ℤ m) <ℤ (pos 2 *ℤ a +ℤ b) → (pos 2 *ℤ a) <ℤ (pos 2 *ℤ b *ℤ m +ℤ b) → m ≡ q
  within_half_nearest m k l = at_most_antisym
      (le_by (a ∷ b ∷ m ∷ q ∷ []) ((# 0 :< v1) ∷ (# 2 :* v1 :* v2 :< # 2 :* v0 :+ v1) ∷ (opp v1 :≤ # 2 :* (v1 :* v3 :- v0)) ∷ []) v2 v3 (nat 2 ⊗ hyp 0 ⊕ hyp 2 ⊕ hyp 3 ⊕ nat 2 ⊗ hyp 0 ⊗ hyp 1) tt p k h.twice.low)
      (le_by (a ∷ b ∷ m ∷ q ∷ []) ((# 0 :< v1) ∷ (# 2 :* v0 :< # 2 :* v1 :* v2 :+ v1) ∷ (# 2 :* (v1 :* v3 :- v0) :≤ v1) ∷ []) v3 v2 (nat 2 ⊗ hyp 0 ⊕ hyp 2 ⊕ hyp 3 ⊕ nat 2 ⊗ hyp 0 ⊗ hyp 1) tt p l h.twice.high)

-- a multiple of b loses nothing
pub r_of_multiple : (a : ℤ) {b : ℤ} (m : ℤ) → pos 0 <ℤ b → a ≡ m *ℤ b → r a b ≡ m
r_of_multiple a m p is = at_most_antisym (within_half_at_most p (r_within_half a p) m (at_most_equal is)) (within_half_at_least p (r_within_half a p) m (at_most_equal (sym is)))

-- r(a, b) stays between whole numbers that a / b is between
pub r_bounded : (a : ℤ) {b m : ℤ} → pos 0 <ℤ b → Bounded a (m *ℤ b) → Bounded (r a b) m
r_bounded a {b} {m} p h = record {
  low = within_half_at_least p (r_within_half a p) (neg_ℤ m) (le_by (a ∷ b ∷ m ∷ []) ((opp (v2 :* v1) :≤ v0) ∷ []) (opp v2 :* v1) v0 (hyp 0 ⊕ hyp 1) tt h.low);
  high = within_half_at_most p (r_within_half a p) m h.high;
}
