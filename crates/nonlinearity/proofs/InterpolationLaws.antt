-- The interpolation of TNL, for pairs in their ranges: what it is below, at, between and above the pairs, that its denominator is above 0, and
-- that it stays between whole numbers that both pairs' TNL are between. Of r only this is used: it is within a half.
use Prim.Native.Nat.{ℕ, zero, suc, ◌+◌, ◌-◌, ◌<◌}
use native.Mathlib.Omega.{arith}
use mathlib.Core.Path.{◌≡◌, refl, ap, subst, sym, ◌∙◌}
use mathlib.Core.List.{[], ◌∷◌}
use mathlib.Core.Bool.{Bool, true, false, cond}
use lib.IntN.{ℤ, pos, neg_ℤ, ◌*ℤ◌}
use lib.Signed.{◌≤ℤ◌, ◌<ℤ◌, lt_z_yes, ≤ℤ_refl}
use Rattle.integers.specs.Rounding.{r}
use Rattle.integers.specs.Bounds.{Bounded, WithinHalf}
use Rattle.integers.specs.Fractions.{Fraction, whole}
use Rattle.integers.proofs.Ring.{◌:+◌, ◌:-◌, ◌:*◌, ring, #, v0, v1, v2, v3, v4, v5}
use Rattle.integers.proofs.Certificate.{◌:≤◌, ◌:<◌, hyp, ◌⊕◌, ◌⊗◌, le_by, lt_by}
use Rattle.integers.proofs.Order.{at_most_equal, at_most_antisym, below_trans, le_z_true, le_z_false, at_most_test}
use Rattle.integers.proofs.Fractions.{times_one}
use Rattle.integers.proofs.Nearest.{r_within_half, r_of_multiple, within_half_at_most, within_half_at_least}
use Rattle.table.specs.declared.ShelfPair.{ShelfPair}
use Rattle.table.specs.Settings.{pairs}
use Rattle.table.specs.ValueRanges.{ShelfPairsRange}
use Rattle.table.proofs.Answers.{below_is_not_above}
use Rattle.nonlinearity.specs.Interpolation.{on_line, above_pair, unrounded_tnl, tnl_of}

-- ---- the line through two pairs
module _ (low high : ShelfPair) {shelf : ℤ} (above : low.shelf <ℤ shelf) (up_to_lem : shelf ≤ℤ high.shelf) where
  pub line_above : pos 0 <ℤ (on_line low high shelf).den
  line_above = (lt_by (low.shelf ∷ shelf ∷ high.shelf ∷ []) ((v0 :< v1) ∷ (v1 :≤ v2) ∷ []) (# 0) (v2 :- v0) (hyp 0 ⊕ hyp 1 ⊕ hyp 2) tt above up_to_lem)

  -- it lies between the two TNL
  pub line_at_most : {most : ℤ} → low.tnl ≤ℤ most → high.tnl ≤ℤ most → (on_line low high shelf).num ≤ℤ (most *ℤ (on_line low high shelf).den)
  line_at_most {most} of_low of-high = (le_by (low.shelf ∷ shelf ∷ high.shelf ∷ low.tnl ∷ high.tnl ∷ most ∷ []) ((v0 :< v1) ∷ (v1 :≤ v2) ∷ (v3 :≤ v5) ∷ (v4 :≤ v5) ∷ []) (v3 :* (v2 :- v1) :+ v4 :* (v1 :- v0)) (v5 :* (v2 :- v0)) (hyp 0 ⊕ hyp 4 ⊕ hyp 1 ⊗ hyp 4 ⊕ hyp 2 ⊗ hyp 3) tt above up_to_lem of_low of-high)

  pub line_at_least : {least : ℤ} → least ≤ℤ low.tnl → least ≤ℤ high.tnl → (least *ℤ (on_line low high shelf).den) ≤ℤ (on_line low high shelf).num
  line_at_least {least} of_low of-high = (le_by (low.shelf ∷ shelf ∷ high.shelf ∷ low.tnl ∷ high.tnl ∷ least ∷ []) ((v0 :< v1) ∷ (v1 :≤ v2) ∷ (v5 :≤ v3) ∷ (v5 :≤ v4) ∷ []) (v5 :* (v2 :- v0)) (v3 :* (v2 :- v1) :+ v4 :* (v1 :- v0)) (hyp 0 ⊕ hyp 4 ⊕ hyp 1 ⊗ hyp 4 ⊕ hyp 2 ⊗ hyp 3) tt above up_to_lem of_low of-high)

-- at its upper pair it is that pair's TNL
line_at_pair : (low high : ShelfPair) → (on_line low high high.shelf).num ≡ high.tnl *ℤ (on_line low high high.shelf).den
line_at_pair low high = (ring (low.shelf ∷ high.shelf ∷ low.tnl ∷ high.tnl ∷ []) (v2 :* (v1 :- v1) :+ v3 :* (v1 :- v0)) (v3 :* (v1 :- v0)) tt)

-- ---- which pairs are taken
module _ (pair : ℕ → ShelfPair) (shelf : ℤ) where
  pub unrounded_up_to_first : shelf ≤ℤ (pair 0).shelf → unrounded_tnl pair shelf ≡ whole (pair 0).tnl
  unfolding unrounded_tnl
  unrounded_up_to_first up_to_lem = rw (at_most_test up_to_lem)

  above_pair_here : (j : ℕ) → j + 1 < pairs → shelf ≤ℤ (pair (j + 1)).shelf → above_pair pair j (pairs - 1 - j) shelf ≡ on_line (pair j) (pair (j + 1)) shelf
  unfolding above_pair
  above_pair_here j below up_to_lem = let more : pairs - 1 - j ≡ suc (pairs - 2 - j) = omega arith in rw (more, at_most_test up_to_lem)

  above_pair_next : (j : ℕ) → j + 1 < pairs → (pair (j + 1)).shelf <ℤ shelf → above_pair pair j (pairs - 1 - j) shelf ≡ above_pair pair (j + 1) (pairs - 1 - (j + 1)) shelf
  unfolding above_pair
  above_pair_next j below above =
      let more : pairs - 1 - j ≡ suc (pairs - 1 - (j + 1)) = omega arith in
      rw (more, below_is_not_above above)

  pub above_last : above_pair pair (pairs - 1) 0 shelf ≡ whole (pair (pairs - 1)).tnl
  unfolding above_pair
  above_last = refl

  above_first : (pair 0).shelf <ℤ shelf → unrounded_tnl pair shelf ≡ above_pair pair 0 (pairs - 1) shelf
  unfolding unrounded_tnl
  above_first above = rw (below_is_not_above above)

abbrev rounded : Fraction → ℤ
rounded f = r f.num f.den

-- what holds of either value, each where its test leads there, holds of the one that is taken
of_the_taken : (Holds : Fraction → Type 0) {test : Bool} {first second : Fraction} → (test ≡ true → Holds first) → (test ≡ false → Holds second) → (t : Bool) → test ≡ t
    → Holds (cond t first second)
of_the_taken Holds first second true is = first is
of_the_taken Holds first second false is = second is

-- ---- pairs in their ranges
module _ {pair : ℕ → ShelfPair} (h : ShelfPairsRange pair) where
  module _ (shelf : ℤ) where
    -- above a pair nothing is taken of the ones before it
    above_pair_lem : (j : ℕ) → j < pairs → (pair j).shelf <ℤ shelf → unrounded_tnl pair shelf ≡ above_pair pair j (pairs - 1 - j) shelf
    above_pair_lem zero below above = above_first pair shelf above
    above_pair_lem (suc j) below above =
        let next : suc j ≡ j + 1 = omega arith in
        let here : (pair (j + 1)).shelf <ℤ shelf = rw next at above in
        let before = below_trans (h.rises j (omega arith)) here in
        rw next (above_pair_lem j (omega arith) before ∙ above_pair_next pair shelf j (omega arith) here)

    pub unrounded_between : (j : ℕ) → j + 1 < pairs → (pair j).shelf <ℤ shelf → shelf ≤ℤ (pair (j + 1)).shelf
        → unrounded_tnl pair shelf ≡ on_line (pair j) (pair (j + 1)) shelf
    unrounded_between j below above up_to_lem = above_pair_lem j (omega arith) above ∙ above_pair_here pair shelf j below up_to_lem

    pub unrounded_above_last : (pair (pairs - 1)).shelf <ℤ shelf → unrounded_tnl pair shelf ≡ whole (pair (pairs - 1)).tnl
    unrounded_above_last above = above_pair_lem (pairs - 1) (omega arith) above ∙ above_last pair shelf

    -- ---- the denominator is above 0, and TNL lies between whole numbers that all five TNL are between
    record Within (least most : ℤ) (f : Fraction) : Type 0 where
      above : pos 0 <ℤ f.den
      low : (least *ℤ f.den) ≤ℤ f.num
      high : f.num ≤ℤ (most *ℤ f.den)

    module _ {least most : ℤ} (least-of : (j : ℕ) → j < pairs → least ≤ℤ (pair j).tnl) (most-of : (j : ℕ) → j < pairs → (pair j).tnl ≤ℤ most) where
      end_within : (j : ℕ) → j < pairs → Within least most (whole (pair j).tnl)
      end_within j below = record { above = lt_z_yes tt; low = rw (times_one least) (least-of j below); high = rw (times_one most) (most-of j below) }

      line_within : (j : ℕ) → j + 1 < pairs → (pair j).shelf <ℤ shelf → shelf ≤ℤ (pair (j + 1)).shelf → Within least most (on_line (pair j) (pair (j + 1)) shelf)
      line_within j below above up_to_lem =
          let before : j < pairs = omega arith in
          record {
            above = line_above (pair j) (pair (j + 1)) above up_to_lem;
            low = line_at_least (pair j) (pair (j + 1)) above up_to_lem (least-of j before) (least-of (j + 1) below);
            high = line_at_most (pair j) (pair (j + 1)) above up_to_lem (most-of j before) (most-of (j + 1) below);
          }

      above_pair_within : (more j : ℕ) → j + more < pairs → (pair j).shelf <ℤ shelf → Within least most (above_pair pair j more shelf)
      unfolding above_pair
      above_pair_within zero j below above = end_within j (omega arith)
      above_pair_within (suc more) j below above =
          of_the_taken (Within least most) (λ up_to_lem. line_within j (omega arith) above (le_z_true up_to_lem)) (λ past. above_pair_within more (j + 1) (omega arith) (le_z_false past)) _ refl

      unrounded_within : Within least most (unrounded_tnl pair shelf)
      unfolding unrounded_tnl
      unrounded_within = of_the_taken (Within least most) (λ up_to_lem. end_within 0 (omega arith)) (λ past. above_pair_within (pairs - 1) 0 (omega arith) (le_z_false past)) _ refl

    in-range : Within (neg_ℤ (pos 8192)) (pos 8192) (unrounded_tnl pair shelf)
    in-range = unrounded_within (λ j below. (h.tnl j below).low) (λ j below. (h.tnl j below).high)

    pub unrounded_above : pos 0 <ℤ (unrounded_tnl pair shelf).den
    unrounded_above = in-range.above

    pub tnl_within_half : WithinHalf (unrounded_tnl pair shelf).num (unrounded_tnl pair shelf).den (tnl_of pair shelf)
    unfolding tnl_of
    tnl_within_half = r_within_half (unrounded_tnl pair shelf).num unrounded_above

    tnl_from_to : {least most : ℤ} → Within least most (unrounded_tnl pair shelf) → (least ≤ℤ tnl_of pair shelf) × (tnl_of pair shelf ≤ℤ most)
    tnl_from_to {least} {most} within =
        (within_half_at_least unrounded_above tnl_within_half least within.low, within_half_at_most unrounded_above tnl_within_half most within.high)

    pub tnl_bounded : Bounded (tnl_of pair shelf) (pos 8192)
    tnl_bounded = let ends = tnl_from_to in-range in record { low = ends.0; high = ends.1 }

    -- five pairs with one TNL have it at every shelf temperature
    pub tnl_level : (tnl : ℤ) → ((j : ℕ) → j < pairs → (pair j).tnl ≡ tnl) → tnl_of pair shelf ≡ tnl
    tnl_level tnl level =
        let ends = tnl_from_to (unrounded_within (λ j below. at_most_equal (sym (level j below))) (λ j below. at_most_equal (level j below))) in
        at_most_antisym ends.1 ends.0

    -- ---- below the first pair or at it, above the last one, between two
    pub tnl_up_to_first : shelf ≤ℤ (pair 0).shelf → tnl_of pair shelf ≡ (pair 0).tnl
    unfolding tnl_of
    tnl_up_to_first up_to_lem = ap rounded (unrounded_up_to_first pair shelf up_to_lem) ∙ r_of_multiple _ (pair 0).tnl (lt_z_yes tt) (sym (times_one (pair 0).tnl))

    pub tnl_above_last : (pair (pairs - 1)).shelf <ℤ shelf → tnl_of pair shelf ≡ (pair (pairs - 1)).tnl
    unfolding tnl_of
    tnl_above_last above = ap rounded (unrounded_above_last above) ∙ r_of_multiple _ (pair (pairs - 1)).tnl (lt_z_yes tt) (sym (times_one (pair (pairs - 1)).tnl))

    module _ (j : ℕ) (below : j + 1 < pairs) (above : (pair j).shelf <ℤ shelf) (up_to_lem : shelf ≤ℤ (pair (j + 1)).shelf) where
      pub tnl_between : tnl_of pair shelf ≡ r (on_line (pair j) (pair (j + 1)) shelf).num (on_line (pair j) (pair (j + 1)) shelf).den
      unfolding tnl_of
      tnl_between = ap rounded (unrounded_between j below above up_to_lem)

      -- it lies between the two TNL
      pub tnl_at_most : {most : ℤ} → (pair j).tnl ≤ℤ most → (pair (j + 1)).tnl ≤ℤ most → tnl_of pair shelf ≤ℤ most
      tnl_at_most {most} of_low of-high =
          let p = line_above (pair j) (pair (j + 1)) above up_to_lem in
          subst (λ t. t ≤ℤ most) (sym tnl_between) (within_half_at_most p (r_within_half _ p) most (line_at_most (pair j) (pair (j + 1)) above up_to_lem of_low of-high))

      pub tnl_at_least : {least : ℤ} → least ≤ℤ (pair j).tnl → least ≤ℤ (pair (j + 1)).tnl → least ≤ℤ tnl_of pair shelf
      tnl_at_least {least} of_low of-high =
          let p = line_above (pair j) (pair (j + 1)) above up_to_lem in
          subst (λ t. least ≤ℤ t) (sym tnl_between) (within_half_at_least p (r_within_half _ p) least (line_at_least (pair j) (pair (j + 1)) above up_to_lem of_low of-high))

  -- ---- at a pair its value
  pub tnl_at_pair : (j : ℕ) → j < pairs → tnl_of pair (pair j).shelf ≡ (pair j).tnl
  tnl_at_pair zero below = tnl_up_to_first (pair 0).shelf (≤ℤ_refl (pair 0).shelf)
  tnl_at_pair (suc j) below =
      let next : suc j ≡ j + 1 = omega arith in
      let rises = h.rises j (omega arith) in
      let up_to_lem = ≤ℤ_refl (pair (j + 1)).shelf in
      rw next
      (tnl_between (pair (j + 1)).shelf j (omega arith) rises up_to_lem
      ∙ r_of_multiple _ (pair (j + 1)).tnl (line_above (pair j) (pair (j + 1)) rises up_to_lem) (line_at_pair (pair j) (pair (j + 1))))
