-- A count fits a wanted T exactly where that T is placed for it, so that of a count and a wanted T one comparison tells on which side of the
-- count another that fits can be; and no second count fits.
use Prim.Native.Nat.{ℕ, ◌<◌, ◌≤◌}
use native.Mathlib.Decide.{dec_lt}
use native.Mathlib.Omega.{arith}
use mathlib.Core.Path.{◌≡◌, refl, sym, ap, subst, ◌∙◌}
use mathlib.Core.Bool.{Bool, true, false, or-true}
use mathlib.Core.Logic.{◌⊎◌, inl, inr}
use lib.IntN.{ℤ, pos, negsuc, ◌*ℤ◌}
use lib.Signed.{◌≤ℤ◌, ◌<ℤ◌, lt_z, clash_ℤ, ≤ℤ_refl}
use borrow.Author.Tests.{eqb-true, eq-eqb}
use Rattle.integers.proofs.Naturals.{natural_at_most, natural_below}
use Rattle.integers.proofs.Order.{lt_z_false, at_most_fails, at_most_trans, below_at_most, below_test}
use Rattle.scene.specs.declared.Constants.{Constants}
use Rattle.scene.specs.Scene.{numerator}
use Rattle.scene.specs.Temperature.{guard_fails}
use Rattle.scene.specs.Ranges.{ConstantsRange}
use Rattle.scene.specs.Steps.{placed}
use Rattle.scene.specs.BeforeBias.{TOrMark, just_t, flagged_mark, outside_mark, guard_mark, before_bias}
use Rattle.scene.proofs.Delivered.{temperature_of}
use Rattle.scene.proofs.Ranges.{scene_range}
use Rattle.scene.proofs.BiasRange.{temperature_low, temperature_high}
use Rattle.scene.proofs.Placed.{NotOutside, just_not_outside, just_temperature, just_guarded, placed_below, placed_above, placed_between, placed_is_temperature, placed_rises_from, placed_rises_to}
use Rattle.std.specs.Bool.{then_some}
use Rattle.lookup.specs.Lookup.{found_count, no_count, found_count_or_none, delivered_with}
use Rattle.lookup.specs.Steps.{count_with}
use Rattle.lookup.proofs.SearchLaws.{not_both, none_fits, only_one_fits}

-- ---- a scene fits where it is delivered with the wanted T
pub fits_just : (wanted : ℕ) (scene : TOrMark) → delivered_with wanted scene ≡ true → scene ≡ just_t (pos wanted)
fits_just wanted (just_t (pos n)) e = ap (λ (n : ℕ). just_t (pos n)) (eqb-true n wanted e)
fits_just wanted (just_t (negsuc n)) e = not_both e refl
fits_just wanted flagged_mark e = not_both e refl
fits_just wanted outside_mark e = not_both e refl
fits_just wanted guard_mark e = not_both e refl

pub just_fits : (wanted : ℕ) {scene : TOrMark} → scene ≡ just_t (pos wanted) → delivered_with wanted scene ≡ true
just_fits wanted is = ap (delivered_with wanted) is ∙ eq-eqb wanted wanted refl

module _ (k : Constants) (count wanted : ℕ) (fits : delivered_with wanted (before_bias k count) ≡ true) where
  abbrev is_just : before_bias k count ≡ just_t (pos wanted)
  is_just = fits_just wanted (before_bias k count) fits

  pub fits_not_outside : NotOutside k count
  fits_not_outside = just_not_outside k count (pos wanted) is_just

  pub fits_placed : placed k count ≡ pos wanted
  fits_placed = sym (placed_is_temperature fits_not_outside) ∙ just_temperature k count (pos wanted) is_just

-- ---- where a wanted T is placed, the count fits
module _ {k : Constants} (h : ConstantsRange k) (count wanted : ℕ) (small : wanted ≤ 4294967295) where
  pub placed_fits : placed k count ≡ pos wanted → delivered_with wanted (before_bias k count) ≡ true
  placed_fits is = by_tests_lem (lt_z (numerator k count) (pos 0)) refl (lt_z (pos 5 *ℤ k.d) (pos 4 *ℤ numerator k count)) refl
    where
      by_tests_lem : (a : Bool) → lt_z (numerator k count) (pos 0) ≡ a → (b : Bool) → lt_z (pos 5 *ℤ k.d) (pos 4 *ℤ numerator k count) ≡ b → delivered_with wanted (before_bias k count) ≡ true
      by_tests_lem true negative b e = let same = placed_below k count negative ∙ is in let clash : ◌≡◌ {A = ℕ} 0 1 = cc in absurd (omega arith)
      by_tests_lem false not_negative true above = let same : pos 4294967296 ≡ pos wanted = placed_above k count not_negative above ∙ is in let number : 4294967296 ≡ wanted = cc in absurd (omega arith)
      by_tests_lem false not_negative false not_above_lem =
          let range = scene_range h (lt_z_false not_negative) (lt_z_false not_above_lem) in
          let low : pos 1 ≤ℤ temperature_of k count = at_most_trans (natural_at_most (omega arith)) (temperature_low range) in
          let high : temperature_of k count ≤ℤ pos 16777215 = at_most_trans (temperature_high range) (natural_at_most (omega arith)) in
          let scene : before_bias k count ≡ just_t (pos wanted) = rw (not_negative, not_above_lem, at_most_fails low, at_most_fails high) (ap just_t (placed_between k count not_negative not_above_lem ∙ is)) in
          just_fits wanted scene

-- ---- on which side of a middle count the one that fits is
module _ {k : Constants} (h : ConstantsRange k) (wanted middle count : ℕ) (fits : delivered_with wanted (before_bias k count) ≡ true) where
  pub fits_from : placed k middle ≤ℤ pos wanted → middle ≤ count
  fits_from reached = by_order (dec_lt count middle)
    where
      by_order : Dec (count < middle) → middle ≤ count
      by_order (no not_below) = omega arith
      by_order (yes below) = absurd (clash_ℤ (subst (λ (t : ℤ). t <ℤ placed k middle) (fits_placed k count wanted fits) (placed_rises_from h below (fits_not_outside k count wanted fits))) reached)

  pub fits_below : pos wanted <ℤ placed k middle → count < middle
  fits_below past = by_order (dec_lt count middle)
    where
      placed_past : pos wanted <ℤ placed k count → count < middle
      placed_past less = absurd (clash_ℤ less (subst (λ (t : ℤ). t ≤ℤ pos wanted) (sym (fits_placed k count wanted fits)) (≤ℤ_refl (pos wanted))))

      by_place : Dec (middle < count) → middle ≤ count → count < middle
      by_place (yes above) from = absurd (clash_ℤ past (below_at_most (subst (λ (t : ℤ). placed k middle <ℤ t) (fits_placed k count wanted fits) (placed_rises_to h above (fits_not_outside k count wanted fits)))))
      by_place (no not_above_lem) from = let same : middle ≡ count = omega arith in placed_past (subst (λ (c : ℕ). pos wanted <ℤ placed k c) same past)

      by_order : Dec (count < middle) → count < middle
      by_order (yes below) = below
      by_order (no not_below) = by_place (dec_lt middle count) (omega arith)

-- ---- no second count fits
pub only_count_fits : {k : Constants} → ConstantsRange k → (wanted count other : ℕ)
    → delivered_with wanted (before_bias k count) ≡ true → delivered_with wanted (before_bias k other) ≡ true → count ≡ other
only_count_fits {k} h wanted count other fits also =
    let placed_at : (c : ℕ) → delivered_with wanted (before_bias k c) ≡ true → placed k c ≤ℤ pos wanted = λ c fit. subst (λ (t : ℤ). t ≤ℤ pos wanted) (sym (fits_placed k c wanted fit)) (≤ℤ_refl (pos wanted)) in
    let one : other ≤ count = fits_from h wanted other count fits (placed_at other also) in
    let two : count ≤ other = fits_from h wanted count other also (placed_at count fits) in
    omega arith

-- ---- where only one count can fit, it decides
module _ {k : Constants} (h : ConstantsRange k) (wanted c : ℕ) (only : (count : ℕ) → count ≤ 65535 → delivered_with wanted (before_bias k count) ≡ true → count ≡ c) where
  abbrev fit : ℕ → Bool
  fit count = delivered_with wanted (before_bias k count)

  pub candidate_found : c ≤ 65535 → wanted ≤ 4294967295 → placed k c ≡ pos wanted → found_count c ≡ count_with k wanted
  candidate_found inside small is = sym (only_one_fits fit 65536 c (omega arith) (placed_fits h c wanted small is) (λ count below. only count (omega arith)))

  pub candidate_fails : (placed k c ≡ pos wanted → ⊥) → no_count ≡ count_with k wanted
  candidate_fails other = sym (none_fits fit 65536 (λ count below. by_test count (omega arith) (fit count) refl))
    where
      by_test : (count : ℕ) → count ≤ 65535 → (b : Bool) → fit count ≡ b → b ≡ false
      by_test count inside false e = refl
      by_test count inside true e = absurd (other (ap (placed k) (sym (only count inside e)) ∙ fits_placed k count wanted e))

  pub candidate_decides : c ≤ 65535 → wanted ≤ 4294967295 → (test : Bool) → (test ≡ true → placed k c ≡ pos wanted)
      → (test ≡ false → placed k c ≡ pos wanted → ⊥) → found_count_or_none (then_some test c) ≡ count_with k wanted
  candidate_decides inside small true holds fails = candidate_found inside small (holds refl)
  candidate_decides inside small false holds fails = candidate_fails (fails refl)

-- ---- no count has a T that the guard refuses: 0, or above 16,777,215
guard_refuses : (wanted : ℕ) → (wanted ≡ 0) ⊎ (16777215 < wanted) → guard_fails (pos wanted) ≡ true
guard_refuses wanted (inl none) = rw none refl
guard_refuses wanted (inr above) = rw (below_test (natural_below above)) (or-true (lt_z (pos wanted) (pos 1)))

pub none_beyond_guard : (k : Constants) (wanted : ℕ) → (wanted ≡ 0) ⊎ (16777215 < wanted) → count_with k wanted ≡ no_count
none_beyond_guard k wanted beyond = none_fits (λ count. delivered_with wanted (before_bias k count)) 65536 (λ count below. by_test count (delivered_with wanted (before_bias k count)) refl)
  where
    by_test : (count : ℕ) (b : Bool) → delivered_with wanted (before_bias k count) ≡ b → b ≡ false
    by_test count false e = refl
    by_test count true e = not_both (guard_refuses wanted beyond) (just_guarded k count (pos wanted) (fits_just wanted (before_bias k count) e))
