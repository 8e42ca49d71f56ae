-- The answer is the greatest t with F(t) at most M, and F rises, so one place that isn't reached bounds all that are.
use mathlib.Core.Path.{◌≡◌, refl, sym, ap, subst, ◌∙◌}
use mathlib.Core.Bool.{Bool, true, false, cond, true≢false}
use Prim.Native.Nat.{ℕ, zero, suc, ◌≤◌, ◌<◌}
use native.Mathlib.Decide.{dec_le, dec_lt}
use native.Mathlib.Omega.{arith}
use lib.IntN.{ℤ}
use lib.Signed.{◌≤ℤ◌, ◌<ℤ◌, le_z, clash_ℤ}
use Rattle.integers.proofs.Order.{at_most_trans, le_z_true, at_most_test}
use Rattle.thermometer.specs.Rule.{F, lowest_units, units_at_place, greatest, answer, Greatest}
use Rattle.thermometer.specs.Steps.{AllReachedBefore}
use Rattle.thermometer.specs.Ranges.{Admissible}
use Rattle.thermometer.proofs.Rises.{rises_over}
use Rattle.thermometer.proofs.Places.{place_in_range, place_of, place_of_lem, place_at_most, units_order}

-- ---- the greatest place at which a test holds
-- k is from 0 to n, no later place of these passes, and k passes if any does
record Last (holds : ℕ → Bool) (n k : ℕ) : Type 0 where
  at_most : k ≤ n
  most : (j : ℕ) → j ≤ n → holds j ≡ true → j ≤ k
  passes : (j : ℕ) → j ≤ n → holds j ≡ true → holds k ≡ true

earlier : (holds : ℕ → Bool) (n : ℕ) → holds (suc n) ≡ false → (j : ℕ) → j ≤ suc n → holds j ≡ true → j ≤ n
earlier holds n fails j h e = go (dec_le j n)
  where
    go : Dec (j ≤ n) → j ≤ n
    go (yes p) = p
    go (no p) = let same : j ≡ suc n = omega arith in absurd (true≢false (sym e ∙ ap holds same ∙ fails))

last_step : (holds : ℕ → Bool) (n k : ℕ) (b : Bool) → holds (suc n) ≡ b → Last holds n k → Last holds (suc n) (cond b (suc n) k)
last_step holds n k true e ih = record {
  at_most = omega arith;
  most = λ j h _. h;
  passes = λ _ _ _. e;
}
last_step holds n k false e ih = record {
  at_most = omega (arith, ih.at_most);
  most = λ j h p. ih.most j (earlier holds n e j h p) p;
  passes = λ j h p. ih.passes j (earlier holds n e j h p) p;
}

greatest_last : (holds : ℕ → Bool) (n : ℕ) → Last holds n (greatest holds n)
unfolding greatest
greatest_last holds zero = record {
  at_most = omega arith;
  most = λ j h _. h;
  passes = λ j h p. let same : j ≡ 0 = omega arith in ap holds (sym same) ∙ p;
}
greatest_last holds (suc n) = last_step holds n (greatest holds n) (holds (suc n)) refl (greatest_last holds n)

-- ---- the answer
module _ (alpha delta beta : ℕ) (m : ℤ) where
  -- place k is reached
  abbrev is_reached : ℕ → Bool
  is_reached k = le_z (F alpha delta beta (units_at_place k)) m

  -- the place of the answer
  place : Last is_reached 491520 (greatest is_reached 491520)
  place = greatest_last is_reached 491520

  -- a place that is reached, and none after it, is the answer's
  pub answer_is : {k : ℕ} → k ≤ 491520 → F alpha delta beta (units_at_place k) ≤ℤ m
      → ((j : ℕ) → j ≤ 491520 → F alpha delta beta (units_at_place j) ≤ℤ m → j ≤ k) → answer alpha delta beta m ≡ units_at_place k
  unfolding answer
  answer_is {k} h reached last =
      let here = at_most_test reached in
      let same : greatest is_reached 491520 ≡ k
      = omega (arith, place.most k h here, last (greatest is_reached 491520) place.at_most (le_z_true (place.passes k h here))) in
      ap units_at_place same

  pub answer_greatest : F alpha delta beta lowest_units ≤ℤ m → Greatest alpha delta beta m (answer alpha delta beta m)
  unfolding answer
  answer_greatest low = record {
    inside = place_in_range place.at_most;
    reached = le_z_true (place.passes 0 (omega arith) (at_most_test low));
    most = λ u range h. subst (λ t. t ≤ℤ units_at_place (greatest is_reached 491520)) (place_of_lem range) (units_order (place.most (place_of u) (place_at_most range) (at_most_test (subst (λ t. F alpha delta beta t ≤ℤ m) (sym (place_of_lem range)) h))));
  }

-- ---- F rises, so one place that isn't reached bounds all that are
pub reached_before : {alpha delta beta : ℕ} {m : ℤ} → Admissible alpha delta beta → (past : ℕ) → past ≤ 491520 → m <ℤ F alpha delta beta (units_at_place past) → AllReachedBefore alpha delta beta m past
reached_before admissible past inside above j h reached = go (dec_lt j past)
  where
    go : Dec (j < past) → j < past
    go (yes before) = before
    go (no after) =
        let from : past ≤ j = omega arith in
        clash_ℤ above (at_most_trans (rises_over admissible (place_in_range inside) (place_in_range h) (units_order from)) reached)
