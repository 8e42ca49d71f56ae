-- What the private functions give on the way to the answer: where the search starts, around a guess. The answer does not depend on it:
-- the guess gives an end of the search only where F confirms it, and else the end of the whole range stays. A reader of the promises can
-- leave this out.
use Rattle.std.specs.Prelude.{ℕ, ◌+◌, ◌≤◌, ◌<◌, cond, ltb, ℤ, pos, ◌+ℤ◌, ◌-ℤ◌, ◌*ℤ◌, ◌≤ℤ◌}
use Rattle.std.specs.Int.Signed.{le_z, lt_z}
use Rattle.integers.specs.Rounding.{floor}
use Rattle.thermometer.specs.Rule.{one, F, lowest_units, units_at_place}

-- ---- the guess: one step of the secant method
-- t, or the end of low..high that it is beyond
unfoldable pub held_between : (low high t : ℤ) → ℤ
held_between low high t = cond (lt_z t low) low (cond (lt_z high t) high t)

-- where a line through F(0) that rises by alpha / 240,000 a unit comes to m, at least 2,048 before the highest t
unfoldable pub on_line_through_zero : ℕ → ℤ → ℤ
on_line_through_zero alpha m = held_between lowest_units (pos 243712) (floor ((m -ℤ one) *ℤ pos 240000) (pos alpha))

-- where the chord of F from t to t + 2,048 comes to m, below the highest t
unfoldable pub on_chord : (alpha delta beta : ℕ) → (m t : ℤ) → ℤ
on_chord alpha delta beta m t =
    let from = F alpha delta beta t in
    held_between lowest_units (pos 245759) (t +ℤ floor ((m -ℤ from) *ℤ pos 2048) (F alpha delta beta (t +ℤ pos 2048) -ℤ from))

-- the guess; F is never above 22,000,000
unfoldable pub nearby_units : (alpha delta beta : ℕ) → ℤ → ℤ
nearby_units alpha delta beta m = cond (lt_z (pos 22000000) m) (pos 245759) (on_chord alpha delta beta m (on_line_through_zero alpha m))

-- ---- an end before or after place `near`, which is nearly always that of the answer or one before it
unfoldable pub reached_at : (alpha delta beta : ℕ) → ℤ → ℕ → ℕ
reached_at alpha delta beta m near = cond (le_z (F alpha delta beta (units_at_place near)) m) near 0

unfoldable pub past_at : (alpha delta beta : ℕ) → ℤ → ℕ → ℕ
past_at alpha delta beta m near = cond (ltb 491518 near) 491521 (cond (lt_z m (F alpha delta beta (units_at_place (near + 2)))) (near + 2) 491521)

-- ---- what the halving needs of its ends
abbrev pub AllReachedBefore : (alpha delta beta : ℕ) → ℤ → ℕ → Type 0
AllReachedBefore alpha delta beta m past = (j : ℕ) → j ≤ 491520 → F alpha delta beta (units_at_place j) ≤ℤ m → j < past

-- the first is a place that is reached, and every place that is reached is before the second
pub record Encloses (alpha delta beta : ℕ) (m : ℤ) (reached past : ℕ) : Type 0 where
  pub reached_inside : reached ≤ 491520
  pub is_reached : F alpha delta beta (units_at_place reached) ≤ℤ m
  pub past_inside : past ≤ 491521
  pub all_before : AllReachedBefore alpha delta beta m past
