-- What every run's window keeps to, so that it can be written and read back: the lengths of its lists, and numbers only at ages that an
-- accepted scan can have. It holds of the empty window, and an accepted scan keeps it.
use Prim.Native.Nat.{ℕ, ◌+◌, ◌*◌, ◌-◌, ◌<◌, ◌≤◌}
use native.Mathlib.Decide.{dec_lt}
use native.Mathlib.Nat.{mul-add, mul-le-mul_left}
use native.Mathlib.Omega.{arith}
use mathlib.Core.Path.{◌≡◌, refl, ap, ◌∙◌}
use mathlib.Core.List.{List}
use mathlib.Core.Bool.{Bool, true, false, cond}
use lib.Dec.{ltb}
use lib.ListN.{length, get_or, get_or-eq_default}
use borrow.Author.Tests.{lt-ltb, le-ltb}
use Rattle.std.specs.Prelude.{Option, None, Some, IfSome}
use Rattle.instrument.specs.Instrument.{channels, thermometers}
use Rattle.table.specs.Opening.{ages}
use Rattle.acceptance.specs.declared.Scan.{Scan}
use Rattle.window.specs.declared.Window.{Window}
use Rattle.window.specs.Ages.{empty_window, gap_between, gap_of, moved_at, shifted, window_after}
use Rattle.window.proofs.AgeLaws.{shifted_length, shifted_element, ScanShape, empty_window_is, get_d_zeros}
use Rattle.state.specs.State.{counts_kept, kelvins_kept, ages_reached}
use Rattle.state.proofs.InsideLaws.{ReachedOnly}

pub record Shaped (w : Window) : Type 0 where
  pub warm : length w.warm ≡ counts_kept
  pub cold : length w.cold ≡ counts_kept
  pub kelvin : length w.kelvin ≡ kelvins_kept

-- ---- the empty window

pub empty_is_shaped : Shaped empty_window
empty_is_shaped = rw empty_window_is record { warm = refl; cold = refl; kelvin = refl }

pub empty_reached_only : ReachedOnly empty_window
empty_reached_only =
    rw empty_window_is
    record { warm = λ i past. get_d_zeros counts_kept i; cold = λ i past. get_d_zeros counts_kept i; kelvin = λ i past. get_d_zeros kelvins_kept i }

-- ---- after an accepted scan

-- the ages that are reached move on with the number: by the gap, or all are reached, or the gap leaves none
pub data Moved (before gap after : ℕ) : Type 0 where
  by_gap : before + gap ≡ after → Moved before gap after
  all_reached : after ≡ ages → Moved before gap after
  none_left : gap ≡ ages → Moved before gap after

reached_moves : (last : Option ℕ) (number : ℕ) → IfSome last (λ n. n < number) → Moved (ages_reached last) (gap_between last number) (ages_reached (Some number))
reached_moves None number above = none_left refl
reached_moves (Some last) number above = by_places (dec_lt number ages) (dec_lt (number - last) ages)
  where
    by_places : Dec (number < ages) → Dec (number - last < ages) → Moved (ages_reached (Some last)) (gap_between (Some last) number) (ages_reached (Some number))
    by_places (no late) near = all_reached (rw (le-ltb number ages (omega arith)))
    by_places (yes early) (no far) = none_left (rw (le-ltb (number - last) ages (omega arith)))
    by_places (yes early) (yes near) =
        let low : last < ages = omega (arith, above) in
        by_gap (rw (lt-ltb number ages early, lt-ltb (number - last) ages near, lt-ltb last ages low) (omega arith))

-- one of the window's lists, in rows of n
module _ (n before gap after : ℕ) (row old : List ℕ) (wide : length row ≡ n) (long : length old ≡ n * ages) (one : 1 ≤ after)
    (only : (i : ℕ) → n * before ≤ i → get_or old i 0 ≡ 0) where
  module _ (i : ℕ) (past : n * after ≤ i) where
    behind_row : length row ≤ i
    behind_row = omega (arith, mul-le-mul_left n one)

    -- an old number that the shift brings to place i
    old_is_none : Moved before gap after → n * gap ≤ i → i < n * ages → get_or old (i - n * gap) 0 ≡ 0
    old_is_none (by_gap sum) start inside = only (i - n * gap) (omega (arith, mul-add n before gap, ap (λ (k : ℕ). n * k) sum))
    old_is_none (all_reached all) start inside = absurd (omega (arith, ap (λ (k : ℕ). n * k) all))
    old_is_none (none_left all) start inside = absurd (omega (arith, ap (λ (k : ℕ). n * k) all))

    moved_is_none : Moved before gap after → i < n * ages → moved_at old row (n * gap) i ≡ 0
    moved_is_none moved inside = by_start (dec_lt i (n * gap))
      where
        by_start : Dec (i < n * gap) → moved_at old row (n * gap) i ≡ 0
        by_start (yes missing) = rw (le-ltb i (length row) behind_row, lt-ltb i (n * gap) missing)
        by_start (no start) = rw (le-ltb i (length row) behind_row, le-ltb i (n * gap) (omega arith)) (old_is_none moved (omega arith) inside)

    pub shifted_is_none : Moved before gap after → get_or (shifted gap row old) i 0 ≡ 0
    shifted_is_none moved = by_end (dec_lt i (length old))
      where
        by_end : Dec (i < length old) → get_or (shifted gap row old) i 0 ≡ 0
        by_end (yes inside) =
            shifted_element gap row old i inside
            ∙ ap (λ (k : ℕ). moved_at old row (k * gap) i) wide
            ∙ moved_is_none moved (omega arith)
        by_end (no outside) = get_or-eq_default (shifted gap row old) 0 {n = i} (omega (arith, shifted_length gap row old))

module _ {w : Window} {scan : Scan} (number : ℕ) (shaped : Shaped w) (shape : ScanShape scan) where
  pub next_is_shaped : Shaped (window_after w number scan)
  unfolding window_after
  next_is_shaped = record {
    warm = shifted_length (gap_of w number) scan.warm w.warm ∙ shaped.warm;
    cold = shifted_length (gap_of w number) scan.cold w.cold ∙ shaped.cold;
    kelvin = shifted_length (gap_of w number) scan.kelvin w.kelvin ∙ shaped.kelvin;
  }

  some_reached : 1 ≤ ages_reached (Some number)
  some_reached = by_test (ltb number ages)
    where
      by_test : (b : Bool) → 1 ≤ cond b (number + 1) ages
      by_test true = omega arith
      by_test false = omega arith

  pub next_reached_only : IfSome w.last (λ n. n < number) → ReachedOnly w → ReachedOnly (window_after w number scan)
  unfolding window_after
  next_reached_only above only =
      let before = ages_reached w.last in
      let gap = gap_of w number in
      let after = ages_reached (Some number) in
      let moved = reached_moves w.last number above in
      record {
        warm = λ i past. shifted_is_none channels before gap after scan.warm w.warm shape.warm shaped.warm some_reached only.warm i past moved;
        cold = λ i past. shifted_is_none channels before gap after scan.cold w.cold shape.cold shaped.cold some_reached only.cold i past moved;
        kelvin = λ i past. shifted_is_none thermometers before gap after scan.kelvin w.kelvin shape.kelvin shaped.kelvin some_reached only.kelvin i past moved;
      }
