-- What a branch on a call's answer, or on an order of whole numbers, tells of the test that a contract names.
use Prim.Native.Nat.{ℕ}
use mathlib.Core.Path.{◌≡◌, refl, sym, ◌∙◌}
use mathlib.Core.Bool.{Bool, true, false, not}
use lib.IntN.{ℤ}
use lib.Dec.{leb}
use lib.Signed.{◌<ℤ◌, le_z, clash_ℤ}
use native.Mathlib.Omega.{arith}
use borrow.Author.Tests.{not-true, not-false}
use Rattle.std.proofs.Common.{Some}
use Rattle.std.proofs.lemmas.Bool.Decides.{nat_tests}
use Rattle.std.specs.Ordering.{nat_cmp}
use Rattle.std.specs.declared.ops.RangeInclusive.{RangeInclusive}
use Rattle.std.specs.Range.{range_inclusive_start, range_inclusive_end, range_inclusive_exhausted, range_inclusive_contains}
use Rattle.std.specs.Ordering.{partial_le}
use Rattle.integers.proofs.Order.{le_z_true}
use Rattle.thermometer.specs.Reading.{from_to}

module _ {answer test : Bool} (answers : answer ≡ test) where
  pub test_failed : not answer ≡ true → test ≡ false
  test_failed taken = sym answers ∙ not-true answer taken

  pub test_passed : not answer ≡ false → test ≡ true
  test_passed left = sym answers ∙ not-false answer left

pub below_is_not_above : {x y : ℤ} → x <ℤ y → le_z y x ≡ false
below_is_not_above {x} {y} below = by_test (le_z y x) refl
  where
    by_test : (b : Bool) → le_z y x ≡ b → b ≡ false
    by_test true above = clash_ℤ below (le_z_true above)
    by_test false not_above_lem = refl

-- ---- `contains` of a fresh range tests both ends
partial_le_is_leb : (a b : ℕ) → partial_le (λ (x y : ℕ). Some (nat_cmp x y)) a b ≡ leb a b
partial_le_is_leb a b = grind (arith, nat_tests)

pub contains_is_from_to : (range : RangeInclusive ℕ) {low high x y : ℕ} {answer : Bool}
    → record { start : range_inclusive_start range ≡ low; end : range_inclusive_end range ≡ high; exhausted : range_inclusive_exhausted range ≡ false }
    → answer ≡ range_inclusive_contains (λ (a b : ℕ). Some (nat_cmp a b)) range x → x ≡ y → answer ≡ from_to low high y
contains_is_from_to range {low} {high} {x} fresh answers reads =
    answers ∙ rw (fresh.start, fresh.end, fresh.exhausted, partial_le_is_leb low x, partial_le_is_leb x high, reads)
