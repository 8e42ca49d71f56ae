-- What opening answers, case by case; what an accepted table is; that the bytes beside a refusal are no accepted table.
use Prim.Native.Nat.{ℕ}
use native.Mathlib.Omega.{arith}
use mathlib.Core.Path.{◌≡◌, refl, sym, ap, ◌∙◌}
use mathlib.Core.List.{List, [], ◌∷◌}
use mathlib.Core.Bool.{Bool, true, false, not, and-eq-true_iff}
use lib.Dec.{eqb}
use lib.ListN.{length, get_or, replicate}
use borrow.Author.Tests.{eq-eqb, ne_eqb, eqb-true, not-false}
use Rattle.lists.specs.Tests.{Verdict, passes, fails, ◌when◌, first_that_applies}
use Rattle.lists.proofs.Tests.{none_applies, passes_is_no_failure}
use Rattle.fields.specs.declared.Field.{Field}
use Rattle.fields.specs.Fields.{field, field_is_right, layout_size, layout_is_right}
use Rattle.fields.proofs.LayoutLaws.{first_when_right}
use Rattle.table.specs.declared.TheConstants.{LAYOUT}
use Rattle.table.specs.Settings.{table_layout, settings_of}
use Rattle.table.specs.Ranges.{values_inside}
use Rattle.table.specs.ValueRanges.{SettingsRange}
use Rattle.table.specs.Opening.{ages, table_size, opening_by, opening, AcceptedTable, opened_by, table_by}
use Rattle.table.proofs.Ranges.{values_in_range}

-- the constant that `open` lends is the layout, here in numbers
pub lent_layout : (LAYOUT ≡ table_layout ages) × (table_layout ages ≡ field 0x10 37 ∷ field 0x11 255 ∷ field 0x12 440 ∷ field 0x14 660 ∷ [])
lent_layout = (refl, refl)

-- ---- the answer from the tests, of bytes with any layout

module _ (layout : List Field) (inside : Bool) (bytes : List ℕ) where
  pub opening_length_wrong : (length bytes ≡ layout_size layout → ⊥) → opening_by layout inside bytes ≡ fails 1
  opening_length_wrong wrong = rw (ne_eqb (length bytes) (layout_size layout) wrong)

  module _ (long : length bytes ≡ layout_size layout) where
    pub opening_field_wrong : layout_is_right bytes 0 layout ≡ false → opening_by layout inside bytes ≡ fails 2
    opening_field_wrong wrong = rw (eq-eqb (length bytes) (layout_size layout) long, wrong)

    module _ (right : layout_is_right bytes 0 layout ≡ true) where
      pub opening_value_outside : inside ≡ false → opening_by layout inside bytes ≡ fails 3
      opening_value_outside outside = rw (eq-eqb (length bytes) (layout_size layout) long, right, outside)

      pub opening_passes : inside ≡ true → opening_by layout inside bytes ≡ passes
      opening_passes holds = rw (eq-eqb (length bytes) (layout_size layout) long, right, holds)

-- the tests before that of the values decide whatever the values are
by_first_tests : (long right inside : Bool) {n : ℕ} → fails n ≡ first_that_applies ((1 when not long) ∷ (2 when not right) ∷ (3 when not true) ∷ [])
    → fails n ≡ first_that_applies ((1 when not long) ∷ (2 when not right) ∷ (3 when not inside) ∷ [])
by_first_tests false right inside refused = refused
by_first_tests true false inside refused = refused
by_first_tests true true inside {n} refused = absurd (passes_is_no_failure n (sym refused))

pub refused_before_values : (layout : List Field) (inside : Bool) (bytes : List ℕ) {n : ℕ} → fails n ≡ opening_by layout true bytes → fails n ≡ opening_by layout inside bytes
refused_before_values layout inside bytes = by_first_tests (eqb (length bytes) (layout_size layout)) (layout_is_right bytes 0 layout) inside

-- ---- the tests from the answer

passed_all : (long right inside : Bool) → first_that_applies ((1 when not long) ∷ (2 when not right) ∷ (3 when not inside) ∷ []) ≡ passes
    → (long ≡ true) × (right ≡ true) × (inside ≡ true)
passed_all long right inside passed =
    let none = none_applies ((1 when not long) ∷ (2 when not right) ∷ (3 when not inside) ∷ []) passed in
    (not-false long none.0, not-false right none.1.0, not-false inside none.1.1.0)

-- what passed has the layout's length, right tags and lengths, and values in their ranges
pub record PassedTests (layout : List Field) (inside : Bool) (bytes : List ℕ) : Type 0 where
  pub long : length bytes ≡ layout_size layout
  pub right : layout_is_right bytes 0 layout ≡ true
  pub holds : inside ≡ true

pub passed_tests : (layout : List Field) (inside : Bool) (bytes : List ℕ) → opening_by layout inside bytes ≡ passes → PassedTests layout inside bytes
passed_tests layout inside bytes passed =
    let tests = passed_all (eqb (length bytes) (layout_size layout)) (layout_is_right bytes 0 layout) inside passed in
    record { long = eqb-true (length bytes) (layout_size layout) tests.0; right = tests.1; holds = tests.2 }

-- where the layout is right the test of a copy's values decides
module _ (layout : List Field) (inside : List ℕ → Bool) (bytes : List ℕ) {copy : List ℕ} {answer : Bool} (right : passes ≡ opening_by layout true bytes) (same : copy ≡ bytes) (answers : answer ≡ inside copy) where
  layout_tests : PassedTests layout true bytes
  layout_tests = passed_tests layout true bytes (sym right)

  test_of_bytes : inside bytes ≡ answer
  test_of_bytes = ap inside (sym same) ∙ sym answers

  pub values_refuse : answer ≡ false → fails 3 ≡ opening_by layout (inside bytes) bytes
  values_refuse outside = sym (opening_value_outside layout (inside bytes) bytes layout_tests.long layout_tests.right (test_of_bytes ∙ outside))

  pub values_pass : answer ≡ true → passes ≡ opening_by layout (inside bytes) bytes
  values_pass holds = sym (opening_passes layout (inside bytes) bytes layout_tests.long layout_tests.right (test_of_bytes ∙ holds))

module _ {bytes : List ℕ} (table : AcceptedTable bytes) where
  accepted_tests : PassedTests (table_layout ages) (values_inside (settings_of ages bytes)) bytes
  unfolding opening
  accepted_tests = passed_tests (table_layout ages) (values_inside (settings_of ages bytes)) bytes table.accepted

  pub accepted_length : length bytes ≡ table_size
  accepted_length = accepted_tests.long

  pub accepted_layout : layout_is_right bytes 0 (table_layout ages) ≡ true
  accepted_layout = accepted_tests.right

  pub accepted_ranges : SettingsRange (settings_of ages bytes)
  accepted_ranges = values_in_range (settings_of ages bytes) accepted_tests.holds

-- ---- what stands beside the answer

pub opened_when_passed : (size : ℕ) {verdict : Verdict} (bytes : List ℕ) {opened : List ℕ} → opened ≡ opened_by size verdict bytes → verdict ≡ passes → opened ≡ bytes
opened_when_passed size bytes is passed = is ∙ ap (λ (v : Verdict). opened_by size v bytes) passed

module _ (bytes : List ℕ) {table : List ℕ} (opened : table ≡ table_by (opening bytes) bytes) (passed : opening bytes ≡ passes) where
  pub table_when_passed : table ≡ bytes
  table_when_passed = opened_when_passed table_size bytes opened passed

  -- it is an accepted one, which `fresh` asks
  pub accepted_when_passed : AcceptedTable table
  accepted_when_passed = record { accepted = ap opening table_when_passed ∙ passed }

-- ---- bytes with a right layout begin with its first tag, so that bytes of 0 are no table

pub first_tag : (bytes : List ℕ) (f : Field) (fs : List Field) → layout_is_right bytes 0 (f ∷ fs) ≡ true → get_or bytes 0 0 ≡ f.tag
unfolding field_is_right
first_tag bytes f fs right =
    let tests = (and-eq-true_iff (eqb (get_or bytes 0 0) f.tag) _).0 (first_when_right bytes 0 f fs right) in
    eqb-true (get_or bytes 0 0) f.tag tests.0

pub no_table_refused : AcceptedTable (replicate table_size 0) → ⊥
no_table_refused table = omega (arith, first_tag (replicate table_size 0) _ _ (accepted_layout table))
