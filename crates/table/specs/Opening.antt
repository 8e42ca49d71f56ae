-- Document 01, "Opening a table", and request W4. Refuses with 1 if the length isn't 1,404, 2 if a tag or length is wrong, 3 if a value or sum is
-- outside its range. A refusal gives its number and no table.
use Rattle.std.specs.Prelude.{ℕ, ◌≡◌, Result, Ok, Err, List, [], ◌∷◌, Bool, not, eqb, length, replicate}
use Rattle.lists.specs.Tests.{Verdict, passes, fails, ◌when◌, first_that_applies}
use Rattle.fields.specs.declared.Field.{Field}
use Rattle.fields.specs.Fields.{layout_size, layout_is_right}
use Rattle.table.specs.declared.Refusal.{Refusal}
use Rattle.table.specs.declared.Refusal.TheVariants.{LengthWrong, FieldWrong, ValueOutside}
use Rattle.table.specs.Settings.{table_layout, settings_of}
use Rattle.table.specs.Ranges.{values_inside}

-- how many scans the window has
abbrev pub ages : ℕ
ages = 8

abbrev pub table_size : ℕ
table_size = layout_size (table_layout ages)

-- document 01's number for each case of the code's answer, whatever it opens
abbrev pub refusal_number : Refusal → ℕ
refusal_number LengthWrong = 1
refusal_number FieldWrong = 2
refusal_number ValueOutside = 3

abbrev pub verdict_of : {Opened : Type 0} → Result Opened Refusal → Verdict
verdict_of (Ok opened) = passes
verdict_of (Err refusal) = fails (refusal_number refusal)

-- bytes with this layout, and whether its values are in their ranges
abbrev pub opening_by : (layout : List Field) (inside : Bool) → List ℕ → Verdict
opening_by layout inside bytes =
    first_that_applies ((1 when not (eqb (length bytes) (layout_size layout))) ∷ (2 when not (layout_is_right bytes 0 layout)) ∷ (3 when not inside) ∷ [])

unfoldable pub opening : List ℕ → Verdict
opening bytes = opening_by (table_layout ages) (values_inside (settings_of ages bytes)) bytes

-- opening meets no refusal
pub record AcceptedTable (bytes : List ℕ) : Type 0 where
  pub accepted : opening bytes ≡ passes

-- what is accepted is its bytes; beside a refusal stand as many bytes of 0
abbrev pub opened_by : (size : ℕ) → Verdict → List ℕ → List ℕ
opened_by size passes bytes = bytes
opened_by size (fails n) bytes = replicate size 0

-- of bytes of 0 `AcceptedTable` does not hold (decision 21)
abbrev pub table_by : Verdict → List ℕ → List ℕ
table_by verdict bytes = opened_by table_size verdict bytes
