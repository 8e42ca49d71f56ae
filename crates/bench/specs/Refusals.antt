-- Document 01, "Operations", and requests W1 and W5: in each operation the tests run in the order named, and the first that applies decides. Each
-- row says which of the tests apply, each by itself, and which number comes back; most meet several refusals at once.
use Rattle.std.specs.Prelude.{ℕ, ◌+◌, ◌*◌, ◌<◌, ◌≤◌, ◌≡◌, List, [], ◌∷◌, ◌++◌, Bool, not, ◌&&◌, cond, eqb, leb, ltb, length, replicate, is_some}
use Rattle.lists.specs.Build.{put}
use Rattle.lists.specs.Tests.{Verdict, fails, Test, ◌when◌}
use Rattle.fields.specs.declared.Field.{Field}
use Rattle.fields.specs.Fields.{field_at, field_bytes, layout_size, layout_is_right, value_start}
use Rattle.thermometer.specs.Reading.{not_read, resistance_inside, coefficients_inside, reading, from_to}
use Rattle.table.specs.Settings.{table_layout, settings_of}
use Rattle.table.specs.Ranges.{values_inside}
use Rattle.table.specs.Opening.{ages, table_size, opening}
use Rattle.bias.specs.Bias.{bias_layout, bias_size}
use Rattle.bias.specs.Opening.{bias_inside, bias_opening, both_opening}
use Rattle.lookup.specs.Lookup.{refused_with}
use Rattle.calibrator.specs.Refusals.{wrong_length, wrong_field, not_above, too_short, refused}
use Rattle.calibrator.specs.Feeding.{Feed, outcome_after}
use Rattle.promise.specs.Roll.{Roll, last_number, verdict_at}
use Rattle.promise.specs.Restart.{rolled_by}
use Rattle.promise.specs.CountBehind.{answer_of}
use Rattle.bench.specs.Bench.{bench_table, bench_scan, bench_calibrator}
use Rattle.bench.specs.Witnesses.{numbered_scan, zeros}

-- the numbers of the tests that apply, each by itself
abbrev pub that_apply : List Test → List ℕ
that_apply [] = []
that_apply ((number when applies) ∷ more) = cond applies (number ∷ that_apply more) (that_apply more)

-- just these apply, and the first of them is the verdict
abbrev pub FirstDecides : List Test → Verdict → (first : ℕ) (more : List ℕ) → Type 0
FirstDecides tests verdict first more = (that_apply tests ≡ first ∷ more) × (verdict ≡ fails first)

-- ---- feeding a scan

abbrev pub feed_tests : Roll → Feed → List Test
feed_tests roll feed =
    (4 when wrong_length feed.scan) ∷ (5 when wrong_field feed.scan) ∷ (6 when not_above (last_number roll) feed.scan) ∷ (7 when too_short (length feed.buffer)) ∷ []

-- after the bench scan was accepted with this buffer, a feed with this record and this short buffer: by the roll, and by what the calibrator
-- answers
abbrev pub FeedRefused : (buffer short scan : List ℕ) (first : ℕ) (more : List ℕ) → Type 0
FeedRefused buffer short scan first more =
    let before : List Feed = record { scan = bench_scan 15000; buffer = buffer } ∷ [] in
    let feed : Feed = record { scan = scan; buffer = short } in
    FirstDecides (feed_tests (rolled_by [] before) feed) (verdict_at (rolled_by [] before) feed) first more
    × ((outcome_after bench_calibrator before feed).reply ≡ refused first)

pub record FeedRows (buffer short : List ℕ) : Type 0 where
  -- no byte
  pub four_of_all : FeedRefused buffer short [] 4 (5 ∷ 6 ∷ 7 ∷ [])
  -- a byte too many, behind right tags and lengths
  pub four_with_right_tags : FeedRefused buffer short (bench_scan 15000 ++ (0 ∷ [])) 4 (6 ∷ 7 ∷ [])
  pub five_before_six : FeedRefused buffer short zeros 5 (6 ∷ 7 ∷ [])
  -- the same record once more
  pub six_before_seven : FeedRefused buffer short (bench_scan 15000) 6 (7 ∷ [])
  -- the next number
  pub seven_alone : FeedRefused buffer short (numbered_scan 8 15000) 7 []

-- ---- opening

abbrev pub opening_tests : (layout : List Field) (inside : Bool) → List ℕ → List Test
opening_tests layout inside bytes =
    (1 when not (eqb (length bytes) (layout_size layout))) ∷ (2 when not (layout_is_right bytes 0 layout)) ∷ (3 when not inside) ∷ []

-- a table, and a bias file
abbrev pub TableRefused : List ℕ → (first : ℕ) (more : List ℕ) → Type 0
TableRefused bytes = FirstDecides (opening_tests (table_layout ages) (values_inside (settings_of ages bytes)) bytes) (opening bytes)

abbrev pub BiasRefused : List ℕ → (first : ℕ) (more : List ℕ) → Type 0
BiasRefused bytes = FirstDecides (opening_tests bias_layout (bias_inside bytes) bytes) (bias_opening bytes)

-- the bench table with 101 as the first percentage
unfoldable pub table_outside : List ℕ
unfolding bench_table
table_outside = put bench_table (value_start (table_layout ages) 0 + 2 * ages) (101 ∷ [])

-- each c0 is 32,639
unfoldable pub bias_outside : List ℕ
bias_outside = replicate bias_size 0x7F

pub record OpeningRows : Type 0 where
  pub table_one_of_all : TableRefused [] 1 (2 ∷ 3 ∷ [])
  pub table_two_before_three : TableRefused (replicate table_size 0) 2 (3 ∷ [])
  pub table_three_alone : TableRefused table_outside 3 []
  pub bias_one_of_all : BiasRefused (0x7F ∷ bias_outside) 1 (2 ∷ 3 ∷ [])
  pub bias_two_before_three : BiasRefused bias_outside 2 (3 ∷ [])
  pub bias_three_alone : BiasRefused (field_bytes (field_at bias_layout 0) (replicate (field_at bias_layout 0).size 0x7F)) 3 []
  -- where both are opened the table comes first
  pub table_before_bias : (both_opening table_outside [] ≡ fails 3) × (bias_opening [] ≡ fails 1)

-- ---- one thermometer, with the bench's R0 and coefficients

abbrev pub reading_tests : (r_pam r0 alpha delta beta pam offset count : ℕ) → List Test
reading_tests r_pam r0 alpha delta beta pam offset count =
    (8 when not (resistance_inside r_pam && coefficients_inside r0 alpha delta beta)) ∷ (9 when leb pam offset) ∷ (10 when ltb count offset) ∷ []

abbrev pub ReadingRefused : (r_pam pam offset count : ℕ) (first : ℕ) (more : List ℕ) → Type 0
ReadingRefused r_pam pam offset count first more =
    (that_apply (reading_tests r_pam 2000000 3850000 1500000 0 pam offset count) ≡ first ∷ more) × (reading r_pam 2000000 3850000 1500000 0 pam offset count ≡ not_read first)

pub record ReadingRows : Type 0 where
  pub eight_of_all : ReadingRefused 999 100 100 99 8 (9 ∷ 10 ∷ [])
  pub nine_before_ten : ReadingRefused 1000 100 100 99 9 (10 ∷ [])
  pub ten_alone : ReadingRefused 1000 101 100 99 10 []

-- ---- the count behind a temperature, where no scan has been accepted

abbrev pub lookup_tests : ℕ → List Test
lookup_tests channel = (11 when not (from_to 1 22 channel)) ∷ (12 when not (is_some bench_calibrator.last)) ∷ []

abbrev pub LookupRefused : (channel : ℕ) (first : ℕ) (more : List ℕ) → Type 0
LookupRefused channel first more = (that_apply (lookup_tests channel) ≡ first ∷ more) × ((wanted : ℕ) → answer_of bench_calibrator channel wanted ≡ refused_with first)

pub record LookupRows : Type 0 where
  pub eleven_below : LookupRefused 0 11 (12 ∷ [])
  pub eleven_above : LookupRefused 23 11 (12 ∷ [])
  pub twelve_at_first : LookupRefused 1 12 []
  pub twelve_at_last : LookupRefused 22 12 []

pub record RefusalRows : Type 0 where
  -- with every buffer that has room, and every one that has not
  pub feeds : (buffer short : List ℕ) → 8706 ≤ length buffer → length short < 8706 → FeedRows buffer short
  pub openings : OpeningRows
  pub readings : ReadingRows
  pub lookups : LookupRows
