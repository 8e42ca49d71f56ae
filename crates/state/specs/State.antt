-- A calibrator as bytes: a state, which a station keeps between two scans, saves, and reads on another machine. Numbers are big-endian, and
-- the fields are as those of document 01.
use Rattle.std.specs.Prelude.{ℕ, ◌+◌, ◌*◌, List, [], ◌∷◌, ◌++◌, Bool, ◌&&◌, ◌||◌, cond, eqb, leb, ltb, length, get_or, Option, None, Some, is_some}
use Rattle.lists.specs.Build.{put, tabulate, cells}
use Rattle.lists.specs.Count.{every, all_hold}
use Rattle.lists.specs.Tests.{number_of}
use Rattle.fields.specs.Numbers.{u32_at, u32_bytes}
use Rattle.fields.specs.declared.Field.{Field}
use Rattle.fields.specs.Fields.{field, layout_size, layout_is_right, value_start, value_in, laid_out}
use Rattle.instrument.specs.Instrument.{channels, thermometers}
use Rattle.thermometer.specs.Reading.{from_to}
use Rattle.table.specs.Opening.{ages, table_size}
use Rattle.bias.specs.Bias.{bias_size}
use Rattle.bias.specs.Opening.{both_opening}
use Rattle.acceptance.specs.Kept.{most_kept, least_kelvin, most_kelvin}
use Rattle.window.specs.declared.Window.{Window}
use Rattle.lastscan.specs.LastScan.{LastScan}
use Rattle.lastscan.specs.Numbers.{last_numbers, numbers_of, last_by, last_inside}
use Rattle.calibrator.specs.declared.Calibrator.{Calibrator}

-- `SNDR` in ASCII
abbrev pub magic : ℕ
magic = 0x534E4452

-- the version of this layout, and of the rules by which its values were kept
abbrev pub version : ℕ
version = 6

-- how many numbers the window keeps of each side, and of the thermometers
abbrev pub counts_kept : ℕ
counts_kept = channels * ages

abbrev pub kelvins_kept : ℕ
kelvins_kept = thermometers * ages

-- 0x30 has the magic number and the version; 0x31 the table; 0x32 the byte 1 and the number of the last accepted scan, or 0 and 0;
-- 0x33 and 0x34 what the window keeps of the warm and of the cold counts, 0x35 of the thermometers, as u32, age by age; 0x36 the bias file;
-- 0x37 the numbers of what is kept of the last accepted scan (request W5), as u32
abbrev pub state_layout : List Field
state_layout =
    field 0x30 8 ∷ field 0x31 table_size ∷ field 0x32 5 ∷ field 0x33 (4 * counts_kept) ∷ field 0x34 (4 * counts_kept) ∷ field 0x35 (4 * kelvins_kept) ∷ field 0x36 bias_size ∷ field 0x37 (4 * last_numbers) ∷ []

abbrev pub state_size : ℕ
state_size = layout_size state_layout

-- ---- a calibrator as bytes
-- numbers as u32, one after the other
unfoldable pub number_bytes : List ℕ → List ℕ
number_bytes numbers = cells (λ i. u32_bytes (get_or numbers i 0)) (length numbers)

abbrev pub front_bytes : List ℕ
front_bytes = u32_bytes magic ++ u32_bytes version

abbrev pub last_bytes : Option ℕ → List ℕ
last_bytes None = 0 ∷ u32_bytes 0
last_bytes (Some last) = 1 ∷ u32_bytes last

abbrev pub values_of : Calibrator → List (List ℕ)
values_of c =
    front_bytes ∷ c.table.bytes ∷ last_bytes c.window.last
    ∷ number_bytes c.window.warm ∷ number_bytes c.window.cold ∷ number_bytes c.window.kelvin ∷ c.bias.bytes ∷ number_bytes (numbers_of c.last) ∷ []

unfoldable pub state_of : Calibrator → List ℕ
state_of c = laid_out state_layout (values_of c) []

-- this calibrator in the place of the state; a longer state keeps the bytes behind it
abbrev pub saved : List ℕ → Calibrator → List ℕ
saved state c = put state 0 (state_of c)

-- ---- bytes as a calibrator
-- where the value of field k starts
abbrev pub at : ℕ → ℕ
at k = value_start state_layout k

-- the n numbers from this place on
unfoldable pub numbers_at : List ℕ → ℕ → ℕ → List ℕ
numbers_at bytes place n = tabulate (λ i. u32_at bytes (place + 4 * i)) n

abbrev pub table_in : List ℕ → List ℕ
table_in state = value_in state_layout 1 state

abbrev pub bias_in : List ℕ → List ℕ
bias_in state = value_in state_layout 6 state

unfoldable pub window_in : List ℕ → Window
window_in state = record {
  last = cond (eqb (get_or state (at 2) 0) 1) (Some (u32_at state (at 2 + 1))) None;
  warm = numbers_at state (at 3) counts_kept;
  cold = numbers_at state (at 4) counts_kept;
  kelvin = numbers_at state (at 5) kelvins_kept;
}

abbrev pub last_numbers_in : List ℕ → List ℕ
last_numbers_in state = numbers_at state (at 7) last_numbers

abbrev pub last_in : List ℕ → LastScan
last_in state = last_by (last_numbers_in state)

abbrev pub calibrator_in : List ℕ → Calibrator
calibrator_in state = record { table = record { bytes = table_in state }; bias = record { bytes = bias_in state }; window = window_in state; last = last_in state }

-- ---- which bytes are a state
-- how many ages can have samples: the scan of age k has the number last - k, and before the first accepted scan there is none
abbrev pub ages_reached : Option ℕ → ℕ
ages_reached None = 0
ages_reached (Some last) = cond (ltb last ages) (last + 1) ages

-- each is 0, or stands at one of the first `reached` places and is from low to high
unfoldable pub numbers_inside : ℕ → ℕ → ℕ → List ℕ → Bool
numbers_inside reached low high numbers =
    every (λ i. eqb (get_or numbers i 0) 0 || (ltb i reached && from_to low high (get_or numbers i 0))) (length numbers)

-- what is kept of a side is at most 786,421, and T of a thermometer is in its range
unfoldable pub window_inside : Window → Bool
window_inside w =
    let reached = ages_reached w.last in
    all_hold (numbers_inside (channels * reached) 1 most_kept w.warm
    ∷ numbers_inside (channels * reached) 1 most_kept w.cold ∷ numbers_inside (thermometers * reached) least_kelvin most_kelvin w.kelvin ∷ [])

-- the tags and lengths, the magic number and the version are right, and the byte before the number is 0 or 1
unfoldable pub front_is_right : List ℕ → Bool
front_is_right state =
    all_hold (layout_is_right state 0 state_layout ∷ eqb (u32_at state (at 0)) magic ∷ eqb (u32_at state (at 0 + 4)) version ∷ leb (get_or state (at 2) 0) 1 ∷ [])

-- before the first accepted scan the number is 0
abbrev pub number_is_right : List ℕ → Bool
number_is_right state = eqb (get_or state (at 2) 0) 1 || eqb (u32_at state (at 2 + 1)) 0

-- the bytes reach to the end of a state; its front is right; its table and its bias file would be accepted; its last number is right; its
-- window's values and the numbers of its last accepted scan are in their ranges. Bytes behind a state are not looked at.
unfoldable pub is_state : List ℕ → Bool
is_state state =
    all_hold (leb state_size (length state) ∷ front_is_right state ∷ eqb (number_of (both_opening (table_in state) (bias_in state))) 0 ∷ number_is_right state ∷ window_inside (window_in state) ∷ last_inside (is_some (window_in state).last) (last_numbers_in state) ∷ [])
