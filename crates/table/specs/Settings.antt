-- Document 01, "The table", and request W4: what a table's 1,404 bytes say. `ages` is how many scans the window has; document 01 has 8.
use Rattle.std.specs.Prelude.{ℕ, ◌+◌, ◌*◌, List, [], ◌∷◌, ℤ, get_or}
use Rattle.fields.specs.Numbers.{u16_at, u32_at, i16_at, i32_at}
use Rattle.fields.specs.declared.Field.{Field}
use Rattle.fields.specs.Fields.{value_start, field}
use Rattle.instrument.specs.declared.Side.{Side}
use Rattle.instrument.specs.declared.Target.{Target}
use Rattle.instrument.specs.Instrument.{side_place, target_place}
use Rattle.table.specs.declared.Limits.{Limits}
use Rattle.table.specs.declared.Thermometer.{Thermometer}
use Rattle.table.specs.declared.Corrections.{Corrections}
use Rattle.table.specs.declared.ShelfPair.{ShelfPair}

-- the fields 0x10, 0x11, 0x12 and, by request W4, 0x14
abbrev pub table_layout : ℕ → List Field
table_layout ages = field 0x10 (2 * ages + 21) ∷ field 0x11 255 ∷ field 0x12 440 ∷ field 0x14 660 ∷ []

-- the bytes of one thermometer's row of 0x11, and of one channel's row of 0x12
abbrev pub thermometer_row : ℕ
thermometer_row = 17

abbrev pub channel_row : ℕ
channel_row = 20

-- how many pairs of shelf temperature and TNL a channel has, the bytes of one, and of a channel's row of 0x14
abbrev pub pairs : ℕ
pairs = 5

abbrev pub shelf_pair_size : ℕ
shelf_pair_size = 6

abbrev pub shelf_pairs_row : ℕ
shelf_pairs_row = pairs * shelf_pair_size

-- one channel's row of 0x12, and its pairs in 0x14. TNL in 0x12 has to be 0: a scan's TNL comes from the pairs
pub record ChannelSettings : Type 0 where
  pub limits : Side → Limits
  pub b : ℤ
  pub rj : ℕ
  pub sl : ℕ
  pub tnl : ℤ
  pub pair : ℕ → ShelfPair

pub record Settings : Type 0 where
  pub ages : ℕ
  -- w and v, by age
  pub w : ℕ → ℕ
  pub v : ℕ → ℕ
  -- least percentages
  pub percent_thermometers : ℕ
  pub percent : Side → ℕ
  -- least good thermometers
  pub least : Target → ℕ
  pub r_pam : ℕ
  pub t_low : ℤ
  pub t_upp : ℤ
  pub d_t : ℕ
  pub thermometer : ℕ → Thermometer
  pub channel : ℕ → ChannelSettings

-- ---- where each value stands
abbrev pub limits_at : List ℕ → ℕ → Limits
limits_at table at = record { low = u16_at table at; upp = u16_at table (at + 2); difference = u16_at table (at + 4) }

abbrev pub thermometer_at : List ℕ → ℕ → Thermometer
thermometer_at table at =
    record { p = get_or table at 0; r0 = u32_at table (at + 1); alpha = u32_at table (at + 5); delta = u32_at table (at + 9); beta = u32_at table (at + 13) }

abbrev pub shelf_pair_at : List ℕ → ℕ → ShelfPair
shelf_pair_at table at = record { shelf = i32_at table at; tnl = i16_at table (at + 4) }

-- the row of 0x12 at `at`, that of 0x14 at `first`
abbrev pub channel_at : List ℕ → (at first : ℕ) → ChannelSettings
channel_at table at first = record {
  limits = λ side. limits_at table (at + 6 * side_place side);
  b = i16_at table (at + 12);
  rj = u16_at table (at + 14);
  sl = u16_at table (at + 16);
  tnl = i16_at table (at + 18);
  pair = λ j. shelf_pair_at table (first + shelf_pair_size * j);
}

abbrev pub settings_of : ℕ → List ℕ → Settings
settings_of ages table =
    let start = value_start (table_layout ages) 0 in
    record {
      ages = ages;
      w = λ k. get_or table (start + k) 0;
      v = λ k. get_or table (start + ages + k) 0;
      percent_thermometers = get_or table (start + 2 * ages) 0;
      percent = λ side. get_or table (start + 2 * ages + 1 + side_place side) 0;
      least = λ target. get_or table (start + 2 * ages + 3 + target_place target) 0;
      r_pam = u32_at table (start + 2 * ages + 5);
      t_low = i32_at table (start + 2 * ages + 9);
      t_upp = i32_at table (start + 2 * ages + 13);
      d_t = u32_at table (start + 2 * ages + 17);
      thermometer = λ i. thermometer_at table (value_start (table_layout ages) 1 + thermometer_row * i);
      channel = λ c. channel_at table (value_start (table_layout ages) 2 + channel_row * c) (value_start (table_layout ages) 3 + shelf_pairs_row * c);
    }

-- b, rj, sl and TNL of a channel's row of 0x12
abbrev pub corrections_of : ChannelSettings → Corrections
corrections_of c = record { b = c.b; rj = c.rj; sl = c.sl; tnl = c.tnl }
