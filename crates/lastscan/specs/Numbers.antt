-- What is kept of the last accepted scan as numbers of 32 bits: 1 if a scan is kept and else 0; then nine numbers for each channel.
use Rattle.std.specs.Prelude.{ℕ, ◌+◌, ◌*◌, ◌/◌, ◌%◌, ◌<◌, List, [], ◌∷◌, Bool, ◌&&◌, cond, eqb, leb, ℤ, pos, nat_abs, ◌+ℤ◌, length, get_or, take, drop, replicate, None, Some, Ok, Err}
use Rattle.lists.specs.Build.{tabulate, cells}
use Rattle.lists.specs.Count.{every, all_hold}
use Rattle.fields.specs.Numbers.{signed}
use Rattle.instrument.specs.Instrument.{channels}
use Rattle.thermometer.specs.Reading.{from_to}
use Rattle.table.specs.Ranges.{size_to}
use Rattle.scene.specs.declared.Constants.{Constants}
use Rattle.scene.specs.Channel.{Channel, channel_flag, channel_with}
use Rattle.product.specs.Scenes.{no_channel}
use Rattle.lastscan.specs.LastScan.{LastScan}

-- how many numbers a channel has, and all channels with the first number
abbrev pub channel_numbers : ℕ
channel_numbers = 9

abbrev pub last_numbers : ℕ
last_numbers = 1 + channel_numbers * channels

-- ---- a scan as numbers
-- the two halves of a number of 64 bits
abbrev pub high_half : ℤ → ℕ
high_half n = nat_abs n / 4294967296

abbrev pub low_half : ℤ → ℕ
low_half n = nat_abs n % 4294967296

-- two's complement, of 32 bits
abbrev pub complement : ℤ → ℕ
complement n = nat_abs (n +ℤ pos 4294967296) % 4294967296

-- flag 0, Tc, Tw - Tc, TNL, D in two halves, 12 × Wc × Ww, and Ac × Ww in two halves; or a flag and zeros
abbrev pub numbers_of_channel : Channel → List ℕ
numbers_of_channel (Ok k) =
    0 ∷ nat_abs k.tc ∷ nat_abs k.rise ∷ complement k.tnl ∷ high_half k.d ∷ low_half k.d ∷ nat_abs k.slope ∷ high_half k.base ∷ low_half k.base ∷ []
numbers_of_channel (Err flag) = channel_flag (Err flag) ∷ replicate 8 0

unfoldable pub numbers_of : LastScan → List ℕ
numbers_of None = replicate last_numbers 0
numbers_of (Some all) = 1 ∷ cells (λ c. numbers_of_channel (get_or all c no_channel)) channels

-- ---- numbers as a scan
abbrev pub wide : (high low : ℕ) → ℕ
wide high low = 4294967296 * high + low

-- the nine numbers of channel c
abbrev pub numbers_part : List ℕ → ℕ → List ℕ
numbers_part numbers c = take channel_numbers (drop (1 + channel_numbers * c) numbers)

abbrev pub constants_by : List ℕ → Constants
constants_by part =
    let at : ℕ → ℕ = λ k. get_or part k 0 in
    record {
      tc = pos (at 1);
      rise = pos (at 2);
      tnl = signed 0x8000_0000 (at 3);
      d = pos (wide (at 4) (at 5));
      slope = pos (at 6);
      base = pos (wide (at 7) (at 8));
    }

abbrev pub channel_by : List ℕ → Channel
channel_by part = channel_with (get_or part 0 0) (constants_by part)

unfoldable pub last_by : List ℕ → LastScan
last_by numbers = cond (eqb (get_or numbers 0 0) 1) (Some (tabulate (λ c. channel_by (numbers_part numbers c)) channels)) None

-- ---- which numbers are those of a scan
-- the constants of a channel with flag 0 are in their ranges; D is from 1 to 65,535 × 12 × Wc × Ww
unfoldable pub constants_inside : List ℕ → Bool
constants_inside part =
    let at : ℕ → ℕ = λ k. get_or part k 0 in
    all_hold (from_to 11166 43934 (at 1) ∷ from_to 825032 1357512 (at 2) ∷ size_to 8192 (signed 0x8000_0000 (at 3))
    ∷ from_to 1 (65535 * at 6) (wide (at 4) (at 5)) ∷ leb (at 6) 780300 ∷ leb (wide (at 7) (at 8)) 51136960500 ∷ [])

unfoldable pub all_zero : List ℕ → Bool
all_zero numbers = every (λ i. eqb (get_or numbers i 0) 0) (length numbers)

-- a channel with flag 1 to 4 has no other number
unfoldable pub channel_numbers_inside : List ℕ → Bool
channel_numbers_inside part = cond (eqb (get_or part 0 0) 0) (constants_inside part) (leb (get_or part 0 0) 4 && all_zero (drop 1 part))

-- nothing is kept, or a scan is, where one was accepted
unfoldable pub last_inside : (accepted : Bool) → List ℕ → Bool
last_inside accepted numbers =
    cond (eqb (get_or numbers 0 0) 1) (accepted && every (λ c. channel_numbers_inside (numbers_part numbers c)) channels) (all_zero numbers)

-- what fits the constants of a channel: wide numbers of at most 63 bits
pub record SmallPart (part : List ℕ) : Type 0 where
  pub d : get_or part 4 0 < 2147483648
  pub base : get_or part 7 0 < 2147483648
