-- Request W5, the count behind a temperature: for a channel and a wanted T (units, before scan bias) the count from 0 to 65,535 whose scene is
-- delivered with just that T, or none. All counts are looked at; law `only_count_fits`: no second count fits.
use Rattle.std.specs.Prelude.{ℕ, zero, suc, ◌-◌, [], ◌∷◌, Bool, true, false, not, ◌&&◌, cond, eqb, get_or, pos, negsuc, Option, None, Some, Result, Ok, Err}
use Rattle.lists.specs.Tests.{Verdict, passes, fails, ◌when◌, first_that_applies}
use Rattle.instrument.specs.Instrument.{channels}
use Rattle.thermometer.specs.Reading.{from_to}
use Rattle.scene.specs.BeforeBias.{TOrMark, just_t, flagged_mark, outside_mark, guard_mark, before_bias}
use Rattle.scene.specs.Channel.{Channel, channel_flag}
use Rattle.product.specs.Scenes.{no_channel}
use Rattle.lastscan.specs.LastScan.{LastScan}
use Rattle.lookup.specs.declared.Refusal.{Refusal}
use Rattle.lookup.specs.declared.Refusal.TheVariants.{ChannelOutside, NotCalibrated}

-- a count, or none, or refused with a number
pub data Found : Type 0 where
  found_count : ℕ → Found
  no_count : Found
  refused_with : ℕ → Found

-- what each case of the code's answer stands for, and the number of each refusal
abbrev pub refusal_number : Refusal → ℕ
refusal_number ChannelOutside = 11
refusal_number NotCalibrated = 12

abbrev pub found_count_or_none : Option ℕ → Found
found_count_or_none (Some n) = found_count n
found_count_or_none None = no_count

abbrev pub found_by : Result (Option ℕ) Refusal → Found
found_by (Ok found) = found_count_or_none found
found_by (Err refusal) = refused_with (refusal_number refusal)

-- 11 where the channel isn't 1 to 22; then 12 where no scan has been accepted or the channel's flag there isn't 0
abbrev pub lookup_verdict : (channel : ℕ) (accepted : Bool) (flag : ℕ) → Verdict
lookup_verdict channel accepted flag =
    first_that_applies ((11 when not (from_to 1 channels channel)) ∷ (12 when not (accepted && eqb flag 0)) ∷ [])

-- a scene before scan bias is delivered with just this T
abbrev pub delivered_with : (wanted : ℕ) → TOrMark → Bool
delivered_with wanted (just_t (pos t)) = eqb t wanted
delivered_with wanted (just_t (negsuc t)) = false
delivered_with wanted flagged_mark = false
delivered_with wanted outside_mark = false
delivered_with wanted guard_mark = false

-- of the counts n - 1, n - 2, .. 0 the first that fits
unfoldable pub count_that : (fits : ℕ → Bool) → ℕ → Found
count_that fits zero = no_count
count_that fits (suc n) = cond (fits n) (found_count n) (count_that fits n)

-- the counts are 0 to 65,535
abbrev pub found_if : Verdict → (scene : ℕ → TOrMark) → (wanted : ℕ) → Found
found_if passes scene wanted = count_that (λ count. delivered_with wanted (scene count)) 65536
found_if (fails n) scene wanted = refused_with n

-- the scenes of a channel before scan bias
abbrev pub scenes_before_bias : Channel → ℕ → TOrMark
scenes_before_bias (Ok constants) = before_bias constants
scenes_before_bias (Err flag) = λ count. flagged_mark

-- by what is kept of the last accepted scan; channels are counted from 1
abbrev pub count_behind : LastScan → (channel wanted : ℕ) → Found
count_behind None channel wanted = found_if (lookup_verdict channel false 0) (λ count. flagged_mark) wanted
count_behind (Some all) channel wanted =
    let kept = get_or all (channel - 1) no_channel in
    found_if (lookup_verdict channel true (channel_flag kept)) (scenes_before_bias kept) wanted
