-- Document 01, "Window and flags": a channel has flag 0 and what its scenes need, or a flag from 1 to 4.
use Rattle.std.specs.Prelude.{ℕ, Result, Ok, Err, cond, eqb}
use Rattle.scene.specs.declared.Constants.{Constants}
use Rattle.scene.specs.declared.Flag.{Flag}
use Rattle.scene.specs.declared.Flag.TheVariants.{ThermometersMissing, WarmMissing, ColdMissing, WarmNotAbove}

abbrev pub Channel : Type 0
Channel = Result Constants Flag

-- the number of its flag
abbrev pub channel_flag : Channel → ℕ
channel_flag (Ok constants) = 0
channel_flag (Err ThermometersMissing) = 1
channel_flag (Err WarmMissing) = 2
channel_flag (Err ColdMissing) = 3
channel_flag (Err WarmNotAbove) = 4

-- the channel whose flag has this number, from 0 to 4, and where it is 0, these constants
unfoldable pub channel_with : (flag : ℕ) → Constants → Channel
channel_with flag constants = cond (eqb flag 0) (Ok constants) (Err (cond (eqb flag 1) ThermometersMissing (cond (eqb flag 2) WarmMissing (cond (eqb flag 3) ColdMissing WarmNotAbove))))
