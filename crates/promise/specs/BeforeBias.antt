-- Request W4: how far T is from E, before scan bias.
use Rattle.std.specs.Prelude.{ℕ, pos}
use Rattle.integers.specs.Fractions.{◌/ᶠ◌, Distance}
use Rattle.promise.specs.Moments.{ByTheRules, t_at, e_at}
use Rattle.promise.specs.SameScenes.{FedChannel, settings_of_fed, moment_of_fed}

-- in every channel of an accepted feed, wherever the rules deliver, T is at most 21/8 units from E
abbrev pub DistanceBeforeBias : Type 0
DistanceBeforeBias =
    (f : FedChannel) (i : ℕ) → ByTheRules (settings_of_fed f) (moment_of_fed f) f.channel i
    → Distance (pos 21 /ᶠ pos 8) (t_at (settings_of_fed f) (moment_of_fed f) f.channel i) (e_at (settings_of_fed f) (moment_of_fed f) f.channel i)
