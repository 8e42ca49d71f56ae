-- What the private functions give. A reader of the promises can leave this out.
use Rattle.std.specs.Prelude.{ℕ}
use Rattle.scene.specs.declared.Constants.{Constants}
use Rattle.scene.specs.BeforeBias.{before_bias}
use Rattle.lists.specs.Tests.{passes}
use Rattle.lookup.specs.Lookup.{Found, found_if}

-- the count behind a wanted T in a channel without a flag
abbrev pub count_with : Constants → (wanted : ℕ) → Found
count_with k wanted = found_if passes (before_bias k) wanted
