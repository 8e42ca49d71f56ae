-- What is answered, by the outcomes of the two tests.
use Prim.Native.Nat.{ℕ}
use mathlib.Core.Path.{◌≡◌}
use mathlib.Core.Bool.{Bool, true, false, ◌&&◌}
use lib.Dec.{eqb}
use Rattle.instrument.specs.Instrument.{channels}
use Rattle.thermometer.specs.Reading.{from_to}
use Rattle.scene.specs.BeforeBias.{TOrMark}
use Rattle.lookup.specs.Lookup.{refused_with, lookup_verdict, found_if, count_that, delivered_with}

module _ (channel : ℕ) (accepted : Bool) (flag : ℕ) (scene : ℕ → TOrMark) (wanted : ℕ) where
  pub found_outside : from_to 1 channels channel ≡ false → found_if (lookup_verdict channel accepted flag) scene wanted ≡ refused_with 11
  found_outside e = rw e

  module _ (inside : from_to 1 channels channel ≡ true) where
    pub found_not_calibrated : (accepted && eqb flag 0) ≡ false → found_if (lookup_verdict channel accepted flag) scene wanted ≡ refused_with 12
    found_not_calibrated e = rw (inside, e)

    pub found_calibrated : (accepted && eqb flag 0) ≡ true
        → found_if (lookup_verdict channel accepted flag) scene wanted ≡ count_that (λ count. delivered_with wanted (scene count)) 65536
    found_calibrated e = rw (inside, e)
