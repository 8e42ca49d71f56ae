-- What holds of each element of a list.
use Rattle.std.specs.Prelude.{List, [], ◌∷◌}

module _ {A : Type 0} where
  unfoldable pub All : (A → Type 0) → List A → Type 0
  All Holds [] = Unit {0}
  All Holds (x ∷ more) = Holds x × All Holds more
