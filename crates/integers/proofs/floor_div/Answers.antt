-- `floor_div` meets its contract: by a b above 0, Euclid's quotient is the floor.
use Rattle.std.proofs.Common.{arith}
use Rattle.std.proofs.lemmas.Int.{to_z-of_z}
use Rattle.integers.proofs.Floor.{quotient_is_floor}
use Rattle.integers.proofs.floor_div.Goals as goal

pub returns : goal.returns
returns c = grind (arith, to_z-of_z, quotient_is_floor)
