-- `sounder_thermometer` meets its contract: a temperature is within ±245,760, which an i32 holds.
use Rattle.std.proofs.Common.{◌≡◌, sym, ap, ◌∙◌, arith}
use Rattle.std.proofs.lemmas.Int.{ints, to_z-of_z}
use Rattle.thermometer.specs.Rule.{InRange}
use Rattle.thermometer.specs.Reading.{Result, number}
use Rattle.thermometer.proofs.ReadingLaws.{reading_units_in_range}
use Rattle.station.specs.Calls.{units_or}
use Rattle.station.proofs.sounder_thermometer.Goals as goal

pub overflow_cast-t : goal.overflow_cast-t
overflow_cast-t c =
    let range : InRange c.in-Ok.units = reading_units_in_range _ _ _ _ _ _ _ _ (sym c.in-Ok.ensures) in
    grind (arith, ints, to_z-of_z)

pub returns-in-Ok : goal.returns-in-Ok
returns-in-Ok c =
    let range : InRange c.in-Ok.units = reading_units_in_range _ _ _ _ _ _ _ _ (sym c.in-Ok.ensures) in
    (ap number c.in-Ok.ensures, grind (arith, ints, to_z-of_z) ∙ ap (λ (r : Result). units_or r c.args.t.now) c.in-Ok.ensures)
