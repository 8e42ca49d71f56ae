-- `on_chord` meets its contract: F rises, so the chord does and may be divided by; m and F are small enough for each number to fit.
use Rattle.std.proofs.Common.{arith}
use Rattle.std.proofs.lemmas.Int.{to_z-of_z}
use Rattle.thermometer.specs.Steps.{on_chord}
use Rattle.thermometer.proofs.Search.{chord_fits}
use Rattle.thermometer.proofs.Coefficients.on_chord.Goals as goal

pub overflow_sub-m : goal.overflow_sub-m
overflow_sub-m c =
    let fit = chord_fits c.args.self.admissible c.requires.1 c.requires.2 c.requires.0 in
    grind (arith, to_z-of_z)

pub overflow_mul-m : goal.overflow_mul-m
overflow_mul-m c =
    let fit = chord_fits c.args.self.admissible c.requires.1 c.requires.2 c.requires.0 in
    grind (arith, to_z-of_z)

pub overflow_sub-to : goal.overflow_sub-to
overflow_sub-to c =
    let fit = chord_fits c.args.self.admissible c.requires.1 c.requires.2 c.requires.0 in
    grind (arith, to_z-of_z)

pub floor_div-requires : goal.floor_div-requires
floor_div-requires c =
    let fit = chord_fits c.args.self.admissible c.requires.1 c.requires.2 c.requires.0 in
    grind (arith, to_z-of_z)

pub overflow_add-u : goal.overflow_add-u
overflow_add-u c =
    let fit = chord_fits c.args.self.admissible c.requires.1 c.requires.2 c.requires.0 in
    grind (arith, to_z-of_z)

pub returns : goal.returns
unfolding on_chord
returns c =
    let fit = chord_fits c.args.self.admissible c.requires.1 c.requires.2 c.requires.0 in
    grind (arith, to_z-of_z)
