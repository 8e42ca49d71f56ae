-- `nearby` meets its contract: past its first test m is small enough for the line and the chord; what the chord gives is in the range, so it has a place.
use Rattle.std.proofs.Common.{arith}
use Rattle.std.proofs.lemmas.Int.{ints, to_z-of_z}
use Rattle.thermometer.specs.Rule.{InRange}
use Rattle.thermometer.specs.Steps.{nearby_units}
use Rattle.thermometer.proofs.Search.{small_measured, line_in_range, chord_end_in_range, chord_in_range}
use Rattle.thermometer.proofs.Coefficients.nearby.Goals as goal

pub returns-then-m-gt22000000 : goal.returns-then-m-gt22000000
unfolding nearby_units
returns-then-m-gt22000000 c = grind (arith, to_z-of_z)

pub on_line-t-requires : goal.on_line-t-requires
on_line-t-requires c =
    let small = small_measured c.args.self.admissible c.requires (grind (arith, ints)) in
    grind (arith, to_z-of_z)

pub on_chord-u-requires : goal.on_chord-u-requires
on_chord-u-requires c =
    let small = small_measured c.args.self.admissible c.requires (grind (arith, ints)) in
    let line = line_in_range c.args.self.alpha c.args.m in
    let end = chord_end_in_range c.args.self.alpha c.args.m in
    grind (arith, to_z-of_z)

pub overflow_sub-result-2 : goal.overflow_sub-result-2
overflow_sub-result-2 c =
    let inside : InRange c.on_chord-u.result = rw c.on_chord-u.ensures (chord_in_range _ _ _ _ _) in
    omega (arith, ints)

pub overflow_cast-result : goal.overflow_cast-result
overflow_cast-result c =
    let inside : InRange c.on_chord-u.result = rw c.on_chord-u.ensures (chord_in_range _ _ _ _ _) in
    grind (arith, ints)

pub returns : goal.returns
unfolding nearby_units
returns c =
    let inside : InRange c.on_chord-u.result = rw c.on_chord-u.ensures (chord_in_range _ _ _ _ _) in
    grind (arith, ints, to_z-of_z)
