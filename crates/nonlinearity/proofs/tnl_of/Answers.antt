-- `tnl_of` meets its contract: the first pair that the shelf temperature is not above is the first of all or the upper end of its line; without
-- one it is above the last.
use Rattle.std.proofs.Common.{◌≡◌, true, false, ◌<◌, ◌≤◌, ◌≤ℤ◌, ◌<ℤ◌, ℕ, ◌+◌, ◌-◌, List, ℤ, w64, to_z, of_z, FitsSigned, Option, arith, rules, tests, ap, sym, subst, ◌∙◌}
use Rattle.std.proofs.lemmas.Int.{ints, to_z-of_z}
use Rattle.std.proofs.lemmas.Iterator.{first_from_Range}
use Rattle.std.specs.Option.{MatchOption}
use Rattle.std.specs.Int.Signed.{le_z}
use Rattle.integers.proofs.Order.{le_z_true, le_z_false}
use Rattle.integers.specs.Rounding.{r}
use Rattle.instrument.specs.Instrument.{channels}
use Rattle.table.specs.declared.ShelfPair.{ShelfPair}
use Rattle.table.specs.Settings.{pairs, settings_of}
use Rattle.table.specs.ValueRanges.{ShelfPairsRange}
use Rattle.table.specs.Opening.{ages, AcceptedTable}
use Rattle.table.proofs.OpeningLaws.{accepted_ranges}
use Rattle.nonlinearity.specs.Interpolation.{on_line, tnl_of}
use Rattle.nonlinearity.specs.Steps.{ShelfPairRange}
use Rattle.nonlinearity.proofs.InterpolationLaws.{tnl_up_to_first, tnl_above_last, tnl_between}
use Rattle.nonlinearity.proofs.tnl_of.Goals as goal

-- what a search for the first pair that is at least the shelf temperature has found
module _ (pair : ℕ → ShelfPair) (shelf : ℤ) where
  abbrev Found : Option ℕ → Type 0
  Found found =
      MatchOption found ((k : ℕ) → 0 ≤ k → k < pairs → le_z shelf (pair k).shelf ≡ false)
      (λ i. (0 ≤ i) × (i < pairs) × (le_z shelf (pair i).shelf ≡ true) × ((k : ℕ) → 0 ≤ k → k < i → le_z shelf (pair k).shelf ≡ false))

abbrev pair : List ℕ → ℕ → ℕ → ShelfPair
pair table c = ((settings_of ages table).channel c).pair

module _ {table : List ℕ} (accepted : AcceptedTable table) {c : ℕ} (below : c < channels) where
  ranges : ShelfPairsRange (pair table c)
  ranges = ((accepted_ranges accepted).channel c below).pair

  in_range : {read : ShelfPair} (j : ℕ) → j < pairs → read ≡ pair table c j → ShelfPairRange read
  in_range j inside is = subst ShelfPairRange (sym is) (record { shelf = ranges.shelf j inside; tnl = ranges.tnl j inside })

  module _ (shelf : ℤ) where
    up_to_first : {first : ShelfPair} {j : ℕ} → j ≡ 0 → first ≡ pair table c 0 → le_z shelf (pair table c j).shelf ≡ true → first.tnl ≡ tnl_of (pair table c) shelf
    up_to_first at is up_to = ap (λ (p : ShelfPair). p.tnl) is ∙ sym (tnl_up_to_first ranges shelf (le_z_true (rw at at up_to)))

    between : {low high : ShelfPair} {j : ℕ} → 0 < j → j < pairs → low ≡ pair table c (j - 1) → high ≡ pair table c j → le_z shelf (pair table c (j - 1)).shelf ≡ false
        → le_z shelf (pair table c j).shelf ≡ true → r (on_line low high shelf).num (on_line low high shelf).den ≡ tnl_of (pair table c) shelf
    between {j = j} behind inside low_is high_is above up_to =
        let next : j - 1 + 1 ≡ j = omega arith in
        let within : shelf ≤ℤ (pair table c (j - 1 + 1)).shelf = rw next (le_z_true up_to) in
        rw (low_is, high_is) (sym (rw next at (tnl_between ranges shelf (j - 1) (omega arith) (le_z_false above) within)))

    above_last : {last : ShelfPair} → last ≡ pair table c (pairs - 1) → le_z shelf (pair table c (pairs - 1)).shelf ≡ false → last.tnl ≡ tnl_of (pair table c) shelf
    above_last is above = ap (λ (p : ShelfPair). p.tnl) is ∙ sym (tnl_above_last ranges shelf (le_z_false above))

pub pair_of-low-requires : goal.pair_of-low-requires
pair_of-low-requires c =
    let found : Found (pair c.bytes-table.result.now c.args.c) c.args.shelf c.find.result =
    first_from_Range _ _ _ _ _ _ c.find.ensures.ran (λ x q k. search (rules, tests)) (λ x q k. search (rules, tests)) in
    let at = rw c.in-Some.is at found in
    (c.requires, omega (arith, at.1))

pub pair_of-high-requires : goal.pair_of-high-requires
pair_of-high-requires c =
    let found : Found (pair c.bytes-table.result.now c.args.c) c.args.shelf c.find.result =
    first_from_Range _ _ _ _ _ _ c.find.ensures.ran (λ x q k. search (rules, tests)) (λ x q k. search (rules, tests)) in
    (c.requires, (rw c.in-Some.is at found).1)

pub on_line-requires : goal.on_line-requires
on_line-requires c =
    let found : Found (pair c.bytes-table.result.now c.args.c) c.args.shelf c.find.result =
    first_from_Range _ _ _ _ _ _ c.find.ensures.ran (λ x q k. search (rules, tests)) (λ x q k. search (rules, tests)) in
    let at = rw c.in-Some.is at found in
    let accepted = c.bytes-table.ensures.accepted in
    let low = c.pair_of-low in
    let high = c.pair_of-high in (
      in_range accepted c.requires (c.in-Some.j - 1) (omega (arith, at.1)) low.ensures,
      in_range accepted c.requires c.in-Some.j at.1 high.ensures,
      rw (low.ensures, to_z-of_z w64 c.args.shelf c.ranges.shelf) (le_z_false (at.3 (c.in-Some.j - 1) (omega arith) (omega arith))),
      rw (high.ensures, to_z-of_z w64 c.args.shelf c.ranges.shelf) (le_z_true at.2),
    )

pub returns-in-Some-eq0 : goal.returns-in-Some-eq0
returns-in-Some-eq0 c =
    let found : Found (pair c.bytes-table.result.now c.args.c) c.args.shelf c.find.result =
    first_from_Range _ _ _ _ _ _ c.find.ensures.ran (λ x q k. search (rules, tests)) (λ x q k. search (rules, tests)) in
    let at = rw c.in-Some-eq0.is at found in
    let fits : FitsSigned w64 c.pair_of.result.tnl = search rules in
    rw (← c.bytes-table.ensures.bytes, to_z-of_z w64 c.pair_of.result.tnl fits)
    (up_to_first c.bytes-table.ensures.accepted c.requires c.args.shelf c.in-Some-eq0.field-0-test c.pair_of.ensures at.2)

pub returns-in-Some : goal.returns-in-Some
returns-in-Some c =
    let found : Found (pair c.bytes-table.result.now c.args.c) c.args.shelf c.find.result =
    first_from_Range _ _ _ _ _ _ c.find.ensures.ran (λ x q k. search (rules, tests)) (λ x q k. search (rules, tests)) in
    let at = rw c.in-Some.is at found in
    let fits : FitsSigned w64 c.on_line.result = search rules in
    rw (← c.bytes-table.ensures.bytes, to_z-of_z w64 c.on_line.result fits)
    ((rw (to_z-of_z w64 c.args.shelf c.ranges.shelf) at c.on_line.ensures)
    ∙ between c.bytes-table.ensures.accepted c.requires c.args.shelf (omega arith) at.1 c.pair_of-low.ensures c.pair_of-high.ensures
    (at.3 (c.in-Some.j - 1) (omega arith) (omega arith)) at.2)

pub returns-in-None : goal.returns-in-None
returns-in-None c =
    let found : Found (pair c.bytes-table.result.now c.args.c) c.args.shelf c.find.result =
    first_from_Range _ _ _ _ _ _ c.find.ensures.ran (λ x q k. search (rules, tests)) (λ x q k. search (rules, tests)) in
    let none = rw c.in-None.is at found in
    let fits : FitsSigned w64 c.pair_of-in-None.result.tnl = search rules in
    rw (← c.bytes-table.ensures.bytes, to_z-of_z w64 c.pair_of-in-None.result.tnl fits)
    (above_last c.bytes-table.ensures.accepted c.requires c.args.shelf c.pair_of-in-None.ensures (none (pairs - 1) (omega arith) (omega arith)))
