-- `on_line` meets its contract: the shelf temperature lies between those of the two pairs, which are in their ranges, so every number on the
-- way fits and is read back as itself.
use Rattle.std.proofs.Common.{ℤ, pos, ◌+ℤ◌, ◌-ℤ◌, ◌*ℤ◌, ◌≤ℤ◌, ◌<ℤ◌, w64, FitsSigned, lit<, arith}
use Rattle.std.proofs.lemmas.Int.{to_z-of_z}
use Rattle.integers.specs.Bounds.{Bounded}
use Rattle.integers.proofs.Bounds.{bounded_sum, bounded_difference, bounded_product}
use Rattle.integers.proofs.Order.{at_most_trans, below_at_most}
use Rattle.integers.proofs.Machine.{bounded_fits}
use Rattle.table.specs.declared.ShelfPair.{ShelfPair}
use Rattle.nonlinearity.specs.Steps.{ShelfPairRange}
use Rattle.nonlinearity.proofs.on_line.Goals as goal

abbrev Given : (low high : ShelfPair) → ℤ → Type 0
Given low high shelf = ShelfPairRange low × ShelfPairRange high × (low.shelf <ℤ shelf) × (shelf ≤ℤ high.shelf)

-- what the machine computes
record Fitting (low high : ShelfPair) (shelf : ℤ) : Type 0 where
  low_shelf : FitsSigned w64 low.shelf
  low_tnl : FitsSigned w64 low.tnl
  high_shelf : FitsSigned w64 high.shelf
  high_tnl : FitsSigned w64 high.tnl
  at : FitsSigned w64 shelf
  to_high : FitsSigned w64 (high.shelf -ℤ shelf)
  from_low : FitsSigned w64 (shelf -ℤ low.shelf)
  first : FitsSigned w64 (low.tnl *ℤ (high.shelf -ℤ shelf))
  second : FitsSigned w64 (high.tnl *ℤ (shelf -ℤ low.shelf))
  weighted : FitsSigned w64 (low.tnl *ℤ (high.shelf -ℤ shelf) +ℤ high.tnl *ℤ (shelf -ℤ low.shelf))
  width : FitsSigned w64 (high.shelf -ℤ low.shelf)

fitting : {low high : ShelfPair} {shelf : ℤ} → Given low high shelf → Fitting low high shelf
fitting {low} {high} {shelf} h =
    let within : Bounded shelf (pos 245760) = record { low = at_most_trans h.0.shelf.low (below_at_most h.2); high = at_most_trans h.3 h.1.shelf.high } in
    let to_high : Bounded (high.shelf -ℤ shelf) (pos 491520) = bounded_difference h.1.shelf within in
    let from_low : Bounded (shelf -ℤ low.shelf) (pos 491520) = bounded_difference within h.0.shelf in
    let first : Bounded (low.tnl *ℤ (high.shelf -ℤ shelf)) (pos 4026531840) = bounded_product h.0.tnl to_high in
    let second : Bounded (high.tnl *ℤ (shelf -ℤ low.shelf)) (pos 4026531840) = bounded_product h.1.tnl from_low in
    record {
      low_shelf = bounded_fits h.0.shelf (lit< tt);
      low_tnl = bounded_fits h.0.tnl (lit< tt);
      high_shelf = bounded_fits h.1.shelf (lit< tt);
      high_tnl = bounded_fits h.1.tnl (lit< tt);
      at = bounded_fits within (lit< tt);
      to_high = bounded_fits to_high (lit< tt);
      from_low = bounded_fits from_low (lit< tt);
      first = bounded_fits first (lit< tt);
      second = bounded_fits second (lit< tt);
      weighted = bounded_fits (bounded_sum first second) (lit< tt);
      width = bounded_fits (bounded_difference h.1.shelf h.0.shelf) (lit< tt);
    }

pub overflow_mul-weighted : goal.overflow_mul-weighted
overflow_mul-weighted c = let f = fitting c.requires in grind (arith, to_z-of_z)

pub overflow_mul-weighted-2 : goal.overflow_mul-weighted-2
overflow_mul-weighted-2 c = let f = fitting c.requires in grind (arith, to_z-of_z)

pub overflow_add-weighted : goal.overflow_add-weighted
overflow_add-weighted c = let f = fitting c.requires in grind (arith, to_z-of_z)

pub returns : goal.returns
returns c = let f = fitting c.requires in grind (arith, to_z-of_z, c.round.ensures)
