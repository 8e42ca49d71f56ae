-- Request W4: TNL of a channel for a scan, from the channel's pairs of shelf temperature and TNL and the scan's own shelf temperature.
use Rattle.std.specs.Prelude.{ℕ, zero, suc, ◌+◌, ◌-◌, cond, ℤ, ◌+ℤ◌, ◌-ℤ◌, ◌*ℤ◌}
use Rattle.std.specs.Int.Signed.{le_z}
use Rattle.integers.specs.Rounding.{r}
use Rattle.integers.specs.Fractions.{Fraction, ◌/ᶠ◌, whole}
use Rattle.table.specs.declared.ShelfPair.{ShelfPair}
use Rattle.table.specs.Settings.{pairs}

-- between two pairs: the straight line's value at this shelf temperature, as one fraction
abbrev pub on_line : (low high : ShelfPair) → ℤ → Fraction
on_line low high shelf = (low.tnl *ℤ (high.shelf -ℤ shelf) +ℤ high.tnl *ℤ (shelf -ℤ low.shelf)) /ᶠ (high.shelf -ℤ low.shelf)

-- above pair j, which so many more follow: on the line up to the next one; beyond the last the end value is kept
unfoldable pub above_pair : (ℕ → ShelfPair) → (j more : ℕ) → ℤ → Fraction
above_pair pair j zero shelf = whole (pair j).tnl
above_pair pair j (suc more) shelf = cond (le_z shelf (pair (j + 1)).shelf) (on_line (pair j) (pair (j + 1)) shelf) (above_pair pair (j + 1) more shelf)

-- the unrounded TNL; up to the first pair the end value is kept
unfoldable pub unrounded_tnl : (ℕ → ShelfPair) → ℤ → Fraction
unrounded_tnl pair shelf = cond (le_z shelf (pair 0).shelf) (whole (pair 0).tnl) (above_pair pair 0 (pairs - 1) shelf)

-- rounded by r, once
unfoldable pub tnl_of : (ℕ → ShelfPair) → ℤ → ℤ
tnl_of pair shelf = let value = unrounded_tnl pair shelf in r value.num value.den
