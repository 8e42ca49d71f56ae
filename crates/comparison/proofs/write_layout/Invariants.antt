-- The first i fields are those of the first i tags and lengths.
use Rattle.std.proofs.Common.{◌≡◌, take}
use Rattle.comparison.specs.Layouts.{layout_of}
use Rattle.comparison.proofs.write_layout.Given as goal

abbrev pub invariant-loop-i : goal.invariant-loop-i
invariant-loop-i l = take l.i l.out ≡ layout_of (take l.i l.tags) (take l.i l.sizes)
