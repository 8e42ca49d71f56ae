-- The bytes of the numbers before i are put.
use Rattle.std.proofs.Common.{◌≡◌}
use Rattle.lists.specs.Build.{put, cells}
use Rattle.state.proofs.NumberLaws.{bytes_of}
use Rattle.state.proofs.put_numbers.Given as goal

abbrev pub invariant-loop-i : goal.invariant-loop-i
invariant-loop-i l = l.out ≡ put l.initial.out l.at (cells (bytes_of l.numbers) l.i)
