-- The loop of `read_record`: what was read fits the record. Each turn but the last reads at least one byte.
use Rattle.std.proofs.Common.{length, ◌-◌, ◌≡◌, ◌≤◌}
use Rattle.programs.proofs.read_record.Given as goal

abbrev pub invariant-loop-size : goal.invariant-loop-size
invariant-loop-size l = (l.size ≤ length l.scan) × (length l.scan ≡ length l.initial.scan)

abbrev pub decreases-loop-size : goal.decreases-loop-size
decreases-loop-size l = length l.initial.scan - l.size
