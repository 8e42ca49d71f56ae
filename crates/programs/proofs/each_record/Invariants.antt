-- The loop of `each_record`: the calibrator is the one that as many whole records leave as turns were made.
use Rattle.programs.specs.Runs.{Reached}
use Rattle.programs.proofs.each_record.Given as goal

abbrev pub invariant-loop : goal.invariant-loop
invariant-loop l = Reached l.initial.state l.counter l.state
