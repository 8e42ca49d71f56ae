-- `each_record` meets its contract: before the first turn no record is read; each turn adds one whole record; and the turn that ends it is
-- the last.
use Rattle.std.proofs.Common.{arith, refl, ⊎_elim}
use Rattle.programs.proofs.RunLaws.{ended_is_not_more, stopped_is_not_more, reached_none, reached_one_more, ran_to_an_end, ran_all_turns}
use Rattle.programs.proofs.each_record.Goals as goal

pub loop-init : goal.loop-init
loop-init c = reached_none c.args.calibrator

pub loop-preserved : goal.loop-preserved
loop-preserved c = reached_one_more c.loop.invariant c.turn-turned.ensures c.in-More.is refl

pub returns-in-Ended : goal.returns-in-Ended
returns-in-Ended c =
    ran_to_an_end c.loop.invariant c.turn-turned.ensures (⊎_elim (λ ended. ended_is_not_more ended) (λ stopped. stopped_is_not_more stopped.1) c.in-Ended.is)

pub returns : goal.returns
returns c = ran_all_turns c.loop.invariant (omega arith)
