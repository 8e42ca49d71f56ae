-- `feed` meets its contract: bytes that are no state are left, and the files that are read from a state are those of the calibrator that is fed.
use Rattle.std.proofs.Common.{subst}
use Rattle.calibrator.specs.declared.Calibrator.{Calibrator}
use Rattle.calibrator.specs.Feeding.{Feed, step}
use Rattle.live.specs.Calls.{left_by, CallLeaves}
use Rattle.live.specs.Answers.{answer_number}
use Rattle.live.proofs.CallLaws.{no_state_leaves, state_leaves}
use Rattle.live.proofs.feed.Goals as goal

pub returns-in_default : goal.returns-in_default
returns-in_default c = no_state_leaves c.args.state.now (record { scan = c.args.scan.now; buffer = c.args.buffer.now }) c.in_default.ensures

pub feed_read-requires : goal.feed_read-requires
feed_read-requires c = c.in-Some.ensures.0

pub returns : goal.returns
returns c =
    let state = c.args.state.now in
    let feed : Feed = record { scan = c.args.scan.now; buffer = c.args.buffer.now } in
    let read = c.in-Some.ensures in
    let new = c.feed_read.new in
    state_leaves state feed read.0 (subst (λ (d : Calibrator). CallLeaves (left_by state (step d feed)) (answer_number c.feed_read.result) new.state new.buffer) read.1 c.feed_read.ensures)
