-- `put_numbers` meets its contract: each turn puts the bytes of one number more.
use Rattle.std.proofs.Common.{◌∙◌, arith}
use Rattle.state.proofs.NumberLaws.{put_none, put_next_of, put_all}
use Rattle.state.proofs.put_numbers.Goals as goal

pub loop-i-init : goal.loop-i-init
loop-i-init c = put_none c.args.numbers.now c.args.out.now c.args.at (omega arith)

pub loop-i-preserved : goal.loop-i-preserved
loop-i-preserved c = put_next_of c.args.numbers.now c.args.out.now c.args.at c.loop-i.i (omega arith) c.loop-i.invariant c.put_u32.ensures

pub returns : goal.returns
returns c = c.loop-i.invariant ∙ put_all c.args.numbers.now c.args.out.now c.args.at c.loop-i.i (omega arith)
