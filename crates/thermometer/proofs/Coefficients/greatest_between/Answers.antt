-- `greatest_between` meets its contract: F rises, so where the middle isn't reached, no later place is. At the end `past` is one after `reached`.
use Rattle.std.proofs.Common.{◌+◌, ◌-◌, ◌/◌, arith}
use Rattle.std.proofs.lemmas.Int.{ints}
use Rattle.integers.proofs.Machine.{reads_back}
use Rattle.thermometer.proofs.Answer.{reached_before, answer_is}
use Rattle.thermometer.proofs.Coefficients.greatest_between.Goals as goal

pub loop-past-preserved : goal.loop-past-preserved
loop-past-preserved c =
    let before = c.loop-past.invariant.1 in
    let middle = c.loop-past.reached + (c.loop-past.past - c.loop-past.reached) / 2 in (
      omega arith,
      record {
        reached_inside = before.reached_inside;
        is_reached = before.is_reached;
        past_inside = omega arith;
        all_before = reached_before c.args.self.admissible middle (omega arith) (rw (← c.ratio_at.ensures) (grind (arith, ints)));
      },
    )

pub returns : goal.returns
returns c =
    let a = c.args in
    let ends = rw (reads_back c.ranges.m) at c.loop-past.invariant.1 in
    let e = answer_is a.self.alpha a.self.delta a.self.beta a.m {k = c.loop-past.reached} ends.reached_inside ends.is_reached (λ j h p. omega (arith, ends.all_before j h p)) in
    omega (arith, ints)
