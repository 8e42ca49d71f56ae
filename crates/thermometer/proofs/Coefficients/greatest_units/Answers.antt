-- `greatest_units` meets its contract: the place after the guess is in the range, and F says which end of the halving it is; the other end is one that F confirms. So the ends
-- enclose the answer, whatever the guess.
use Rattle.std.proofs.Common.{arith}
use Rattle.std.proofs.lemmas.Int.{ints, to_z-of_z}
use Rattle.thermometer.proofs.Search.{guess_before_last, enclosed_after, enclosed_before}
use Rattle.thermometer.proofs.Coefficients.greatest_units.Goals as goal

pub overflow_add-near : goal.overflow_add-near
overflow_add-near c = grind (arith, guess_before_last)

pub ratio_at-requires : goal.ratio_at-requires
ratio_at-requires c = grind (arith, guess_before_last)

pub past_at-past-requires : goal.past_at-past-requires
past_at-past-requires c = grind (arith, guess_before_last)

pub overflow_add-near-then-ratio_at-m : goal.overflow_add-near-then-ratio_at-m
overflow_add-near-then-ratio_at-m c = grind (arith, guess_before_last)

pub greatest_between-requires : goal.greatest_between-requires
greatest_between-requires c = grind (arith, ints, to_z-of_z, guess_before_last, enclosed_after)

pub reached_at-reached-requires : goal.reached_at-reached-requires
reached_at-reached-requires c = grind (arith, guess_before_last)

pub overflow_add-near-2 : goal.overflow_add-near-2
overflow_add-near-2 c = grind (arith, guess_before_last)

pub greatest_between-requires-2 : goal.greatest_between-requires-2
greatest_between-requires-2 c = grind (arith, ints, to_z-of_z, guess_before_last, enclosed_before)
