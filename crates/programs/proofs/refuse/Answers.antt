-- `refuse` hands over the line of the refused file, and no product.
use Rattle.std.proofs.Common.{refl}
use Rattle.programs.specs.Steps.{of_refusal}
use Rattle.programs.proofs.refuse.Goals as goal

pub hand_over-complete-requires : goal.hand_over-complete-requires
hand_over-complete-requires c = of_refusal c.args.refusal c.opening_line-line.ensures refl
