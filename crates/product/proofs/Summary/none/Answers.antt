-- `Summary::none` meets its contract: the literal -1.0 is the float of `none_delivered`.
use Rattle.std.proofs.Common.{refl}
use Rattle.std.specs.Float.Ieee.{neg, of_bits}
use Rattle.product.proofs.Summary.none.Goals as goal

pub returns : goal.returns
unfolding neg of_bits
returns c = refl
