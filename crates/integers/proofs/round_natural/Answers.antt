-- `round_natural` meets its contract: what is divided is what `r_of_naturals` divides.
use Rattle.integers.proofs.Nearest.{r_of_naturals}
use Rattle.integers.proofs.round_natural.Goals as goal

pub returns : goal.returns
returns c = r_of_naturals c.args.a c.args.half c.requires.1
