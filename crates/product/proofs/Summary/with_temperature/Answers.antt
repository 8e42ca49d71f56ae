-- `Summary::with_temperature` meets its contract: the first temperature is both ends, and any other moves them as `lesser` and `greater` say.
use Rattle.std.proofs.Common.{rules}
use borrow.Author.Tests.{ne_eqb}
use Rattle.product.specs.Summary.{with_temperature}
use Rattle.product.proofs.Summary.with_temperature.Goals as goal

pub returns-then-self-eq0 : goal.returns-then-self-eq0
unfolding with_temperature
returns-then-self-eq0 c = simp c.if-self-eq0.true

pub returns-then-self-x : goal.returns-then-self-x
unfolding with_temperature
returns-then-self-x c = rw (ne_eqb _ _ c.if-self-eq0.false) (search rules)

pub returns-else-self-x : goal.returns-else-self-x
unfolding with_temperature
returns-else-self-x c = rw (ne_eqb _ _ c.if-self-eq0.false) (search rules)
