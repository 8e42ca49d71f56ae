-- `scene::Curve::low_end` meets its contract: N is a natural number, N times 2^63 / D is below 2^64, and its 2^31ths are the low end.
use Rattle.integers.proofs.Machine.{reads_back}
use Rattle.scene.proofs.Ranges.{n_bounded, inverse_is}
use Rattle.scene.proofs.Bracket.{bracket_found, low_end_fits}
use Rattle.scene.proofs.Curve.low_end.Goals as goal

pub overflow_mul-result : goal.overflow_mul-result
overflow_mul-result c =
    let s = c.args.self in
    let h = c.requires in
    rw (reads_back c.ranges.n, inverse_is s) (low_end_fits c.args.n s.constants.d s.range.d_low h.0 h.1)

pub returns : goal.returns
returns c =
    let s = c.args.self in
    let h = c.requires in
    rw (reads_back c.ranges.n, inverse_is s) (bracket_found c.args.n s.constants.d s.range.d_low h.0 (n_bounded s.range h.0 h.1).high)
