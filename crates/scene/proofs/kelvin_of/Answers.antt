-- `scene::kelvin_of` meets its contract: t is from 1 to 2^24 - 1, so its cast is exact, and so is the product with 1 / 4096.
use Rattle.integers.proofs.Machine.{reads_back}
use Rattle.scene.proofs.Delivered.{within_guard}
use Rattle.scene.proofs.Exact.{product_is_kelvin}
use Rattle.scene.proofs.kelvin_of.Goals as goal

pub returns : goal.returns
returns c =
    let w = within_guard c.requires.0 c.requires.1 in
    rw (reads_back c.ranges.t, ← w.same) (product_is_kelvin _ w.low w.high)
