-- `scene::scale_of` meets its contract: every number on the way fits, and is read back as itself.
use lib.Dec.{lit<}
use Rattle.integers.proofs.Machine.{bounded_fits, reads_back, result_reads_back}
use Rattle.scene.proofs.Ranges.{d_fits, tc_fits, rise_fits, tnl_fits, four_tnl_fits, start_fits, twice_d_fits, five_d_bounded}
use Rattle.scene.proofs.scale_of.Goals as goal

pub returns : goal.returns
returns c =
    let h = c.requires in
    rw (reads_back (d_fits h), reads_back (rise_fits h), reads_back (tnl_fits h), reads_back (four_tnl_fits h), reads_back (tc_fits h), reads_back (start_fits h), reads_back (twice_d_fits h), result_reads_back c.floor_div.result c.floor_div.type_inv, c.floor_div.ensures, reads_back (d_fits h), reads_back (bounded_fits (five_d_bounded h) (lit< tt)))
