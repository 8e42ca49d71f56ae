-- `thermometer_limits_inside` meets its contract: each answer in the list is the test of the table's value, and the two temperatures fit 64 bits.
use Rattle.std.proofs.Common.{◌∙◌}
use Rattle.integers.proofs.Machine.{result_reads_back}
use Rattle.table.specs.Ranges.{thermometer_limits_inside}
use Rattle.table.proofs.thermometer_limits_inside.Goals as goal

pub returns : goal.returns
unfolding thermometer_limits_inside
returns c =
    let low = c.t_low-low in
    let upp = c.t_upp-upp in
    c.all_hold.ensures
    ∙ rw (c.resistance_inside.ensures, c.r_pam.ensures, c.size_to.ensures, c.size_to-2.ensures, result_reads_back low.result low.type_inv, result_reads_back upp.result upp.type_inv, low.ensures, upp.ensures, c.d_t.ensures)
