-- `count_with` meets its contract: only the candidate can fit, and it fits where just the wanted T is placed for it.
use Rattle.std.proofs.Common.{nat_eq, w64, to_z, of_z, sym, ap, ◌∙◌, arith}
use Rattle.std.proofs.lemmas.Bool.{eqb-true, eqb-false}
use Rattle.integers.proofs.Machine.{result_reads_back}
use Rattle.scene.specs.Steps.{placed}
use Rattle.lookup.specs.Lookup.{found_count_or_none}
use Rattle.lookup.proofs.FitLaws.{candidate_decides}
use Rattle.lookup.proofs.count_with.Goals as goal

pub returns : goal.returns
returns c =
    let t_is = c.placed_units.ensures ∙ ap (λ k. placed k c.only_candidate-count.result) c.of-curve.ensures in
    let placed_is = result_reads_back c.placed_units.result c.placed_units.type_inv ∙ t_is in
    let wanted_is = result_reads_back c.from.result c.from.type_inv ∙ c.from.ensures in
    let t = of_z w64 c.placed_units.result in
    let asked = of_z w64 c.from.result in
    ap found_count_or_none c.then_some.ensures
    ∙ candidate_decides c.requires c.args.wanted c.only_candidate-count.result (rw c.of-curve.ensures at c.only_candidate-count.ensures)
    (omega arith) (omega arith) (nat_eq t asked)
    (λ same. sym placed_is ∙ ap (to_z w64) (eqb-true t asked same) ∙ wanted_is)
    (λ other same. eqb-false t asked other (ap (of_z w64) (t_is ∙ same ∙ sym c.from.ensures)))
