-- `with_bias` meets its contract: under an accepted bias file the run begins with the calibrator that is fresh under exactly these bytes.
use Rattle.std.proofs.Common.{List, ℕ, ap, subst, ◌∙◌}
use Rattle.calibrator.specs.declared.Calibrator.{Calibrator}
use Rattle.calibrator.specs.Feeding.{fresh_of}
use Rattle.programs.specs.Runs.{Ran}
use Rattle.programs.proofs.with_bias.Goals as goal

pub returns-in-Ok : goal.returns-in-Ok
returns-in-Ok c =
    let begun = c.fresh.ensures ∙ ap (λ (bytes : List ℕ). fresh_of c.args.table (record { bytes = bytes })) c.in-Ok.ensures.bias in
    rw (← c.in-Ok.ensures.verdict) (c.each_record.result.calibrator, subst (λ (first : Calibrator). Ran first c.each_record.result) begun c.each_record.ensures)
