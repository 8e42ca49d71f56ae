-- `calibrate_record` meets its contract: what the lent buffer held changes neither the calibrator nor the answer.
use Rattle.std.proofs.Common.{ap, ap₂, ◌∙◌, arith}
use Rattle.calibrator.specs.declared.Calibrator.{Calibrator}
use Rattle.lines.specs.declared.Written.{Written}
use Rattle.lines.specs.Steps.{written_by, calibrated_of}
use Rattle.lines.proofs.LineLaws.{same_calibrator, same_reply}
use Rattle.lines.proofs.calibrate_record.Goals as goal

pub returns-clause-calibrated : goal.returns-clause-calibrated
unfolding calibrated_of
returns-clause-calibrated c =
    let fed = c.feed-fed.ensures in
    let a = c.args in
    let calibrator = fed.calibrator_is ∙ same_calibrator a.calibrator a.scan.now a.product.now (omega arith) in
    let written = c.written_by.ensures ∙ ap written_by (fed.reply_is ∙ same_reply a.calibrator a.scan.now a.product.now (omega arith)) in
    ap₂ (λ (calibrator : Calibrator) (written : Written). record { calibrator = calibrator; written = written }) calibrator written
