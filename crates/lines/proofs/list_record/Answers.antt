-- `list_record` meets its contract: the line is that of the answer and the product that the feed gave.
use Rattle.std.proofs.Common.{List, ℕ, ap₂, ◌∙◌}
use Rattle.calibrator.specs.declared.Calibrator.{Calibrator}
use Rattle.lines.specs.declared.Written.TheVariants.{Line}
use Rattle.lines.specs.Lines.{reply_line}
use Rattle.lines.specs.Steps.{empty_product, listed_line, listed_of}
use Rattle.lines.proofs.list_record.Goals as goal

pub returns : goal.returns
unfolding empty_product listed_line listed_of
returns c =
    let fed = c.feed-fed.ensures in
    let line = c.answer_line.ensures ∙ ap₂ reply_line fed.reply_is fed.buffer_is in
    ap₂ (λ (calibrator : Calibrator) (line : List ℕ). record { calibrator = calibrator; written = Line line }) fed.calibrator_is line
