-- `tests_of` meets its contract: each return has the number that the tests that led there give.
use Rattle.std.proofs.Common.{rules, ◌≡◌, ℕ, List, ap, sym, refl, subst, ◌∙◌, length, true, false, Err, Option}
use Rattle.lists.specs.Tests.{fails}
use Rattle.fields.specs.Fields.{layout_is_right}
use Rattle.record.specs.Record.{RightRecord, record_layout, record_size, scan_number}
use Rattle.record.specs.declared.Refusal.{Refusal as RecordRefusal}
use Rattle.record.specs.declared.Refusal.TheVariants.{LengthWrong, FieldWrong}
use Rattle.calibrator.specs.Refusals.{not_above, verdict, refusal_number, refusal_of_record}
use Rattle.calibrator.specs.Steps.{tested_verdict}
use Rattle.calibrator.proofs.Verdicts.{verdict_length_wrong, verdict_field_wrong, verdict_number_not_above, verdict_buffer_short, verdict_passes}
use Rattle.calibrator.proofs.tests_of.Goals as goal

-- bytes that are no record are refused with the number of the test that they fail
by_record : (last : Option ℕ) (scan : List ℕ) (size : ℕ) (refusal : RecordRefusal)
    → (refusal ≡ LengthWrong → length scan ≡ record_size → ⊥) → (refusal ≡ FieldWrong → (length scan ≡ record_size) × (layout_is_right scan 0 record_layout ≡ false))
    → fails (refusal_number (refusal_of_record refusal)) ≡ verdict last scan size
by_record last scan size LengthWrong short wrong = sym (verdict_length_wrong last scan size (short refl))
by_record last scan size FieldWrong short wrong = let w = wrong refl in sym (verdict_field_wrong last scan size w.0 w.1)

pub returns-in_err-read-clause-verdict : goal.returns-in_err-read-clause-verdict
returns-in_err-read-clause-verdict c =
    let told : tested_verdict c.from_residual.result ≡ fails (refusal_number (refusal_of_record c.in_err-read.field-0.0)) = search rules in
    told ∙ by_record c.args.last c.args.scan.now c.args.size c.in_err-read.field-0.0
    (λ is. c.in_err-read.ensures.length_wrong.0 (ap (λ e. Err e) is))
    (λ is. c.in_err-read.ensures.field_wrong.0 (ap (λ e. Err e) is))

pub returns-then-is_some_and-clause-verdict : goal.returns-then-is_some_and-clause-verdict
returns-then-is_some_and-clause-verdict c =
    let right : RightRecord c.args.scan.now = subst RightRecord c.in_ok-read.ensures.bytes c.in_ok-read.read.right in
    let number : c.number-number.result ≡ scan_number c.args.scan.now = c.number-number.ensures ∙ ap scan_number c.in_ok-read.ensures.bytes in
    let above : not_above c.args.last c.args.scan.now ≡ true = search rules in
    sym (verdict_number_not_above c.args.last c.args.scan.now c.args.size right.long right.right above)

pub returns-then-size-lt-PRODUCT_SIZE-clause-verdict : goal.returns-then-size-lt-PRODUCT_SIZE-clause-verdict
returns-then-size-lt-PRODUCT_SIZE-clause-verdict c =
    let right : RightRecord c.args.scan.now = subst RightRecord c.in_ok-read.ensures.bytes c.in_ok-read.read.right in
    let number : c.number-number.result ≡ scan_number c.args.scan.now = c.number-number.ensures ∙ ap scan_number c.in_ok-read.ensures.bytes in
    let above : not_above c.args.last c.args.scan.now ≡ false = search rules in
    sym (verdict_buffer_short c.args.last c.args.scan.now c.args.size right.long right.right above c.if-size-lt-PRODUCT_SIZE.true)

pub returns-clause-verdict : goal.returns-clause-verdict
returns-clause-verdict c =
    let right : RightRecord c.args.scan.now = subst RightRecord c.in_ok-read.ensures.bytes c.in_ok-read.read.right in
    let number : c.number-number.result ≡ scan_number c.args.scan.now = c.number-number.ensures ∙ ap scan_number c.in_ok-read.ensures.bytes in
    let above : not_above c.args.last c.args.scan.now ≡ false = search rules in
    sym (verdict_passes c.args.last c.args.scan.now c.args.size right.long right.right above c.if-size-lt-PRODUCT_SIZE.false)
