-- `step` meets its contract: no bytes are no record, and the bytes of a record's step are handed over.
use Rattle.std.proofs.Common.{true, ap, ap₂, ◌∙◌, arith}
use Rattle.calibrator.specs.declared.Calibrator.{Calibrator}
use Rattle.programs.specs.declared.Next.{Next}
use Rattle.lines.specs.declared.Made.{Made}
use Rattle.programs.specs.Steps.{made_of}
use Rattle.programs.proofs.StepLaws.{together_of_record, turn_with_nothing, turn_with_bytes}
use Rattle.programs.proofs.step.Goals as goal

pub returns-then-is_empty : goal.returns-then-is_empty
returns-then-is_empty c =
    let a = c.args in
    record { complete = true; turned_is = turn_with_nothing a.calibrator a.next true a.scan.now (grind arith) }

pub hand_over-complete-requires : goal.hand_over-complete-requires
hand_over-complete-requires c =
    let made = c.write_record-made.ensures in
    together_of_record c.args.calibrator c.args.scan.now _ c.keeps_ranges.ensures (grind arith) (omega arith) made.made made.product

pub returns : goal.returns
unfolding made_of
returns c =
    let complete = c.hand_over-complete.result in
    let handed_back = ap (λ (m : Made). m.calibrator) c.write_record-made.ensures.made in
    let a = c.args in
    record {
      complete = complete;
      turned_is =
          ap₂ (λ (next : Next) (after : Calibrator). record { next = next; calibrator = after }) c.next_after.ensures handed_back
          ∙ turn_with_bytes a.calibrator a.next complete a.scan.now (grind arith);
    }
