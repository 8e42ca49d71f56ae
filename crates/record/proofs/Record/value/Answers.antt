-- `value` meets its contract: field k of the layout begins at `at`, and its tag and length are right in a record.
use Rattle.std.proofs.Common.{arith, ◌≡◌, ap, ◌∙◌}
use Rattle.fields.specs.Fields.{field_at, field_value}
use Rattle.fields.proofs.LayoutLaws.{field_start, value_of_layout}
use Rattle.record.specs.Record.{record_layout}
use Rattle.record.proofs.Record.value.Goals as goal

pub returns : goal.returns
returns c =
    let record_bytes = c.args.self.bytes.now in
    let begins : c.args.at ≡ field_start record_layout c.args.k = omega arith in
    c.value_at.ensures
    ∙ ap (λ at. field_value record_bytes at (field_at record_layout c.args.k)) begins
    ∙ value_of_layout record_bytes record_layout c.args.k c.requires.0 c.args.self.right.right
