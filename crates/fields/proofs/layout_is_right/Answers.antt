-- `layout_is_right` meets its contract: a wrong field ends it with no, and the end of the layout with yes.
use Rattle.std.proofs.Common.{arith}
use Rattle.std.proofs.lemmas.List.{at_drop_more, at_drop_all}
use Rattle.std.proofs.lemmas.Grind.{common_steps}
use Rattle.fields.specs.Fields.{layout_size, layout_is_right}
use Rattle.fields.proofs.LayoutLaws.{no_field}
use Rattle.fields.proofs.layout_is_right.Goals as goal

pub field_is_right-requires : goal.field_is_right-requires
field_is_right-requires c = omega (arith, at_drop_more layout_size c.args.layout.now c.loop-field.field-index no_field (omega arith))

pub returns-then-not-field_is_right : goal.returns-then-not-field_is_right
unfolding layout_is_right
returns-then-not-field_is_right c =
    let next = at_drop_more (layout_is_right c.args.bytes.now c.loop-field.at) c.args.layout.now c.loop-field.field-index no_field (omega arith) in
    grind (arith, common_steps)

pub loop-field-preserved : goal.loop-field-preserved
unfolding layout_is_right
loop-field-preserved c =
    let size = at_drop_more layout_size c.args.layout.now c.loop-field.field-index no_field (omega arith) in
    let next = at_drop_more (layout_is_right c.args.bytes.now c.loop-field.at) c.args.layout.now c.loop-field.field-index no_field (omega arith) in
    grind (arith, common_steps)

pub returns : goal.returns
unfolding layout_is_right
returns c =
    let last = at_drop_all (layout_is_right c.args.bytes.now c.loop-field.at) c.args.layout.now c.loop-field.field-index (omega arith) in
    grind (arith, common_steps)
