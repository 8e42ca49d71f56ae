-- `save` meets its contract: the fields of a state, each put right behind the one before.
use Rattle.std.proofs.Common.{List, ℕ, ap, ◌∙◌, arith}
use Rattle.lists.specs.Build.{put}
use Rattle.fields.specs.Fields.{field_at, field_bytes}
use Rattle.fields.proofs.LayoutLaws.{field_start}
use Rattle.table.proofs.OpeningLaws.{accepted_length}
use Rattle.bias.proofs.OpeningLaws.{accepted_bias_length}
use Rattle.calibrator.specs.Steps.{calibrator_with}
use Rattle.state.specs.State.{state_layout, number_bytes}
use Rattle.state.proofs.PutLaws.{state_put}
use Rattle.state.proofs.save.Goals as goal

-- the field k with this value
abbrev field_of : ℕ → List ℕ → List ℕ
field_of k value = field_bytes (field_at state_layout k) value

pub put_field-requires-2 : goal.put_field-requires-2
put_field-requires-2 c =
    let long = accepted_length c.args.parts.now.accepted_table in
    (long, omega (arith, long, c.requires, c.put_field.auto.out))

pub put_field-requires-3 : goal.put_field-requires-3
put_field-requires-3 c =
    let long = accepted_bias_length c.args.parts.now.accepted_bias in
    (long, omega (arith, long, c.requires, c.put_field.auto.out, c.put_field-2.auto.out, c.put_window.auto.out))

pub returns : goal.returns
returns c =
    let p = c.args.parts.now in
    state_put (calibrator_with p.table.now p.bias.now p.window.now p.last.now)
    (accepted_length p.accepted_table)
    c.put_window.ensures.long
    (accepted_bias_length p.accepted_bias)
    c.args.state.now c.requires
    (c.put_field.ensures ∙ ap (λ (l : List ℕ). put c.args.state.now 0 (field_of 0 l)) c.front_bytes.ensures)
    c.put_field-2.ensures
    c.put_window.ensures.fields
    c.put_field-3.ensures
    (c.put_number_field.ensures ∙ ap (λ (l : List ℕ). put c.put_field-3.new.out (field_start state_layout 7) (field_of 7 (number_bytes l))) c.numbers_of.ensures)
