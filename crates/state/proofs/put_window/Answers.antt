-- `put_window` meets its contract: the window's fields, each put right behind the one before.
use Rattle.std.proofs.Common.{List, ℕ, ap, ◌∙◌, rules}
use Rattle.lists.specs.Build.{put}
use Rattle.fields.specs.Fields.{field_at, field_bytes}
use Rattle.state.specs.State.{state_layout}
use Rattle.state.specs.Steps.{window_start}
use Rattle.state.proofs.PutLaws.{window_put, window_ends}
use Rattle.state.proofs.WindowLaws.{Shaped}
use Rattle.state.proofs.put_window.Goals as goal

pub returns : goal.returns
returns c =
    let window = c.args.window.now in
    let shaped : Shaped window = record { warm = search rules; cold = search rules; kelvin = search rules } in
    record {
      fields =
          window_put window shaped c.args.out.now c.requires
          (c.put_field.ensures ∙ ap (λ (l : List ℕ). put c.args.out.now window_start (field_bytes (field_at state_layout 2) l)) c.last_bytes.ensures)
          c.put_number_field.ensures c.put_number_field-2.ensures c.put_number_field-3.ensures;
      long = window_ends window shaped;
    }
