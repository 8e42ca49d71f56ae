-- The layout that the code lends to the reader of fields is that of a state, here in numbers.
use mathlib.Core.Path.{◌≡◌, refl}
use mathlib.Core.List.{[], ◌∷◌}
use Rattle.fields.specs.Fields.{field}
use Rattle.state.specs.declared.TheConstants.{LAYOUT}
use Rattle.state.specs.State.{state_layout}

pub lent_layout
    : (LAYOUT ≡ state_layout)
    × (state_layout ≡ field 0x30 8 ∷ field 0x31 1404 ∷ field 0x32 5 ∷ field 0x33 704 ∷ field 0x34 704 ∷ field 0x35 480 ∷ field 0x36 8451 ∷ field 0x37 796 ∷ [])
lent_layout = (refl, refl)
