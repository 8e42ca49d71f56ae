-- What the private functions write on the way. A reader of the promises can leave this out.
use Rattle.std.specs.Prelude.{ℕ, List, ◌++◌, take, Bool, ◌&&◌, is_some}
use Rattle.fields.specs.Fields.{layout_size, field_at, field_bytes}
use Rattle.window.specs.declared.Window.{Window}
use Rattle.lastscan.specs.Numbers.{last_inside}
use Rattle.state.specs.State.{state_layout, last_bytes, number_bytes, number_is_right, window_inside, window_in, last_numbers_in}

-- fields 0x32 to 0x35, and where they start and end
abbrev pub window_start : ℕ
window_start = layout_size (take 2 state_layout)

abbrev pub window_end : ℕ
window_end = layout_size (take 6 state_layout)

unfoldable pub window_bytes : Window → List ℕ
window_bytes w =
    field_bytes (field_at state_layout 2) (last_bytes w.last) ++ field_bytes (field_at state_layout 3) (number_bytes w.warm)
    ++ field_bytes (field_at state_layout 4) (number_bytes w.cold) ++ field_bytes (field_at state_layout 5) (number_bytes w.kelvin)

-- the tests of the last number, of the window's values and of the last scan's
unfoldable pub values_inside : List ℕ → Bool
values_inside state = number_is_right state && (window_inside (window_in state) && last_inside (is_some (window_in state).last) (last_numbers_in state))
