-- Fields that are put into a buffer: a head and the value behind it are the field, and the fields of a state, put one after the other, are it.
use Prim.Native.Nat.{ℕ, ◌+◌, ◌≤◌}
use native.Mathlib.Omega.{arith}
use mathlib.Core.Path.{◌≡◌, refl, ap, ◌∙◌}
use mathlib.Core.List.{List, [], ◌++◌, append_assoc, append-nil}
use lib.ListN.{length, length-append}
use Rattle.lists.specs.Build.{put}
use Rattle.lists.proofs.Put.{put_after_put}
use Rattle.fields.specs.declared.Field.{Field}
use Rattle.fields.specs.Fields.{head_size, field_bytes, field_at}
use Rattle.fields.proofs.LayoutLaws.{field_start}
use Rattle.fields.proofs.FieldBytes.{head_bytes_lem}
use Rattle.table.specs.Opening.{table_size}
use Rattle.bias.specs.Bias.{bias_size}
use Rattle.window.specs.declared.Window.{Window}
use Rattle.lastscan.specs.Numbers.{numbers_of}
use Rattle.calibrator.specs.declared.Calibrator.{Calibrator}
use Rattle.state.specs.State.{saved, state_layout, state_size, front_bytes, last_bytes, number_bytes, state_of}
use Rattle.state.specs.Steps.{window_start, window_end, window_bytes}
use Rattle.state.proofs.NumberLaws.{length_number_bytes, length_last_bytes}
use Rattle.state.proofs.WindowLaws.{Shaped}

-- a value right behind its head
pub value_put : (out value : List ℕ) (at : ℕ) (f : Field) → at + head_size + length value ≤ length out → {headed all : List ℕ} → headed ≡ put out at (head_bytes_lem f)
    → all ≡ put headed (at + head_size) value → all ≡ put out at (field_bytes f value)
value_put out value at f fits head is =
    is
    ∙ ap (λ (l : List ℕ). put l (at + head_size) value) head
    ∙ put_after_put out (head_bytes_lem f) value at (at + head_size) refl (omega arith)

-- ---- one after the other

-- a part put right behind one that was put
put_behind_put : (out first second : List ℕ) (start at : ℕ) {a b : List ℕ} → start + length first ≡ at → at ≤ length out
    → a ≡ put out start first → b ≡ put a at second → b ≡ put out start (first ++ second)
put_behind_put out first second start at next fits before is =
    is
    ∙ ap (λ (l : List ℕ). put l at second) before
    ∙ put_after_put out first second start at next fits

-- ---- the window's fields

module _ (w : Window) where
  abbrev last_field : List ℕ
  last_field = field_bytes (field_at state_layout 2) (last_bytes w.last)

  abbrev warm_field : List ℕ
  warm_field = field_bytes (field_at state_layout 3) (number_bytes w.warm)

  abbrev cold_field : List ℕ
  cold_field = field_bytes (field_at state_layout 4) (number_bytes w.cold)

  abbrev kelvin_field : List ℕ
  kelvin_field = field_bytes (field_at state_layout 5) (number_bytes w.kelvin)

  module _ (shaped : Shaped w) where
    last_ends : window_start + length last_field ≡ field_start state_layout 3
    last_ends = omega (arith, length_last_bytes w.last)

    warm_ends : window_start + length (last_field ++ warm_field) ≡ field_start state_layout 4
    warm_ends = omega (arith, length-append last_field warm_field, last_ends, length_number_bytes w.warm, shaped.warm)

    cold_ends : window_start + length (last_field ++ warm_field ++ cold_field) ≡ field_start state_layout 5
    cold_ends = omega (arith, length-append (last_field ++ warm_field) cold_field, warm_ends, length_number_bytes w.cold, shaped.cold)

    pub window_ends : window_start + length (window_bytes w) ≡ window_end
    unfolding window_bytes
    window_ends = omega (arith, length-append (last_field ++ warm_field ++ cold_field) kelvin_field, cold_ends, length_number_bytes w.kelvin, shaped.kelvin)

    pub window_put : (out : List ℕ) → state_size ≤ length out → {a b c d : List ℕ} → a ≡ put out window_start last_field → b ≡ put a (field_start state_layout 3) warm_field
        → c ≡ put b (field_start state_layout 4) cold_field → d ≡ put c (field_start state_layout 5) kelvin_field → d ≡ put out window_start (window_bytes w)
    unfolding window_bytes
    window_put out room {b = b} {c = c} last warm cold kelvin =
        let second : b ≡ put out window_start (last_field ++ warm_field) = put_behind_put out last_field warm_field window_start (field_start state_layout 3) last_ends (omega arith) last warm in
        let third : c ≡ put out window_start (last_field ++ warm_field ++ cold_field) = put_behind_put out (last_field ++ warm_field) cold_field window_start _ warm_ends (omega arith) second cold in
        put_behind_put out (last_field ++ warm_field ++ cold_field) kelvin_field window_start _ cold_ends (omega arith) third kelvin

-- ---- a whole state

in_a_row : (f t l w c k b n : List ℕ) → f ++ t ++ (l ++ w ++ c ++ k) ++ b ++ n ≡ f ++ (t ++ (l ++ (w ++ (c ++ (k ++ (b ++ (n ++ [])))))))
in_a_row f t l w c k b n = simp (append_assoc, append-nil)

module _ (c : Calibrator) (table-long : length c.table.bytes ≡ table_size) (window-long : window_start + length (window_bytes c.window) ≡ window_end) (bias-long : length c.bias.bytes ≡ bias_size) where
  abbrev front_field : List ℕ
  front_field = field_bytes (field_at state_layout 0) front_bytes

  abbrev table_field : List ℕ
  table_field = field_bytes (field_at state_layout 1) c.table.bytes

  abbrev bias_field : List ℕ
  bias_field = field_bytes (field_at state_layout 6) c.bias.bytes

  abbrev kept_field : List ℕ
  kept_field = field_bytes (field_at state_layout 7) (number_bytes (numbers_of c.last))

  fields_are_state : front_field ++ table_field ++ window_bytes c.window ++ bias_field ++ kept_field ≡ state_of c
  unfolding window_bytes state_of
  fields_are_state =
      let w = c.window in
      in_a_row front_field table_field (last_field w) (warm_field w) (cold_field w) (kelvin_field w) bias_field kept_field

  table_ends : length (front_field ++ table_field) ≡ window_start
  table_ends = omega (arith, table-long)

  kelvin_ends : length (front_field ++ table_field ++ window_bytes c.window) ≡ field_start state_layout 6
  kelvin_ends = omega (arith, length-append (front_field ++ table_field) (window_bytes c.window), table_ends, window-long)

  bias_ends : length (front_field ++ table_field ++ window_bytes c.window ++ bias_field) ≡ field_start state_layout 7
  bias_ends = omega (arith, length-append (front_field ++ table_field ++ window_bytes c.window) bias_field, kelvin_ends, bias-long)

  pub state_put : (out : List ℕ) → state_size ≤ length out → {a b d e f : List ℕ} → a ≡ put out 0 front_field → b ≡ put a (field_start state_layout 1) table_field
      → d ≡ put b window_start (window_bytes c.window) → e ≡ put d (field_start state_layout 6) bias_field → f ≡ put e (field_start state_layout 7) kept_field → f ≡ saved out c
  state_put out room {b = b} {d = d} {e = e} front table window bias kept =
      let second : b ≡ put out 0 (front_field ++ table_field) = put_behind_put out front_field table_field 0 (field_start state_layout 1) refl (omega arith) front table in
      let third : d ≡ put out 0 (front_field ++ table_field ++ window_bytes c.window) =
      put_behind_put out (front_field ++ table_field) (window_bytes c.window) 0 window_start (omega (arith, table_ends)) (omega arith) second window in
      let fourth : e ≡ put out 0 (front_field ++ table_field ++ window_bytes c.window ++ bias_field) =
      put_behind_put out (front_field ++ table_field ++ window_bytes c.window) bias_field 0 (field_start state_layout 6) (omega (arith, kelvin_ends)) (omega arith) third bias in
      put_behind_put out (front_field ++ table_field ++ window_bytes c.window ++ bias_field) kept_field 0 (field_start state_layout 7) (omega (arith, bias_ends)) (omega arith) fourth kept
      ∙ ap (put out 0) fields_are_state
