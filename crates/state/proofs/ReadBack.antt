-- What is written is read back as the same calibrator, whatever bytes come behind.
use Prim.Native.Nat.{ℕ, ◌+◌, ◌*◌, ◌<◌, ◌≤◌}
use native.Mathlib.Nat.{add-zero}
use native.Mathlib.Omega.{arith}
use mathlib.Core.Path.{◌≡◌, refl, ap, ◌∙◌}
use mathlib.Core.List.{List, [], ◌++◌}
use mathlib.Core.Bool.{true}
use lib.Dec.{lit<}
use lib.ListN.{length, get_or, length-append}
use Rattle.std.specs.Prelude.{is_some}
use borrow.Author.Tests.{le-leb, eq-eqb}
use Rattle.std.specs.Prelude.{is_some}
use Rattle.lists.proofs.Stands.{StandsAt, part_that_stands, stands_inside, stands_at_front, stands_behind, stands_itself}
use Rattle.fields.specs.Numbers.{u32_bytes}
use Rattle.fields.specs.Fields.{layout_is_right, field_at, value_in, laid_out}
use Rattle.fields.proofs.LayoutLaws.{field_inside}
use Rattle.fields.proofs.FieldBytes.{u32_that_stands, Sized, laid_out_before, length_laid_out, value_stands, laid_out_is_right}
use Rattle.table.proofs.OpeningLaws.{accepted_length}
use Rattle.bias.proofs.OpeningLaws.{accepted_bias_length}
use Rattle.lastscan.specs.Numbers.{last_numbers, numbers_of}
use Rattle.lastscan.proofs.NumberLaws.{length_numbers, last_read_back, last_is_inside}
use Rattle.calibrator.specs.declared.Calibrator.{Calibrator}
use Rattle.calibrator.specs.Feeding.{Sound}
use Rattle.state.specs.State.{magic, version, counts_kept, kelvins_kept, state_layout, state_size, front_bytes, number_bytes, values_of, state_of, at, table_in, bias_in, window_in, last_numbers_in, calibrator_in, front_is_right, is_state}
use Rattle.state.proofs.NumberLaws.{length_number_bytes, numbers_read_back, length_last_bytes, LastRead, last_is_read}
use Rattle.state.proofs.InsideLaws.{ReachedOnly, window_is_inside}
use Rattle.state.proofs.WindowLaws.{Shaped}

-- what a calibrator keeps to that can be written
pub record Savable (c : Calibrator) : Type 0 where
  pub sound : Sound c
  pub shaped : Shaped c.window
  pub only : ReachedOnly c.window
  -- a scan is kept only where one was accepted
  pub accepted : is_some c.last ≡ true → is_some c.window.last ≡ true

bytes_sized : (numbers : List ℕ) {n : ℕ} → length numbers ≡ n → length (number_bytes numbers) ≡ 4 * n
bytes_sized numbers long = length_number_bytes numbers ∙ ap (λ (n : ℕ). 4 * n) long

module _ {c : Calibrator} (savable : Savable c) where
  sized : Sized state_layout (values_of c)
  sized = (refl, (accepted_length savable.sound.table, (length_last_bytes c.window.last, (bytes_sized c.window.warm savable.shaped.warm, (bytes_sized c.window.cold savable.shaped.cold, (bytes_sized c.window.kelvin savable.shaped.kelvin, (accepted_bias_length savable.sound.bias, (bytes_sized (numbers_of c.last) (length_numbers c.last), tt))))))))

  pub length_state : length (state_of c) ≡ state_size
  unfolding state_of
  length_state = length_laid_out state_layout (values_of c) [] sized ∙ add-zero state_size

  module _ (behind : List ℕ) where
    abbrev state : List ℕ
    state = state_of c ++ behind

    state_is_laid_out : state ≡ laid_out state_layout (values_of c) behind
    unfolding state_of
    state_is_laid_out = laid_out_before state_layout (values_of c) behind

    state_reaches : state_size ≤ length state
    state_reaches = omega (arith, length-append (state_of c) behind, length_state)

    stands : (k : ℕ) → k < 8 → StandsAt state (at k) (get_or (values_of c) k [])
    stands k below = rw state_is_laid_out (value_stands state_layout (values_of c) behind sized k below)

    value_read_back : (k : ℕ) → k < 8 → length (get_or (values_of c) k []) ≡ (field_at state_layout k).size → value_in state_layout k state ≡ get_or (values_of c) k []
    value_read_back k below long = part_that_stands state _ (at k) _ 0 long (omega (arith, state_reaches, field_inside state_layout k below)) (stands k below)

    pub table_read_back : table_in state ≡ c.table.bytes
    table_read_back = value_read_back 1 (lit< tt) (accepted_length savable.sound.table)

    pub bias_read_back : bias_in state ≡ c.bias.bytes
    bias_read_back = value_read_back 6 (lit< tt) (accepted_bias_length savable.sound.bias)

    last_read : LastRead state c.window.last
    last_read = last_is_read state c.window.last (stands 2 (lit< tt))

    pub window_read_back : window_in state ≡ c.window
    unfolding window_in
    window_read_back =
        rw (
          last_read.last,
          numbers_read_back c.window.warm state (at 3) counts_kept savable.shaped.warm (stands 3 (lit< tt)),
          numbers_read_back c.window.cold state (at 4) counts_kept savable.shaped.cold (stands 4 (lit< tt)),
          numbers_read_back c.window.kelvin state (at 5) kelvins_kept savable.shaped.kelvin (stands 5 (lit< tt)),
        )

    numbers_are_read_back : last_numbers_in state ≡ numbers_of c.last
    numbers_are_read_back = numbers_read_back (numbers_of c.last) state (at 7) last_numbers (length_numbers c.last) (stands 7 (lit< tt))

    pub read_back : calibrator_in state ≡ c
    read_back = rw (table_read_back, bias_read_back, window_read_back, numbers_are_read_back, last_read_back c.last savable.sound.last)

    front_is_right_lem : front_is_right state ≡ true
    unfolding front_is_right
    front_is_right_lem =
        let front = stands 0 (lit< tt) in
        let laid : layout_is_right state 0 state_layout ≡ true = rw state_is_laid_out (laid_out_is_right state_layout (values_of c) behind sized) in
        let magic-stands = stands_inside state front_bytes (u32_bytes magic) (at 0) 0 (omega arith) front (stands_at_front (u32_bytes magic) (u32_bytes version)) in
        let version-stands =
        stands_inside state front_bytes (u32_bytes version) (at 0) 4 (omega arith) front
        (stands_behind (u32_bytes magic) (u32_bytes version) (u32_bytes version) 4 0 refl (stands_itself (u32_bytes version))) in
        rw (laid, eq-eqb _ magic (u32_that_stands state (at 0) magic magic-stands), eq-eqb _ version (u32_that_stands state (at 0 + 4) version version-stands), last_read.byte)

    pub is_state_lem : is_state state ≡ true
    unfolding is_state
    is_state_lem =
        rw (
          le-leb state_size (length state) state_reaches,
          front_is_right_lem,
          table_read_back,
          savable.sound.table.accepted,
          bias_read_back,
          savable.sound.bias.accepted,
          last_read.right,
          window_read_back,
          window_is_inside savable.sound.window savable.only,
          numbers_are_read_back,
          last_is_inside c.last savable.sound.last (is_some c.window.last) savable.accepted,
        )
