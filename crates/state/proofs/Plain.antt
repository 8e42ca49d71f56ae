-- Bytes with another magic number, another version, neither 0 nor 1 for whether a scan was accepted, or 0 and another number behind it are no
-- state, whatever else they hold; numbers are written out.
use Prim.Native.Nat.{ℕ, ◌+◌, ◌-◌, ◌≤◌, ◌<◌}
use native.Mathlib.Omega.{arith}
use mathlib.Core.Path.{◌≡◌, sym, ap, ◌∙◌}
use mathlib.Core.List.{List}
use mathlib.Core.Bool.{false}
use lib.Dec.{eqb}
use lib.ListN.{length, get_or}
use borrow.Author.Tests.{ne_eqb, lt-leb}
use Rattle.lists.specs.Build.{put}
use Rattle.lists.proofs.Put.{get_d_in_put}
use Rattle.fields.specs.Numbers.{u32_at, u32_bytes}
use Rattle.fields.specs.Fields.{layout_is_right}
use Rattle.fields.proofs.FieldBytes.{u32_that_stands}
use Rattle.state.specs.State.{state_layout, front_is_right, is_state}
use Rattle.state.proofs.StateLaws.{and_fails, no_state_by, wrong_front_is_no_state}

module _ (bytes : List ℕ) where
  -- `SNDR` in ASCII stands at place 3
  pub other_magic_is_no_state : (u32_at bytes 3 ≡ 0x534E4452 → ⊥) → is_state bytes ≡ false
  unfolding front_is_right
  other_magic_is_no_state other =
      wrong_front_is_no_state bytes (and_fails (layout_is_right bytes 0 state_layout) (rw (ne_eqb (u32_at bytes 3) 0x534E4452 other)))

  -- the version, at place 7, is 6
  pub other_version_is_no_state : (u32_at bytes 7 ≡ 6 → ⊥) → is_state bytes ≡ false
  unfolding front_is_right
  other_version_is_no_state other =
      wrong_front_is_no_state bytes
      (and_fails (layout_is_right bytes 0 state_layout) (and_fails (eqb (u32_at bytes 3) 0x534E4452) (rw (ne_eqb (u32_at bytes 7) 6 other))))

  -- whether a scan was accepted, at place 1,421, is 0 or 1
  pub other_byte_is_no_state : 1 < get_or bytes 1421 0 → is_state bytes ≡ false
  unfolding front_is_right
  other_byte_is_no_state above =
      wrong_front_is_no_state bytes
      (and_fails (layout_is_right bytes 0 state_layout) (and_fails (eqb (u32_at bytes 3) 0x534E4452) (and_fails (eqb (u32_at bytes 7) 6) (rw (lt-leb (get_or bytes 1421 0) 1 above)))))

  -- and where it is 0, the number of the last, at place 1,422, is 0 too
  pub number_of_none_is_no_state : get_or bytes 1421 0 ≡ 0 → (u32_at bytes 1422 ≡ 0 → ⊥) → is_state bytes ≡ false
  number_of_none_is_no_state none some = no_state_by bytes 3 (rw (none, ne_eqb (u32_at bytes 1422) 0 some))

-- a number that is written in four bytes is read there
written_is_read : (bytes : List ℕ) (at n : ℕ) → at ≤ length bytes → u32_at (put bytes at (u32_bytes n)) at ≡ n
written_is_read bytes at n inside =
    u32_that_stands (put bytes at (u32_bytes n)) at n
    (record {
      each = λ i d below.
          let behind : at + i - at ≡ i = omega arith in
          get_d_in_put bytes (u32_bytes n) at (at + i) d (omega arith) (omega arith) inside ∙ ap (λ (k : ℕ). get_or (u32_bytes n) k d) behind;
    })

-- so a state in which another version is written is none
pub state_of_another_version_is_none : (state : List ℕ) → 12576 ≤ length state → (n : ℕ) → (n ≡ 6 → ⊥) → is_state (put state 7 (u32_bytes n)) ≡ false
state_of_another_version_is_none state long n other =
    other_version_is_no_state (put state 7 (u32_bytes n)) (λ same. other (sym (written_is_read state 7 n (omega arith)) ∙ same))
