-- What a call answers and leaves: a fresh state that has room, a call of a state, and a call of bytes that are none.
use Prim.Native.Nat.{ℕ, ◌≤◌}
use mathlib.Core.Path.{◌≡◌, refl, sym, ap, subst, ◌∙◌}
use mathlib.Core.List.{List}
use mathlib.Core.Bool.{Bool, true, false}
use lib.ListN.{length}
use borrow.Author.Tests.{le-ltb}
use Rattle.lists.specs.Tests.{Verdict, passes, and_then}
use Rattle.bias.specs.Opening.{both_opening}
use Rattle.calibrator.specs.Feeding.{Feed, step, fresh_of}
use Rattle.lookup.specs.Lookup.{refused_with, count_behind}
use Rattle.state.specs.State.{saved, state_size, calibrator_in, is_state}
use Rattle.live.specs.Calls.{no_state, room_for, fresh_verdict, fresh_by, left_by, left_if, fed_state, CallLeaves, found_when, found_in}

-- ---- a fresh state

module _ (table bias state : List ℕ) (passed : both_opening table bias ≡ passes) (room : state_size ≤ length state) where
  pub fresh_passes : fresh_verdict table bias state ≡ passes
  fresh_passes = ap (λ (v : Verdict). and_then v (room_for state)) passed ∙ rw (le-ltb (length state) state_size room)

  pub fresh_saved : {left : List ℕ} → left ≡ saved state (fresh_of (record { bytes = table }) (record { bytes = bias })) → left ≡ fresh_by (fresh_verdict table bias state) table bias state
  fresh_saved is = is ∙ sym (ap (λ (v : Verdict). fresh_by v table bias state) fresh_passes)

-- ---- a call of a state, and of bytes that are none

module _ (state : List ℕ) where
  module _ (feed : Feed) where
    pub no_state_leaves : is_state state ≡ false → CallLeaves (fed_state state feed) no_state state feed.buffer
    unfolding fed_state
    no_state_leaves wrong =
        subst (λ (b : Bool). CallLeaves (left_if b state feed) no_state state feed.buffer) (sym wrong) (record { answer_is = refl; state_is = refl; buffer_is = refl })

    pub state_leaves : is_state state ≡ true → {n : ℕ} {left buffer : List ℕ} → CallLeaves (left_by state (step (calibrator_in state) feed)) n left buffer
        → CallLeaves (fed_state state feed) n left buffer
    unfolding fed_state
    state_leaves right {n} {left} {buffer} leaves = subst (λ (b : Bool). CallLeaves (left_if b state feed) n left buffer) (sym right) leaves

  module _ (channel wanted : ℕ) where
    pub no_state_found : is_state state ≡ false → found_in state channel wanted ≡ refused_with no_state
    unfolding found_in
    no_state_found wrong = ap (λ (b : Bool). found_when b state channel wanted) wrong

    pub state_found : is_state state ≡ true → found_in state channel wanted ≡ count_behind (calibrator_in state).last channel wanted
    unfolding found_in
    state_found right = ap (λ (b : Bool). found_when b state channel wanted) right
