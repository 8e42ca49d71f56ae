-- What a station calls scan by scan: what each call answers, and what it leaves in the state and in the buffer. A refusal writes nothing, and a
-- longer state keeps the bytes behind it.
use Rattle.std.specs.Prelude.{ℕ, ◌≡◌, List, [], ◌∷◌, Bool, true, false, ltb, length}
use Rattle.lists.specs.Tests.{Verdict, passes, fails, ◌when◌, first_that_applies, and_then}
use Rattle.bias.specs.Opening.{both_opening}
use Rattle.calibrator.specs.declared.Calibrator.{Calibrator}
use Rattle.calibrator.specs.Refusals.{Reply, delivered, refused, reply_number}
use Rattle.calibrator.specs.Feeding.{Feed, Stepped, fresh_of, step}
use Rattle.lookup.specs.Lookup.{Found, found_count, no_count, refused_with, count_behind}
use Rattle.state.specs.State.{state_size, saved, calibrator_in, is_state}

-- no state, or none has room
abbrev pub no_state : ℕ
no_state = 254

-- ---- a fresh state: the table's refusal, then the bias file's, then 254 where the state is too short
abbrev pub room_for : List ℕ → Verdict
room_for state = first_that_applies ((no_state when ltb (length state) state_size) ∷ [])

abbrev pub fresh_verdict : (table bias state : List ℕ) → Verdict
fresh_verdict table bias state = and_then (both_opening table bias) (room_for state)

abbrev pub fresh_by : Verdict → (table bias state : List ℕ) → List ℕ
fresh_by passes table bias state = saved state (fresh_of (record { bytes = table }) (record { bytes = bias }))
fresh_by (fails n) table bias state = state

-- ---- feeding a scan: 254 where the bytes are no state, then as document 01 says
pub record Left : Type 0 where
  pub answer : ℕ
  pub state : List ℕ
  pub buffer : List ℕ

abbrev pub state_by : Reply → List ℕ → Calibrator → List ℕ
state_by (delivered n) state c = saved state c
state_by (refused n) state c = state

abbrev pub left_by : List ℕ → Stepped → Left
left_by state stepped = record {
  answer = reply_number stepped.outcome.reply;
  state = state_by stepped.outcome.reply state stepped.calibrator;
  buffer = stepped.outcome.buffer;
}

abbrev pub left_if : Bool → List ℕ → Feed → Left
left_if true state feed = left_by state (step (calibrator_in state) feed)
left_if false state feed = record { answer = no_state; state = state; buffer = feed.buffer }

unfoldable pub fed_state : List ℕ → Feed → Left
fed_state state feed = left_if (is_state state) state feed

-- a call leaves this: the answer, the state and the buffer
pub record CallLeaves (left : Left) (answer : ℕ) (state buffer : List ℕ) : Type 0 where
  pub answer_is : answer ≡ left.answer
  pub state_is : state ≡ left.state
  pub buffer_is : buffer ≡ left.buffer

-- ---- the count behind a temperature (request W5): 254 where the bytes are no state, then as the calibrator answers
abbrev pub found_when : Bool → List ℕ → (channel wanted : ℕ) → Found
found_when true state channel wanted = count_behind (calibrator_in state).last channel wanted
found_when false state channel wanted = refused_with no_state

unfoldable pub found_in : List ℕ → (channel wanted : ℕ) → Found
found_in state channel wanted = found_when (is_state state) state channel wanted

-- 0 for a count, 253 where no count fits, or the number of the refusal
abbrev pub found_number : Found → ℕ
found_number (found_count n) = 0
found_number no_count = 253
found_number (refused_with n) = n

-- the count, or what stood there before where there is none
abbrev pub count_or : Found → ℕ → ℕ
count_or (found_count n) before = n
count_or no_count before = before
count_or (refused_with n) before = before
