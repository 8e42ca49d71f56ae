-- Scan by scan, about lists: every run of calls, each with the state that the call before left, is a run of demand 3. A state is its bytes, so
-- it does not matter where they were copied or saved between two calls, what stands behind them, or what was done with other states.
use Rattle.std.specs.Prelude.{ℕ, ◌≤◌, ◌≡◌, List, [], ◌∷◌, ◌++◌, map, true, length, take, drop}
use Rattle.table.specs.declared.Table.{Table}
use Rattle.table.specs.Settings.{Settings, settings_of}
use Rattle.table.specs.Opening.{ages, AcceptedTable}
use Rattle.bias.specs.declared.Bias.{Bias}
use Rattle.bias.specs.Opening.{AcceptedBias}
use Rattle.calibrator.specs.declared.Calibrator.{Calibrator}
use Rattle.calibrator.specs.Refusals.{reply_number}
use Rattle.calibrator.specs.Feeding.{Feed, fresh_of, calibrator_after, outcome_after, OfBytes, AllOfBytes}
use Rattle.promise.specs.Promise.{Promise}
use Rattle.state.specs.State.{state_size, calibrator_in, is_state}
use Rattle.promise.specs.CountBehind.{answer_of}
use Rattle.live.specs.Calls.{Left, fresh_verdict, fresh_by, fed_state, found_in}

-- a call is lent a record and a buffer and, with the state, the bytes behind it
pub record Call : Type 0 where
  pub feed : Feed
  pub behind : List ℕ

abbrev pub feeds_of_calls : List Call → List Feed
feeds_of_calls calls = map (λ (call : Call). call.feed) calls

abbrev pub left_at : List ℕ → Call → Left
left_at state call = fed_state (state ++ call.behind) call.feed

-- the state after these calls
unfoldable pub state_after : List ℕ → List Call → List ℕ
state_after state [] = state
state_after state (call ∷ more) = state_after (take state_size (left_at state call).state) more

-- the state that a fresh calibrator leaves in a caller's memory
abbrev pub first_state : Table → Bias → List ℕ → List ℕ
first_state table bias memory = take state_size (fresh_by (fresh_verdict table.bytes bias.bytes memory) table.bytes bias.bytes memory)

-- ---- what is claimed of any call after these calls
pub record CallClaim (fresh : Calibrator) (first : List ℕ) (calls : List Call) (call : Call) : Type 0 where
  -- what was written is read back as the run's calibrator
  pub state : is_state (state_after first calls ++ call.behind) ≡ true
  pub calibrator : calibrator_in (state_after first calls ++ call.behind) ≡ calibrator_after fresh (feeds_of_calls calls)
  -- answer and buffer are the run's outcome
  pub answer : (left_at (state_after first calls) call).answer ≡ reply_number (outcome_after fresh (feeds_of_calls calls) call.feed).reply
  pub buffer : (left_at (state_after first calls) call).buffer ≡ (outcome_after fresh (feeds_of_calls calls) call.feed).buffer
  -- the bytes behind the state are as they were
  pub behind : drop state_size (left_at (state_after first calls) call).state ≡ call.behind

pub record RunPromise (fresh : Calibrator) (s : Settings) (bias first : List ℕ) (calls others : List Call) : Type 0 where
  pub each : (call : Call) → OfBytes call.feed → CallClaim fresh first calls call
  pub promise : Promise fresh s bias (feeds_of_calls calls) (feeds_of_calls others)
  -- and the count behind a temperature is that of the run's calibrator, whatever bytes come behind the state
  pub counts : (behind : List ℕ) (channel wanted : ℕ) → found_in (state_after first calls ++ behind) channel wanted ≡ answer_of (calibrator_after fresh (feeds_of_calls calls)) channel wanted

-- for every accepted table, every accepted bias file, every memory that a state has room in, every list of calls and every second list
abbrev pub DemandThreeByStates : Type 0
DemandThreeByStates =
    (table : Table) → AcceptedTable table.bytes → (bias : Bias) → AcceptedBias bias.bytes → (memory : List ℕ) → state_size ≤ length memory
    → (calls others : List Call) → AllOfBytes (feeds_of_calls calls)
    → RunPromise (fresh_of table bias) (settings_of ages table.bytes) bias.bytes (first_state table bias memory) calls others
