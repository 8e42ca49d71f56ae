-- Scan by scan through states, in plain numbers: what demand 3 asks of such a run follows from plain facts alone, and what it claims is taken apart
-- into all of its parts, and so is what a call leaves. A further premise, or a claim that is dropped, breaks a law.
use Prim.Native.Nat.{ℕ, ◌<◌, ◌≤◌}
use mathlib.Core.Path.{◌≡◌, refl}
use mathlib.Core.List.{List, [], ◌∷◌, ◌++◌}
use mathlib.Core.Bool.{true}
use lib.ListN.{length, get_or, take, drop}
use Rattle.lists.specs.Tests.{passes}
use Rattle.table.specs.declared.Table.{Table}
use Rattle.table.specs.Settings.{Settings, settings_of}
use Rattle.table.specs.Opening.{opening}
use Rattle.bias.specs.declared.Bias.{Bias}
use Rattle.bias.specs.Opening.{bias_opening}
use Rattle.lookup.specs.Lookup.{found_count, no_count, refused_with, count_behind}
use Rattle.calibrator.specs.declared.Calibrator.{Calibrator}
use Rattle.calibrator.specs.Refusals.{reply_number}
use Rattle.calibrator.specs.Feeding.{fresh_of, step, calibrator_after, AllOfBytes}
use Rattle.calibrator.proofs.Plain.{no_feed_of_bytes, feeds_of_bytes}
use Rattle.promise.specs.Promise.{Promise}
use Rattle.promise.proofs.Plain.{accepted_by, accepted_bias_by}
use Rattle.state.specs.State.{calibrator_in, is_state}
use Rattle.live.specs.Calls.{no_state, Left, CallLeaves, fresh_verdict, fresh_by, fed_state, found_in, found_number}
use Rattle.live.specs.Runs.{Call, feeds_of_calls, state_after, first_state, CallClaim, RunPromise, DemandThreeByStates}

-- ---- what a call leaves: its answer, the state and the buffer

pub call_leaves_says : {left : Left} {answer : ℕ} {state buffer : List ℕ} → CallLeaves left answer state buffer
    → (answer ≡ left.answer) × (state ≡ left.state) × (buffer ≡ left.buffer)
call_leaves_says h = (h.answer_is, h.state_is, h.buffer_is)

-- ---- the numbers of answers that are no refusal of document 01

pub numbers_of_answers : (no_state ≡ 254) × (found_number no_count ≡ 253) × ((n : ℕ) → found_number (found_count n) ≡ 0) × ((n : ℕ) → found_number (refused_with n) ≡ n)
numbers_of_answers = (refl, refl, λ n. refl, λ n. refl)

-- ---- what is asked: every byte of every record that was fed is below 256

-- calls given one by one, the first in front
pub no_call_of_bytes : AllOfBytes (feeds_of_calls [])
no_call_of_bytes = no_feed_of_bytes

pub calls_of_bytes : (call : Call) (more : List Call) → ((k : ℕ) → get_or call.feed.scan k 0 < 256) → AllOfBytes (feeds_of_calls more) → AllOfBytes (feeds_of_calls (call ∷ more))
calls_of_bytes call more small rest = feeds_of_bytes call.feed (feeds_of_calls more) small rest

-- ---- the states: a fresh one, the 12,576 bytes in front of what `fresh` leaves; after no call; and after one call more, lent the bytes behind it

pub first_state_says : (table : Table) (bias : Bias) (memory : List ℕ)
    → first_state table bias memory ≡ take 12576 (fresh_by (fresh_verdict table.bytes bias.bytes memory) table.bytes bias.bytes memory)
first_state_says table bias memory = refl

pub state_after_none : (state : List ℕ) → state_after state [] ≡ state
unfolding state_after
state_after_none state = refl

pub state_after_one_more : (state : List ℕ) (calls : List Call) (call : Call)
    → state_after state (calls ++ (call ∷ [])) ≡ take 12576 (fed_state (state_after state calls ++ call.behind) call.feed).state
unfolding state_after
state_after_one_more state [] call = refl
state_after_one_more state (first ∷ more) call = state_after_one_more (take 12576 (fed_state (state ++ first.behind) first.feed).state) more call

-- ---- what is claimed

pub call_claim_says : {fresh : Calibrator} {first : List ℕ} {calls : List Call} {call : Call} → CallClaim fresh first calls call
    → (is_state (state_after first calls ++ call.behind) ≡ true)
    × (calibrator_in (state_after first calls ++ call.behind) ≡ calibrator_after fresh (feeds_of_calls calls))
    × ((fed_state (state_after first calls ++ call.behind) call.feed).answer ≡ reply_number (step (calibrator_after fresh (feeds_of_calls calls)) call.feed).outcome.reply)
    × ((fed_state (state_after first calls ++ call.behind) call.feed).buffer ≡ (step (calibrator_after fresh (feeds_of_calls calls)) call.feed).outcome.buffer)
    × (drop 12576 (fed_state (state_after first calls ++ call.behind) call.feed).state ≡ call.behind)
call_claim_says h = (h.state, h.calibrator, h.answer, h.buffer, h.behind)

pub run_promise_says : {fresh : Calibrator} {s : Settings} {bias first : List ℕ} {calls others : List Call} → RunPromise fresh s bias first calls others
    → ((call : Call) → ((k : ℕ) → get_or call.feed.scan k 0 < 256) → CallClaim fresh first calls call)
    × Promise fresh s bias (feeds_of_calls calls) (feeds_of_calls others)
    × ((behind : List ℕ) (channel wanted : ℕ) → found_in (state_after first calls ++ behind) channel wanted ≡ count_behind (calibrator_after fresh (feeds_of_calls calls)).last channel wanted)
run_promise_says h = (h.each, h.promise, h.counts)

-- ---- the whole: an accepted table, an accepted bias file, each byte of it below 256, a memory of 12,576 bytes or more, and two lists of calls,
-- the records of the first being of bytes, are all that it asks

pub by_states_says : DemandThreeByStates → (table : Table) → opening table.bytes ≡ passes → (bias : Bias) → bias_opening bias.bytes ≡ passes
    → ((k : ℕ) → get_or bias.bytes k 0 < 256) → (memory : List ℕ) → 12576 ≤ length memory
    → (calls others : List Call) → AllOfBytes (feeds_of_calls calls)
    → RunPromise (fresh_of table bias) (settings_of 8 table.bytes) bias.bytes (first_state table bias memory) calls others
by_states_says demand table accepted bias file small = demand table (accepted_by table.bytes accepted) bias (accepted_bias_by bias.bytes file small)
