-- Every run of calls, each with the state that the call before left, is a run of demand 3: each state is that of the run's calibrator, since
-- every calibrator of a run can be written and is read back.
use Prim.Native.Nat.{ℕ, ◌<◌, ◌≤◌}
use native.Mathlib.Nat.{zero-add}
use mathlib.Core.Path.{◌≡◌, refl, sym, ap, subst, ◌∙◌}
use mathlib.Core.List.{List, [], ◌∷◌, ◌++◌}
use mathlib.Core.Bool.{Bool, false≢true}
use lib.ListN.{length, get_or, take, drop}
use lib.Seq.{take_at, drop_at}
use Rattle.lists.specs.All.{All}
use Rattle.lists.specs.Build.{put}
use Rattle.lists.specs.Tests.{Verdict, passes, fails}
use Rattle.table.specs.declared.Table.{Table}
use Rattle.table.specs.Opening.{AcceptedTable}
use Rattle.bias.specs.declared.Bias.{Bias}
use Rattle.bias.specs.Opening.{AcceptedBias}
use Rattle.bias.proofs.OpeningLaws.{both_pass}
use Rattle.record.specs.Record.{scan_number}
use Rattle.window.specs.Ages.{window_after}
use Rattle.lookup.specs.Lookup.{count_behind}
use Rattle.calibrator.specs.declared.Calibrator.{Calibrator}
use Rattle.calibrator.specs.Feeding.{Feed, settings, verdict_in, fresh_of, step_by, step, calibrator_after, Sound, OfBytes, AllOfBytes}
use Rattle.calibrator.proofs.Verdicts.{passes_facts}
use Rattle.calibrator.proofs.SoundLaws.{fresh_is_sound, sound_after_step}
use Rattle.promise.proofs.HistoryLaws.{kept_shape}
use Rattle.promise.proofs.Demand.{demand_three}
use Rattle.state.specs.State.{state_size, state_of, calibrator_in, is_state}
use Rattle.live.specs.Calls.{Left, fresh_by, state_by, left_by, left_if, fed_state, found_in}
use Rattle.live.specs.Runs.{Call, feeds_of_calls, left_at, state_after, first_state, CallClaim, DemandThreeByStates}
use Rattle.state.proofs.WindowLaws.{empty_is_shaped, empty_reached_only, next_is_shaped, next_reached_only}
use Rattle.live.proofs.CallLaws.{fresh_passes, state_found}
use Rattle.state.proofs.ReadBack.{Savable, length_state, is_state_lem, read_back}

-- ---- every calibrator of a run can be written

pub fresh_is_savable : (table : Table) → AcceptedTable table.bytes → (bias : Bias) → AcceptedBias bias.bytes → Savable (fresh_of table bias)
unfolding fresh_of
fresh_is_savable table accepted bias file = record {
  sound = fresh_is_sound accepted file;
  shaped = empty_is_shaped;
  only = empty_reached_only;
  accepted = λ kept. absurd (false≢true kept);
}

module _ {c : Calibrator} (savable : Savable c) (feed : Feed) (bytes : OfBytes feed) where
  savable_by : (v : Verdict) → verdict_in c feed ≡ v → Savable (step_by v c feed).calibrator
  unfolding step_by window_after
  savable_by (fails n) is = savable
  savable_by passes is =
      let number = scan_number feed.scan in
      let shape = kept_shape (settings c) feed.scan in
      let facts = passes_facts c.window.last feed.scan (length feed.buffer) is in
      record {
        sound = subst (λ (v : Verdict). Sound (step_by v c feed).calibrator) is (sound_after_step savable.sound feed bytes);
        shaped = next_is_shaped number savable.shaped shape;
        only = next_reached_only number savable.shaped shape facts.above savable.only;
        accepted = λ _. refl;
      }

  pub step_is_savable : Savable (step c feed).calibrator
  step_is_savable = savable_by (verdict_in c feed) refl

-- ---- what a call leaves, where it is lent the state of c

put_in_place : (v w behind : List ℕ) → length v ≡ length w → put (v ++ behind) 0 w ≡ w ++ behind
put_in_place v w behind long =
    ap (λ (n : ℕ). w ++ drop n (v ++ behind)) (zero-add (length w)) ∙ ap (λ (l : List ℕ). w ++ l) (drop_at v behind (length w) long)

module _ {c : Calibrator} (savable : Savable c) (behind : List ℕ) (feed : Feed) where
  pub fed_as_step : fed_state (state_of c ++ behind) feed ≡ left_by (state_of c ++ behind) (step c feed)
  unfolding fed_state
  fed_as_step =
      ap (λ (b : Bool). left_if b (state_of c ++ behind) feed) (is_state_lem savable behind)
      ∙ ap (λ (d : Calibrator). left_by (state_of c ++ behind) (step d feed)) (read_back savable behind)

  left_by_lem : (v : Verdict) → Savable (step_by v c feed).calibrator
      → state_by (step_by v c feed).outcome.reply (state_of c ++ behind) (step_by v c feed).calibrator ≡ state_of (step_by v c feed).calibrator ++ behind
  unfolding step_by
  left_by_lem (fails n) after = refl
  left_by_lem passes after = put_in_place (state_of c) (state_of _) behind (length_state savable ∙ sym (length_state after))

  module _ (bytes : (k : ℕ) → get_or feed.scan k 0 < 256) where
    state_left : (fed_state (state_of c ++ behind) feed).state ≡ state_of (step c feed).calibrator ++ behind
    state_left = ap (λ (l : Left). l.state) fed_as_step ∙ left_by_lem (verdict_in c feed) (step_is_savable savable feed bytes)

    pub next_state : take state_size (fed_state (state_of c ++ behind) feed).state ≡ state_of (step c feed).calibrator
    next_state =
        ap (take state_size) state_left
        ∙ take_at (state_of (step c feed).calibrator) behind state_size (length_state (step_is_savable savable feed bytes))

-- ---- the count behind a temperature, by the state of c

module _ {c : Calibrator} (savable : Savable c) (behind : List ℕ) (channel wanted : ℕ) where
  found_as_kept : found_in (state_of c ++ behind) channel wanted ≡ count_behind c.last channel wanted
  found_as_kept =
      state_found (state_of c ++ behind) channel wanted (is_state_lem savable behind)
      ∙ ap (λ (d : Calibrator). count_behind d.last channel wanted) (read_back savable behind)

-- ---- the state after a list of calls

pub record SavedAs (state : List ℕ) (c : Calibrator) : Type 0 where
  pub same : state ≡ state_of c
  pub savable : Savable c

pub saved_after : (calls : List Call) → AllOfBytes (feeds_of_calls calls) → {state : List ℕ} {c : Calibrator} → SavedAs state c → SavedAs (state_after state calls) (calibrator_after c (feeds_of_calls calls))
unfolding All state_after calibrator_after
saved_after [] bytes saved-as = saved-as
saved_after (call ∷ more) bytes saved-as =
    saved_after more bytes.1
    (record {
      same = ap (λ (s : List ℕ). take state_size (left_at s call).state) saved-as.same ∙ next_state saved-as.savable call.behind call.feed bytes.0;
      savable = step_is_savable saved-as.savable call.feed bytes.0;
    })

pub first_is_saved : (table : Table) → AcceptedTable table.bytes → (bias : Bias) → AcceptedBias bias.bytes → (memory : List ℕ) → state_size ≤ length memory
    → SavedAs (first_state table bias memory) (fresh_of table bias)
first_is_saved table accepted bias file memory room =
    let savable = fresh_is_savable table accepted bias file in
    let passed = both_pass table.bytes bias.bytes accepted.accepted file.accepted in
    record {
      same =
          ap (λ (v : Verdict). take state_size (fresh_by v table.bytes bias.bytes memory)) (fresh_passes table.bytes bias.bytes memory passed room)
          ∙ take_at (state_of (fresh_of table bias)) _ state_size (length_state savable);
      savable = savable;
    }

-- ---- demand 3 of such a run

module _ (fresh : Calibrator) (first : List ℕ) (calls : List Call) (saved-as : SavedAs (state_after first calls) (calibrator_after fresh (feeds_of_calls calls))) (call : Call) (bytes : OfBytes call.feed) where
  abbrev reached : Calibrator
  reached = calibrator_after fresh (feeds_of_calls calls)

  left_as_step : left_at (state_after first calls) call ≡ left_by (state_of reached ++ call.behind) (step reached call.feed)
  left_as_step = ap (λ (s : List ℕ). left_at s call) saved-as.same ∙ fed_as_step saved-as.savable call.behind call.feed

  call_claim : CallClaim fresh first calls call
  call_claim = record {
    state = ap (λ (s : List ℕ). is_state (s ++ call.behind)) saved-as.same ∙ is_state_lem saved-as.savable call.behind;
    calibrator = ap (λ (s : List ℕ). calibrator_in (s ++ call.behind)) saved-as.same ∙ read_back saved-as.savable call.behind;
    answer = ap (λ (l : Left). l.answer) left_as_step;
    buffer = ap (λ (l : Left). l.buffer) left_as_step;
    behind =
        ap (λ (s : List ℕ). drop state_size (left_at s call).state) saved-as.same
        ∙ ap (drop state_size) (state_left saved-as.savable call.behind call.feed bytes)
        ∙ drop_at (state_of (step reached call.feed).calibrator) call.behind state_size (length_state (step_is_savable saved-as.savable call.feed bytes));
  }

pub demand_three_by_states : DemandThreeByStates
demand_three_by_states table accepted bias file memory room calls others bytes =
    let saved-as = saved_after calls bytes (first_is_saved table accepted bias file memory room) in
    record {
      each = λ call also. call_claim (fresh_of table bias) (first_state table bias memory) calls saved-as call also;
      promise = demand_three table accepted bias file (feeds_of_calls calls) (feeds_of_calls others);
      counts = λ behind channel wanted. ap (λ (s : List ℕ). found_in (s ++ behind) channel wanted) saved-as.same ∙ found_as_kept saved-as.savable behind channel wanted;
    }
