-- The numbers of the answers of the code, and what a look-up by a state answers.
use Rattle.std.specs.Prelude.{ℕ, Option, Result, Ok, Err}
use Rattle.table.specs.Opening.{refusal_number as opening_number}
use Rattle.calibrator.specs.Refusals.{refusal_number as feed_number}
use Rattle.lookup.specs.Lookup.{Found, refused_with, found_count_or_none, refusal_number as lookup_number}
use Rattle.live.specs.declared.Refusal.{Refusal}
use Rattle.live.specs.declared.Refusal.TheVariants.{NoState, File, Feed, Lookup}
use Rattle.live.specs.Calls.{no_state}

abbrev pub refusal_number : Refusal → ℕ
refusal_number NoState = no_state
refusal_number (File refusal) = opening_number refusal
refusal_number (Feed refusal) = feed_number refusal
refusal_number (Lookup refusal) = lookup_number refusal

-- 0 where the call is not refused
abbrev pub answer_number : {Done : Type 0} → Result Done Refusal → ℕ
answer_number (Ok done) = 0
answer_number (Err refusal) = refusal_number refusal

abbrev pub found_of : Result (Option ℕ) Refusal → Found
found_of (Ok found) = found_count_or_none found
found_of (Err refusal) = refused_with (refusal_number refusal)
