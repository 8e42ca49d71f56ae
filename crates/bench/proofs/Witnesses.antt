-- Concrete lists that meet the hypotheses of demand 3 and of the laws of requests W3 and W5 and show each outcome, so that no statement holds for
-- want of a case.
use Prim.Native.Nat.{ℕ, ◌+◌, ◌<◌, ◌≤◌}
use native.Mathlib.Nat.{le_refl}
use native.Mathlib.Omega.{arith}
use mathlib.Core.Path.{◌≡◌, refl, sym, ap, ap₂, subst, ◌∙◌}
use mathlib.Core.List.{List, [], ◌∷◌}
use mathlib.Core.Bool.{true, cond}
use lib.ListN.{length, get_or, replicate, length-replicate}
use lib.Dec.{eqb, lit<, lit≤}
use lib.Signed.{◌<ℤ◌}
use lib.IntN.{ℤ, pos, ◌*ℤ◌}
use borrow.Author.Tests.{le-leb}
use Rattle.std.specs.Prelude.{true, None, Some, Err}
use Rattle.integers.specs.Fractions.{whole, Equal}
use Rattle.integers.specs.Rounding.{floor, r}
use Rattle.lists.specs.All.{All}
use Rattle.lists.specs.Build.{tabulate, cells}
use Rattle.lists.specs.Count.{count}
use Rattle.lists.specs.Sum.{sum}
use Rattle.lists.specs.Tests.{Verdict, passes, fails}
use Rattle.lists.proofs.Tabulate.{each_of_same}
use Rattle.fields.specs.Fields.{field_is_right, layout_is_right}
use Rattle.instrument.specs.declared.Target.{Target}
use Rattle.instrument.specs.declared.Target.TheVariants.{Kav, Wg}
use Rattle.instrument.specs.Instrument.{channels, positions, target_of}
use Rattle.table.specs.declared.Corrections.{Corrections}
use Rattle.record.specs.Record.{record_layout, scan_number, record_size}
use Rattle.samples.specs.Good.{differs, good, chosen_to}
use Rattle.bias.specs.Bias.{zero_bias}
use Rattle.bias.proofs.Zeros.{zero_bias_accepted}
use Rattle.acceptance.specs.Counts.{Sides, four_counts, within_limits, without_overlap, accepted_sides, no_counts}
use Rattle.acceptance.specs.Accepted.{accepted_counts, AcceptedSamples, accepted_samples}
use Rattle.acceptance.specs.Bracketed.{SampleBracketed}
use Rattle.thermometer.specs.Equations.{measured_ratio, Bracketed}
use Rattle.acceptance.specs.Kept.{kept_scan}
use Rattle.acceptance.specs.declared.Scan.{Scan}
use Rattle.scene.specs.declared.Flag.TheVariants.{WarmMissing}
use Rattle.scene.specs.Channel.{Channel, channel_with}
use Rattle.window.specs.Ages.{no_scan, window_of, shifted, window_after}
use Rattle.window.specs.Sums.{weight_sum, value_sum, thermometer_weights, thermometer_sum, means_from, means_of}
use Rattle.window.specs.declared.Means.{Means}
use Rattle.window.specs.Means.{D, flag_of, channel_state_of}
use Rattle.scene.specs.Temperature.{temperature, biased}
use Rattle.scene.specs.Scene.{kelvin, bits, scene_of, unbiased}
use Rattle.scene.specs.declared.Scene.TheVariants.{Kelvin, Flagged, Outside}
use Rattle.scene.proofs.Delivered.{within_guard}
use Rattle.product.specs.Scenes.{Deliver, scene_in}
use Rattle.product.proofs.SceneLaws.{InUnitsBy}
use Rattle.calibrator.specs.declared.Calibrator.{Calibrator}
use Rattle.calibrator.specs.Refusals.{verdict, Reply, delivered, refused}
use Rattle.calibrator.specs.Feeding.{Feed, AllOfBytes, fresh_of, kept_by, verdict_in, step_by, step, calibrator_after}
use Rattle.promise.specs.Roll.{Roll, verdict_at, joined_by}
use Rattle.promise.specs.Restart.{rolled_by}
use Rattle.promise.specs.Outcomes.{fed_moment}
use Rattle.promise.specs.Moments.{means_at, tnl_at, word_at, units_at, is_delivered}
use Rattle.promise.specs.Promise.{front, FeedClaim, Alike, Promise}
use Rattle.scene.specs.BeforeBias.{just_t, outside_mark}
use Rattle.lookup.specs.Lookup.{Found, found_count}
use Rattle.promise.specs.CountBehind.{answer_of, AnswerSays}
use Rattle.promise.proofs.CountLaws.{answers_say, higher_count_higher_t}
use Rattle.bench.proofs.BenchBytes.{bench_scan_bytes, numbered_bytes, zeros_bytes}
use Rattle.promise.specs.SameScenes.{FedChannel, settings_of_fed, moment_of_fed, fed_flag, fed_numbers, fed_scene}
use Rattle.product.specs.Product.{product_size}
use Rattle.bench.specs.Bench.{bench_table, instrument_bytes, per_channel, shelf_bytes, bench_scan, bench_calibrator, bench_settings, bench_moment, bench_channel, bench_t, samples_at}
use Rattle.bench.specs.Witnesses.{rejected_scan, flagged_scan, numbered_scan, zeros, rejected_list, one_of_each, feeds_before, replies}
use Rattle.calibrator.proofs.Plain.{no_feed_of_bytes, feeds_of_bytes}
use Rattle.calibrator.proofs.Verdicts.{verdict_length_wrong, verdict_field_wrong, verdict_number_not_above, verdict_buffer_short, verdict_passes}
use Rattle.bench.proofs.BenchScan.{bench_table_lem, bench_row, samples_with, samples_are, bench_sides, bench_samples, bench_kept, bench_kept_lem, bench_means_lem, bench_tnl}
use Rattle.bench.proofs.FirstFeed.{states_by_kept, Gives, first_verdict, first_word, first_reply}
use Rattle.bench.proofs.BenchFeed.{channels_of_kept, scene_delivered_lem, bench_gives, bench_passes, bench_reply}
use Rattle.bench.proofs.BenchRows.{tc_of, rise_of, rise_of_target, rows}
use Rattle.promise.proofs.Plain.{same_scan_by, alike_accepted_by, alike_refused_by, alike_by, none_alike, same_products_say, each_says, fed_record_says}
use Rattle.promise.proofs.RollLaws.{scan_of_age}
use Rattle.promise.proofs.SampleLaws.{means_at_is}
use Rattle.promise.proofs.SceneClaims.{bits_delivered}
use Rattle.promise.proofs.Demand.{demand_three}
use Rattle.promise.proofs.ThermometerLaws.{fed_thermometers_bracketed}
use Rattle.promise.proofs.WithoutBiasLaws.{by_zero_bias}
use Rattle.promise.proofs.SameScenesLaws.{by_numbers, scene_by_numbers, same_scenes}

-- ---- a buffer with room, as the laws below ask for

pub some_room : product_size ≤ length {A = ℕ} (replicate product_size 0)
some_room = omega (arith, length-replicate {A = ℕ} product_size 0)

-- ---- demand 3, of the bench calibrator

bench_promise : (feeds others : List Feed) → Promise bench_calibrator bench_settings zero_bias feeds others
bench_promise = demand_three (record { bytes = bench_table }) bench_table_lem (record { bytes = zero_bias }) zero_bias_accepted

-- ---- two lists that are alike and differ in a rejected sample (H10: the fourth is bad)

abbrev rejected_sides : Sides
rejected_sides = record { warm = samples_at 3 20000; cold = samples_at 4 10000 }

first_samples : accepted_samples bench_settings (rejected_scan 20100) ≡ samples_with rejected_sides
unfolding bench_table rejected_scan tabulate accepted_counts four_counts within_limits accepted_sides without_overlap good differs count chosen_to
first_samples = samples_are (rejected_scan 20100) rejected_sides refl refl

second_samples : accepted_samples bench_settings (rejected_scan 20200) ≡ samples_with rejected_sides
unfolding bench_table rejected_scan tabulate accepted_counts four_counts within_limits accepted_sides without_overlap good differs count chosen_to
second_samples = samples_are (rejected_scan 20200) rejected_sides refl refl

rejected_gives : (fourth : ℕ) → accepted_samples bench_settings (rejected_scan fourth) ≡ samples_with rejected_sides → Gives (rejected_scan fourth) bench_channel 15000
unfolding rejected_scan layout_is_right field_is_right kept_scan tabulate per_channel shelf_bytes
rejected_gives fourth samples = record {
  long = refl;
  right = refl;
  number = refl;
  shelves = refl;
  states = channels_of_kept (rejected_scan fourth) refl refl (ap kept_scan samples);
  earths = refl;
}

first_gives : Gives (rejected_scan 20100) bench_channel 15000
first_gives = rejected_gives 20100 first_samples

second_gives : Gives (rejected_scan 20200) bench_channel 15000
second_gives = rejected_gives 20200 second_samples

pub records_differ : rejected_scan 20100 ≡ rejected_scan 20200 → ⊥
unfolding rejected_scan
records_differ same = let byte : ◌≡◌ {A = ℕ} 132 232 = ap (λ (l : List ℕ). get_or l 54 0) same in omega arith

-- a refused feed leaves the calibrator as it was
replies_refused : (c : Calibrator) (feed : Feed) (more : List Feed) (n : ℕ) (rest : List Reply) → verdict_in c feed ≡ fails n → replies c more ≡ rest
    → replies c (feed ∷ more) ≡ refused n ∷ rest
unfolding replies step_by
replies_refused c feed more n rest is follows =
    ap (λ (v : Verdict). (step_by v c feed).outcome.reply ∷ replies (step_by v c feed).calibrator more) is ∙ ap (λ (l : List Reply). refused n ∷ l) follows

replies_rejected : (short : List ℕ) (fourth : ℕ) (buffer : List ℕ) → (length short ≡ record_size → ⊥) → product_size ≤ length buffer → Gives (rejected_scan fourth) bench_channel 15000
    → replies bench_calibrator (rejected_list short fourth buffer) ≡ refused 4 ∷ delivered 2112 ∷ []
unfolding replies
replies_rejected short fourth buffer wrong room gives =
    let feed : Feed = record { scan = rejected_scan fourth; buffer = buffer } in
    replies_refused bench_calibrator (record { scan = short; buffer = [] }) (feed ∷ []) 4 _ (verdict_length_wrong _ short 0 wrong)
    (ap (λ (reply : Reply). reply ∷ []) (first_reply gives buffer room scene_delivered_lem))

module _ (buffer other : List ℕ) (room : product_size ≤ length buffer) (other-room : product_size ≤ length other) where
  abbrev first_feed : Feed
  first_feed = record { scan = rejected_scan 20100; buffer = buffer }

  abbrev second_feed : Feed
  second_feed = record { scan = rejected_scan 20200; buffer = other }

  abbrev first_list : List Feed
  first_list = rejected_list [] 20100 buffer

  abbrev second_list : List Feed
  second_list = rejected_list (0 ∷ []) 20200 other

  pub first_replies : replies bench_calibrator first_list ≡ refused 4 ∷ delivered 2112 ∷ []
  first_replies = replies_rejected [] 20100 buffer (λ long. omega arith) room first_gives

  pub second_replies : replies bench_calibrator second_list ≡ refused 4 ∷ delivered 2112 ∷ []
  second_replies = replies_rejected (0 ∷ []) 20200 other (λ long. omega arith) other-room second_gives

  pub lists_alike : Alike bench_settings [] [] first_list second_list
  unfolding verdict
  lists_alike =
      alike_by bench_settings [] [] _ _ (first_feed ∷ []) (second_feed ∷ [])
      (alike_refused_by bench_settings [] [] _ _ 4 refl refl)
      (alike_by bench_settings [] [] first_feed second_feed [] []
      (alike_accepted_by bench_settings [] [] first_feed second_feed (first_verdict first_gives buffer room) (first_verdict second_gives other other-room)
      (same_scan_by bench_settings (rejected_scan 20100) (rejected_scan 20200)
      (first_gives.number ∙ sym second_gives.number) (first_gives.earths ∙ sym second_gives.earths) (first_gives.shelves ∙ sym second_gives.shelves) (first_samples ∙ sym second_samples)))
      (none_alike bench_settings _ _))

  -- so that by demand 3 the accepted feeds leave the same product
  pub same_products : front (step bench_calibrator first_feed).outcome.buffer ≡ front (step bench_calibrator second_feed).outcome.buffer
  unfolding verdict step_by
  same_products =
      let c = bench_calibrator in
      let both = (bench_promise first_list second_list).alike lists_alike in
      (same_products_say c c first_feed second_feed [] [] (same_products_say c c _ _ (first_feed ∷ []) (second_feed ∷ []) both).1).0.product 2112 (first_reply first_gives buffer room scene_delivered_lem)

-- ---- each refusal, and an accepted feed

module _ (buffer : List ℕ) (room : product_size ≤ length buffer) where
  abbrev no_bytes_lem : Feed
  no_bytes_lem = record { scan = []; buffer = buffer }

  abbrev no_tag_lem : Feed
  no_tag_lem = record { scan = zeros; buffer = buffer }

  abbrev no_room_lem : Feed
  no_room_lem = record { scan = bench_scan 15000; buffer = [] }

  abbrev bench : Feed
  bench = record { scan = bench_scan 15000; buffer = buffer }

  abbrev after : Calibrator
  after = (step_by passes bench_calibrator bench).calibrator

  no_bytes : verdict_in bench_calibrator no_bytes_lem ≡ fails 4
  no_bytes = verdict_length_wrong _ [] (length buffer) (λ long. omega arith)

  no_tag : verdict_in bench_calibrator no_tag_lem ≡ fails 5
  unfolding zeros layout_is_right field_is_right
  no_tag = verdict_field_wrong _ zeros (length buffer) refl refl

  no_room : verdict_in bench_calibrator no_room_lem ≡ fails 7
  unfolding fresh_of window_of
  no_room = verdict_buffer_short None (bench_scan 15000) 0 (bench_gives 15000).long (bench_gives 15000).right refl (omega arith)

  once_more : verdict_in after bench ≡ fails 6
  unfolding step_by window_after
  once_more =
      let number = scan_number (bench_scan 15000) in
      verdict_number_not_above (Some number) (bench_scan 15000) (length buffer) (bench_gives 15000).long (bench_gives 15000).right (le-leb number number (le_refl number))

  bench_twice : replies bench_calibrator (bench ∷ bench ∷ []) ≡ delivered 2112 ∷ refused 6 ∷ []
  unfolding replies
  bench_twice =
      ap₂ (λ (reply : Reply) (c : Calibrator). reply ∷ replies c (bench ∷ []))
      (bench_reply buffer room) (ap (λ (v : Verdict). (step_by v bench_calibrator bench).calibrator) (bench_passes 15000 buffer room))
      ∙ ap (λ (l : List Reply). delivered 2112 ∷ l) (replies_refused after bench [] 6 [] once_more refl)

  pub one_of_each_lem : replies bench_calibrator (one_of_each buffer) ≡ refused 4 ∷ refused 5 ∷ refused 7 ∷ delivered 2112 ∷ refused 6 ∷ []
  one_of_each_lem =
      replies_refused bench_calibrator no_bytes_lem (no_tag_lem ∷ no_room_lem ∷ bench ∷ bench ∷ []) 4 _ no_bytes
      (replies_refused bench_calibrator no_tag_lem (no_room_lem ∷ bench ∷ bench ∷ []) 5 _ no_tag
      (replies_refused bench_calibrator no_room_lem (bench ∷ bench ∷ []) 7 _ no_room
      bench_twice))

-- ---- scenes

-- what is delivered is T, within the guard
bench_in_units : InUnitsBy unbiased bench_channel
bench_in_units = record { within = λ k is count passed. within_guard passed.guard_low_lem passed.guard_high_lem }

outside_scene : scene_in unbiased bench_channel 9999 ≡ Outside
unfolding scene_in scene_of r floor
outside_scene = refl

-- with c0 = 1 and e = 0 the count of H4 is delivered one unit higher
pub one_unit_higher : scene_in (biased (pos 1) (pos 0)) bench_channel 15000 ≡ Kelvin (kelvin 565395)
unfolding scene_in scene_of biased r floor
one_unit_higher = refl

-- too few warm counts
abbrev flagged_channel : Channel
flagged_channel = Err WarmMissing

flagged_samples : accepted_samples bench_settings flagged_scan ≡ samples_with no_counts
unfolding bench_table flagged_scan tabulate accepted_counts four_counts within_limits accepted_sides without_overlap good differs count chosen_to
flagged_samples = samples_are flagged_scan no_counts refl refl

flagged_gives : Gives flagged_scan flagged_channel 15000
unfolding bench_table flagged_scan shelf_bytes layout_is_right field_is_right kept_scan tabulate window_of window_after shifted no_scan cells channel_state_of channel_with flag_of means_from weight_sum value_sum thermometer_weights thermometer_sum sum
flagged_gives = record {
  long = refl;
  right = refl;
  number = refl;
  shelves = refl;
  states = states_by_kept flagged_scan (kept_scan (samples_with no_counts)) refl refl (ap kept_scan flagged_samples);
  earths = refl;
}

flagged_scene : scene_in unbiased flagged_channel 15000 ≡ Flagged
unfolding scene_in
flagged_scene = refl

module _ (buffer : List ℕ) (room : product_size ≤ length buffer) (c i : ℕ) (below : c < channels) (inside : i < positions) where
  -- earth counts 9,999 (H6)
  pub all_outside : word_at (step bench_calibrator (record { scan = bench_scan 9999; buffer = buffer })).outcome.buffer c i ≡ bits Outside
  all_outside = first_word (bench_gives 9999) buffer room c i below inside ∙ ap bits outside_scene

  -- no count is accepted (H12)
  pub all_flagged : word_at (step bench_calibrator (record { scan = flagged_scan; buffer = buffer })).outcome.buffer c i ≡ bits Flagged
  all_flagged = first_word flagged_gives buffer room c i below inside ∙ ap bits flagged_scene

  -- earth counts 15,000 (H4)
  pub all_delivered : is_delivered (word_at (step bench_calibrator (record { scan = bench_scan 15000; buffer = buffer })).outcome.buffer c i) ≡ true
  all_delivered = ap is_delivered (first_word (bench_gives 15000) buffer room c i below inside) ∙ bits_delivered unbiased bench_channel bench_in_units 15000 ∙ scene_delivered_lem

  -- so that by demand 3 each is exactly T / 4096
  pub each_is_exact : Equal (units_at (step bench_calibrator (record { scan = bench_scan 15000; buffer = buffer })).outcome.buffer c i) (whole (pos 565394))
  each_is_exact =
      let feed : Feed = record { scan = bench_scan 15000; buffer = buffer } in
      let after = step bench_calibrator feed in
      let promise = bench_promise (feed ∷ []) [] in
      let claim = (each_says (FeedClaim bench_settings zero_bias) [] bench_calibrator feed [] promise.each).0.accepts (first_verdict (bench_gives 15000) buffer room) in
      let delivered_is = ap (λ (deliver : ℕ → Deliver). deliver c i (bench_t 15000 c i)) by_zero_bias ∙ (rows.H4 c i below inside).1 in
      subst (λ (t : ℤ). Equal (units_at after.outcome.buffer c i) (whole t)) delivered_is ((claim.scenes c i below inside).exact all_delivered)

-- ---- the bench scan after a refused record and a scan with number 6, whose weights at age 1 are 0

module _ (number earth : ℕ) where
  numbered_samples : accepted_samples bench_settings (numbered_scan number earth) ≡ samples_with bench_sides
  unfolding bench_table numbered_scan tabulate accepted_counts four_counts within_limits accepted_sides without_overlap good differs count chosen_to
  numbered_samples = samples_are (numbered_scan number earth) bench_sides refl refl

  numbered_kept : kept_by bench_settings (numbered_scan number earth) ≡ bench_kept_lem
  unfolding kept_scan tabulate
  numbered_kept = ap kept_scan numbered_samples

  numbered_long : length (numbered_scan number earth) ≡ record_size
  unfolding numbered_scan
  numbered_long = refl

  numbered_right : layout_is_right (numbered_scan number earth) 0 record_layout ≡ true
  unfolding numbered_scan layout_is_right field_is_right
  numbered_right = refl

means_after_six : (c : ℕ) → c < channels
    → means_of bench_settings (λ k. cond (eqb (7 + k) 7) bench_kept_lem (cond (eqb (6 + k) 7) bench_kept_lem no_scan)) c ≡ bench_means_lem (target_of c)
unfolding bench_table tabulate means_from weight_sum value_sum thermometer_weights thermometer_sum sum no_scan
means_after_six = each_of_same _ (λ c. bench_means_lem (target_of c)) channels refl

target_flag_zero : (target : Target) → flag_of bench_settings target (bench_means_lem target) ≡ 0
unfolding bench_table flag_of sum
target_flag_zero Kav = refl
target_flag_zero Wg = refl

-- ---- request W3: channels 1 and 16 of the bench scan, by eight thermometers and by seven, agree in the six numbers

abbrev bench_numbers : List ℤ
bench_numbers = pos 11166 ∷ pos 1107656 ∷ pos 400 ∷ pos 120000 ∷ pos 12 ∷ pos 120000 ∷ []

module _ (earth : ℕ) (buffer : List ℕ) (room : product_size ≤ length buffer) where
  -- the refused record leaves the roll empty, and the other joins it
  pub rolled_before : rolled_by [] (feeds_before earth buffer) ≡ numbered_scan 6 earth ∷ []
  unfolding rolled_by zeros layout_is_right field_is_right
  rolled_before =
      let six : Feed = record { scan = numbered_scan 6 earth; buffer = buffer } in
      let refused-first = verdict_field_wrong None zeros (length buffer) refl refl in
      let accepted-then = verdict_passes None (numbered_scan 6 earth) (length buffer) (numbered_long 6 earth) (numbered_right 6 earth) refl room in
      ap (λ (v : Verdict). rolled_by (joined_by v [] (record { scan = zeros; buffer = buffer })) (six ∷ [])) refused-first ∙ ap (λ (v : Verdict). joined_by v [] six) accepted-then

  pub fed_passes : verdict_at (rolled_by [] (feeds_before earth buffer)) (record { scan = bench_scan earth; buffer = buffer }) ≡ passes
  unfolding numbered_scan bench_scan
  fed_passes =
      ap (λ (roll : Roll). verdict_at roll (record { scan = bench_scan earth; buffer = buffer })) rolled_before
      ∙ verdict_passes (Some 6) (bench_scan earth) (length buffer) (bench_gives earth).long (bench_gives earth).right refl room

  abbrev pub fed : (c : ℕ) → c < channels → FedChannel
  fed c below = record {
    table = bench_table;
    table_accepted = bench_table_lem;
    before = feeds_before earth buffer;
    feed = record { scan = bench_scan earth; buffer = buffer };
    feed_accepted = fed_passes;
    channel = c;
    is_channel = below;
  }

  fed_means : (c : ℕ) (below : c < channels) → means_at bench_settings (moment_of_fed (fed c below)) c ≡ bench_means_lem (target_of c)
  unfolding scan_of_age bench_scan numbered_scan
  fed_means c below =
      ap (λ (roll : Roll). means_at bench_settings (fed_moment roll (bench_scan earth)) c) rolled_before
      ∙ means_at_is bench_settings (fed_moment (numbered_scan 6 earth ∷ []) (bench_scan earth)) c below
      ∙ ap₂ (λ (kept older : Scan). means_of bench_settings (λ k. cond (eqb (7 + k) 7) kept (cond (eqb (6 + k) 7) older no_scan)) c) (bench_kept earth) (numbered_kept 6 earth)
      ∙ means_after_six c below

  fed_flag_zero : (c : ℕ) (below : c < channels) → fed_flag (fed c below) ≡ 0
  fed_flag_zero c below = ap (flag_of bench_settings (target_of c)) (fed_means c below) ∙ target_flag_zero (target_of c)

  fed_numbers_are : (c : ℕ) (below : c < channels) → fed_numbers (fed c below) ≡ bench_numbers
  fed_numbers_are c below =
      ap₂ (λ (m : Means) (k : Corrections). tc_of k ∷ rise_of m k ∷ tnl_at bench_settings (bench_moment earth) c ∷ D m ∷ (pos 12 *ℤ pos m.Wc *ℤ pos m.Ww) ∷ (pos m.Ac *ℤ pos m.Ww) ∷ [])
      (fed_means c below) (bench_row c below)
      ∙ ap₂ (λ (rise tnl : ℤ). pos 11166 ∷ rise ∷ tnl ∷ pos 120000 ∷ pos 12 ∷ pos 120000 ∷ []) (rise_of_target (target_of c)) (bench_tnl earth c below)

  -- though their sums differ
  pub sums_differ : means_at (settings_of_fed (fed 0 (lit< tt))) (moment_of_fed (fed 0 (lit< tt))) 0 ≡ means_at (settings_of_fed (fed 15 (lit< tt))) (moment_of_fed (fed 15 (lit< tt))) 15 → ⊥
  sums_differ same =
      let eight-is-seven : ◌≡◌ {A = ℕ} 8 7 = ap (λ (m : Means). m.sumVP) (sym (fed_means 0 (lit< tt)) ∙ same ∙ fed_means 15 (lit< tt)) in
      omega arith

  -- so that every count has the same T or the same mark
  pub both_targets_same : (count : ℕ) → count ≤ 65535 → fed_scene (fed 0 (lit< tt)) (pos count) ≡ fed_scene (fed 15 (lit< tt)) (pos count)
  both_targets_same =
      same_scenes (fed 0 (lit< tt)) (fed 15 (lit< tt)) (fed_flag_zero 0 (lit< tt)) (fed_flag_zero 15 (lit< tt))
      (fed_numbers_are 0 (lit< tt) ∙ sym (fed_numbers_are 15 (lit< tt)))

  scene_by_bench_numbers : (c : ℕ) (below : c < channels) (count : ℕ) → fed_scene (fed c below) (pos count) ≡ by_numbers bench_numbers (pos count)
  scene_by_bench_numbers c below count =
      scene_by_numbers (settings_of_fed (fed c below)) (moment_of_fed (fed c below)) c (fed_flag_zero c below) (pos count)
      ∙ ap (λ (numbers : List ℤ). by_numbers numbers (pos count)) (fed_numbers_are c below)

  -- 15,000 has the T of H4, and 9,999 is outside (H6)
  pub scene_of_h4 : (c : ℕ) (below : c < channels) → fed_scene (fed c below) (pos 15000) ≡ just_t (pos 565394)
  unfolding temperature r floor
  scene_of_h4 c below = scene_by_bench_numbers c below 15000

  pub scene_of_h6 : (c : ℕ) (below : c < channels) → fed_scene (fed c below) (pos 9999) ≡ outside_mark
  unfolding temperature r floor
  scene_of_h6 c below = scene_by_bench_numbers c below 9999

  -- request W5: after these feeds, all of bytes, 15,000 is the count behind the T of H4
  module _ (small : earth ≤ 65535) (c : ℕ) (below : c < channels) where
    before_of_bytes : AllOfBytes (feeds_before earth buffer)
    before_of_bytes =
        let six : Feed = record { scan = numbered_scan 6 earth; buffer = buffer } in
        feeds_of_bytes (record { scan = zeros; buffer = buffer }) (six ∷ []) zeros_bytes
        (feeds_of_bytes six [] (numbered_bytes 6 earth (lit< tt) small) no_feed_of_bytes)

    abbrev bench_answer : ℕ → Found
    bench_answer wanted = answer_of (step (calibrator_after bench_calibrator (feeds_before earth buffer)) (record { scan = bench_scan earth; buffer = buffer })).calibrator (c + 1) wanted

    bench_says : (wanted : ℕ) → AnswerSays (fed c below) (bench_answer wanted) wanted
    bench_says wanted = answers_say (fed c below) (before_of_bytes, bench_scan_bytes earth small) (fed_flag_zero c below) (record { bytes = zero_bias }) wanted

    pub count_behind_h4 : bench_answer 565394 ≡ found_count 15000
    count_behind_h4 = (bench_says 565394).only 15000 (lit≤ tt) (scene_of_h4 c below)

    -- and H5, the cold mean itself, has the lower T of the two
    pub scene_of_h5 : fed_scene (fed c below) (pos 10000) ≡ just_t (pos 11166)
    unfolding temperature r floor
    scene_of_h5 = scene_by_bench_numbers c below 10000

    pub h5_below_h4 : pos 11166 <ℤ pos 565394
    h5_below_h4 =
        higher_count_higher_t (fed c below) (before_of_bytes, bench_scan_bytes earth small) 10000 15000 (pos 11166) (pos 565394) (lit< tt) scene_of_h5 (scene_of_h4 c below)

  -- request W7: every thermometer of the bench scan has T 1,118,822, and t = 0 of the first is bracketed by its counts
  pub first_thermometer_bracketed : Bracketed 3850000 1500000 0 (measured_ratio 2000000 2000000 20000 0 20000) (pos 0)
  unfolding All tabulate cells bench_table bench_scan instrument_bytes
  first_thermometer_bracketed =
      let scan = bench_scan earth in
      let claim = fed_record_says fed_thermometers_bracketed (record { bytes = bench_table }) (feeds_before earth buffer) (record { scan = scan; buffer = buffer }) fed_passes in
      (subst (λ (samples : AcceptedSamples). All (SampleBracketed bench_settings scan Kav) samples.kav) (bench_samples earth) (claim Kav)).0
