-- The rows that meet several refusals at once: each test computes, and the laws of the verdicts say which comes first.
use Prim.Native.Nat.{ℕ, ◌<◌, ◌≤◌}
use native.Mathlib.Omega.{arith}
use mathlib.Core.Path.{◌≡◌, refl, ap, ◌∙◌}
use mathlib.Core.List.{List, [], ◌∷◌, ◌++◌}
use lib.ListN.{length, replicate, length-replicate}
use borrow.Author.Tests.{lt-ltb}
use Rattle.lists.specs.Count.{every}
use Rattle.lists.specs.Tests.{Verdict, passes, fails}
use Rattle.fields.specs.Fields.{field_is_right, layout_is_right}
use Rattle.thermometer.specs.Reading.{not_read, reading}
use Rattle.table.specs.Ranges.{leasts_inside, values_inside}
use Rattle.table.specs.Opening.{opening}
use Rattle.bias.specs.Opening.{part_inside, bias_inside, bias_opening, both_opening}
use Rattle.lookup.specs.Lookup.{refused_with}
use Rattle.product.specs.Product.{product_size}
use Rattle.window.specs.Ages.{window_after}
use Rattle.calibrator.specs.declared.Calibrator.{Calibrator}
use Rattle.calibrator.specs.Refusals.{verdict, Reply, refused}
use Rattle.calibrator.specs.Feeding.{Feed, fresh_of, step_by, verdict_in, calibrator_after, outcome_after}
use Rattle.promise.specs.Roll.{Roll, verdict_at, joined_by}
use Rattle.promise.specs.Restart.{rolled_by}
use Rattle.promise.specs.CountBehind.{answer_of}
use Rattle.bench.specs.Bench.{bench_scan, bench_calibrator}
use Rattle.bench.specs.Witnesses.{numbered_scan, zeros}
use Rattle.bench.specs.Refusals.{feed_tests, that_apply, FeedRefused, FeedRows, table_outside, bias_outside, OpeningRows, ReadingRows, LookupRows, RefusalRows}
use Rattle.bench.proofs.FirstFeed.{first_verdict}
use Rattle.bench.proofs.BenchFeed.{bench_gives, bench_passes}

-- ---- feeds

module _ (buffer short : List ℕ) (room : product_size ≤ length buffer) (no_room : length short < product_size) where
  abbrev bench : Feed
  bench = record { scan = bench_scan 15000; buffer = buffer }

  -- after the bench scan: the roll and the calibrator, and what it answers to a feed that the roll refuses
  rolled : rolled_by [] (bench ∷ []) ≡ bench_scan 15000 ∷ []
  unfolding rolled_by
  rolled = ap (λ (v : Verdict). joined_by v [] bench) (first_verdict (bench_gives 15000) buffer room)

  after : calibrator_after bench_calibrator (bench ∷ []) ≡ (step_by passes bench_calibrator bench).calibrator
  unfolding calibrator_after
  after = ap (λ (v : Verdict). (step_by v bench_calibrator bench).calibrator) (bench_passes 15000 buffer room)

  same_verdict : (feed : Feed) → verdict_in (step_by passes bench_calibrator bench).calibrator feed ≡ verdict_at (bench_scan 15000 ∷ []) feed
  unfolding step_by window_after
  same_verdict feed = refl

  replies : (feed : Feed) (n : ℕ) → verdict_at (bench_scan 15000 ∷ []) feed ≡ fails n → (outcome_after bench_calibrator (bench ∷ []) feed).reply ≡ refused n
  unfolding step_by
  replies feed n is =
      ap (λ (c : Calibrator). (step_by (verdict_in c feed) c feed).outcome.reply) after
      ∙ ap (λ (v : Verdict). (step_by v (step_by passes bench_calibrator bench).calibrator feed).outcome.reply) (same_verdict feed ∙ is)

  row : (scan : List ℕ) (first : ℕ) (more : List ℕ) → that_apply (feed_tests (bench_scan 15000 ∷ []) (record { scan = scan; buffer = short })) ≡ first ∷ more
      → verdict_at (bench_scan 15000 ∷ []) (record { scan = scan; buffer = short }) ≡ fails first → FeedRefused buffer short scan first more
  row scan first more tests is =
      let feed : Feed = record { scan = scan; buffer = short } in
      ((ap (λ (roll : Roll). that_apply (feed_tests roll feed)) rolled ∙ tests, ap (λ (roll : Roll). verdict_at roll feed) rolled ∙ is), replies feed first is)

  feed_rows : FeedRows buffer short
  unfolding verdict bench_scan numbered_scan zeros layout_is_right field_is_right
  feed_rows =
      let is-short = lt-ltb (length short) product_size no_room in
      record {
        four_of_all = row [] 4 (5 ∷ 6 ∷ 7 ∷ []) (rw is-short) refl;
        four_with_right_tags = row (bench_scan 15000 ++ (0 ∷ [])) 4 (6 ∷ 7 ∷ []) (rw is-short) refl;
        five_before_six = row zeros 5 (6 ∷ 7 ∷ []) (rw is-short) refl;
        six_before_seven = row (bench_scan 15000) 6 (7 ∷ []) (rw is-short) refl;
        seven_alone = row (numbered_scan 8 15000) 7 [] (rw is-short) (rw is-short);
      }

-- ---- opening

opening_rows : OpeningRows
unfolding opening values_inside leasts_inside table_outside layout_is_right field_is_right bias_outside bias_opening bias_inside part_inside every
opening_rows = record {
  table_one_of_all = (refl, refl);
  table_two_before_three = (refl, refl);
  table_three_alone = (refl, refl);
  bias_one_of_all = (refl, refl);
  bias_two_before_three = (refl, refl);
  bias_three_alone = (refl, refl);
  table_before_bias = (refl, refl);
}

-- ---- one thermometer, and the count behind a temperature

reading_rows : ReadingRows
unfolding reading
reading_rows = record { eight_of_all = (refl, refl); nine_before_ten = (refl, refl); ten_alone = (refl, refl) }

lookup_rows : LookupRows
unfolding fresh_of
lookup_rows = record {
  eleven_below = (refl, λ wanted. refl);
  eleven_above = (refl, λ wanted. refl);
  twelve_at_first = (refl, λ wanted. refl);
  twelve_at_last = (refl, λ wanted. refl);
}

pub refusal_rows : RefusalRows
refusal_rows = record { feeds = feed_rows; openings = opening_rows; readings = reading_rows; lookups = lookup_rows }

-- ---- the rows of feeds taken apart, with buffers of 8,706 and 8,705 bytes

abbrev bench_fed : List Feed
bench_fed = record { scan = bench_scan 15000; buffer = replicate 8706 0 } ∷ []

abbrev short_feed : List ℕ → Feed
short_feed scan = record { scan = scan; buffer = replicate 8705 0 }

rows_of_short_feeds : FeedRows (replicate 8706 0) (replicate 8705 0)
rows_of_short_feeds =
    refusal_rows.feeds (replicate 8706 0) (replicate 8705 0) (omega (arith, length-replicate {A = ℕ} 8706 0)) (omega (arith, length-replicate {A = ℕ} 8705 0))

pub short_verdicts_say : let roll = rolled_by [] bench_fed in
    (verdict_at roll (short_feed []) ≡ fails 4) × (verdict_at roll (short_feed (bench_scan 15000 ++ (0 ∷ []))) ≡ fails 4) × (verdict_at roll (short_feed zeros) ≡ fails 5)
    × (verdict_at roll (short_feed (bench_scan 15000)) ≡ fails 6) × (verdict_at roll (short_feed (numbered_scan 8 15000)) ≡ fails 7)
short_verdicts_say =
    let rows = rows_of_short_feeds in
    (rows.four_of_all.0.1, rows.four_with_right_tags.0.1, rows.five_before_six.0.1, rows.six_before_seven.0.1, rows.seven_alone.0.1)

pub short_replies_say : let reply : List ℕ → Reply = λ scan. (outcome_after bench_calibrator bench_fed (short_feed scan)).reply in
    (reply [] ≡ refused 4) × (reply (bench_scan 15000 ++ (0 ∷ [])) ≡ refused 4) × (reply zeros ≡ refused 5) × (reply (bench_scan 15000) ≡ refused 6) × (reply (numbered_scan 8 15000) ≡ refused 7)
short_replies_say =
    let rows = rows_of_short_feeds in (rows.four_of_all.1, rows.four_with_right_tags.1, rows.five_before_six.1, rows.six_before_seven.1, rows.seven_alone.1)

-- ---- the other rows taken apart

pub openings_say : (opening [] ≡ fails 1) × (opening (replicate 1404 0) ≡ fails 2) × (opening table_outside ≡ fails 3)
    × (bias_opening (0x7F ∷ replicate 8451 0x7F) ≡ fails 1) × (bias_opening (replicate 8451 0x7F) ≡ fails 2)
    × (bias_opening (0x13 ∷ 0x21 ∷ 0x00 ∷ replicate 8448 0x7F) ≡ fails 3) × (both_opening table_outside [] ≡ fails 3)
unfolding bias_outside
openings_say =
    let rows = refusal_rows.openings in (
      rows.table_one_of_all.1,
      rows.table_two_before_three.1,
      rows.table_three_alone.1,
      rows.bias_one_of_all.1,
      rows.bias_two_before_three.1,
      rows.bias_three_alone.1,
      rows.table_before_bias.0,
    )

pub readings_say : (reading 999 2000000 3850000 1500000 0 100 100 99 ≡ not_read 8) × (reading 1000 2000000 3850000 1500000 0 100 100 99 ≡ not_read 9)
    × (reading 1000 2000000 3850000 1500000 0 101 100 99 ≡ not_read 10)
readings_say = let rows = refusal_rows.readings in (rows.eight_of_all.1, rows.nine_before_ten.1, rows.ten_alone.1)

pub lookups_say : (wanted : ℕ) → (answer_of bench_calibrator 0 wanted ≡ refused_with 11) × (answer_of bench_calibrator 23 wanted ≡ refused_with 11)
    × (answer_of bench_calibrator 1 wanted ≡ refused_with 12) × (answer_of bench_calibrator 22 wanted ≡ refused_with 12)
lookups_say wanted =
    let rows = refusal_rows.lookups in (rows.eleven_below.1 wanted, rows.eleven_above.1 wanted, rows.twelve_at_first.1 wanted, rows.twelve_at_last.1 wanted)
