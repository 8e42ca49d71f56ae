-- A product depends on the window's records alone: the roll of these records keeps the same scans by age, and feeding them again, in
-- order, is accepted.
use Prim.Native.Nat.{ℕ, ◌+◌, ◌<◌, ◌≤◌}
use native.Mathlib.Omega.{arith}
use mathlib.Core.Path.{◌≡◌, refl, sym, ap, ◌∙◌}
use mathlib.Core.List.{List, [], ◌∷◌, ◌++◌}
use mathlib.Core.Bool.{Bool, true, false, cond}
use lib.Dec.{eqb, ltb}
use lib.ListN.{length, drop}
use borrow.Author.Tests.{ne_eqb, lt-leb, ltb-false}
use Rattle.std.specs.Prelude.{None, Some, IfSome}
use Rattle.lists.specs.Tests.{Verdict, passes, fails}
use Rattle.fields.specs.Fields.{layout_size, layout_is_right}
use Rattle.lists.proofs.Tabulate.{tabulate_same}
use Rattle.table.specs.declared.Table.{Table}
use Rattle.table.specs.Settings.{Settings, settings_of}
use Rattle.instrument.specs.Instrument.{channels}
use Rattle.table.specs.Opening.{ages}
use Rattle.acceptance.specs.declared.Scan.{Scan}
use Rattle.record.specs.Record.{record_layout, scan_number, earth_counts}
use Rattle.window.specs.declared.Window.{Window}
use Rattle.scene.specs.Channel.{Channel}
use Rattle.window.specs.Sums.{means_of, means_in}
use Rattle.window.specs.Means.{channel_state_of}
use Rattle.window.proofs.AgeLaws.{ScanShape, means_of_scans}
use Rattle.bias.specs.declared.Bias.{Bias}
use Rattle.product.specs.Scenes.{Deliver, by_bias}
use Rattle.product.specs.Product.{product_layout, product_of, delivered_count}
use Rattle.calibrator.specs.declared.Calibrator.{Calibrator}
use Rattle.calibrator.specs.Refusals.{not_above, delivered}
use Rattle.calibrator.specs.Feeding.{Feed, kept_by, fresh_of, step, calibrator_after, outcome_after}
use Rattle.promise.specs.Roll.{Roll, last_number, verdict_at, joined_by, joined}
use Rattle.promise.specs.Moments.{shelf_at, channels_at}
use Rattle.promise.specs.Restart.{rolled_by, recent, feeds_of, Restart}
use Rattle.calibrator.proofs.Verdicts.{verdict_passes, passes_facts}
use Rattle.promise.proofs.RollLaws.{scan_of_age, NumbersToLast}
use Rattle.promise.proofs.SampleLaws.{means_at_is}
use Rattle.promise.specs.Outcomes.{fed_moment, outcome_by, outcome_at}
use Rattle.promise.proofs.HistoryLaws.{last_of, calibrator_of, by_age_shape, window_same, numbers_joined, calibrator_after_lem, outcome_after_lem, fresh_is_empty_roll}

-- ---- a roll that feeds have made: each record is well formed, and its number is above all before it
abbrev NumbersBelow : Roll → ℕ → Type 0
NumbersBelow [] n = Unit {0}
NumbersBelow (scan ∷ roll) n = (scan_number scan < n) × NumbersBelow roll n

abbrev Made : Roll → Type 0
Made [] = Unit {0}
Made (scan ∷ roll) = ((length scan ≡ layout_size record_layout) × (layout_is_right scan 0 record_layout ≡ true)) × (NumbersBelow roll (scan_number scan) × Made roll)

below_further : (roll : Roll) {m n : ℕ} → m ≤ n → NumbersBelow roll m → NumbersBelow roll n
below_further [] h k = tt
below_further (scan ∷ roll) h k = (omega (arith, h, k.0), below_further roll h k.1)

-- the last number of a roll is its greatest
below_when_last : (roll : Roll) (n : ℕ) → Made roll → IfSome (last_number roll) (λ last. last < n) → NumbersBelow roll n
below_when_last [] n made above = tt
below_when_last (scan ∷ roll) n made above = (above, below_further roll (omega (arith, above)) made.1.0)

last_when_below : (roll : Roll) (scan : List ℕ) → NumbersBelow roll (scan_number scan) → not_above (last_number roll) scan ≡ false
last_when_below [] scan below = refl
last_when_below (last ∷ roll) scan below = lt-leb (scan_number scan) (scan_number last) below.0

made_joined : (v : Verdict) (roll : Roll) (feed : Feed) → verdict_at roll feed ≡ v → Made roll → Made (joined_by v roll feed)
made_joined (fails n) roll feed e made = made
made_joined passes roll feed e made =
    let passed = passes_facts (last_number roll) feed.scan (length feed.buffer) e in
    ((passed.long, passed.right), (below_when_last roll (scan_number feed.scan) made passed.above, made))

made_by : (feeds : List Feed) (roll : Roll) → Made roll → Made (rolled_by roll feeds)
unfolding rolled_by
made_by [] roll made = made
made_by (feed ∷ more) roll made = made_by more (joined roll feed) (made_joined (verdict_at roll feed) roll feed refl made)

-- ---- the records of the window are such a roll too
recent_below : (number : ℕ) (roll : Roll) (n : ℕ) → NumbersBelow roll n → NumbersBelow (recent number roll) n
unfolding recent
recent_below number [] n below = tt
recent_below number (scan ∷ roll) n below = go (ltb number (scan_number scan + ages)) (recent_below number roll n below.1)
  where
    go : (t : Bool) → NumbersBelow (recent number roll) n → NumbersBelow (cond t (scan ∷ recent number roll) (recent number roll)) n
    go true older = (below.0, older)
    go false older = older

recent_made : (number : ℕ) (roll : Roll) → Made roll → Made (recent number roll)
unfolding recent
recent_made number [] made = tt
recent_made number (scan ∷ roll) made = go (ltb number (scan_number scan + ages)) (recent_made number roll made.1.1)
  where
    go : (t : Bool) → Made (recent number roll) → Made (cond t (scan ∷ recent number roll) (recent number roll))
    go true older = (made.0, (recent_below number roll (scan_number scan) made.1.0, older))
    go false older = older

-- ---- feeding them again is accepted, and makes that roll
pub rolled_append : (feeds more : List Feed) (roll : Roll) → rolled_by roll (feeds ++ more) ≡ rolled_by (rolled_by roll feeds) more
unfolding rolled_by
rolled_append [] more roll = refl
rolled_append (feed ∷ feeds) more roll = rolled_append feeds more (joined roll feed)

module _ (buffer : List ℕ) (room : layout_size product_layout ≤ length buffer) where
  again_passes : (scan : List ℕ) (roll : Roll) → Made (scan ∷ roll) → verdict_at roll (record { scan = scan; buffer = buffer }) ≡ passes
  again_passes scan roll made =
      verdict_passes (last_number roll) scan (length buffer) made.0.0 made.0.1 (last_when_below roll scan made.1.0) room

  again_rolls : (roll : Roll) → Made roll → rolled_by [] (feeds_of buffer roll) ≡ roll
  unfolding rolled_by feeds_of
  again_rolls [] made = refl
  again_rolls (scan ∷ roll) made =
      let feed : Feed = record { scan = scan; buffer = buffer } in
      rolled_append (feeds_of buffer roll) (feed ∷ []) []
      ∙ ap (λ (r : Roll). joined r feed) (again_rolls roll made.1.1)
      ∙ ap (λ (v : Verdict). joined_by v roll feed) (again_passes scan roll made)

-- ---- the same scans by age
module _ (s : Settings) where
  recent_same : (number : ℕ) (roll : Roll) (k : ℕ) → k < ages → scan_of_age s roll number k ≡ scan_of_age s (recent number roll) number k
  unfolding scan_of_age recent
  recent_same number [] k inside = refl
  recent_same number (scan ∷ roll) k inside = go (ltb number (scan_number scan + ages)) refl (recent_same number roll k inside)
    where
      go : (t : Bool) → ltb number (scan_number scan + ages) ≡ t → scan_of_age s roll number k ≡ scan_of_age s (recent number roll) number k
          → cond (eqb (scan_number scan + k) number) (kept_by s scan) (scan_of_age s roll number k) ≡ scan_of_age s (cond t (scan ∷ recent number roll) (recent number roll)) number k
      go true e older = ap (λ (x : Scan). cond (eqb (scan_number scan + k) number) (kept_by s scan) x) older
      go false e older =
          let late : scan_number scan + ages ≤ number = ltb-false number (scan_number scan + ages) e in
          rw (ne_eqb (scan_number scan + k) number (λ same. omega arith)) older

  means_same : s.ages ≤ ages → (f g : ℕ → Scan) → ((k : ℕ) → ScanShape (f k)) → ((k : ℕ) → ScanShape (g k)) → ((k : ℕ) → k < ages → f k ≡ g k) → (c : ℕ) → c < channels → means_of s f c ≡ means_of s g c
  means_same few f g shapes others e c inside =
      sym (means_of_scans s few None f shapes c inside)
      ∙ ap (λ (w : Window). means_in s w c) (window_same None f g e)
      ∙ means_of_scans s few None g others c inside

  joined_recent : (scan : List ℕ) (roll : Roll) (k : ℕ) → k < ages
      → scan_of_age s (scan ∷ roll) (scan_number scan) k ≡ scan_of_age s (scan ∷ recent (scan_number scan) roll) (scan_number scan) k
  unfolding scan_of_age
  joined_recent scan roll k inside = ap (λ (x : Scan). cond (eqb (scan_number scan + k) (scan_number scan)) (kept_by s scan) x) (recent_same (scan_number scan) roll k inside)

  channels_recent : s.ages ≤ ages → (scan : List ℕ) (roll : Roll) → channels_at s (fed_moment roll scan) ≡ channels_at s (fed_moment (recent (scan_number scan) roll) scan)
  channels_recent few scan roll =
      let older = recent (scan_number scan) roll in
      tabulate_same _ _ channels (λ c inside.
      ap (channel_state_of s c (shelf_at s (fed_moment roll scan) c))
      (means_at_is s (fed_moment roll scan) c inside
      ∙ means_same few _ _ (λ k. by_age_shape s (scan ∷ roll) (scan_number scan) k) (λ k. by_age_shape s (scan ∷ older) (scan_number scan) k) (λ k below. joined_recent scan roll k below) c inside
      ∙ sym (means_at_is s (fed_moment older scan) c inside)))

-- ---- a feed that the roll accepts is accepted by the records of its window
recent_passes : (feed : Feed) (roll : Roll) → Made roll → verdict_at roll feed ≡ passes → verdict_at (recent (scan_number feed.scan) roll) feed ≡ passes
recent_passes feed roll made e =
    let number = scan_number feed.scan in
    let passed = passes_facts (last_number roll) feed.scan (length feed.buffer) e in
    let older = below_when_last roll number made passed.above in
    verdict_passes (last_number (recent number roll)) feed.scan (length feed.buffer) passed.long passed.right (last_when_below (recent number roll) feed.scan (recent_below number roll number older)) passed.room

-- and it leaves the same channels
recent_kept : (s : Settings) → s.ages ≤ ages → (feed : Feed) (roll : Roll) → Made roll → verdict_at roll feed ≡ passes
    → last_of s (joined roll feed) ≡ last_of s (joined (recent (scan_number feed.scan) roll) feed)
recent_kept s few feed roll made e =
    let older = recent (scan_number feed.scan) roll in
    ap (λ (v : Verdict). last_of s (joined_by v roll feed)) e
    ∙ ap Some (channels_recent s few feed.scan roll)
    ∙ sym (ap (λ (v : Verdict). last_of s (joined_by v older feed)) (recent_passes feed roll made e))

-- ---- the law
module _ (table : Table) (bias : Bias) where
  abbrev of_table : Settings
  of_table = settings_of ages table.bytes

  abbrev of_bias : ℕ → Deliver
  of_bias = by_bias bias.bytes

  pub after_is : (feeds : List Feed) (roll : Roll) → NumbersToLast roll → calibrator_after (calibrator_of table bias roll) feeds ≡ calibrator_of table bias (rolled_by roll feeds)
  unfolding calibrator_after rolled_by
  after_is [] roll numbers = refl
  after_is (feed ∷ more) roll numbers =
      ap (λ (c : Calibrator). calibrator_after c more) (calibrator_after_lem table bias roll feed numbers)
      ∙ after_is more (joined roll feed) (numbers_joined (verdict_at roll feed) roll feed refl numbers)

  numbers_by : (feeds : List Feed) (roll : Roll) → NumbersToLast roll → NumbersToLast (rolled_by roll feeds)
  unfolding rolled_by
  numbers_by [] roll numbers = numbers
  numbers_by (feed ∷ more) roll numbers = numbers_by more (joined roll feed) (numbers_joined (verdict_at roll feed) roll feed refl numbers)

  pub left_by_lem : (feeds : List Feed) (feed : Feed) → outcome_after (fresh_of table bias) feeds feed ≡ outcome_at (settings_of ages table.bytes) (by_bias bias.bytes) (rolled_by [] feeds) feed
  left_by_lem feeds feed =
      ap (λ (c : Calibrator). (step (calibrator_after c feeds) feed).outcome) (fresh_is_empty_roll table bias)
      ∙ ap (λ (c : Calibrator). (step c feed).outcome) (after_is feeds [] tt)
      ∙ outcome_after_lem table bias (rolled_by [] feeds) feed (numbers_by feeds [] tt)

  both_accepted : (feed : Feed) (roll : Roll) → Made roll → verdict_at roll feed ≡ passes → outcome_at of_table of_bias roll feed ≡ outcome_at of_table of_bias (recent (scan_number feed.scan) roll) feed
  both_accepted feed roll made e =
      let number = scan_number feed.scan in
      let again = recent_passes feed roll made e in
      ap (λ (v : Verdict). outcome_by of_table of_bias v roll feed) e
      ∙ ap (λ (all : List Channel). record { reply = delivered (delivered_count of_bias all (earth_counts feed.scan)); buffer = product_of of_bias number all (earth_counts feed.scan) ++ drop (layout_size product_layout) feed.buffer }) (channels_recent of_table (omega arith) feed.scan roll)
      ∙ sym (ap (λ (v : Verdict). outcome_by of_table of_bias v (recent number roll) feed) again)

  -- what is kept after a feed
  pub kept_by_lem : (feeds : List Feed) (feed : Feed) → (step (calibrator_after (fresh_of table bias) feeds) feed).calibrator.last ≡ last_of (settings_of ages table.bytes) (joined (rolled_by [] feeds) feed)
  kept_by_lem feeds feed =
      ap (λ (c : Calibrator). (step (calibrator_after c feeds) feed).calibrator.last) (fresh_is_empty_roll table bias)
      ∙ ap (λ (c : Calibrator). (step c feed).calibrator.last) (after_is feeds [] tt)
      ∙ ap (λ (c : Calibrator). c.last) (calibrator_after_lem table bias (rolled_by [] feeds) feed (numbers_by feeds [] tt))

  pub kept_after_restart : (before : List Feed) (feed : Feed) (buffer : List ℕ) → layout_size product_layout ≤ length buffer → verdict_at (rolled_by [] before) feed ≡ passes
      → (step (calibrator_after (fresh_of table bias) before) feed).calibrator.last
      ≡ (step (calibrator_after (fresh_of table bias) (feeds_of buffer (recent (scan_number feed.scan) (rolled_by [] before)))) feed).calibrator.last
  kept_after_restart before feed buffer room e =
      let roll = rolled_by [] before in
      let number = scan_number feed.scan in
      let made = made_by before [] tt in
      kept_by_lem before feed
      ∙ recent_kept of_table (omega arith) feed roll made e
      ∙ ap (λ (r : Roll). last_of of_table (joined r feed)) (sym (again_rolls buffer room (recent number roll) (recent_made number roll made)))
      ∙ sym (kept_by_lem (feeds_of buffer (recent number roll)) feed)

  pub restart : Restart (fresh_of table bias)
  restart = record {
    same = λ before feed buffer room e.
        let roll = rolled_by [] before in
        let number = scan_number feed.scan in
        left_by_lem before feed
        ∙ both_accepted feed roll (made_by before [] tt) e
        ∙ ap (λ (r : Roll). outcome_at of_table of_bias r feed) (sym (again_rolls buffer room (recent number roll) (recent_made number roll (made_by before [] tt))))
        ∙ sym (left_by_lem (feeds_of buffer (recent number roll)) feed);
  }
