-- Request W5, the count behind a temperature, about lists of feeds: by the means, the flag and the shelf of the last accepted scan. Channels are
-- counted from 1; T is in units, before scan bias.
use Rattle.std.specs.Prelude.{ℕ, ◌+◌, ◌-◌, ◌<◌, ◌≤◌, ◌≡◌, List, [], ◌∷◌, true, false, ℤ, pos, ◌<ℤ◌, length}
use Rattle.lists.specs.Tests.{passes}
use Rattle.product.specs.Product.{product_size}
use Rattle.table.specs.declared.Table.{Table}
use Rattle.table.specs.Settings.{Settings, settings_of}
use Rattle.table.specs.Opening.{ages, AcceptedTable}
use Rattle.bias.specs.declared.Bias.{Bias}
use Rattle.bias.specs.Opening.{AcceptedBias}
use Rattle.scene.specs.BeforeBias.{just_t, flagged_mark}
use Rattle.lookup.specs.Lookup.{Found, found_count, no_count, lookup_verdict, found_if, count_behind}
use Rattle.calibrator.specs.declared.Calibrator.{Calibrator}
use Rattle.calibrator.specs.Feeding.{Feed, fresh_of, step, calibrator_after, OfBytes, AllOfBytes}
use Rattle.promise.specs.Roll.{Roll, verdict_at}
use Rattle.promise.specs.Restart.{rolled_by, window_feeds}
use Rattle.promise.specs.Outcomes.{fed_moment}
use Rattle.promise.specs.Promise.{Alike}
use Rattle.promise.specs.SameScenes.{flag_at, scene_before_bias, FedChannel, fed_flag, fed_scene}

-- what a calibrator answers
abbrev pub answer_of : Calibrator → (channel wanted : ℕ) → Found
answer_of c channel wanted = count_behind c.last channel wanted

-- what the roll says: its last record with the records that stand; 12 while it is empty
abbrev pub answer_of_roll : Settings → Roll → (channel wanted : ℕ) → Found
answer_of_roll s [] channel wanted = found_if (lookup_verdict channel false 0) (λ count. flagged_mark) wanted
answer_of_roll s (scan ∷ roll) channel wanted =
    let m = fed_moment roll scan in let c = channel - 1 in
    found_if (lookup_verdict channel true (flag_at s m c)) (λ count. scene_before_bias s m c (pos count)) wanted

-- ---- for every accepted table, every accepted bias file, every list of feeds from a fresh calibrator, and every second list
pub record CountsClaim (fresh : Calibrator) (s : Settings) (feeds others : List Feed) : Type 0 where
  -- the calibrator answers what the roll says
  pub answers : (channel wanted : ℕ) → answer_of (calibrator_after fresh feeds) channel wanted ≡ answer_of_roll s (rolled_by [] feeds) channel wanted
  -- two alike lists give the same answers
  pub alike : Alike s [] [] feeds others
      → (channel wanted : ℕ) → answer_of (calibrator_after fresh feeds) channel wanted ≡ answer_of (calibrator_after fresh others) channel wanted

abbrev pub CountsBehind : Type 0
CountsBehind =
    (table : Table) → AcceptedTable table.bytes → (bias : Bias) → AcceptedBias bias.bytes → (feeds others : List Feed)
    → CountsClaim (fresh_of table bias) (settings_of ages table.bytes) feeds others

-- what a fresh calibrator answers that was fed a list of feeds and then one feed more
abbrev pub answer_after : Table → Bias → List Feed → Feed → (channel wanted : ℕ) → Found
answer_after table bias feeds feed = answer_of (step (calibrator_after (fresh_of table bias) feeds) feed).calibrator

-- ---- a calibrator that is fed the accepted records of the last scan's window, and then this scan, answers the same
abbrev pub SameAfterRestart : Type 0
SameAfterRestart =
    (table : Table) (bias : Bias) (before : List Feed) (feed : Feed) (buffer : List ℕ) → product_size ≤ length buffer → verdict_at (rolled_by [] before) feed ≡ passes
    → (channel wanted : ℕ) → answer_after table bias before feed channel wanted ≡ answer_after table bias (window_feeds before feed buffer) feed channel wanted

-- ---- a channel of feeds whose records are of bytes
abbrev pub FedBytes : FedChannel → Type 0
FedBytes f = AllOfBytes f.before × OfBytes f.feed

-- ---- of two delivered counts of a channel the higher has the higher T, roundings included
abbrev pub HigherCountHigherT : Type 0
HigherCountHigherT =
    (f : FedChannel) → FedBytes f → (count higher : ℕ) (t u : ℤ) → count < higher → fed_scene f (pos count) ≡ just_t t → fed_scene f (pos higher) ≡ just_t u → t <ℤ u

-- ---- so that no second count fits: in a channel with flag 0, after its feed, the answer is a count exactly where that count is delivered with
-- the wanted T, and none only where no count is
pub record AnswerSays (f : FedChannel) (answer : Found) (wanted : ℕ) : Type 0 where
  pub found : (n : ℕ) → answer ≡ found_count n → (n ≤ 65535) × (fed_scene f (pos n) ≡ just_t (pos wanted))
  pub only : (count : ℕ) → count ≤ 65535 → fed_scene f (pos count) ≡ just_t (pos wanted) → answer ≡ found_count count
  pub none : answer ≡ no_count → (count : ℕ) → count ≤ 65535 → fed_scene f (pos count) ≡ just_t (pos wanted) → ⊥

abbrev pub AnswersSay : Type 0
AnswersSay =
    (f : FedChannel) → FedBytes f → fed_flag f ≡ 0 → (bias : Bias) (wanted : ℕ)
    → AnswerSays f (answer_after (record { bytes = f.table }) bias f.before f.feed (f.channel + 1) wanted) wanted
