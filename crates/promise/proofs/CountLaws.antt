-- The count behind a temperature, about lists: what is kept after a list of feeds are the channels of the roll's last record, so that the answer is
-- what the roll says; the constants that are kept are in their ranges, so that T rises with the count.
use Prim.Native.Nat.{ℕ, ◌+◌, ◌-◌, ◌<◌, ◌≤◌}
use native.Mathlib.Omega.{arith}
use mathlib.Core.Path.{◌≡◌, refl, sym, ap, subst, subst₂, fun_ext, ◌∙◌}
use mathlib.Core.List.{List, [], ◌∷◌}
use mathlib.Core.Bool.{Bool, true, false, cond}
use lib.Dec.{eqb}
use lib.IntN.{ℤ, pos, ◌-ℤ◌}
use lib.Signed.{◌<ℤ◌}
use borrow.Author.Tests.{eqb-true, eq-eqb, le-leb}
use lib.ListN.{get_or}
use Rattle.std.specs.Prelude.{None, Some, Ok}
use Rattle.lists.specs.All.{All}
use Rattle.lists.specs.Tests.{Verdict}
use Rattle.lists.proofs.Tabulate.{get_d_tabulate}
use Rattle.instrument.specs.Instrument.{channels, target_of}
use Rattle.thermometer.specs.Reading.{from_to}
use Rattle.table.specs.declared.Table.{Table}
use Rattle.table.specs.Settings.{Settings, settings_of}
use Rattle.table.specs.Opening.{ages}
use Rattle.table.proofs.Ranges.{in_between}
use Rattle.bias.specs.declared.Bias.{Bias}
use Rattle.bias.specs.Bias.{zero_bias}
use Rattle.bias.proofs.Zeros.{zero_bias_accepted}
use Rattle.window.specs.Means.{Tw, Tc, constants_of, channel_state_of}
use Rattle.scene.specs.declared.Constants.{Constants}
use Rattle.scene.specs.Channel.{Channel, channel_flag}
use Rattle.scene.proofs.Channels.{channel_unflagged, flag_of_channel}
use Rattle.scene.specs.Ranges.{ConstantsRange}
use Rattle.scene.specs.Temperature.{temperature}
use Rattle.scene.specs.BeforeBias.{TOrMark, just_t, flagged_mark, by_tests, before_bias}
use Rattle.scene.proofs.Delivered.{N_is_numerator}
use Rattle.scene.proofs.Rises.{temperature_rises_with_count}
use Rattle.scene.proofs.Placed.{just_not_outside, just_temperature}
use Rattle.window.proofs.FlagLaws.{flag_at_most_four}
use Rattle.product.specs.Scenes.{no_channel}
use Rattle.product.specs.Ranges.{ChannelRange}
use Rattle.lastscan.specs.LastScan.{LastScan}
use Rattle.lastscan.specs.Ranges.{LastRange}
use Rattle.lookup.specs.Lookup.{Found, found_count, delivered_with, lookup_verdict, found_if, count_that, scenes_before_bias, count_behind}
use Rattle.lookup.proofs.SearchLaws.{not_both, none_found, found_fits, only_one_fits}
use Rattle.lookup.proofs.FitLaws.{fits_just, just_fits, only_count_fits}
use Rattle.lookup.proofs.AnswerLaws.{found_outside, found_not_calibrated, found_calibrated}
use Rattle.calibrator.specs.declared.Calibrator.{Calibrator}
use Rattle.calibrator.specs.Feeding.{Feed, Sound, fresh_of, step, calibrator_after, AllOfBytes}
use Rattle.calibrator.proofs.SoundLaws.{fresh_is_sound, sound_after_step}
use Rattle.promise.specs.Roll.{Roll, verdict_at, joined_by, joined}
use Rattle.promise.specs.Restart.{rolled_by}
use Rattle.promise.specs.Outcomes.{fed_moment}
use Rattle.promise.specs.Moments.{Moment, means_at, shelf_at, tnl_at, d_at, channels_at}
use Rattle.promise.specs.Promise.{Alike}
use Rattle.promise.specs.SameScenes.{flag_at, scene_before_bias, FedChannel, settings_of_fed, moment_of_fed, fed_flag, fed_scene}
use Rattle.promise.specs.CountBehind.{answer_of, answer_of_roll, CountsBehind, SameAfterRestart, FedBytes, HigherCountHigherT, AnswerSays, AnswersSay}
use Rattle.promise.proofs.HistoryLaws.{last_of, fresh_is_empty_roll}
use Rattle.promise.proofs.RestartLaws.{after_is, kept_by_lem, kept_after_restart}
use Rattle.promise.proofs.AlikeLaws.{SameRolls, same_rolls}

-- ---- a channel of a moment
module _ (s : Settings) (m : Moment) (c : ℕ) where
  abbrev constants_at : Constants
  constants_at = constants_of (means_at s m c) (s.channel c) (shelf_at s m c)

  -- with flag 0 its scenes are those of its constants
  scene_of_constants : flag_at s m c ≡ 0 → (count : ℕ) → before_bias constants_at count ≡ scene_before_bias s m c (pos count)
  unfolding constants_of
  scene_of_constants zero_flag count =
      let sums = means_at s m c in
      let channel = s.channel c in
      rw (eq-eqb (flag_at s m c) 0 zero_flag)
      (ap (λ n. by_tests n (d_at s m c) (temperature (Tc channel) (Tw sums channel -ℤ Tc channel) (tnl_at s m c) (d_at s m c) n)) (sym (N_is_numerator constants_at (pos sums.Ww) (pos sums.Wc) (pos sums.Ac) count refl refl)))

  module _ (below : c < channels) where
    abbrev kept : Channel
    kept = get_or (channels_at s m) c no_channel

    kept_state : kept ≡ channel_state_of s c (shelf_at s m c) (means_at s m c)
    kept_state = get_d_tabulate (λ c. channel_state_of s c (shelf_at s m c) (means_at s m c)) channels c no_channel below

    kept_flag : channel_flag kept ≡ flag_at s m c
    unfolding channel_state_of
    kept_flag = ap channel_flag kept_state ∙ flag_of_channel (flag_at s m c) constants_at (flag_at_most_four s (target_of c) (means_at s m c))

    kept_constants : flag_at s m c ≡ 0 → kept ≡ Ok constants_at
    unfolding channel_state_of
    kept_constants zero_flag = kept_state ∙ channel_unflagged (flag_at s m c) constants_at zero_flag

-- ---- what the roll says is answered by what is kept of it
module _ (s : Settings) (channel wanted : ℕ) where
  same_when_outside : (last : LastScan) (accepted : Bool) (flag : ℕ) (scenes : ℕ → TOrMark) → from_to 1 channels channel ≡ false
      → count_behind last channel wanted ≡ found_if (lookup_verdict channel accepted flag) scenes wanted
  same_when_outside None accepted flag scenes outside =
      found_outside channel false 0 (λ count. flagged_mark) wanted outside ∙ sym (found_outside channel accepted flag scenes wanted outside)
  same_when_outside (Some all) accepted flag scenes outside =
      let kept = get_or all (channel - 1) no_channel in
      found_outside channel true (channel_flag kept) (scenes_before_bias kept) wanted outside ∙ sym (found_outside channel accepted flag scenes wanted outside)

  module _ (scan : List ℕ) (roll : Roll) where
    abbrev m : Moment
    m = fed_moment roll scan

    abbrev c : ℕ
    c = channel - 1

    by_flag : (unflagged : Bool) → eqb (flag_at s m c) 0 ≡ unflagged → from_to 1 channels channel ≡ true → c < channels
        → count_behind (Some (channels_at s m)) channel wanted ≡ answer_of_roll s (scan ∷ roll) channel wanted
    by_flag false flagged inside below =
        let kept : Channel = get_or (channels_at s m) c no_channel in
        found_not_calibrated channel true (channel_flag kept) (scenes_before_bias kept) wanted inside (ap (λ (n : ℕ). eqb n 0) (kept_flag s m c below) ∙ flagged)
        ∙ sym (found_not_calibrated channel true (flag_at s m c) (λ count. scene_before_bias s m c (pos count)) wanted inside flagged)
    by_flag true unflagged inside below =
        let zero_flag = eqb-true (flag_at s m c) 0 unflagged in
        let kept : Channel = get_or (channels_at s m) c no_channel in
        found_calibrated channel true (channel_flag kept) (scenes_before_bias kept) wanted inside (ap (λ (n : ℕ). eqb n 0) (kept_flag s m c below) ∙ unflagged)
        ∙ ap (λ (state : Channel). count_that (λ count. delivered_with wanted (scenes_before_bias state count)) 65536) (kept_constants s m c below zero_flag)
        ∙ ap (λ (scenes : ℕ → TOrMark). count_that (λ count. delivered_with wanted (scenes count)) 65536) (fun_ext (scene_of_constants s m c zero_flag))
        ∙ sym (found_calibrated channel true (flag_at s m c) (λ count. scene_before_bias s m c (pos count)) wanted inside unflagged)

    last_answers : (inside : Bool) → from_to 1 channels channel ≡ inside → count_behind (Some (channels_at s m)) channel wanted ≡ answer_of_roll s (scan ∷ roll) channel wanted
    last_answers false e = same_when_outside (Some (channels_at s m)) true (flag_at s m c) (λ count. scene_before_bias s m c (pos count)) e
    last_answers true e = by_flag (eqb (flag_at s m c) 0) refl e (let number : (1 ≤ channel) × (channel ≤ channels) = in_between {low = 1} {high = channels} {x = channel} e in omega arith)

  roll_answers : (roll : Roll) → count_behind (last_of s roll) channel wanted ≡ answer_of_roll s roll channel wanted
  roll_answers [] = refl
  roll_answers (scan ∷ roll) = last_answers scan roll (from_to 1 channels channel) refl

-- ---- after a list of feeds from a fresh calibrator
module _ (table : Table) (bias : Bias) where
  kept_after : (feeds : List Feed) → (calibrator_after (fresh_of table bias) feeds).last ≡ last_of (settings_of ages table.bytes) (rolled_by [] feeds)
  kept_after feeds =
      ap (λ (c : Calibrator). (calibrator_after c feeds).last) (fresh_is_empty_roll table bias) ∙ ap (λ (c : Calibrator). c.last) (after_is table bias feeds [] tt)

-- two alike lists leave rolls that nothing tells apart
rolls_alike : (s : Settings) (feeds others : List Feed) (roll rolled : Roll) → SameRolls s roll rolled → Alike s roll rolled feeds others
    → SameRolls s (rolled_by roll feeds) (rolled_by rolled others)
unfolding Alike rolled_by
rolls_alike s [] [] roll rolled same e = same
rolls_alike s [] (other ∷ rest) roll rolled same e = absurd e
rolls_alike s (feed ∷ more) [] roll rolled same e = absurd e
rolls_alike s (feed ∷ more) (other ∷ rest) roll rolled same e =
    let both = same_rolls s (verdict_at roll feed) roll rolled feed other e.0.scans same in
    rolls_alike s more rest (joined roll feed) (joined rolled other) (subst (λ (v : Verdict). SameRolls s (joined roll feed) (joined_by v rolled other)) e.0.verdicts both) e.1

pub counts_behind : CountsBehind
counts_behind table accepted bias file feeds others =
    let s = settings_of ages table.bytes in
    record {
      answers = λ channel wanted. ap (λ (last : LastScan). count_behind last channel wanted) (kept_after table bias feeds) ∙ roll_answers s channel wanted (rolled_by [] feeds);
      alike = λ e channel wanted.
          let same = rolls_alike s feeds others [] [] (record { last = refl; scans = refl; kept = refl }) e in
          ap (λ (last : LastScan). count_behind last channel wanted) (kept_after table bias feeds ∙ same.kept ∙ sym (kept_after table bias others));
    }

pub same_after_restart : SameAfterRestart
same_after_restart table bias before feed buffer room e channel wanted = ap (λ (last : LastScan). count_behind last channel wanted) (kept_after_restart table bias before feed buffer room e)

-- ---- the constants that are kept are in their ranges
sound_after : (feeds : List Feed) → AllOfBytes feeds → {c : Calibrator} → Sound c → Sound (calibrator_after c feeds)
unfolding All calibrator_after
sound_after [] bytes sound = sound
sound_after (feed ∷ more) bytes sound = sound_after more bytes.1 (sound_after_step sound feed bytes.0)

module _ (f : FedChannel) where
  abbrev s : Settings
  s = settings_of_fed f

  abbrev of_table : Table
  of_table = record { bytes = f.table }

  abbrev fed_constants : Constants
  fed_constants = constants_at s (moment_of_fed f) f.channel

  abbrev handed_back : Bias → Calibrator
  handed_back bias = (step (calibrator_after (fresh_of of_table bias) f.before) f.feed).calibrator

  kept_of_fed : (bias : Bias) → (handed_back bias).last ≡ Some (channels_at s (moment_of_fed f))
  kept_of_fed bias = kept_by_lem of_table bias f.before f.feed ∙ ap (λ (v : Verdict). last_of s (joined_by v (rolled_by [] f.before) f.feed)) f.feed_accepted

  module _ (bytes : FedBytes f) (zero_flag : fed_flag f ≡ 0) where
    constants_fed : ConstantsRange fed_constants
    constants_fed =
        let bias : Bias = record { bytes = zero_bias } in
        let sound = sound_after_step (sound_after f.before bytes.0 (fresh_is_sound f.table_accepted zero_bias_accepted)) f.feed bytes.1 in
        let range : LastRange (Some (channels_at s (moment_of_fed f))) = subst LastRange (kept_of_fed bias) sound.last in
        subst ChannelRange (kept_constants s (moment_of_fed f) f.channel f.is_channel zero_flag) (range.each f.channel f.is_channel)

  -- a delivered scene has flag 0
  just_by_flag : (unflagged : Bool) (x : TOrMark) (t : ℤ) → cond unflagged x flagged_mark ≡ just_t t → unflagged ≡ true
  just_by_flag true x t e = refl
  just_by_flag false x t e = let clash : ◌≡◌ {A = ℕ} 0 1 = cc in absurd (omega arith)

  just_has_flag_zero : (count : ℕ) (t : ℤ) → fed_scene f (pos count) ≡ just_t t → fed_flag f ≡ 0
  just_has_flag_zero count t e = eqb-true (fed_flag f) 0 (just_by_flag (eqb (fed_flag f) 0) _ t e)

  just_of_constants : (count : ℕ) (t : ℤ) → fed_scene f (pos count) ≡ just_t t → before_bias fed_constants count ≡ just_t t
  just_of_constants count t e = scene_of_constants s (moment_of_fed f) f.channel (just_has_flag_zero count t e) count ∙ e

t_rises : (f : FedChannel) → FedBytes f → (count higher : ℕ) (t u : ℤ) → count < higher → fed_scene f (pos count) ≡ just_t t → fed_scene f (pos higher) ≡ just_t u → t <ℤ u
t_rises f bytes count higher t u more low high =
    let k = fed_constants f in
    let range = constants_fed f bytes (just_has_flag_zero f count t low) in
    let one = just_of_constants f count t low in
    let other = just_of_constants f higher u high in
    let first = just_not_outside k count t one in
    let second = just_not_outside k higher u other in
    subst₂ ◌<ℤ◌ (just_temperature k count t one) (just_temperature k higher u other)
    (temperature_rises_with_count range more first.low first.high second.low second.high)

pub higher_count_higher_t : HigherCountHigherT
higher_count_higher_t f bytes count higher t u more low high = t_rises f bytes count higher t u more low high

-- ---- what an answer says
module _ (f : FedChannel) (bytes : FedBytes f) (zero_flag : fed_flag f ≡ 0) (wanted : ℕ) where
  abbrev fits : ℕ → Bool
  fits count = delivered_with wanted (fed_scene f (pos count))

  -- the channel is counted from 1
  numbered : from_to 1 channels (f.channel + 1) ≡ true
  numbered = let below = f.is_channel in rw (le-leb 1 (f.channel + 1) (omega arith), le-leb (f.channel + 1) channels (omega arith))

  answer_is : (bias : Bias) → answer_of (handed_back f bias) (f.channel + 1) wanted ≡ count_that fits 65536
  answer_is bias =
      let roll = rolled_by [] f.before in
      let place : f.channel + 1 - 1 ≡ f.channel = omega arith in
      ap (λ (last : LastScan). count_behind last (f.channel + 1) wanted) (kept_of_fed f bias)
      ∙ roll_answers (settings_of_fed f) (f.channel + 1) wanted (f.feed.scan ∷ roll)
      ∙ ap (λ (c : ℕ). found_if (lookup_verdict (f.channel + 1) true (flag_at (settings_of_fed f) (moment_of_fed f) c)) (λ count. scene_before_bias (settings_of_fed f) (moment_of_fed f) c (pos count)) wanted) place
      ∙ found_calibrated (f.channel + 1) true (fed_flag f) (λ count. fed_scene f (pos count)) wanted numbered (eq-eqb (fed_flag f) 0 zero_flag)

  only_fits : (count other : ℕ) → fits count ≡ true → fits other ≡ true → count ≡ other
  only_fits count other one two =
      let just : (c : ℕ) → fits c ≡ true → delivered_with wanted (before_bias (fed_constants f) c) ≡ true = λ c fit. just_fits wanted (just_of_constants f c (pos wanted) (fits_just wanted (fed_scene f (pos c)) fit)) in
      only_count_fits (constants_fed f bytes zero_flag) wanted count other (just count one) (just other two)

  only_found : (count : ℕ) → count ≤ 65535 → fed_scene f (pos count) ≡ just_t (pos wanted) → count_that fits 65536 ≡ found_count count
  only_found count inside e =
      let fit = just_fits wanted e in
      only_one_fits fits 65536 count (omega arith) fit (λ other below also. only_fits other count also fit)

  says : (answer : Found) → answer ≡ count_that fits 65536 → AnswerSays f answer wanted
  says answer is = record {
    found = λ n e. let fit = found_fits fits 65536 n (sym is ∙ e) in (omega arith, fits_just wanted (fed_scene f (pos n)) fit.1);
    only = λ count inside e. is ∙ only_found count inside e;
    none = λ e count inside fit. not_both (just_fits wanted fit) (none_found fits 65536 (sym is ∙ e) count (omega arith));
  }

pub answers_say : AnswersSay
answers_say f bytes zero_flag bias wanted = says f bytes zero_flag wanted _ (answer_is f bytes zero_flag wanted bias)
