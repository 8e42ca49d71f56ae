-- The sums over the accepted samples are those over what the scans keep of them.
use Prim.Native.Nat.{ℕ, zero, suc, ◌+◌, ◌*◌, ◌-◌, ◌/◌, ◌<◌, ◌≤◌}
use native.Mathlib.Nat.{mul-zero}
use native.Mathlib.Omega.{arith}
use mathlib.Core.Path.{◌≡◌, refl, sym, ap, ap₂, fun_ext, subst, ◌∙◌}
use native.Mathlib.Decide.{dec_lt}
use mathlib.Core.List.{List, [], ◌∷◌, ◌++◌}
use mathlib.Core.Bool.{Bool, true, false, cond, false≢true}
use lib.Dec.{eqb, ltb}
use lib.ListN.{length, get_or, get_or-append}
use lib.Seq.{get_or-append-add}
use borrow.Author.Tests.{ne_eqb, ltb-false}
use Rattle.lists.specs.Build.{tabulate}
use Rattle.lists.specs.Sum.{sum}
use Rattle.lists.proofs.Sum.{sum_same}
use Rattle.lists.proofs.Tabulate.{length_tabulate, get_d_tabulate}
use Rattle.thermometer.specs.Rule.{InRange}
use Rattle.thermometer.specs.Reading.{Result, units, not_read}
use Rattle.thermometer.proofs.ReadingLaws.{reading_units_in_range}
use Rattle.instrument.specs.declared.Side.{Side}
use Rattle.instrument.specs.declared.Side.TheVariants.{Warm, Cold}
use Rattle.instrument.specs.declared.Target.{Target}
use Rattle.instrument.specs.declared.Target.TheVariants.{Kav, Wg}
use Rattle.table.specs.Settings.{Settings, ChannelSettings}
use Rattle.instrument.specs.Instrument.{channels, first_of, size_of, target_of}
use Rattle.acceptance.specs.declared.Scan.{Scan}
use Rattle.samples.specs.Good.{Sample, good, chosen_to, chosen, at_least}
use Rattle.acceptance.specs.Counts.{Sides, none, overlap, four_counts, within_limits, good_counts, without_overlap, accepted_sides, total, scan_value, no_counts}
use Rattle.acceptance.proofs.Chosen.{chosen_at_most, length_four_counts}
use Rattle.table.specs.declared.Limits.{Limits}
use Rattle.record.specs.Record.{scan_number, instrument, side_value, channel_part}
use Rattle.acceptance.specs.Accepted.{AcceptedSamples, accepted_samples, accepted_counts, accepted_thermometers, reading_at, in_kelvin, kelvins, in_limits}
use Rattle.acceptance.specs.Kept.{kept_side, kept_kelvin, kept_scan}
use Rattle.acceptance.proofs.Kelvin.{kelvin_low}
use Rattle.acceptance.proofs.KeptKelvin.{kept_of_chosen}
use Rattle.acceptance.proofs.Targets.{good_flags, length_kelvins, flagged_in_limits, kelvin_at}
use Rattle.window.specs.Sums.{weight_sum, value_sum, thermometer_weights, thermometer_sum, means_from, means_of}
use Rattle.window.specs.Ages.{no_scan}
use Rattle.calibrator.specs.Feeding.{kept_by}
use Rattle.promise.specs.Roll.{Roll}
use Rattle.promise.specs.Samples.{no_samples, samples_of_age, of_side, counts_in, thermometers_in, over, sums_of}
use Rattle.promise.specs.Moments.{Moment, current_number, means_at}
use Rattle.promise.proofs.RollLaws.{scan_of_age}

-- ---- counts: 0 is kept of a side without accepted counts, and else one more than the scan value
side_weight : (l : List Sample) (x : ℕ) → cond (none l) 0 x ≡ cond (eqb (kept_side l) 0) 0 x
side_weight [] x = refl
side_weight (a ∷ more) x = sym (ap (λ (b : Bool). cond b 0 x) (ne_eqb (kept_side (a ∷ more)) 0 (λ e. absurd (omega arith))))

side_value_lem : (l : List Sample) (w : ℕ) → cond (none l) 0 (w * scan_value l) ≡ cond (eqb (kept_side l) 0) 0 (w * (kept_side l - 1))
side_value_lem [] w = refl
side_value_lem (a ∷ more) w =
    let v = scan_value (a ∷ more) in
    let back : v + 1 - 1 ≡ v = omega arith in
    ap (λ n. w * n) (sym back)
    ∙ sym (ap (λ (b : Bool). cond b 0 (w * (v + 1 - 1))) (ne_eqb (v + 1) 0 (λ e. absurd (omega arith))))

abbrev kept_of : Side → Scan → List ℕ
kept_of Warm scan = scan.warm
kept_of Cold scan = scan.cold

kept_side_lem : (samples : AcceptedSamples) (side : Side) (c : ℕ) → c < channels → get_or (kept_of side (kept_scan samples)) c 0 ≡ kept_side (counts_in samples side c)
unfolding kept_scan
kept_side_lem samples Warm c below = get_d_tabulate (λ c. kept_side (get_or samples.counts c no_counts).warm) channels c 0 below
kept_side_lem samples Cold c below = get_d_tabulate (λ c. kept_side (get_or samples.counts c no_counts).cold) channels c 0 below

-- ---- thermometers
over_append : (f : Sample → ℕ) (a b : List Sample) → over f (a ++ b) ≡ over f a + over f b
over_append f [] b = omega arith
over_append f (x ∷ a) b = let e = over_append f a b in omega arith

over_chosen : (f : Sample → ℕ) (values : List ℕ) (flags : List Bool) (n : ℕ)
    → over f (chosen_to values flags n) ≡ sum (λ i. cond (get_or flags i false) (f (record { place = i; value = get_or values i 0 })) 0) n
unfolding chosen_to sum
over_chosen f values flags zero = refl
over_chosen f values flags (suc n) =
    over_append f (chosen_to values flags n) _ ∙ ap₂ ◌+◌ (over_chosen f values flags n) (by_flag (get_or flags n false))
  where
    by_flag : (b : Bool) → over f (cond b (record { place = n; value = get_or values n 0 } ∷ []) []) ≡ cond b (f (record { place = n; value = get_or values n 0 })) 0
    by_flag true = omega arith
    by_flag false = refl

-- no T is 0
kelvin_above : (s : Settings) (r : Result) → ((t : _) → r ≡ units t → InRange t) → in_limits s r ≡ true → in_kelvin r ≡ 0 → ⊥
kelvin_above s (units t) range passed e = let low = kelvin_low (range t refl) in omega arith
kelvin_above s (not_read n) range passed e = false≢true passed

module _ (s : Settings) (value : List ℕ) (target : Target) where
  abbrev flags : List Bool
  flags = good_flags s value target

  abbrev values : List ℕ
  values = kelvins s value target

  flagged_above : (i : ℕ) → i < size_of target → get_or flags i false ≡ true → get_or values i 0 ≡ 0 → ⊥
  flagged_above i inside flag is =
      kelvin_above s (reading_at s value (first_of target + i)) (λ t e. reading_units_in_range _ _ _ _ _ _ _ _ e) (flagged_in_limits s value target i inside flag)
      (kelvin_at s value target i inside ∙ is)

  weight_at : (flag : Bool) (v p : ℕ) → (flag ≡ true → v ≡ 0 → ⊥) → cond flag p 0 ≡ cond (eqb (cond flag v 0) 0) 0 p
  weight_at true v p above = sym (ap (λ (b : Bool). cond b 0 p) (ne_eqb v 0 (above refl)))
  weight_at false v p above = refl

  value_at : (flag : Bool) (v p : ℕ) → cond flag (p * v) 0 ≡ p * cond flag v 0
  value_at true v p = refl
  value_at false v p = sym (mul-zero p)

  none_weights : (p : ℕ → ℕ) (n : ℕ) → 0 ≡ sum (λ i. cond (eqb (kept_kelvin [] i) 0) 0 (p i)) n
  unfolding sum
  none_weights p zero = refl
  none_weights p (suc n) = let e = none_weights p n in omega arith

  none_values : (p : ℕ → ℕ) (n : ℕ) → 0 ≡ sum (λ i. p i * kept_kelvin [] i) n
  unfolding sum
  none_values p zero = refl
  none_values p (suc n) = let e = none_values p n in let z = mul-zero (p n) in omega arith

  pub weights_kept : (p : ℕ → ℕ) → over (λ x. p x.place) (accepted_thermometers s value target) ≡ sum (λ i. cond (eqb (kept_kelvin (accepted_thermometers s value target) i) 0) 0 (p i)) (size_of target)
  unfolding accepted_thermometers
  weights_kept p = by_number (ltb (length (chosen values flags)) (s.least target))
    where
      by_number : (few : Bool) → over (λ x. p x.place) (cond few [] (chosen values flags)) ≡ sum (λ i. cond (eqb (kept_kelvin (cond few [] (chosen values flags)) i) 0) 0 (p i)) (size_of target)
      by_number true = none_weights p (size_of target)
      by_number false =
          over_chosen (λ x. p x.place) values flags (length values)
          ∙ ap (sum (λ i. cond (get_or flags i false) (p i) 0)) (length_kelvins s value target)
          ∙ sum_same _ _ (size_of target) (λ i inside.
          weight_at (get_or flags i false) (get_or values i 0) (p i) (flagged_above i inside)
          ∙ ap (λ n. cond (eqb n 0) 0 (p i)) (sym (kept_of_chosen values flags i (omega (arith, length_kelvins s value target)))))

  pub values_kept : (p : ℕ → ℕ) → over (λ x. p x.place * x.value) (accepted_thermometers s value target) ≡ sum (λ i. p i * kept_kelvin (accepted_thermometers s value target) i) (size_of target)
  unfolding accepted_thermometers
  values_kept p = by_number (ltb (length (chosen values flags)) (s.least target))
    where
      by_number : (few : Bool) → over (λ x. p x.place * x.value) (cond few [] (chosen values flags)) ≡ sum (λ i. p i * kept_kelvin (cond few [] (chosen values flags)) i) (size_of target)
      by_number true = none_values p (size_of target)
      by_number false =
          over_chosen (λ x. p x.place * x.value) values flags (length values)
          ∙ ap (sum (λ i. cond (get_or flags i false) (p i * get_or values i 0) 0)) (length_kelvins s value target)
          ∙ sum_same _ _ (size_of target) (λ i inside.
          value_at (get_or flags i false) (get_or values i 0) (p i)
          ∙ ap (λ n. p i * n) (sym (kept_of_chosen values flags i (omega (arith, length_kelvins s value target)))))

-- where a thermometer of a target stands among the fifteen
kept_kelvin_lem : (samples : AcceptedSamples) (target : Target) (i : ℕ) → i < size_of target → get_or (kept_scan samples).kelvin (first_of target + i) 0 ≡ kept_kelvin (thermometers_in samples target) i
unfolding kept_scan
kept_kelvin_lem samples Kav i inside =
    ap (λ n. get_or (tabulate (λ i. kept_kelvin samples.kav i) (size_of Kav) ++ tabulate (λ i. kept_kelvin samples.wg i) (size_of Wg)) n 0) (let e : 0 + i ≡ i = omega arith in e)
    ∙ get_or-append (tabulate (λ i. kept_kelvin samples.kav i) (size_of Kav)) (tabulate (λ i. kept_kelvin samples.wg i) (size_of Wg)) 0 i (omega (arith, length_tabulate (λ i. kept_kelvin samples.kav i) (size_of Kav)))
    ∙ get_d_tabulate (λ i. kept_kelvin samples.kav i) (size_of Kav) i 0 inside
kept_kelvin_lem samples Wg i inside =
    ap (λ n. get_or (tabulate (λ i. kept_kelvin samples.kav i) (size_of Kav) ++ tabulate (λ i. kept_kelvin samples.wg i) (size_of Wg)) (n + i) 0) (sym (length_tabulate (λ i. kept_kelvin samples.kav i) (size_of Kav)))
    ∙ get_or-append-add (tabulate (λ i. kept_kelvin samples.kav i) (size_of Kav)) (tabulate (λ i. kept_kelvin samples.wg i) (size_of Wg)) i 0
    ∙ get_d_tabulate (λ i. kept_kelvin samples.wg i) (size_of Wg) i 0 inside

-- ---- one scan of the window: of any samples that are a record's, or none
pub record Agree (s : Settings) (samples : AcceptedSamples) : Type 0 where
  pub weights : (target : Target) (p : ℕ → ℕ) → over (λ x. p x.place) (thermometers_in samples target) ≡ sum (λ i. cond (eqb (kept_kelvin (thermometers_in samples target) i) 0) 0 (p i)) (size_of target)
  pub values : (target : Target) (p : ℕ → ℕ) → over (λ x. p x.place * x.value) (thermometers_in samples target) ≡ sum (λ i. p i * kept_kelvin (thermometers_in samples target) i) (size_of target)

agree_record : (s : Settings) (scan : List ℕ) → Agree s (accepted_samples s scan)
unfolding accepted_samples
agree_record s scan = record { weights = w; values = v }
  where
    w : (target : Target) (p : ℕ → ℕ) → over (λ x. p x.place) (thermometers_in (accepted_samples s scan) target) ≡ sum (λ i. cond (eqb (kept_kelvin (thermometers_in (accepted_samples s scan) target) i) 0) 0 (p i)) (size_of target)
    w Kav p = weights_kept s (instrument scan) Kav p
    w Wg p = weights_kept s (instrument scan) Wg p

    v : (target : Target) (p : ℕ → ℕ) → over (λ x. p x.place * x.value) (thermometers_in (accepted_samples s scan) target) ≡ sum (λ i. p i * kept_kelvin (thermometers_in (accepted_samples s scan) target) i) (size_of target)
    v Kav p = values_kept s (instrument scan) Kav p
    v Wg p = values_kept s (instrument scan) Wg p

agree_none : (s : Settings) → Agree s no_samples
agree_none s = record { weights = w; values = v }
  where
    w : (target : Target) (p : ℕ → ℕ) → over (λ x. p x.place) (thermometers_in no_samples target) ≡ sum (λ i. cond (eqb (kept_kelvin (thermometers_in no_samples target) i) 0) 0 (p i)) (size_of target)
    w Kav p = none_weights s [] Kav p (size_of Kav)
    w Wg p = none_weights s [] Wg p (size_of Wg)

    v : (target : Target) (p : ℕ → ℕ) → over (λ x. p x.place * x.value) (thermometers_in no_samples target) ≡ sum (λ i. p i * kept_kelvin (thermometers_in no_samples target) i) (size_of target)
    v Kav p = none_values s [] Kav p (size_of Kav)
    v Wg p = none_values s [] Wg p (size_of Wg)

agree_of_age : (s : Settings) (roll : Roll) (number k : ℕ) → Agree s (samples_of_age s roll number k)
unfolding samples_of_age
agree_of_age s [] number k = agree_none s
agree_of_age s (scan ∷ roll) number k = go (eqb (scan_number scan + k) number) (agree_of_age s roll number k)
  where
    go : (t : Bool) → Agree s (samples_of_age s roll number k) → Agree s (cond t (accepted_samples s scan) (samples_of_age s roll number k))
    go true older = agree_record s scan
    go false older = older

none_kept : kept_scan no_samples ≡ no_scan
unfolding kept_scan no_scan tabulate
none_kept = refl

kept_of_age : (s : Settings) (roll : Roll) (number k : ℕ) → kept_scan (samples_of_age s roll number k) ≡ scan_of_age s roll number k
unfolding samples_of_age scan_of_age
kept_of_age s [] number k = none_kept
kept_of_age s (scan ∷ roll) number k = go (eqb (scan_number scan + k) number) (kept_of_age s roll number k)
  where
    go : (t : Bool) → kept_scan (samples_of_age s roll number k) ≡ scan_of_age s roll number k → kept_scan (cond t (accepted_samples s scan) (samples_of_age s roll number k)) ≡ cond t (kept_by s scan) (scan_of_age s roll number k)
    go true older = refl
    go false older = older

-- ---- the sums
module _ (s : Settings) (at : ℕ → AcceptedSamples) (agree : (k : ℕ) → Agree s (at k)) (c : ℕ) (below : c < channels) where
  weight : (side : Side) → sum (λ k. cond (none (counts_in (at k) side c)) 0 (s.w k)) s.ages ≡ weight_sum s (λ k. get_or (kept_of side (kept_scan (at k))) c 0)
  unfolding weight_sum
  weight side = sum_same _ _ s.ages (λ k inside. side_weight (counts_in (at k) side c) (s.w k) ∙ ap (λ n. cond (eqb n 0) 0 (s.w k)) (sym (kept_side_lem (at k) side c below)))

  value : (side : Side) → sum (λ k. cond (none (counts_in (at k) side c)) 0 (s.w k * scan_value (counts_in (at k) side c))) s.ages ≡ value_sum s (λ k. get_or (kept_of side (kept_scan (at k))) c 0)
  unfolding value_sum
  value side = sum_same _ _ s.ages (λ k inside. side_value_lem (counts_in (at k) side c) (s.w k) ∙ ap (λ n. cond (eqb n 0) 0 (s.w k * (n - 1))) (sym (kept_side_lem (at k) side c below)))

  weights : (target : Target) → sum (λ k. s.v k * over (λ x. (s.thermometer (first_of target + x.place)).p) (thermometers_in (at k) target)) s.ages ≡ thermometer_weights s target (λ k i. get_or (kept_scan (at k)).kelvin i 0)
  unfolding thermometer_weights
  weights target = sum_same _ _ s.ages (λ k inside. ap (λ n. s.v k * n) ((agree k).weights target (λ i. (s.thermometer (first_of target + i)).p)
      ∙ sum_same _ _ (size_of target) (λ i within. ap (λ n. cond (eqb n 0) 0 (s.thermometer (first_of target + i)).p) (sym (kept_kelvin_lem (at k) target i within)))))

  weighted : (target : Target) → sum (λ k. s.v k * over (λ x. (s.thermometer (first_of target + x.place)).p * x.value) (thermometers_in (at k) target)) s.ages ≡ thermometer_sum s target (λ k i. get_or (kept_scan (at k)).kelvin i 0)
  unfolding thermometer_sum
  weighted target = sum_same _ _ s.ages (λ k inside. ap (λ n. s.v k * n) ((agree k).values target (λ i. (s.thermometer (first_of target + i)).p)
      ∙ sum_same _ _ (size_of target) (λ i within. ap (λ n. (s.thermometer (first_of target + i)).p * n) (sym (kept_kelvin_lem (at k) target i within)))))

  pub sums_are : sums_of s at c ≡ means_of s (λ k. kept_scan (at k)) c
  unfolding sums_of means_from
  sums_are = rw (weights (target_of c), weighted (target_of c), weight Warm, value Warm, weight Cold, value Cold)

-- the scans of a moment's window by age
abbrev pub scans_at : Settings → Moment → ℕ → Scan
scans_at s m k = scan_of_age s m.standing (current_number m) k

pub means_at_is : (s : Settings) (m : Moment) (c : ℕ) → c < channels → means_at s m c ≡ means_of s (scans_at s m) c
means_at_is s m c below =
    sums_are s (λ k. samples_of_age s m.standing (current_number m) k) (λ k. agree_of_age s m.standing (current_number m) k) c below
    ∙ ap (λ (scans : ℕ → Scan). means_of s scans c) (fun_ext (λ k. kept_of_age s m.standing (current_number m) k))

-- ---- a scan value loses nothing: it is 12 times the mean of 3 or 4 counts
abbrev Exact : List Sample → Type 0
Exact l = scan_value l * length l ≡ 12 * total l

exact_of_three_or_four : (t n : ℕ) → 3 ≤ n → n ≤ 4 → 12 * t / n * n ≡ 12 * t
exact_of_three_or_four t n low high = by_three (dec_lt n 4)
  where
    by_three : Dec (n < 4) → 12 * t / n * n ≡ 12 * t
    by_three (yes less) = let three : n ≡ 3 = omega arith in rw three (omega arith)
    by_three (no not-less) = let four : n ≡ 4 = omega arith in rw four (omega arith)

exact_good : (few : Bool) (l : List Sample) → ltb (length l) 3 ≡ few → length l ≤ 4 → Exact (cond few [] l)
exact_good true l e most = refl
exact_good false l e most = exact_of_three_or_four (total l) (length l) (ltb-false (length l) 3 e) most

exact_counts : (limits : Limits) (part : List ℕ) → Exact (at_least 3 (good_counts limits (four_counts part)))
exact_counts limits part =
    exact_good _ (good_counts limits (four_counts part)) refl
    (let most = chosen_at_most (four_counts part) (tabulate (good (four_counts part) (within_limits limits (four_counts part)) limits.difference) (length (four_counts part))) (length (four_counts part)) in
    omega (arith, length_four_counts part))

exact_sides : (channel : ChannelSettings) (warm cold : List ℕ) (side : Side) → Exact (of_side side (accepted_counts channel warm cold))
unfolding accepted_counts accepted_sides without_overlap
exact_sides channel warm cold side = by_overlap (overlap sides) side
  where
    sides : Sides
    sides = record { warm = at_least 3 (good_counts (channel.limits Warm) (four_counts warm)); cold = at_least 3 (good_counts (channel.limits Cold) (four_counts cold)) }

    by_overlap : (meet : Bool) (side : Side) → Exact (of_side side (cond meet (record { warm = []; cold = [] }) sides))
    by_overlap true Warm = refl
    by_overlap true Cold = refl
    by_overlap false Warm = exact_counts (channel.limits Warm) warm
    by_overlap false Cold = exact_counts (channel.limits Cold) cold

pub scan_value_exact : (s : Settings) (scan : List ℕ) (side : Side) (c : ℕ) → c < channels → Exact (counts_in (accepted_samples s scan) side c)
unfolding accepted_samples
scan_value_exact s scan side c below =
    subst (λ (x : Sides). Exact (of_side side x)) (sym (get_d_tabulate (λ c. accepted_counts (s.channel c) (channel_part (side_value scan Warm) c) (channel_part (side_value scan Cold) c)) channels c no_counts below))
    (exact_sides (s.channel c) _ _ side)
