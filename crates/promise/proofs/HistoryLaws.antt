-- After any list of feeds the calibrator is an equation of the plain roll, so that what each feed leaves is what the roll says.
use Prim.Native.Nat.{ℕ, ◌+◌, ◌<◌, ◌≤◌}
use native.Mathlib.Omega.{arith}
use mathlib.Core.Path.{◌≡◌, refl, sym, ap, ap₂, ◌∙◌}
use mathlib.Core.List.{List, [], ◌∷◌, ◌++◌}
use mathlib.Core.Bool.{Bool, true, false, cond}
use lib.Dec.{eqb}
use lib.ListN.{length, drop, length-append}
use Rattle.std.specs.Prelude.{Option, None, Some, IfSome}
use Rattle.lists.specs.Tests.{Verdict, passes, fails}
use Rattle.fields.specs.Fields.{layout_size}
use Rattle.lists.proofs.Tabulate.{length_tabulate, tabulate_same}
use Rattle.lists.proofs.Cells.{cells_same}
use Rattle.table.specs.declared.Table.{Table}
use Rattle.table.specs.Settings.{Settings, settings_of}
use Rattle.instrument.specs.Instrument.{channels, shelf_of}
use Rattle.table.specs.Opening.{ages}
use Rattle.acceptance.specs.declared.Scan.{Scan}
use Rattle.record.specs.Record.{scan_number, earth_counts, shelf_temperatures, shelf_temperature}
use Rattle.acceptance.specs.Kept.{kept_scan}
use Rattle.window.specs.declared.Window.{Window}
use Rattle.scene.specs.Channel.{Channel}
use Rattle.window.specs.Ages.{no_scan, window_of, window_after}
use Rattle.window.specs.Means.{channel_state_of}
use Rattle.window.proofs.AgeLaws.{ScanShape, gap_between_lem, window_after_is_aged, means_of_scans}
use Rattle.bias.specs.declared.Bias.{Bias}
use Rattle.product.specs.Scenes.{Deliver, by_bias}
use Rattle.product.specs.Product.{product_layout, product_of, delivered_count}
use Rattle.lastscan.specs.LastScan.{LastScan}
use Rattle.calibrator.specs.declared.Calibrator.{Calibrator}
use Rattle.calibrator.specs.Refusals.{delivered}
use Rattle.calibrator.specs.Feeding.{Feed, kept_by, fresh_of, next_window, channels_in, next_channels, step_by, step}
use Rattle.promise.specs.Roll.{Roll, last_number, verdict_at, joined_by, joined}
use Rattle.promise.specs.Moments.{channels_at}
use Rattle.calibrator.proofs.Verdicts.{passes_facts}
use Rattle.promise.proofs.RollLaws.{scan_of_age, scans_of, NumbersToLast, aged_roll, numbers_further}
use Rattle.promise.proofs.SampleLaws.{means_at_is}
use Rattle.promise.specs.Outcomes.{fed_moment, outcome_by, outcome_at}

-- ---- the calibrator after a roll
abbrev pub last_of : Settings → Roll → LastScan
last_of s [] = None
last_of s (scan ∷ roll) = Some (channels_at s (fed_moment roll scan))

abbrev pub calibrator_of : Table → Bias → Roll → Calibrator
calibrator_of table bias roll =
    let s = settings_of ages table.bytes in record { table = table; bias = bias; window = window_of (last_number roll) (scans_of s roll); last = last_of s roll }

pub window_same : (last : Option ℕ) (f g : ℕ → Scan) → ((k : ℕ) → k < ages → f k ≡ g k) → window_of last f ≡ window_of last g
unfolding window_of
window_same last f g e =
    rw (cells_same (λ k. (f k).warm) (λ k. (g k).warm) ages (λ k h. ap (λ (x : Scan). x.warm) (e k h)), cells_same (λ k. (f k).cold) (λ k. (g k).cold) ages (λ k h. ap (λ (x : Scan). x.cold) (e k h)), cells_same (λ k. (f k).kelvin) (λ k. (g k).kelvin) ages (λ k h. ap (λ (x : Scan). x.kelvin) (e k h)))

-- ---- every scan of the roll has the shape of a scan
pub kept_shape : (s : Settings) (scan : List ℕ) → ScanShape (kept_by s scan)
unfolding kept_scan
kept_shape s scan = record { warm = length_tabulate _ channels; cold = length_tabulate _ channels; kelvin = simp (length-append, length_tabulate) }

no_scan_shape : ScanShape no_scan
unfolding no_scan
no_scan_shape = record { warm = refl; cold = refl; kelvin = refl }

module _ (s : Settings) where
  pub by_age_shape : (roll : Roll) (number k : ℕ) → ScanShape (scan_of_age s roll number k)
  unfolding scan_of_age
  by_age_shape [] number k = no_scan_shape
  by_age_shape (scan ∷ roll) number k = go (eqb (scan_number scan + k) number) (by_age_shape roll number k)
    where
      go : (t : Bool) → ScanShape (scan_of_age s roll number k) → ScanShape (cond t (kept_by s scan) (scan_of_age s roll number k))
      go true older = kept_shape s scan
      go false older = older

  scans_shape : (roll : Roll) (k : ℕ) → ScanShape (scans_of s roll k)
  scans_shape [] k = no_scan_shape
  scans_shape (scan ∷ roll) k = by_age_shape (scan ∷ roll) (scan_number scan) k

  -- the window once a record has joined
  window_joined : (scan : List ℕ) (roll : Roll) → NumbersToLast roll → IfSome (last_number roll) (λ n. n < scan_number scan)
      → window_after (window_of (last_number roll) (scans_of s roll)) (scan_number scan) (kept_by s scan) ≡ window_of (Some (scan_number scan)) (scans_of s (scan ∷ roll))
  unfolding window_of
  window_joined scan roll numbers above =
      window_after_is_aged (last_number roll) (scan_number scan) (kept_by s scan) (scans_of s roll) (scans_shape roll) (kept_shape s scan) (gap_between_lem (last_number roll) (scan_number scan) above).low
      ∙ window_same (Some (scan_number scan)) _ _ (λ k inside. aged_roll s scan roll numbers above k inside)

  -- its channels
  channels_joined : s.ages ≤ ages → (scan : List ℕ) (roll : Roll) → channels_in s (window_of (Some (scan_number scan)) (scans_of s (scan ∷ roll))) (shelf_temperatures scan) ≡ channels_at s (fed_moment roll scan)
  channels_joined few scan roll =
      tabulate_same _ _ channels (λ c inside.
      ap (channel_state_of s c (shelf_temperature (shelf_temperatures scan) (shelf_of c)))
      (means_of_scans s few (Some (scan_number scan)) (scans_of s (scan ∷ roll)) (scans_shape (scan ∷ roll)) c inside
      ∙ sym (means_at_is s (fed_moment roll scan) c inside)))

-- ---- one feed
pub numbers_joined : (v : Verdict) (roll : Roll) (feed : Feed) → verdict_at roll feed ≡ v → NumbersToLast roll → NumbersToLast (joined_by v roll feed)
numbers_joined (fails n) roll feed e numbers = numbers
numbers_joined passes [] feed e numbers = (omega arith, tt)
numbers_joined passes (scan ∷ roll) feed e numbers =
    (omega arith, numbers_further (scan ∷ roll) (omega (arith, (passes_facts (Some (scan_number scan)) feed.scan (length feed.buffer) e).above)) numbers)

module _ (table : Table) (bias : Bias) where
  abbrev table_settings : Settings
  table_settings = settings_of ages table.bytes

  abbrev bias_delivery : ℕ → Deliver
  bias_delivery = by_bias bias.bytes

  module _ (roll : Roll) (feed : Feed) (numbers : NumbersToLast roll) where
    abbrev before : Calibrator
    before = calibrator_of table bias roll

    next_window_lem : verdict_at roll feed ≡ passes → next_window before feed.scan ≡ window_of (Some (scan_number feed.scan)) (scans_of table_settings (feed.scan ∷ roll))
    next_window_lem e = window_joined table_settings feed.scan roll numbers (passes_facts (last_number roll) feed.scan (length feed.buffer) e).above

    next_channels_lem : verdict_at roll feed ≡ passes → next_channels before feed.scan ≡ channels_at table_settings (fed_moment roll feed.scan)
    next_channels_lem e = ap (λ (w : Window). channels_in table_settings w (shelf_temperatures feed.scan)) (next_window_lem e) ∙ channels_joined table_settings (omega arith) feed.scan roll

    calibrator_by : (v : Verdict) → verdict_at roll feed ≡ v → (step_by v before feed).calibrator ≡ calibrator_of table bias (joined_by v roll feed)
    unfolding step_by
    calibrator_by passes e = ap₂ (λ (w : Window) (all : List Channel). record { table = table; bias = bias; window = w; last = Some all }) (next_window_lem e) (next_channels_lem e)
    calibrator_by (fails n) e = refl

    outcome_by_lem : (v : Verdict) → verdict_at roll feed ≡ v → (step_by v before feed).outcome ≡ outcome_by table_settings bias_delivery v roll feed
    unfolding step_by
    outcome_by_lem passes e =
        ap (λ (all : List Channel). record {
          reply = delivered (delivered_count bias_delivery all (earth_counts feed.scan));
          buffer = product_of bias_delivery (scan_number feed.scan) all (earth_counts feed.scan) ++ drop (layout_size product_layout) feed.buffer;
        }) (next_channels_lem e)
    outcome_by_lem (fails n) e = refl

    -- the calibrator that is handed back is that of the roll with this feed, and the outcome is what the roll says
    pub calibrator_after_lem : (step before feed).calibrator ≡ calibrator_of table bias (joined roll feed)
    unfolding window_of
    calibrator_after_lem = calibrator_by (verdict_at roll feed) refl

    pub outcome_after_lem : (step before feed).outcome ≡ outcome_at table_settings bias_delivery roll feed
    unfolding window_of
    outcome_after_lem = outcome_by_lem (verdict_at roll feed) refl

  pub fresh_is_empty_roll : fresh_of table bias ≡ calibrator_of table bias []
  unfolding fresh_of scan_of_age
  fresh_is_empty_roll = refl
