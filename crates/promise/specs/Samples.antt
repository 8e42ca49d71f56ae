-- Document 01, "Window and flags" and "Lists of feeds": the sums of a channel, over the accepted samples of the window themselves.
use Rattle.std.specs.Prelude.{ℕ, ◌+◌, ◌*◌, List, [], ◌∷◌, cond, eqb, get_or}
use Rattle.lists.specs.Sum.{sum}
use Rattle.instrument.specs.declared.Side.{Side}
use Rattle.instrument.specs.declared.Side.TheVariants.{Warm, Cold}
use Rattle.instrument.specs.declared.Target.{Target}
use Rattle.instrument.specs.declared.Target.TheVariants.{Kav, Wg}
use Rattle.table.specs.Settings.{Settings}
use Rattle.instrument.specs.Instrument.{first_of, target_of}
use Rattle.samples.specs.Good.{Sample}
use Rattle.acceptance.specs.Counts.{Sides, none, scan_value, no_counts}
use Rattle.record.specs.Record.{scan_number}
use Rattle.acceptance.specs.Accepted.{AcceptedSamples, accepted_samples}
use Rattle.window.specs.declared.Means.{Means}
use Rattle.promise.specs.Roll.{Roll}

-- a missing number has no samples
abbrev pub no_samples : AcceptedSamples
no_samples = record { kav = []; wg = []; counts = [] }

-- age k of a scan is the current number minus its own: the accepted samples of the roll's record with age k, by the table and the record
-- alone
unfoldable pub samples_of_age : Settings → Roll → ℕ → ℕ → AcceptedSamples
samples_of_age s [] number k = no_samples
samples_of_age s (scan ∷ roll) number k = cond (eqb (scan_number scan + k) number) (accepted_samples s scan) (samples_of_age s roll number k)

-- the accepted counts of a side of channel c, and the accepted thermometers of a target
abbrev pub of_side : Side → Sides → List Sample
of_side Warm sides = sides.warm
of_side Cold sides = sides.cold

abbrev pub counts_in : AcceptedSamples → Side → ℕ → List Sample
counts_in samples side c = of_side side (get_or samples.counts c no_counts)

abbrev pub thermometers_in : AcceptedSamples → Target → List Sample
thermometers_in samples Kav = samples.kav
thermometers_in samples Wg = samples.wg

-- f summed over samples
abbrev pub over : (Sample → ℕ) → List Sample → ℕ
over f [] = 0
over f (x ∷ more) = f x + over f more

-- ---- `at k` has the accepted samples of the scan with age k
module _ (s : Settings) (at : ℕ → AcceptedSamples) where
  -- over scans whose side isn't bad, W is the sum of w_k
  abbrev pub W : Side → ℕ → ℕ
  W side c = sum (λ k. cond (none (counts_in (at k) side c)) 0 (s.w k)) s.ages

  -- and A of w_k × a
  abbrev pub A : Side → ℕ → ℕ
  A side c = sum (λ k. cond (none (counts_in (at k) side c)) 0 (s.w k * scan_value (counts_in (at k) side c))) s.ages

  -- the sums of v_k p and of v_k p T, over the accepted thermometers of the target
  abbrev pub sumVP : Target → ℕ
  sumVP target = sum (λ k. s.v k * over (λ x. (s.thermometer (first_of target + x.place)).p) (thermometers_in (at k) target)) s.ages

  abbrev pub sumVPT : Target → ℕ
  sumVPT target = sum (λ k. s.v k * over (λ x. (s.thermometer (first_of target + x.place)).p * x.value) (thermometers_in (at k) target)) s.ages

  unfoldable pub sums_of : ℕ → Means
  sums_of c = record { sumVP = sumVP (target_of c); sumVPT = sumVPT (target_of c); Ww = W Warm c; Aw = A Warm c; Wc = W Cold c; Ac = A Cold c }
