-- The roll by age: what joins a roll makes every record older by the difference of the numbers, and a missing number has no samples.
use Prim.Native.Nat.{ℕ, zero, suc, ◌+◌, ◌-◌, ◌<◌, ◌≤◌}
use native.Mathlib.Decide.{dec_lt}
use native.Mathlib.Omega.{arith}
use mathlib.Core.Path.{◌≡◌, refl, sym, ap, ap₂, ◌∙◌}
use mathlib.Core.List.{List, [], ◌∷◌}
use mathlib.Core.Bool.{Bool, true, false, cond}
use lib.Dec.{eqb, ltb}
use borrow.Author.Tests.{eq-eqb, ne_eqb, lt-ltb, le-ltb, eqb-true, eqb-false, ltb-false}
use Rattle.std.specs.Prelude.{IfSome}
use Rattle.table.specs.Settings.{Settings}
use Rattle.table.specs.Opening.{ages}
use Rattle.record.specs.Record.{scan_number}
use Rattle.window.specs.Ages.{no_scan, aged, gap_between}
use Rattle.calibrator.specs.Feeding.{kept_by}
use Rattle.acceptance.specs.declared.Scan.{Scan}
use Rattle.promise.specs.Roll.{Roll, last_number}

-- what the record with age k keeps of its accepted samples; a missing number has none
unfoldable pub scan_of_age : Settings → Roll → ℕ → ℕ → Scan
scan_of_age s [] number k = no_scan
scan_of_age s (scan ∷ roll) number k = cond (eqb (scan_number scan + k) number) (kept_by s scan) (scan_of_age s roll number k)

-- what the scans of a roll keep, by their ages at its last record
abbrev pub scans_of : Settings → Roll → ℕ → Scan
scans_of s [] k = no_scan
scans_of s (scan ∷ roll) k = scan_of_age s (scan ∷ roll) (scan_number scan) k

-- every record's number is at most n
abbrev pub NumbersTo : Roll → ℕ → Type 0
NumbersTo [] n = Unit {0}
NumbersTo (scan ∷ roll) n = (scan_number scan ≤ n) × NumbersTo roll n

-- no record's number is above that of the last
abbrev pub NumbersToLast : Roll → Type 0
NumbersToLast roll = IfSome (last_number roll) (NumbersTo roll)

pub numbers_further : (roll : Roll) {m n : ℕ} → m ≤ n → NumbersTo roll m → NumbersTo roll n
numbers_further [] h k = tt
numbers_further (scan ∷ roll) h k = (omega (arith, h, k.0), numbers_further roll h k.1)

module _ (s : Settings) where
  -- no record has that age
  age_missing : (roll : Roll) (n number k : ℕ) → NumbersTo roll n → n + k < number → scan_of_age s roll number k ≡ no_scan
  unfolding scan_of_age
  age_missing [] n number k h l = refl
  age_missing (scan ∷ roll) n number k h l = rw (ne_eqb (scan_number scan + k) number (apart h.0)) (age_missing roll n number k h.1 l)
    where
      apart : scan_number scan ≤ n → scan_number scan + k ≡ number → ⊥
      apart below e = omega arith

  -- the same record, g numbers on, is g older
  same_test : (n k last g : ℕ) → g ≤ k → eqb (n + k) (last + g) ≡ eqb (n + (k - g)) last
  same_test n k last g h = go (eqb (n + (k - g)) last) refl
    where
      go : (t : Bool) → eqb (n + (k - g)) last ≡ t → eqb (n + k) (last + g) ≡ t
      go true e =
          let same : n + (k - g) ≡ last = eqb-true (n + (k - g)) last e in
          eq-eqb (n + k) (last + g) (omega arith)
      go false e = ne_eqb (n + k) (last + g) (λ same. eqb-false (n + (k - g)) last e (omega arith))

  older_by : (roll : Roll) (last g k : ℕ) → g ≤ k → scan_of_age s roll (last + g) k ≡ scan_of_age s roll last (k - g)
  unfolding scan_of_age
  older_by [] last g k h = refl
  older_by (scan ∷ roll) last g k h = ap₂ (λ t more. cond t (kept_by s scan) more) (same_test (scan_number scan) k last g h) (older_by roll last g k h)

  newest : (scan : List ℕ) (roll : Roll) → scan_of_age s (scan ∷ roll) (scan_number scan) 0 ≡ kept_by s scan
  unfolding scan_of_age
  newest scan roll = rw (eq-eqb (scan_number scan + 0) (scan_number scan) (omega arith))

  not_newest : (scan : List ℕ) (roll : Roll) (k : ℕ) → scan_of_age s (scan ∷ roll) (scan_number scan) (suc k) ≡ scan_of_age s roll (scan_number scan) (suc k)
  unfolding scan_of_age
  not_newest scan roll k = rw (ne_eqb (scan_number scan + suc k) (scan_number scan) (λ e. omega arith))

  -- ---- the scans by age once a record has joined
  module _ (scan : List ℕ) (roll : Roll) (last : ℕ) (numbers : NumbersTo roll last) where
    ByAge : ℕ → ℕ → Type 0
    ByAge gap k = aged gap (kept_by s scan) (λ j. scan_of_age s roll last j) k ≡ scan_of_age s (scan ∷ roll) (scan_number scan) k

    older : (k : ℕ) → eqb (suc k) 0 ≡ false
    older k = ne_eqb (suc k) 0 (λ e. omega arith)

    -- no record is that old yet
    missing_between : (gap k : ℕ) → suc k < gap → last + suc k < scan_number scan → ByAge gap (suc k)
    unfolding aged ByAge
    missing_between gap k early late =
        rw (older k, lt-ltb (suc k) gap early)
        (sym (not_newest scan roll k ∙ age_missing roll last (scan_number scan) (suc k) numbers late))

    -- the record that was younger by the gap
    found_older : (k : ℕ) → last < scan_number scan → scan_number scan - last ≤ suc k → ByAge (scan_number scan - last) (suc k)
    unfolding aged ByAge
    found_older k above reached =
        let g = scan_number scan - last in
        let e : last + g ≡ scan_number scan = omega arith in
        rw (older k, le-ltb (suc k) g reached)
        (sym (not_newest scan roll k ∙ ap (λ n. scan_of_age s roll n (suc k)) (sym e) ∙ older_by roll last g (suc k) reached))

    age_zero : (gap : ℕ) → ByAge gap 0
    unfolding aged ByAge
    age_zero gap = sym (newest scan roll)

    -- by the distance of the numbers
    near : (k : ℕ) → last < scan_number scan → ByAge (scan_number scan - last) (suc k)
    near k above = go (dec_lt (suc k) (scan_number scan - last))
      where
        go : Dec (suc k < scan_number scan - last) → ByAge (scan_number scan - last) (suc k)
        go (yes early) = missing_between (scan_number scan - last) k early (omega arith)
        go (no late) = found_older k above (omega (arith, late))

    by_gap : (k : ℕ) → k < ages → last < scan_number scan → (t : Bool) → ltb (scan_number scan - last) ages ≡ t → ByAge (cond t (scan_number scan - last) ages) k
    by_gap zero inside above t e = age_zero (cond t (scan_number scan - last) ages)
    by_gap (suc k) inside above true e = near k above
    by_gap (suc k) inside above false e = missing_between ages k inside (omega (arith, ltb-false (scan_number scan - last) ages e))

-- a first record has none before it
first_alone : (s : Settings) (scan : List ℕ) (k : ℕ) → k < ages → aged ages (kept_by s scan) (scans_of s []) k ≡ scan_of_age s (scan ∷ []) (scan_number scan) k
unfolding aged scan_of_age
first_alone s scan zero inside = sym (newest s scan [])
first_alone s scan (suc k) inside = rw (ne_eqb (suc k) 0 (λ e. omega arith), lt-ltb (suc k) ages inside) (sym (not_newest s scan [] k))

-- what the scans of each age are once a record has joined
pub aged_roll : (s : Settings) (scan : List ℕ) (roll : Roll) → NumbersToLast roll → IfSome (last_number roll) (λ n. n < scan_number scan) → (k : ℕ) → k < ages
    → aged (gap_between (last_number roll) (scan_number scan)) (kept_by s scan) (scans_of s roll) k ≡ scan_of_age s (scan ∷ roll) (scan_number scan) k
unfolding ByAge
aged_roll s scan [] numbers above k inside = first_alone s scan k inside
aged_roll s scan (before ∷ roll) numbers above k inside = by_gap s scan (before ∷ roll) (scan_number before) numbers k inside above (ltb (scan_number scan - scan_number before) ages) refl
