-- Two lists that are alike give the same products: their rolls keep the same scans by age, and a product is made of these, the number,
-- the earth counts and the shelf temperatures alone, under one table and one bias file.
use Prim.Native.Nat.{ℕ, ◌+◌}
use native.Mathlib.Omega.{arith}
use mathlib.Core.Path.{◌≡◌, refl, sym, ap, ap₂, fun_ext, ◌∙◌}
use mathlib.Core.List.{List, ◌∷◌, ◌++◌}
use mathlib.Core.Bool.{cond}
use lib.Dec.{eqb}
use lib.ListN.{take, drop}
use lib.Seq.{take_at}
use Rattle.std.specs.Prelude.{Some}
use Rattle.lists.specs.Tests.{Verdict, passes, fails}
use Rattle.lists.proofs.Tabulate.{tabulate_same}
use Rattle.table.specs.Settings.{Settings}
use Rattle.instrument.specs.Instrument.{channels, shelf_of}
use Rattle.acceptance.specs.declared.Scan.{Scan}
use Rattle.record.specs.Record.{scan_number, earth_counts, shelf_temperatures, shelf_temperature}
use Rattle.acceptance.specs.Kept.{kept_scan}
use Rattle.scene.specs.Channel.{Channel}
use Rattle.window.specs.declared.Means.{Means}
use Rattle.window.specs.Sums.{means_of}
use Rattle.window.specs.Means.{channel_state_of}
use Rattle.product.specs.Scenes.{Deliver}
use Rattle.product.specs.Product.{product_of, delivered_count, product_size}
use Rattle.product.proofs.Bytes.{length_product}
use Rattle.calibrator.specs.Refusals.{delivered, refused}
use Rattle.calibrator.specs.Feeding.{Feed, kept_by}
use Rattle.promise.specs.Roll.{Roll, last_number, joined_by}
use Rattle.promise.specs.Moments.{channels_at}
use Rattle.promise.specs.Promise.{SameScan, SameOutcome}
use Rattle.promise.proofs.RollLaws.{scan_of_age}
use Rattle.promise.proofs.SampleLaws.{means_at_is}
use Rattle.promise.specs.Outcomes.{fed_moment, outcome_by}
use Rattle.promise.proofs.HistoryLaws.{last_of}

refused_not_delivered : (n k : ℕ) → refused n ≡ delivered k → ⊥
refused_not_delivered n k accepted = let clash : ◌≡◌ {A = ℕ} 0 1 = cc in omega arith

module _ (s : Settings) where
  -- nothing that a product is made of tells the two rolls apart
  pub record SameRolls (roll rolled : Roll) : Type 0 where
    pub last : last_number roll ≡ last_number rolled
    pub scans : scan_of_age s roll ≡ scan_of_age s rolled
    pub kept : last_of s roll ≡ last_of s rolled

  same_channels : (scan other : List ℕ) (roll rolled : Roll) → shelf_temperatures scan ≡ shelf_temperatures other → scan_number scan ≡ scan_number other
      → scan_of_age s (scan ∷ roll) ≡ scan_of_age s (other ∷ rolled) → channels_at s (fed_moment roll scan) ≡ channels_at s (fed_moment rolled other)
  same_channels scan other roll rolled shelves number scans =
      tabulate_same _ _ channels (λ c inside.
      ap₂ (λ (value : List ℕ) (m : Means). channel_state_of s c (shelf_temperature value (shelf_of c)) m) shelves
      (means_at_is s (fed_moment roll scan) c inside
      ∙ ap₂ (λ (scans : ℕ → ℕ → Scan) (number : ℕ). means_of s (λ k. scans number k) c) scans number
      ∙ sym (means_at_is s (fed_moment rolled other) c inside)))

  joined_scans : (scan other : List ℕ) (roll rolled : Roll) → SameScan s scan other → scan_of_age s roll ≡ scan_of_age s rolled
      → scan_of_age s (scan ∷ roll) ≡ scan_of_age s (other ∷ rolled)
  unfolding scan_of_age
  joined_scans scan other roll rolled e same =
      fun_ext (λ number. fun_ext (λ k. ap₂ (λ (n : ℕ) (kept : Scan). cond (eqb (n + k) number) kept (scan_of_age s roll number k)) e.number (ap kept_scan e.samples)
      ∙ ap (λ (scans : ℕ → ℕ → Scan). cond (eqb (scan_number other + k) number) (kept_by s other) (scans number k)) same))

  joined_channels : (scan other : List ℕ) (roll rolled : Roll) → SameScan s scan other → SameRolls roll rolled
      → channels_at s (fed_moment roll scan) ≡ channels_at s (fed_moment rolled other)
  joined_channels scan other roll rolled e h = same_channels scan other roll rolled e.shelves e.number (joined_scans scan other roll rolled e h.scans)

  joined_same : (scan other : List ℕ) (roll rolled : Roll) → SameScan s scan other → SameRolls roll rolled → SameRolls (scan ∷ roll) (other ∷ rolled)
  joined_same scan other roll rolled e h = record {
    last = ap Some e.number;
    scans = joined_scans scan other roll rolled e h.scans;
    kept = ap Some (joined_channels scan other roll rolled e h);
  }

  pub same_rolls : (v : Verdict) (roll rolled : Roll) (feed other : Feed) → (v ≡ passes → SameScan s feed.scan other.scan) → SameRolls roll rolled
      → SameRolls (joined_by v roll feed) (joined_by v rolled other)
  same_rolls passes roll rolled feed other e h = joined_same feed.scan other.scan roll rolled (e refl) h
  same_rolls (fails n) roll rolled feed other e h = h

module _ (s : Settings) (deliver : ℕ → Deliver) where
  same_product : (number : ℕ) (all : List Channel) (earth rest others : List ℕ)
      → take product_size (product_of deliver number all earth ++ rest) ≡ take product_size (product_of deliver number all earth ++ others)
  same_product number all earth rest others =
      take_at (product_of deliver number all earth) rest product_size (length_product deliver number all earth)
      ∙ sym (take_at (product_of deliver number all earth) others product_size (length_product deliver number all earth))

  -- ---- one pair of feeds
  accepted_same : (roll rolled : Roll) (feed other : Feed) → SameScan s feed.scan other.scan → SameRolls s roll rolled
      → SameOutcome (outcome_by s deliver passes roll feed) (outcome_by s deliver passes rolled other)
  accepted_same roll rolled feed other e h =
      let all = joined_channels s feed.scan other.scan roll rolled e h in
      record {
        reply = ap₂ (λ (channels : List Channel) (earth : List ℕ). delivered (delivered_count deliver channels earth)) all e.earth;
        product = λ delivered_count_lem accepted.
            ap (λ (n : ℕ). take product_size (product_of deliver n (channels_at s (fed_moment roll feed.scan)) (earth_counts feed.scan) ++ drop product_size feed.buffer)) e.number
            ∙ ap₂ (λ (channels : List Channel) (earth : List ℕ). take product_size (product_of deliver (scan_number other.scan) channels earth ++ drop product_size feed.buffer)) all e.earth
            ∙ same_product (scan_number other.scan) (channels_at s (fed_moment rolled other.scan)) (earth_counts other.scan) (drop product_size feed.buffer) (drop product_size other.buffer);
      }

  pub same_outcome : (v : Verdict) (roll rolled : Roll) (feed other : Feed) → (v ≡ passes → SameScan s feed.scan other.scan) → SameRolls s roll rolled
      → SameOutcome (outcome_by s deliver v roll feed) (outcome_by s deliver v rolled other)
  same_outcome passes roll rolled feed other e h = accepted_same roll rolled feed other (e refl) h
  same_outcome (fails n) roll rolled feed other e h = record { reply = refl; product = λ k accepted. absurd (refused_not_delivered n k accepted) }
