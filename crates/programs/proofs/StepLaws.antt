-- What is written of a record is its line or its whole product, whatever the lent buffer held; a turn with no bytes, and with some.
use Prim.Native.Nat.{ℕ, ◌<◌}
use native.Mathlib.Omega.{arith}
use mathlib.Core.Path.{◌≡◌, refl, sym, ap, ◌∙◌}
use mathlib.Core.Bool.{Bool}
use mathlib.Core.Logic.{◌⊎◌, inl, inr}
use mathlib.Core.List.{List, [], ◌∷◌, ◌++◌, append-nil}
use lib.ListN.{length, drop, length-replicate, drop_of_length-le}
use Rattle.lists.specs.Tests.{Verdict, passes, fails}
use Rattle.record.specs.Record.{scan_number, earth_counts}
use Rattle.product.specs.Product.{product_size, product_of}
use Rattle.product.proofs.Bytes.{length_product}
use Rattle.calibrator.specs.declared.Calibrator.{Calibrator}
use Rattle.calibrator.specs.Refusals.{verdict}
use Rattle.calibrator.specs.Feeding.{Feed, Outcome, delivery, next_channels, verdict_in, step_by, Sound}
use Rattle.lines.specs.Lines.{refused_line}
use Rattle.lines.specs.Steps.{empty_product, record_fed, written_by}
use Rattle.programs.specs.declared.Program.{Program}
use Rattle.programs.specs.declared.Program.TheVariants.{Listing, Calibrate}
use Rattle.programs.specs.declared.Next.{Next}
use Rattle.lines.specs.declared.Made.{Made}
use Rattle.programs.specs.Steps.{line_in, product_in, line_of, written_of, written_product, made_of, product_left, next_after, turned_of, Together, of_record}

length_empty_product : length empty_product ≡ product_size
unfolding empty_product
length_empty_product = length-replicate {A = ℕ} product_size 0

module _ (c : Calibrator) (scan : List ℕ) where
  abbrev in_buffer : List ℕ → Feed
  in_buffer b = record { scan = scan; buffer = b }

  -- the product of an accepted feed
  abbrev product : List ℕ
  product = product_of (delivery c) (scan_number scan) (next_channels c scan) (earth_counts scan)

  -- what is left and what is written by a verdict
  abbrev outcome_by : Verdict → List ℕ → Outcome
  outcome_by v b = (step_by v c (in_buffer b)).outcome

  abbrev written_in : Verdict → List ℕ → List ℕ
  written_in v b = product_in (written_by (outcome_by v empty_product).reply) (outcome_by v b).buffer

  whole_product : (b : List ℕ) → length b ≡ product_size → written_in passes b ≡ product
  unfolding step_by
  whole_product b long =
      let nothing : drop product_size b ≡ [] = drop_of_length-le b {i = product_size} (omega arith) in ap (λ l. product ++ l) nothing ∙ append-nil product

  same_written : (v : Verdict) (b : List ℕ) → length b ≡ product_size → written_in v b ≡ written_in v empty_product
  unfolding step_by
  same_written passes b long = whole_product b long ∙ sym (whole_product empty_product length_empty_product)
  same_written (fails n) b long = refl

  same_verdict : (b : List ℕ) → length b ≡ product_size → verdict_in c (in_buffer b) ≡ verdict_in c (in_buffer empty_product)
  same_verdict b long = ap (verdict c.window.last scan) (long ∙ sym length_empty_product)

  product_written : (program : Program) (b : List ℕ) → length b ≡ product_size
      → product_in (written_of program c scan) (product_left program c scan b) ≡ written_product program c scan
  unfolding written_of product_left
  product_written Listing b long = refl
  product_written Calibrate b long =
      let v = verdict_in c (in_buffer empty_product) in
      ap (λ w. product_in (written_by (outcome_by v empty_product).reply) (outcome_by w b).buffer) (same_verdict b long) ∙ same_written v b long

  -- the bytes of a step, as `write_record` left them
  pub together_of_record : {program : Program} {made : Made} {left : List ℕ} (buffer : List ℕ) → Sound c → 0 < length scan → length buffer ≡ product_size
      → made ≡ made_of program c scan → left ≡ product_left program c scan buffer → Together program (line_in made.written) (product_in made.written left)
  unfolding made_of
  together_of_record {program} {made} {left} buffer sound some long is left_is =
      rw (is, left_is) (of_record c scan sound some refl (product_written program buffer long))

  -- ---- `calibrate` writes a whole product or a line

  one_by : (v : Verdict) → ((line_in (written_by (outcome_by v empty_product).reply) ≡ []) × (length (written_in v empty_product) ≡ product_size))
      ⊎ ((number : ℕ) × (line_in (written_by (outcome_by v empty_product).reply) ≡ refused_line number) × (written_in v empty_product ≡ []))
  unfolding step_by
  one_by passes =
      inl (refl, ap length (whole_product empty_product length_empty_product) ∙ length_product (delivery c) (scan_number scan) (next_channels c scan) (earth_counts scan))
  one_by (fails n) = inr (n, refl, refl)

  pub one_is_written : ((line_of Calibrate c scan ≡ []) × (length (written_product Calibrate c scan) ≡ product_size))
      ⊎ ((number : ℕ) × (line_of Calibrate c scan ≡ refused_line number) × (written_product Calibrate c scan ≡ []))
  unfolding written_of
  one_is_written = one_by (verdict_in c (in_buffer empty_product))

-- ---- a turn

module _ (c : Calibrator) (next : Next) (complete : Bool) where
  pub turn_with_nothing : (scan : List ℕ) → length scan ≡ 0 → record { next = next; calibrator = c } ≡ turned_of c scan next complete
  unfolding turned_of
  turn_with_nothing [] none = refl
  turn_with_nothing (byte ∷ more) none = absurd (omega (arith, none))

  pub turn_with_bytes : (scan : List ℕ) → 0 < length scan → record { next = next_after next complete; calibrator = (record_fed c scan).calibrator } ≡ turned_of c scan next complete
  unfolding turned_of
  turn_with_bytes [] some = absurd (omega (arith, some))
  turn_with_bytes (byte ∷ more) some = refl
