-- The statements of the programs taken apart into plain facts: what each stream gets, and which records a run has fed.
use Prim.Native.Nat.{ℕ, ◌<◌, ◌≤◌}
use native.Mathlib.Omega.{arith}
use mathlib.Core.Path.{◌≡◌, refl, sym, ap, ◌∙◌}
use mathlib.Core.Bool.{Bool, true, false}
use mathlib.Core.Logic.{◌⊎◌, inl, inr, ⊎_elim}
use mathlib.Core.List.{List, [], ◌∷◌, ◌++◌}
use lib.ListN.{length, take, length-append, length-take}
use Rattle.lists.specs.All.{All}
use Rattle.lists.specs.Tests.{passes, fails}
use Rattle.lists.proofs.All.{all_none, all_one, all_appended, all_weaker}
use Rattle.table.specs.declared.Table.{Table}
use Rattle.table.specs.declared.Refusal.{Refusal}
use Rattle.table.specs.declared.Refusal.TheVariants.{LengthWrong, FieldWrong, ValueOutside}
use Rattle.table.specs.Opening.{opening, refusal_number}
use Rattle.bias.specs.Opening.{bias_opening}
use Rattle.calibrator.specs.declared.Calibrator.{Calibrator}
use Rattle.calibrator.specs.Refusals.{Reply, delivered, refused}
use Rattle.calibrator.specs.Feeding.{Feed, fresh_of, calibrator_after, Sound}
use Rattle.lines.specs.declared.Stop.{Stop}
use Rattle.lines.specs.declared.Stop.TheVariants.{InputUnread, OutputUnwritten}
use Rattle.lines.specs.Lines.{refused_line, scan_line, number_in, flags_in, reply_line, opening_line, stop_line}
use Rattle.lines.specs.Steps.{empty_product, record_fed, listed_line}
use Rattle.programs.specs.declared.Program.{Program}
use Rattle.programs.specs.declared.Program.TheVariants.{Listing, Calibrate}
use Rattle.programs.specs.declared.Stream.TheVariants.{Output, Errors}
use Rattle.programs.specs.declared.Next.{Next}
use Rattle.programs.specs.declared.Next.TheVariants.{More, Ended, Stopped}
use Rattle.programs.specs.declared.Turned.{Turned}
use Rattle.programs.specs.Steps.{line_of, written_of, written_product, turned_of, Together, of_record, of_refusal, Due, line_due, product_due, stop_due}
use Rattle.programs.specs.Runs.{ReadTo, WholeFeed, Ran, Unfed, UnderBias, UnderTable}
use Rattle.programs.proofs.StepLaws.{one_is_written}
use Rattle.programs.proofs.RunLaws.{after_appended}

-- ---- no line is empty

refused_line_has_bytes : (number : ℕ) → 0 < length (refused_line number)
unfolding refused_line
refused_line_has_bytes number = simp length-append (omega arith)

scan_line_has_bytes : (number count : ℕ) (flags : List ℕ) → 0 < length (scan_line number count flags)
unfolding scan_line
scan_line_has_bytes number count flags = simp length-append (omega arith)

reply_line_has_bytes : (reply : Reply) (product : List ℕ) → 0 < length (reply_line reply product)
unfolding reply_line
reply_line_has_bytes (delivered n) product = scan_line_has_bytes (number_in product) n (flags_in product)
reply_line_has_bytes (refused n) product = refused_line_has_bytes n

opening_line_has_bytes : (number : ℕ) → 0 < length (opening_line (fails number))
unfolding opening_line
opening_line_has_bytes number = refused_line_has_bytes number

-- ---- what is written of a record or of a refused file

refusal_numbers : (refusal : Refusal) → (1 ≤ refusal_number refusal) × (refusal_number refusal ≤ 3)
refusal_numbers LengthWrong = (omega arith, omega arith)
refusal_numbers FieldWrong = (omega arith, omega arith)
refusal_numbers ValueOutside = (omega arith, omega arith)

pub together_says : {program : Program} {line product : List ℕ} → Together program line product
    → ((c : Calibrator) × (scan : List ℕ) × Sound c × (0 < length scan) × (line ≡ line_of program c scan) × (product ≡ written_product program c scan))
    ⊎ ((number : ℕ) × (1 ≤ number) × (number ≤ 3) × (line ≡ refused_line number) × (product ≡ []))
unfolding opening_line
together_says (of_record c scan sound some line-is product_is) = inl (c, scan, sound, some, line-is, product_is)
together_says (of_refusal refusal line-is product_is) =
    let bounds = refusal_numbers refusal in
    inr (refusal_number refusal, bounds.0, bounds.1, line-is, product_is)

-- `listing`: a line, and no product
pub listing_writes_a_line : {line product : List ℕ} → Together Listing line product → (0 < length line) × (product ≡ [])
unfolding written_of listed_line
listing_writes_a_line (of_record c scan sound some line-is product_is) =
    (rw line-is (reply_line_has_bytes (record_fed c scan).outcome.reply (record_fed c scan).outcome.buffer), product_is)
listing_writes_a_line (of_refusal refusal line-is product_is) = (rw line-is (opening_line_has_bytes (refusal_number refusal)), product_is)

-- `calibrate`: a whole product and no line, or a line and no product
pub calibrate_writes_one : {line product : List ℕ} → Together Calibrate line product → ((line ≡ []) × (length product ≡ 8706)) ⊎ ((0 < length line) × (length product ≡ 0))
calibrate_writes_one (of_record c scan sound some line-is product_is) =
    ⊎_elim
    (λ whole. inl (line-is ∙ whole.0, ap length product_is ∙ whole.1))
    (λ line. inr (rw (line-is ∙ line.1) (refused_line_has_bytes line.0), ap length (product_is ∙ line.2)))
    (one_is_written c scan)
calibrate_writes_one (of_refusal refusal line-is product_is) = inr (rw line-is (opening_line_has_bytes (refusal_number refusal)), ap length product_is)

-- ---- what a stream gets

-- the standard error of `listing`: nothing but its last line
pub listing_errors : {bytes : List ℕ} → Due Listing Errors bytes → (stop : Stop) × (bytes ≡ stop_line stop)
listing_errors (line_due product together to_is) = absurd (let z : ◌≡◌ {A = ℕ} 0 1 = cc in omega arith)
listing_errors (product_due line together to_is) = absurd (let z : ◌≡◌ {A = ℕ} 0 1 = cc in omega arith)
listing_errors (stop_due stop bytes-is to_is) = (stop, bytes-is)

-- the standard output of `calibrate`: nothing but whole products
pub calibrate_output : {bytes : List ℕ} → Due Calibrate Output bytes → (length bytes ≡ 0) ⊎ (length bytes ≡ 8706)
calibrate_output (line_due product together to_is) = absurd (let z : ◌≡◌ {A = ℕ} 0 1 = cc in omega arith)
calibrate_output (product_due line together to_is) = ⊎_elim (λ whole. inr whole.1) (λ none. inl none.1) (calibrate_writes_one together)
calibrate_output (stop_due stop bytes-is to_is) = absurd (let z : ◌≡◌ {A = ℕ} 0 1 = cc in omega arith)

-- ---- which records a run has fed

-- one that has bytes, at most 4,648, and the program's own buffer
pub record FedRecord (feed : Feed) : Type 0 where
  pub some : 0 < length feed.scan
  pub most : length feed.scan ≤ 4648
  pub buffer_is : feed.buffer ≡ empty_product

pub record RanOver (first : Calibrator) (feeds : List Feed) (t : Turned) : Type 0 where
  pub fed : All FedRecord feeds
  pub calibrator_is : t.calibrator ≡ calibrator_after first feeds
  pub all_turns : t.next ≡ More → length feeds ≡ 18446744073709551615

whole_is_fed : (feed : Feed) → WholeFeed feed → FedRecord feed
whole_is_fed feed whole = record { some = omega (arith, whole.whole); most = omega (arith, whole.whole); buffer_is = whole.buffer_is }

-- how many bytes were read: a whole record, or a shorter rest
pub read_says : (next : Next) {size : ℕ} → ReadTo size next
    → ((next ≡ More) × (size ≡ 4648)) ⊎ ((next ≡ Ended) × (size < 4648)) ⊎ ((next ≡ Stopped InputUnread) × (size < 4648))
read_says More read = inl (refl, read)
read_says Ended read = inr (inl (refl, read))
read_says (Stopped stop) read = inr (inr (ap Stopped read.1, read.0))

read_at_most : (next : Next) {size : ℕ} → ReadTo size next → size ≤ 4648
read_at_most next {size} read =
    ⊎_elim (λ whole. omega (arith, whole.1)) (⊎_elim (λ rest. omega (arith, rest.1)) (λ rest. omega (arith, rest.1))) (read_says next read)

-- what the last turn feeds: nothing, or one record
last_fed : (c : Calibrator) (scan : List ℕ) (next : Next) (complete : Bool) → length scan ≤ 4648
    → (feeds : List Feed) × All FedRecord feeds × ((turned_of c scan next complete).calibrator ≡ calibrator_after c feeds)
unfolding turned_of calibrator_after
last_fed c [] next complete most = ([], all_none FedRecord, refl)
last_fed c (byte ∷ more) next complete most =
    (record { scan = byte ∷ more; buffer = empty_product } ∷ [], all_one FedRecord (record { some = omega arith; most = most; buffer_is = refl }), refl)

pub ran_says : {first : Calibrator} {t : Turned} → Ran first t → (feeds : List Feed) × RanOver first feeds t
ran_says {first} {t} ran = ⊎_elim
    (λ last.
    let turn = last.turn in
    let scan = take turn.size last.buffer in
    let is = turn.turn.turned_is in
    let most = read_at_most turn.next turn.read in
    let more = last_fed ran.before scan turn.next turn.turn.complete (simp length-take (omega arith)) in (
      ran.reached.feeds ++ more.0,
      record {
        fed = all_appended FedRecord ran.reached.feeds more.0 (all_weaker WholeFeed whole_is_fed ran.reached.feeds ran.reached.whole) more.1;
        calibrator_is =
            ap (λ (u : Turned). u.calibrator) is ∙ more.2
            ∙ ap (λ (c : Calibrator). calibrator_after c more.0) ran.reached.calibrator_is
            ∙ sym (after_appended first ran.reached.feeds more.0);
        all_turns = λ goes_on. absurd (last.ends goes_on);
      },
    ))
    (λ all. (
      ran.reached.feeds,
      record {
        fed = all_weaker WholeFeed whole_is_fed ran.reached.feeds ran.reached.whole;
        calibrator_is = ap (λ (u : Turned). u.calibrator) all.1 ∙ ran.reached.calibrator_is;
        all_turns = λ goes_on. ran.reached.many ∙ all.0;
      },
    ))
    ran.last

-- ---- by the verdicts on the files

ended_or_unwritten : {next : Next} → Unfed next → (next ≡ Ended) ⊎ (next ≡ Stopped OutputUnwritten)
ended_or_unwritten (true, is) = inl is
ended_or_unwritten (false, is) = inr is

module _ (next : Next) where
  pub under_refused_table : (table : List ℕ) {n : ℕ} → opening table ≡ fails n → UnderTable (opening table) table next → (next ≡ Ended) ⊎ (next ≡ Stopped OutputUnwritten)
  under_refused_table table refuses under = ended_or_unwritten (rw refuses at under)

  pub under_accepted_table : (table : List ℕ) → opening table ≡ passes → UnderTable (opening table) table next
      → (bias : List ℕ) × UnderBias (bias_opening bias) (record { bytes = table }) bias next
  under_accepted_table table passed under = rw passed at under

  module _ (table : Table) (bias : List ℕ) where
    pub under_refused_bias : {n : ℕ} → bias_opening bias ≡ fails n → UnderBias (bias_opening bias) table bias next → (next ≡ Ended) ⊎ (next ≡ Stopped OutputUnwritten)
    under_refused_bias refuses under = ended_or_unwritten (rw refuses at under)

    -- the run begins with the fresh calibrator of exactly these bytes
    pub under_accepted_bias : bias_opening bias ≡ passes → UnderBias (bias_opening bias) table bias next
        → (c : Calibrator) × (feeds : List Feed) × RanOver (fresh_of table (record { bytes = bias })) feeds (record { next = next; calibrator = c })
    under_accepted_bias passed under = let ran = rw passed at under in let over = ran_says ran.1 in (ran.0, over.0, over.1)
