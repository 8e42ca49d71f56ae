-- What a program makes of one record: its line or its product, the calibrator and what comes after the record. And what it writes to which
-- stream: the line and the product of one and the same record, the line of a refused file, or its last line.
use Rattle.std.specs.Prelude.{ℕ, ◌<◌, ◌≡◌, Bool, true, false, List, [], ◌∷◌, length}
use Rattle.lists.specs.Tests.{fails}
use Rattle.table.specs.declared.Refusal.{Refusal}
use Rattle.table.specs.Opening.{refusal_number}
use Rattle.calibrator.specs.declared.Calibrator.{Calibrator}
use Rattle.calibrator.specs.Feeding.{step, Sound}
use Rattle.lines.specs.declared.Stop.{Stop}
use Rattle.lines.specs.declared.Stop.TheVariants.{OutputUnwritten}
use Rattle.lines.specs.declared.Written.{Written}
use Rattle.lines.specs.declared.Written.TheVariants.{Product, Line}
use Rattle.lines.specs.Lines.{opening_line, stop_line}
use Rattle.lines.specs.Steps.{record_fed, listed_line, written_by}
use Rattle.programs.specs.declared.Program.{Program}
use Rattle.programs.specs.declared.Program.TheVariants.{Listing, Calibrate}
use Rattle.programs.specs.declared.Stream.{Stream}
use Rattle.programs.specs.declared.Stream.TheVariants.{Output, Errors}
use Rattle.programs.specs.declared.Next.{Next}
use Rattle.programs.specs.declared.Next.TheVariants.{Stopped}
use Rattle.lines.specs.declared.Made.{Made}
use Rattle.programs.specs.declared.Turned.{Turned}
use Rattle.programs.specs.Streams.{lines_to}

-- ---- what is written: a line, or the product that stands in a buffer; the other of the two is empty

abbrev pub line_in : Written → List ℕ
line_in Product = []
line_in (Line line) = line

abbrev pub product_in : Written → (buffer : List ℕ) → List ℕ
product_in Product buffer = buffer
product_in (Line line) buffer = []

-- ---- what is made of a record

-- `listing` writes its line; `calibrate` the whole product of an accepted one, or the line of a refused one
unfoldable pub written_of : Program → Calibrator → List ℕ → Written
written_of Listing c scan = Line (listed_line c scan)
written_of Calibrate c scan = written_by (record_fed c scan).outcome.reply

-- its line; `calibrate` has none for an accepted one
abbrev pub line_of : Program → Calibrator → List ℕ → List ℕ
line_of program c scan = line_in (written_of program c scan)

-- the product that is written, of an accepted feed; `listing` writes none
abbrev pub written_product : Program → Calibrator → List ℕ → List ℕ
written_product program c scan = product_in (written_of program c scan) (record_fed c scan).outcome.buffer

unfoldable pub made_of : Program → Calibrator → List ℕ → Made
made_of program c scan = record { calibrator = (record_fed c scan).calibrator; written = written_of program c scan }

-- what the lent buffer of the product holds afterwards; `listing` leaves it as it was
unfoldable pub product_left : Program → Calibrator → List ℕ → List ℕ → List ℕ
product_left Listing c scan buffer = buffer
product_left Calibrate c scan buffer = (step c (record { scan = scan; buffer = buffer })).outcome.buffer

-- ---- what comes after it

-- where standard output did not take all, the program ends
abbrev pub next_after : Next → (complete : Bool) → Next
next_after next true = next
next_after next false = Stopped OutputUnwritten

-- a turn with the bytes that were read and what comes after them: no bytes are no record, and nothing is fed
unfoldable pub turned_of : Calibrator → (scan : List ℕ) → Next → (complete : Bool) → Turned
turned_of c [] next complete = record { next = next; calibrator = c }
turned_of c (byte ∷ more) next complete = record { next = next_after next complete; calibrator = (record_fed c (byte ∷ more)).calibrator }

-- ---- what is written to which stream

-- a line and a product that belong together
pub data Together (program : Program) (line product : List ℕ) : Type 0 where
  -- of a record that has bytes, under a calibrator that keeps to its ranges
  of_record : (c : Calibrator) (scan : List ℕ) → Sound c → 0 < length scan → line ≡ line_of program c scan → product ≡ written_product program c scan
      → Together program line product
  -- of a refused table or bias file, which has no product
  of_refusal : (refusal : Refusal) → line ≡ opening_line (fails (refusal_number refusal)) → product ≡ [] → Together program line product

-- the bytes that a program writes to a stream
pub data Due (program : Program) (to : Stream) (bytes : List ℕ) : Type 0 where
  line_due : (product : List ℕ) → Together program bytes product → to ≡ lines_to program → Due program to bytes
  product_due : (line : List ℕ) → Together program line bytes → to ≡ Output → Due program to bytes
  stop_due : (stop : Stop) → bytes ≡ stop_line stop → to ≡ Errors → Due program to bytes
