-- One step of each program: from the calibrator and a record to the calibrator that is handed back and what is written. The listing
-- program prints the line of the feed's answer. The program `calibrate` writes the product of an accepted feed to standard output and the
-- line of a refused one to standard error (decision 35).
use Rattle.std.specs.Prelude.{ℕ, List, replicate}
use Rattle.product.specs.Product.{product_size}
use Rattle.calibrator.specs.declared.Calibrator.{Calibrator}
use Rattle.calibrator.specs.Refusals.{Reply, delivered, refused}
use Rattle.calibrator.specs.Feeding.{Stepped, step}
use Rattle.lines.specs.declared.Written.{Written}
use Rattle.lines.specs.declared.Written.TheVariants.{Product, Line}
use Rattle.lines.specs.declared.Made.{Made}
use Rattle.lines.specs.Lines.{refused_line, reply_line}

-- the buffer that the product is written to
unfoldable pub empty_product : List ℕ
empty_product = replicate product_size 0

-- the feed of a record; what the buffer held changes only the buffer that is left
abbrev pub record_fed : Calibrator → List ℕ → Stepped
record_fed c scan = step c (record { scan = scan; buffer = empty_product })

-- ---- listing

-- the line of a record
unfoldable pub listed_line : Calibrator → List ℕ → List ℕ
listed_line c scan = reply_line (record_fed c scan).outcome.reply (record_fed c scan).outcome.buffer

unfoldable pub listed_of : Calibrator → List ℕ → Made
listed_of c scan = record { calibrator = (record_fed c scan).calibrator; written = Line (listed_line c scan) }

-- ---- calibrate

-- the product of an accepted feed, or the line of a refused one
abbrev pub written_by : Reply → Written
written_by (delivered n) = Product
written_by (refused n) = Line (refused_line n)

unfoldable pub calibrated_of : Calibrator → List ℕ → Made
calibrated_of c scan = record { calibrator = (record_fed c scan).calibrator; written = written_by (record_fed c scan).outcome.reply }
