-- The restart law: a scan's product is the one that a fresh calibrator gives when it is fed only the accepted records of the window,
-- in order, and then the scan. So an archive can be cut into stretches that overlap and calibrated in parallel, to the same bytes.
use Rattle.std.specs.Prelude.{ℕ, ◌+◌, ◌≤◌, ◌≡◌, List, [], ◌∷◌, ◌++◌, cond, ltb, length}
use Rattle.lists.specs.Tests.{passes}
use Rattle.table.specs.declared.Table.{Table}
use Rattle.table.specs.Opening.{ages}
use Rattle.bias.specs.declared.Bias.{Bias}
use Rattle.record.specs.Record.{scan_number}
use Rattle.product.specs.Product.{product_size}
use Rattle.calibrator.specs.declared.Calibrator.{Calibrator}
use Rattle.calibrator.specs.Feeding.{Feed, fresh_of, outcome_after}
use Rattle.promise.specs.Roll.{Roll, verdict_at, joined}

-- the roll after a list of feeds
unfoldable pub rolled_by : Roll → List Feed → Roll
rolled_by roll [] = roll
rolled_by roll (feed ∷ more) = rolled_by (joined roll feed) more

-- the roll's records with ages 0..7 at this number
unfoldable pub recent : ℕ → Roll → Roll
recent number [] = []
recent number (scan ∷ roll) = cond (ltb number (scan_number scan + ages)) (scan ∷ recent number roll) (recent number roll)

-- these records, the oldest first, each with this buffer
unfoldable pub feeds_of : List ℕ → Roll → List Feed
feeds_of buffer [] = []
feeds_of buffer (scan ∷ roll) = feeds_of buffer roll ++ (record { scan = scan; buffer = buffer } ∷ [])

-- the accepted records of the window of a feed that comes after these feeds, fed again
abbrev pub window_feeds : (before : List Feed) (feed : Feed) (buffer : List ℕ) → List Feed
window_feeds before feed buffer = feeds_of buffer (recent (scan_number feed.scan) (rolled_by [] before))

-- for every list of feeds, every accepted feed after it, and every buffer that is long enough for the records that are fed again
pub record Restart (fresh : Calibrator) : Type 0 where
  pub same : (before : List Feed) (feed : Feed) (buffer : List ℕ) → product_size ≤ length buffer → verdict_at (rolled_by [] before) feed ≡ passes
      → outcome_after fresh before feed ≡ outcome_after fresh (window_feeds before feed buffer) feed

-- under every table and every bias file, accepted or not
abbrev pub Restarts : Type 0
Restarts = (table : Table) (bias : Bias) → Restart (fresh_of table bias)
