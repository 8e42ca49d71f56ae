-- What the roll says of a feed, whatever is delivered for T: refused with the number that it meets, and the buffer stays; or accepted, the
-- product of the moment at the front.
use Rattle.std.specs.Prelude.{ℕ, List, ◌∷◌, ◌++◌, drop}
use Rattle.lists.specs.Tests.{Verdict, passes, fails}
use Rattle.table.specs.Settings.{Settings}
use Rattle.product.specs.Scenes.{Deliver}
use Rattle.product.specs.Product.{delivered_count, product_size}
use Rattle.calibrator.specs.Refusals.{delivered, refused}
use Rattle.calibrator.specs.Feeding.{Feed, Outcome}
use Rattle.promise.specs.Roll.{Roll, verdict_at}
use Rattle.promise.specs.Moments.{Moment, channels_at, product_at}
use Rattle.record.specs.Record.{earth_counts}

-- the moment at which this record has joined the roll
abbrev pub fed_moment : Roll → List ℕ → Moment
fed_moment roll scan = record { standing = scan ∷ roll; scan = scan }

module _ (s : Settings) (deliver : ℕ → Deliver) where
  abbrev pub written_at : Moment → List ℕ → Outcome
  written_at m buffer = record { reply = delivered (delivered_count deliver (channels_at s m) (earth_counts m.scan)); buffer = product_at s m deliver ++ drop product_size buffer }

  abbrev pub outcome_by : Verdict → Roll → Feed → Outcome
  outcome_by passes roll feed = written_at (fed_moment roll feed.scan) feed.buffer
  outcome_by (fails n) roll feed = record { reply = refused n; buffer = feed.buffer }

  abbrev pub outcome_at : Roll → Feed → Outcome
  outcome_at roll feed = outcome_by (verdict_at roll feed) roll feed
