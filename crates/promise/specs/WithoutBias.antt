-- Request W1: a bias file of zeros gives the old products. After every list of feeds the outcome of the next feed is the one without scan bias,
-- in which T itself is delivered.
use Rattle.std.specs.Prelude.{◌≡◌, List, []}
use Rattle.table.specs.declared.Table.{Table}
use Rattle.table.specs.Settings.{settings_of}
use Rattle.table.specs.Opening.{ages}
use Rattle.bias.specs.Bias.{zero_bias}
use Rattle.product.specs.Scenes.{without_bias}
use Rattle.calibrator.specs.Feeding.{Feed, Outcome, fresh_of, outcome_after}
use Rattle.promise.specs.Roll.{Roll}
use Rattle.promise.specs.Restart.{rolled_by}
use Rattle.promise.specs.Outcomes.{outcome_at}

-- what the roll says of a feed without scan bias
abbrev pub outcome_without_bias : Table → Roll → Feed → Outcome
outcome_without_bias table roll feed = outcome_at (settings_of ages table.bytes) (λ c. without_bias) roll feed

abbrev pub WithoutBias : Type 0
WithoutBias =
    (table : Table) (before : List Feed) (feed : Feed)
    → outcome_after (fresh_of table (record { bytes = zero_bias })) before feed ≡ outcome_without_bias table (rolled_by [] before) feed
