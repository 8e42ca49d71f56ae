-- Request W7, about lists of feeds: the T of every accepted thermometer of every record on the roll is bracketed by that record's own counts.
-- The warm means are formed of these T.
use Rattle.std.specs.Prelude.{ℕ, List, []}
use Rattle.lists.specs.All.{All}
use Rattle.instrument.specs.declared.Target.{Target}
use Rattle.table.specs.declared.Table.{Table}
use Rattle.table.specs.Settings.{Settings, settings_of}
use Rattle.table.specs.Opening.{ages}
use Rattle.acceptance.specs.Accepted.{accepted_samples}
use Rattle.acceptance.specs.Bracketed.{SampleBracketed}
use Rattle.calibrator.specs.Feeding.{Feed}
use Rattle.promise.specs.Restart.{rolled_by}
use Rattle.promise.specs.Samples.{thermometers_in}

-- the accepted thermometers of a record, of both targets
abbrev pub ThermometersBracketed : Settings → List ℕ → Type 0
ThermometersBracketed s scan = (target : Target) → All (SampleBracketed s scan target) (thermometers_in (accepted_samples s scan) target)

-- for every table and every list of feeds from a fresh calibrator
abbrev pub FedThermometersBracketed : Type 0
FedThermometersBracketed = (table : Table) (feeds : List Feed) → All (ThermometersBracketed (settings_of ages table.bytes)) (rolled_by [] feeds)
