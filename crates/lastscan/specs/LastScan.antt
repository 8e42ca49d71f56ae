-- Request W5: what a calibrator keeps of the last accepted scan, apart from the window: its channels, each with the six constants that its
-- scenes need, or its flag; none before the first accepted scan.
use Rattle.std.specs.Prelude.{List, Option}
use Rattle.scene.specs.Channel.{Channel}

abbrev pub LastScan : Type 0
LastScan = Option (List Channel)
