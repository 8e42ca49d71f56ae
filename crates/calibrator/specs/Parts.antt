-- What contracts see of a calibrator: its table, its bias file, the window and what is kept of the last accepted scan.
use Rattle.table.specs.declared.Table.{Table}
use Rattle.bias.specs.declared.Bias.{Bias}
use Rattle.window.specs.declared.Window.{Window}
use Rattle.window.specs.Ranges.{WindowRange}
use Rattle.lastscan.specs.LastScan.{LastScan}
use Rattle.lastscan.specs.Ranges.{LastRange}

pub record Parts : Type 0 where
  pub table : Table
  pub bias : Bias
  pub window : Window
  pub last : LastScan

-- what every calibrator keeps to, beside that its table and its bias file are accepted
pub record KeepsRanges (window : Window) (last : LastScan) : Type 0 where
  pub window_range : WindowRange window
  pub last_range : LastRange last
