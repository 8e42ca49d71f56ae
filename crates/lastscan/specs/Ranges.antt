-- The ranges that what is kept of the last accepted scan is in. A reader of the promises can leave this out.
use Rattle.std.specs.Prelude.{ℕ, ◌<◌, ◌≡◌, List, length, get_or, IfSome}
use Rattle.instrument.specs.Instrument.{channels}
use Rattle.scene.specs.Channel.{Channel}
use Rattle.product.specs.Scenes.{no_channel}
use Rattle.product.specs.Ranges.{ChannelRange}
use Rattle.lastscan.specs.LastScan.{LastScan}

pub record ChannelsRange (all : List Channel) : Type 0 where
  pub long : length all ≡ channels
  pub each : (c : ℕ) → c < channels → ChannelRange (get_or all c no_channel)

abbrev pub LastRange : LastScan → Type 0
LastRange last = IfSome last ChannelsRange
