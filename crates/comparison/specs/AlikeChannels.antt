-- Channels that are all alike, for timing the writer of a product.
use Rattle.std.specs.Prelude.{List, replicate, Ok}
use Rattle.instrument.specs.Instrument.{channels}
use Rattle.scene.specs.declared.Constants.{Constants}
use Rattle.scene.specs.Channel.{Channel}

-- channels without a flag and with these constants
unfoldable pub alike_channels : Constants → List Channel
alike_channels constants = replicate channels (Ok constants)
