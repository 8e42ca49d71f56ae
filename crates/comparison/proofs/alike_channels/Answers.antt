-- `alike_channels` meets its contract: the array is the list that the definition writes out.
use Rattle.std.proofs.Common.{refl}
use Rattle.comparison.specs.AlikeChannels.{alike_channels}
use Rattle.comparison.proofs.alike_channels.Goals as goal

pub returns : goal.returns
unfolding alike_channels
returns c = refl
