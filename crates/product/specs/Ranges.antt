-- Document 01, "Scenes": the ranges that the functions keep to. A reader of the promises can leave this out.
use Rattle.std.specs.Prelude.{MatchResult, ⊤}
use Rattle.scene.specs.Ranges.{ConstantsRange}
use Rattle.scene.specs.Channel.{Channel}

-- what a channel keeps to: without a flag its constants are in their ranges
abbrev pub ChannelRange : Channel → Type 0
ChannelRange channel = MatchResult channel ConstantsRange (λ flag. ⊤)
