-- `compared_product` meets its contract: all channels are the same one, whose constants are in their ranges and are read back as they
-- were given.
use mathlib.Core.Path.{subst}
use lib.ListN.{get_or, get_or-replicate}
use mir.Syntax.{w64}
use mir.Val.{SFits, to_z, of_z}
use Rattle.std.proofs.Common.{◌≡◌, ◌∙◌, ℕ, ◌<◌, List, ℤ, Ok, sym, ap}
use Rattle.integers.proofs.Machine.{reads_back}
use Rattle.scene.specs.declared.Constants.{Constants}
use Rattle.scene.specs.Ranges.{ConstantsRange}
use Rattle.scene.specs.Channel.{Channel}
use Rattle.product.specs.Scenes.{no_channel}
use Rattle.product.specs.Ranges.{ChannelRange}
use Rattle.instrument.specs.Instrument.{channels}
use Rattle.comparison.specs.AlikeChannels.{alike_channels}
use Rattle.comparison.proofs.compared_product.Goals as goal

constants_read_back : {tc rise tnl d slope base : ℤ} → SFits w64 tc → SFits w64 rise → SFits w64 tnl → SFits w64 d → SFits w64 slope → SFits w64 base
    → ◌≡◌ {A = Constants} (record { tc = to_z w64 (of_z w64 tc); rise = to_z w64 (of_z w64 rise); tnl = to_z w64 (of_z w64 tnl); d = to_z w64 (of_z w64 d); slope = to_z w64 (of_z w64 slope); base = to_z w64 (of_z w64 base) })
    (record { tc = tc; rise = rise; tnl = tnl; d = d; slope = slope; base = base })
constants_read_back h0 h1 h2 h3 h4 h5 = rw (reads_back h0, reads_back h1, reads_back h2, reads_back h3, reads_back h4, reads_back h5)

module _ {k : Constants} (range : ConstantsRange k) where
  each_in_range : (c : ℕ) → c < channels → ChannelRange (get_or (alike_channels k) c no_channel)
  unfolding alike_channels
  each_in_range c h = subst ChannelRange (sym (get_or-replicate channels c (Ok k) no_channel h)) range

pub write_product-requires-clause-product_size_in_bounds : goal.write_product-requires-clause-product_size_in_bounds
write_product-requires-clause-product_size_in_bounds c =
    let asked = c.requires.product_size_in_bounds in
    let back = constants_read_back c.ranges.tc c.ranges.rise c.ranges.tnl c.ranges.d c.ranges.slope c.ranges.base in
    let same = c.alike_channels.ensures ∙ ap alike_channels back in
    (asked.0, asked.1, subst (λ (l : List Channel). (i : ℕ) → i < channels → ChannelRange (get_or l i no_channel)) (sym same) (each_in_range asked.2))
