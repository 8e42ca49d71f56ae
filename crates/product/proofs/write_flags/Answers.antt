-- `write_flags` meets its contract: each turn stores the byte of the next channel right behind those that stand already.
use Rattle.std.proofs.Common.{arith, ap, ◌∙◌}
use Rattle.lists.proofs.Elements.{any_default}
use Rattle.lists.proofs.Tabulate.{tabulated_none, filled_by_store, tabulated_to_end}
use Rattle.instrument.specs.Instrument.{channels}
use Rattle.scene.specs.Channel.{channel_flag}
use Rattle.product.specs.Scenes.{no_channel}
use Rattle.product.specs.Product.{flag_bytes}
use Rattle.product.proofs.write_flags.Goals as goal

pub loop-c-init : goal.loop-c-init
loop-c-init c = tabulated_none _ _

pub loop-c-preserved : goal.loop-c-preserved
loop-c-preserved c =
    filled_by_store _ _ c.loop-c.c (omega arith) c.loop-c.invariant
    (c.flag_byte.ensures ∙ ap channel_flag (any_default c.args.states c.loop-c.c _ no_channel (omega arith)))

pub returns : goal.returns
unfolding flag_bytes
returns c = tabulated_to_end _ channels _ (omega arith) (omega arith) c.loop-c.invariant
