-- The flags of the first c channels stand at the front, and the rest is as it was.
use Rattle.std.proofs.Common.{◌≡◌, ◌++◌, get_or, drop}
use Rattle.lists.specs.Build.{tabulate}
use Rattle.scene.specs.Channel.{channel_flag}
use Rattle.product.specs.Scenes.{no_channel}
use Rattle.product.proofs.write_flags.Given as goal

abbrev pub invariant-loop-c : goal.invariant-loop-c
invariant-loop-c l = l.out ≡ tabulate (λ i. channel_flag (get_or l.fn.states i no_channel)) l.c ++ drop l.c l.initial.out
