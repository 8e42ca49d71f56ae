-- The first i scenes stand at the front as their bits, the rest is as it was, and the summary is that of the first i scenes.
use Rattle.std.proofs.Common.{◌≡◌}
use Rattle.lists.specs.Build.{filled}
use Rattle.fields.specs.Numbers.{u32_bytes}
use Rattle.scene.specs.Scene.{bits}
use Rattle.product.specs.Scenes.{scene_at}
use Rattle.product.specs.Summary.{summary_to}
use Rattle.product.specs.Steps.{with_pairs}
use Rattle.product.proofs.write_channel.Given as goal

abbrev pub invariant-loop-i : goal.invariant-loop-i
invariant-loop-i l = record {
  summary_is : l.summary ≡ summary_to (scene_at (with_pairs l.fn.pairs) l.fn.channel l.fn.part) l.i;
  out_is : l.out ≡ filled (λ i. u32_bytes (bits (scene_at (with_pairs l.fn.pairs) l.fn.channel l.fn.part i))) 4 l.i l.initial.out;
}
