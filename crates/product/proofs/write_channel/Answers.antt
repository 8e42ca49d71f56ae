-- `write_channel` meets its contract: each turn writes the scene of the next position, by the channel's curve, and takes it into the summary.
use Rattle.std.proofs.Common.{◌≡◌, ℕ, ◌*◌, ◌≤◌, List, refl, sym, ap, ap₂, subst, ◌∙◌, arith}
use Rattle.std.specs.Prelude.{Result, not, T}
use Rattle.std.specs.Float.Ieee.{is_nan}
use Rattle.lists.proofs.Cells.{filled_none, filled_by_put, filled_to_end}
use Rattle.fields.specs.Numbers.{u16_at, u32_bytes}
use Rattle.instrument.specs.Instrument.{positions}
use Rattle.scene.specs.declared.Scene.{Scene}
use Rattle.scene.specs.declared.Flag.{Flag}
use Rattle.scene.specs.Channel.{Channel}
use Rattle.scene.specs.declared.Curve.{Curve}
use Rattle.scene.specs.Scene.{value, bits}
use Rattle.product.specs.Scenes.{scene_in, scene_at}
use Rattle.product.specs.Summary.{with_scene, summary_to}
use Rattle.product.specs.Product.{channel_scenes}
use Rattle.product.specs.Steps.{with_pairs, CurveOf, scene_by}
use Rattle.product.proofs.SceneLaws.{scene_in_not_nan, scene_by_curve}
use Rattle.product.proofs.SummaryLaws.{summary_to_none, summary_to_more, count_at_most}
use Rattle.product.proofs.write_channel.Goals as goal

-- the scene that is written is that of the position
scene_is : (channel : Channel) (curve : Result Curve Flag) (pairs part : List ℕ) (i count : ℕ) (s : Scene) → CurveOf channel curve → count ≡ u16_at part (2 * i)
    → s ≡ scene_by (with_pairs pairs i) curve count → s ≡ scene_at (with_pairs pairs) channel part i
scene_is channel curve pairs part i count s by-curve read is =
    is ∙ scene_by_curve (with_pairs pairs i) channel curve count by-curve ∙ ap (scene_in (with_pairs pairs i) channel) read

pub loop-i-init : goal.loop-i-init
loop-i-init c = record {
  summary_is = c.none-summary.ensures ∙ sym (summary_to_none _);
  out_is = filled_none _ 4 _;
}

pub with_scene-summary-requires : goal.with_scene-summary-requires
with_scene-summary-requires c =
    let small : c.loop-i.summary.count ≤ c.loop-i.i = rw c.loop-i.invariant.summary_is (count_at_most _ c.loop-i.i) in
    omega arith

pub bits_of-requires : goal.bits_of-requires
bits_of-requires c =
    let a = c.args in
    subst (λ (s : Scene). T (not (is_nan (value s))))
    (sym (scene_is a.channel c.curve_of-curve.result a.pairs.now a.part.now c.loop-i.i _ _ c.curve_of-curve.ensures c.u16_at.ensures c.scene_by-s.ensures))
    (scene_in_not_nan _ a.channel _)

pub loop-i-preserved : goal.loop-i-preserved
loop-i-preserved c =
    let a = c.args in
    let i = c.loop-i.i in
    let scenes : ℕ → Scene = scene_at (with_pairs a.pairs.now) a.channel a.part.now in
    let scene : c.scene_by-s.result ≡ scenes i =
    scene_is a.channel c.curve_of-curve.result a.pairs.now a.part.now i _ _ c.curve_of-curve.ensures c.u16_at.ensures c.scene_by-s.ensures in
    record {
      summary_is = c.with_scene-summary.ensures ∙ ap₂ with_scene c.loop-i.invariant.summary_is scene ∙ sym (summary_to_more scenes i);
      out_is = filled_by_put _ 4 (λ _. refl) a.out.now i c.loop-i.invariant.out_is (ap u32_bytes (c.bits_of.ensures ∙ ap bits scene)) c.put_u32.ensures;
    }

pub returns : goal.returns
unfolding channel_scenes
returns c =
    let last : c.loop-i.i ≡ positions = omega arith in (
      c.loop-i.invariant.summary_is ∙ ap (summary_to _) last,
      filled_to_end _ 4 positions c.args.out.now last c.requires.out_len.0 c.loop-i.invariant.out_is,
    )
