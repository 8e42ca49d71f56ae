-- Every summary can be written: neither of its ends is a NaN.
use Prim.Native.Nat.{ℕ, zero, suc, ◌<◌}
use mathlib.Core.Path.{sym, subst}
use mathlib.Core.List.{List}
use mathlib.Core.Bool.{Bool, true, false, not, cond}
use lib.Dec.{T, eqb}
use lib.ListN.{get_or}
use lib.Ieee.{Float, is_nan, lt}
use Rattle.lists.proofs.Tabulate.{get_d_tabulate}
use Rattle.scene.specs.declared.Scene.{Scene}
use Rattle.scene.specs.declared.Scene.TheVariants.{Kelvin, Flagged, Outside, Guard}
use Rattle.scene.specs.Scene.{value}
use Rattle.scene.specs.Channel.{Channel}
use Rattle.instrument.specs.Instrument.{channels, positions}
use Rattle.product.specs.declared.Summary.{Summary}
use Rattle.product.specs.Scenes.{Deliver, scene_at, no_channel}
use Rattle.record.specs.Record.{earth_part}
use Rattle.product.specs.Summary.{none_delivered, lesser, greater, with_temperature, with_scene, summary_to, summary_of}
use Rattle.product.specs.Product.{summaries}
use Rattle.product.specs.Steps.{Plain}
use Rattle.product.proofs.SceneLaws.{scene_in_not_nan}

either_not_nan : (b : Bool) (x y : Float) → T (not (is_nan x)) → T (not (is_nan y)) → T (not (is_nan (cond b x y)))
either_not_nan true x y first second = first
either_not_nan false x y first second = second

plain_none : Plain none_delivered
unfolding is_nan
plain_none = record { low = tt; high = tt }

plain_with_scene : (s : Summary) (scene : Scene) → Plain s → T (not (is_nan (value scene))) → Plain (with_scene s scene)
unfolding with_scene with_temperature
plain_with_scene s (Kelvin x) plain h = record {
  low = either_not_nan (eqb s.count 0) x (lesser x s.low) h (either_not_nan (lt x s.low) x s.low h plain.low);
  high = either_not_nan (eqb s.count 0) x (greater x s.high) h (either_not_nan (lt s.high x) x s.high h plain.high);
}
plain_with_scene s Flagged plain h = plain
plain_with_scene s Outside plain h = plain
plain_with_scene s Guard plain h = plain

plain_summary : (scenes : ℕ → Scene) → ((i : ℕ) → T (not (is_nan (value (scenes i))))) → (n : ℕ) → Plain (summary_to scenes n)
unfolding summary_to
plain_summary scenes each zero = plain_none
plain_summary scenes each (suc n) = plain_with_scene (summary_to scenes n) (scenes n) (plain_summary scenes each n) (each n)

plain_summary_of : (deliver : Deliver) (channel : Channel) (part : List ℕ) → Plain (summary_of deliver channel part)
plain_summary_of deliver channel part = plain_summary (scene_at deliver channel part) (λ i. scene_in_not_nan (deliver i) channel _) positions

pub plain_summaries : (deliver : ℕ → Deliver) (states : List Channel) (earth : List ℕ) (c : ℕ) → c < channels → Plain (get_or (summaries deliver states earth) c none_delivered)
unfolding summaries
plain_summaries deliver states earth c below =
    subst Plain (sym (get_d_tabulate (λ k. summary_of (deliver k) (get_or states k no_channel) (earth_part earth k)) channels c none_delivered below))
    (plain_summary_of (deliver c) (get_or states c no_channel) (earth_part earth c))
