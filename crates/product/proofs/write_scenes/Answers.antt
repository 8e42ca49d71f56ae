-- `write_scenes` meets its contract: the stretch that a channel was lent comes back as a put at its offset, and its parts of the scan bias
-- and of the earth counts are those of the definition.
use Rattle.std.proofs.Common.{◌≡◌, ℕ, ◌+◌, ◌*◌, List, length, get_or, sym, ap, ap₂, subst, ◌∙◌, arith, rules}
use Rattle.lists.proofs.Tabulate.{tabulated_none, filled_by_store, tabulated_to_end}
use Rattle.lists.proofs.Put.{part_is_take, length_part, lent_part_is_put}
use Rattle.lists.proofs.Cells.{filled_none, filled_by_put, filled_to_end}
use Rattle.instrument.specs.Instrument.{channels}
use Rattle.record.specs.Record.{earth_size, earth_part}
use Rattle.scene.specs.Channel.{Channel}
use Rattle.product.specs.Scenes.{no_channel}
use Rattle.product.specs.Summary.{summary_of}
use Rattle.product.specs.Product.{stretch_size, channel_scenes, scene_bytes, summaries}
use Rattle.product.specs.Steps.{with_pairs, pairs_size, by_pairs, PairsRange}
use Rattle.product.proofs.Lengths.{length_channel_scenes}
use Rattle.product.proofs.write_scenes.Goals as goal

pub loop-c-init : goal.loop-c-init
loop-c-init c = record {
  summaries_are = tabulated_none _ _;
  out_is = filled_none _ stretch_size _;
}

pub write_channel-requires-clause-pairs_len : goal.write_channel-requires-clause-pairs_len
write_channel-requires-clause-pairs_len c =
    let pairs = c.args.pairs.now in
    let i = c.loop-c.c in
    let lent = part_is_take pairs (pairs_size * i) pairs_size in
    (ap length lent ∙ length_part pairs (pairs_size * i) pairs_size (omega arith), subst PairsRange (sym lent) (c.requires.pairs_len.1 i c.loop-c-test.true))

pub loop-c-preserved : goal.loop-c-preserved
loop-c-preserved c =
    let pairs = c.args.pairs.now in
    let earth = c.args.earth.now in
    let i = c.loop-c.c in
    let w = c.write_channel in
    let start = stretch_size * i in
    let channel : Channel = get_or c.args.states i no_channel in
    let lent = part_is_take pairs (pairs_size * i) pairs_size in
    let counts = part_is_take earth (earth_size * i) earth_size in
    let summary : w.result ≡ summary_of (by_pairs pairs i) channel (earth_part earth i) =
    w.ensures.0 ∙ ap₂ (λ (p q : List ℕ). summary_of (with_pairs p) channel q) lent counts in
    let bytes : w.new.out ≡ channel_scenes (by_pairs pairs i) channel (earth_part earth i) =
    w.ensures.1 ∙ ap₂ (λ (p q : List ℕ). channel_scenes (with_pairs p) channel q) lent counts in
    record {
      summaries_are = filled_by_store _ _ i (omega arith) c.loop-c.invariant.summaries_are summary;
      out_is = filled_by_put _ stretch_size (λ n. length_channel_scenes _ _ _) c.args.out.now i c.loop-c.invariant.out_is bytes
          (lent_part_is_put c.loop-c.out w.new.out start (start + stretch_size) (ap (λ (n : ℕ). start + n) (ap length bytes ∙ length_channel_scenes (by_pairs pairs i) channel _)));
    }

pub returns : goal.returns
unfolding summaries scene_bytes
returns c =
    let last : c.loop-c.c ≡ channels = omega arith in (
      tabulated_to_end _ channels _ last (omega arith) c.loop-c.invariant.summaries_are,
      filled_to_end _ stretch_size channels c.args.out.now last c.requires.out_len.0 c.loop-c.invariant.out_is,
    )
