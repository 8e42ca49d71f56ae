-- What is left of both rows is as long as each other and is cut at 8; its fields fit behind `at`, and whether they are right from `at` on
-- is the answer for the whole layout.
use Rattle.std.proofs.Common.{◌≡◌, ◌+◌, ◌≤◌, length}
use Rattle.std.specs.Iterator.Adapters.{zip_first, zip_second}
use Rattle.std.specs.Slice.Iter.{chunks_rest, chunks_size}
use Rattle.fields.specs.Fields.{layout_size, layout_is_right}
use Rattle.comparison.specs.Layouts.{layout_of}
use Rattle.comparison.proofs.compared_layout.Given as goal

abbrev pub invariant-loop-some_tags : goal.invariant-loop-some_tags
invariant-loop-some_tags l =
    let tags = zip_first l.some_tags-iterator in
    let sizes = zip_second l.some_tags-iterator in
    record {
      cut_tags : chunks_size tags ≡ 8;
      cut_sizes : chunks_size sizes ≡ 8;
      as_long : length (chunks_rest tags) ≡ length (chunks_rest sizes);
      fits : l.at + layout_size (layout_of (chunks_rest tags) (chunks_rest sizes)) ≤ length l.bytes;
      answer : layout_is_right l.bytes 0 (layout_of l.tags l.sizes) ≡ layout_is_right l.bytes l.at (layout_of (chunks_rest tags) (chunks_rest sizes));
    }
