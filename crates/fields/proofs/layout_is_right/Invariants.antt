-- The fields from this one on fit behind `at`, and whether they are right from `at` on is the answer for the whole layout.
use Rattle.std.proofs.Common.{◌≡◌, ◌+◌, ◌≤◌, length, drop}
use Rattle.fields.specs.Fields.{layout_size, layout_is_right}
use Rattle.fields.proofs.layout_is_right.Given as goal

abbrev pub invariant-loop-field : goal.invariant-loop-field
invariant-loop-field l =
    (l.at + layout_size (drop l.field-index l.layout) ≤ length l.bytes)
    × (layout_is_right l.bytes 0 l.layout ≡ layout_is_right l.bytes l.at (drop l.field-index l.layout))
