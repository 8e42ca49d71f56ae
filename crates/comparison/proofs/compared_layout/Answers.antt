-- `compared_layout` meets its contract: what a turn asks of its fields, from `at` on, is what the layout asks of those that stand there.
use Rattle.std.proofs.Common.{◌≡◌, ◌+◌, ◌-◌, ℕ, List, ◌++◌, length, drop, take, length-append, length-drop, arith, refl, sym, ap, ap₂, ◌∙◌, Bool, true, false, ◌&&◌}
use native.Mathlib.Nat.{add-zero}
use mathlib.Core.Logic.{inl, inr}
use Rattle.std.proofs.lemmas.List.{take_rest, take_at}
use Rattle.std.specs.Iterator.Adapters.{zip_first}
use Rattle.std.specs.Slice.Iter.{chunks_rest}
use Rattle.fields.specs.declared.Field.{Field}
use Rattle.fields.specs.Fields.{layout_size, layout_is_right}
use Rattle.fields.proofs.LayoutLaws.{size_of_two, right_of_two, layout_behind}
use Rattle.comparison.specs.Layouts.{layout_of}
use Rattle.comparison.proofs.Rows.{length_layout, layout_of_two, layout_of_none}
use Rattle.comparison.proofs.compared_layout.Goals as goal

-- the fields of a turn, which are stored at the front of the array, and those that are left behind them
abbrev stored : List ℕ → List Field → List Field → List Field
stored tags part fields = take (length tags) (part ++ drop (length tags) fields)

in_a_row : {tags sizes : List ℕ} {part : List Field} (part_tags part_sizes more_tags more_sizes : List ℕ) (fields : List Field)
    → tags ≡ part_tags ++ more_tags → sizes ≡ part_sizes ++ more_sizes → length part_tags ≡ length part_sizes → part ≡ layout_of part_tags part_sizes
    → (layout_of tags sizes ≡ stored part_tags part fields ++ layout_of more_tags more_sizes)
    × (layout_size (layout_of tags sizes) ≡ layout_size (stored part_tags part fields) + layout_size (layout_of more_tags more_sizes))
in_a_row {part = part} part_tags part_sizes more_tags more_sizes fields is_tags is_sizes as_long is =
    let more : List Field = layout_of more_tags more_sizes in
    let row =
    ap₂ layout_of is_tags is_sizes
    ∙ layout_of_two part_tags part_sizes more_tags more_sizes as_long
    ∙ ap (λ (fs : List Field). fs ++ more) (sym is)
    ∙ ap (λ (fs : List Field). fs ++ more) (sym (take_at part (drop (length part_tags) fields) (length part_tags) (ap length is ∙ length_layout part_tags part_sizes as_long))) in
    (row, ap layout_size row ∙ size_of_two (stored part_tags part fields) more)

-- what the turn is told of its fields, read at the front of what is left
turn_decides : (s : List ℕ) (at : ℕ) {next : ℕ} (part more : List Field) (told : Bool) → layout_is_right (take (length s - at) (drop at s)) 0 part ≡ told
    → next ≡ at + layout_size part → layout_is_right s at (part ++ more) ≡ (told && layout_is_right s next more)
turn_decides s at part more told is behind =
    let there : layout_is_right (take (length s - at) (drop at s)) 0 part ≡ layout_is_right s at part =
    ap (λ (l : List ℕ). layout_is_right l 0 part) (take_rest s at) ∙ layout_behind s at 0 part ∙ ap (λ (n : ℕ). layout_is_right s n part) (add-zero at) in
    right_of_two s at part more ∙ ap₂ (λ (b : Bool) (n : ℕ). b && layout_is_right s n more) (sym there ∙ is) (sym behind)

pub layout_is_right-requires : goal.layout_is_right-requires
layout_is_right-requires c =
    let step = c.in-Some.ensures.steps in
    let row = in_a_row c.in-Some.some_tags.now c.in-Some.some_sizes.now _ _ c.loop-some_tags.fields step.0.1.0 step.1.1.0 (omega arith) c.write_layout.ensures in
    omega (arith, row.1, length-drop c.loop-some_tags.at c.args.bytes.now)

pub returns-then-not-layout_is_right : goal.returns-then-not-layout_is_right
returns-then-not-layout_is_right c =
    let step = c.in-Some.ensures.steps in
    let row = in_a_row c.in-Some.some_tags.now c.in-Some.some_sizes.now _ _ c.loop-some_tags.fields step.0.1.0 step.1.1.0 (omega arith) c.write_layout.ensures in
    sym
    (c.loop-some_tags.invariant.answer
    ∙ ap (layout_is_right c.args.bytes.now c.loop-some_tags.at) row.0
    ∙ turn_decides c.args.bytes.now c.loop-some_tags.at _ _ false (sym c.layout_is_right.ensures ∙ c.if-not-layout_is_right.true) refl)

pub overflow_add-at : goal.overflow_add-at
overflow_add-at c =
    let step = c.in-Some.ensures.steps in
    let row = in_a_row c.in-Some.some_tags.now c.in-Some.some_sizes.now _ _ c.loop-some_tags.fields step.0.1.0 step.1.1.0 (omega arith) c.write_layout.ensures in
    omega (arith, row.1)

pub loop-some_tags-preserved : goal.loop-some_tags-preserved
loop-some_tags-preserved c =
    let step = c.in-Some.ensures.steps in
    let at = c.loop-some_tags.at in
    let row = in_a_row c.in-Some.some_tags.now c.in-Some.some_sizes.now _ _ c.loop-some_tags.fields step.0.1.0 step.1.1.0 (omega arith) c.write_layout.ensures in
    record {
      cut_tags = step.0.0 ∙ c.loop-some_tags.invariant.cut_tags;
      cut_sizes = step.1.0 ∙ c.loop-some_tags.invariant.cut_sizes;
      as_long = omega (arith, ap length step.0.1.0, ap length step.1.1.0, length-append {A = ℕ});
      fits = omega (arith, row.1);
      answer = c.loop-some_tags.invariant.answer
          ∙ ap (layout_is_right c.args.bytes.now at) row.0
          ∙ turn_decides c.args.bytes.now at _ _ true (sym c.layout_is_right.ensures ∙ c.if-not-layout_is_right.false) (ap (λ (n : ℕ). at + n) c.layout_size-at.ensures);
    }

pub returns : goal.returns
unfolding layout_is_right
returns c =
    let rests = c.loop-some_tags.some_tags-iterator in
    let none : length (chunks_rest (zip_first rests)) ≡ 0 =
    elim c.in-None.ensures.steps [ inl h ↦ h.1.1.0 | inr h ↦ c.loop-some_tags.invariant.as_long ∙ h.1.1.0 ] in
    sym (c.loop-some_tags.invariant.answer ∙ ap (layout_is_right c.args.bytes.now c.loop-some_tags.at) (layout_of_none _ _ none))
