-- `write_layout` meets its contract: each turn stores the next field right behind those that stand already.
use Rattle.std.proofs.Common.{◌≡◌, ◌++◌, ◌+◌, ◌<◌, [], ◌∷◌, ℕ, List, length, get_or, take, length-take, refl, sym, ap, ap₂, ◌∙◌, arith}
use Rattle.std.proofs.lemmas.List.{take_more, take_more_set, take_all}
use Rattle.fields.specs.declared.Field.{Field}
use Rattle.fields.specs.Fields.{field}
use Rattle.comparison.specs.Layouts.{layout_of}
use Rattle.comparison.proofs.Rows.{layout_of_two}
use Rattle.comparison.proofs.write_layout.Goals as goal

one_more : (tags sizes : List ℕ) (i : ℕ) → i < length tags → length tags ≡ length sizes
    → layout_of (take (i + 1) tags) (take (i + 1) sizes) ≡ layout_of (take i tags) (take i sizes) ++ (field (get_or tags i 0) (get_or sizes i 0) ∷ [])
unfolding layout_of
one_more tags sizes i below same =
    rw (take_more tags i 0 below, take_more sizes i 0 (omega arith))
    (layout_of_two (take i tags) (take i sizes) _ _ (omega (arith, length-take i tags, length-take i sizes)))

pub loop-i-init : goal.loop-i-init
unfolding layout_of
loop-i-init c = refl

pub loop-i-preserved : goal.loop-i-preserved
loop-i-preserved c =
    let a = c.args in
    let i = c.loop-i.i in
    take_more_set c.loop-i.out i _ (omega arith)
    ∙ ap (λ (fs : List Field). fs ++ (field (get_or a.tags.now i 0) (get_or a.sizes.now i 0) ∷ [])) c.loop-i.invariant
    ∙ sym (one_more a.tags.now a.sizes.now i (omega arith) (omega arith))

pub returns : goal.returns
returns c =
    let i = c.loop-i.i in
    sym (take_all i c.loop-i.out (omega arith))
    ∙ c.loop-i.invariant
    ∙ ap₂ layout_of (take_all i c.args.tags.now (omega arith)) (take_all i c.args.sizes.now (omega arith))
