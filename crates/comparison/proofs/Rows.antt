-- The layout of two rows: how many fields it has, and of rows that are cut at one place, that it is the two layouts in a row.
use Prim.Native.Nat.{ℕ}
use native.Mathlib.Omega.{arith}
use mathlib.Core.Path.{◌≡◌, refl, ap}
use mathlib.Core.List.{List, [], ◌∷◌, ◌++◌}
use lib.ListN.{length}
use Rattle.fields.specs.declared.Field.{Field}
use Rattle.fields.specs.Fields.{field}
use Rattle.comparison.specs.Layouts.{layout_of}

pub layout_of_none : (tags sizes : List ℕ) → length tags ≡ 0 → layout_of tags sizes ≡ []
unfolding layout_of
layout_of_none [] sizes none = refl
layout_of_none (tag ∷ tags) sizes none = absurd (omega arith)

pub length_layout : (tags sizes : List ℕ) → length tags ≡ length sizes → length (layout_of tags sizes) ≡ length tags
unfolding layout_of
length_layout [] sizes same = refl
length_layout (tag ∷ tags) [] same = absurd (omega arith)
length_layout (tag ∷ tags) (size ∷ sizes) same = omega (arith, length_layout tags sizes (omega arith))

pub layout_of_two : (tags sizes other_tags other_sizes : List ℕ) → length tags ≡ length sizes
    → layout_of (tags ++ other_tags) (sizes ++ other_sizes) ≡ layout_of tags sizes ++ layout_of other_tags other_sizes
unfolding layout_of
layout_of_two [] [] other_tags other_sizes same = refl
layout_of_two [] (size ∷ sizes) other_tags other_sizes same = absurd (omega arith)
layout_of_two (tag ∷ tags) [] other_tags other_sizes same = absurd (omega arith)
layout_of_two (tag ∷ tags) (size ∷ sizes) other_tags other_sizes same =
    ap (λ (rest : List Field). field tag size ∷ rest) (layout_of_two tags sizes other_tags other_sizes (omega arith))
