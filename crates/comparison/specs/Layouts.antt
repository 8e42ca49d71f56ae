-- A layout whose tags and lengths are two rows, as C hands them over.
use Rattle.std.specs.Prelude.{ℕ, List, [], ◌∷◌}
use Rattle.fields.specs.declared.Field.{Field}

-- the layout with these tags and these lengths
unfoldable pub layout_of : List ℕ → List ℕ → List Field
layout_of [] sizes = []
layout_of (tag ∷ tags) [] = []
layout_of (tag ∷ tags) (size ∷ sizes) = record { tag = tag; size = size } ∷ layout_of tags sizes
