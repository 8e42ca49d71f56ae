-- Document 01, "The table": each field is a one-byte tag, a two-byte length and a value. A layout is the list of the tags and lengths
-- of the fields that stand one after the other.
use Rattle.std.specs.Prelude.{ℕ, ◌+◌, List, [], ◌∷◌, ◌++◌, Bool, true, ◌&&◌, cond, eqb, get_or, take, drop}
use Rattle.fields.specs.declared.Field.{Field}
use Rattle.fields.specs.Numbers.{u16_at, u16_bytes}

-- a tag and the length of the value
abbrev pub field : ℕ → ℕ → Field
field tag size = record { tag = tag; size = size }

-- the bytes of a tag and a length, which stand before the value
abbrev pub head_size : ℕ
head_size = 3

-- a field as bytes
abbrev pub field_bytes : Field → List ℕ → List ℕ
field_bytes f value = (f.tag ∷ u16_bytes f.size) ++ value

-- whether the bytes from `at` on begin with this field's tag and length
unfoldable pub field_is_right : List ℕ → ℕ → Field → Bool
field_is_right s at f = eqb (get_or s at 0) f.tag && eqb (u16_at s (at + 1)) f.size

-- the value of the field that begins at `at`; nothing where its tag or length is wrong
unfoldable pub field_value : List ℕ → ℕ → Field → List ℕ
field_value s at f = cond (field_is_right s at f) (take f.size (drop (at + head_size) s)) []

-- the bytes that a layout takes
abbrev pub layout_size : List Field → ℕ
layout_size [] = 0
layout_size (f ∷ fs) = head_size + f.size + layout_size fs

-- whether all tags and lengths of the layout that begins at `at` are right
unfoldable pub layout_is_right : List ℕ → ℕ → List Field → Bool
layout_is_right s at [] = true
layout_is_right s at (f ∷ fs) = field_is_right s at f && layout_is_right s (at + head_size + f.size) fs

-- field k of a layout; past the last one that is none
abbrev pub field_at : List Field → ℕ → Field
field_at fs k = get_or fs k (field 0 0)

-- where the value of field k starts, from the layout's front on
abbrev pub value_start : List Field → ℕ → ℕ
value_start fs k = layout_size (take k fs) + head_size

-- the value of field k of bytes with this layout
abbrev pub value_in : List Field → ℕ → List ℕ → List ℕ
value_in fs k bytes = take (field_at fs k).size (drop (value_start fs k) bytes)

-- the fields with these values, one after the other, and what comes behind them
abbrev pub laid_out : List Field → List (List ℕ) → List ℕ → List ℕ
laid_out [] values rest = rest
laid_out (f ∷ fs) [] rest = rest
laid_out (f ∷ fs) (value ∷ values) rest = field_bytes f value ++ laid_out fs values rest
