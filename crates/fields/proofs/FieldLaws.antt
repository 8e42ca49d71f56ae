-- What a field's value is where its tag and length are right.
use Prim.Native.Nat.{ℕ, ◌+◌}
use mathlib.Core.Path.{◌≡◌}
use mathlib.Core.List.{List}
use mathlib.Core.Bool.{true}
use lib.ListN.{take, drop}
use Rattle.fields.specs.declared.Field.{Field}
use Rattle.fields.specs.Fields.{head_size, field_is_right, field_value}

module _ (s : List ℕ) (at : ℕ) (f : Field) where
  pub value_when_right : field_is_right s at f ≡ true → field_value s at f ≡ take f.size (drop (at + head_size) s)
  unfolding field_value
  value_when_right right = rw right
