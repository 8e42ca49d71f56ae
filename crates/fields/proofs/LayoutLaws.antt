-- A layout is right exactly where its first field is right and the rest is, so where each of its fields is, and two in a row where both are;
-- where field k of a layout stands, and the layout behind n bytes.
use Prim.Native.Nat.{ℕ, zero, suc, ◌+◌, ◌<◌, ◌≤◌}
use native.Mathlib.Nat.{add-zero, zero-add, add_assoc}
use native.Mathlib.Omega.{arith}
use mathlib.Core.Path.{◌≡◌, refl, sym, ap, ◌∙◌}
use mathlib.Core.List.{List, [], ◌∷◌, ◌++◌}
use mathlib.Core.Bool.{true, ◌&&◌, and-eq-true_iff, and_assoc}
use lib.ListN.{length, get_or, take, drop}
use lib.Seq.{get_or-drop}
use Rattle.fields.specs.declared.Field.{Field}
use Rattle.fields.specs.Fields.{field, head_size, field_is_right, field_value, layout_size, layout_is_right, field_at, value_in}
use Rattle.fields.proofs.FieldLaws.{value_when_right}

-- no field, and where field k begins
abbrev pub no_field : Field
no_field = field 0 0

abbrev pub field_start : List Field → ℕ → ℕ
field_start fs k = layout_size (take k fs)

module _ (s : List ℕ) (at : ℕ) (f : Field) (fs : List Field) where
  pub layout_when_first_right : field_is_right s at f ≡ true → layout_is_right s at (f ∷ fs) ≡ layout_is_right s (at + head_size + f.size) fs
  unfolding layout_is_right
  layout_when_first_right right = rw right

  pub first_when_right : layout_is_right s at (f ∷ fs) ≡ true → field_is_right s at f ≡ true
  unfolding layout_is_right
  first_when_right right = ((and-eq-true_iff (field_is_right s at f) _).0 right).0

  pub rest_when_right : layout_is_right s at (f ∷ fs) ≡ true → layout_is_right s (at + head_size + f.size) fs ≡ true
  unfolding layout_is_right
  rest_when_right right = ((and-eq-true_iff (field_is_right s at f) _).0 right).1

-- field k stands behind the first k
pub each_when_right : (s : List ℕ) (at : ℕ) (fs : List Field) (none : Field) (k : ℕ) → k < length fs → layout_is_right s at fs ≡ true
    → field_is_right s (at + layout_size (take k fs)) (get_or fs k none) ≡ true
each_when_right s at [] none k below right = absurd (omega arith)
each_when_right s at (f ∷ fs) none zero below right = rw add-zero (first_when_right s at f fs right)
each_when_right s at (f ∷ fs) none (suc k) below right =
    let place : at + (head_size + f.size + layout_size (take k fs)) ≡ at + head_size + f.size + layout_size (take k fs) = omega arith in
    rw place (each_when_right s (at + head_size + f.size) fs none k (omega arith) (rest_when_right s at f fs right))

pub right_when_each : (s : List ℕ) (at : ℕ) (fs : List Field) → ((k : ℕ) → k < length fs → field_is_right s (at + field_start fs k) (field_at fs k) ≡ true)
    → layout_is_right s at fs ≡ true
unfolding layout_is_right
right_when_each s at [] each = refl
right_when_each s at (f ∷ fs) each =
    let first : field_is_right s at f ≡ true = rw add-zero at (each 0 (omega arith)) in
    layout_when_first_right s at f fs first
    ∙ right_when_each s (at + head_size + f.size) fs
    (λ k below.
    let place : at + head_size + f.size + field_start fs k ≡ at + field_start (f ∷ fs) (suc k) = omega arith in
    rw place (each (suc k) (omega arith)))

-- of two layouts in a row: the bytes that they take, and whether they are right
pub size_of_two : (fs gs : List Field) → layout_size (fs ++ gs) ≡ layout_size fs + layout_size gs
size_of_two [] gs = sym (zero-add (layout_size gs))
size_of_two (f ∷ fs) gs = omega (arith, size_of_two fs gs)

pub right_of_two : (s : List ℕ) (at : ℕ) (fs gs : List Field)
    → layout_is_right s at (fs ++ gs) ≡ (layout_is_right s at fs && layout_is_right s (at + layout_size fs) gs)
unfolding layout_is_right
right_of_two s at [] gs = rw (add-zero at) refl
right_of_two s at (f ∷ fs) gs =
    let place : at + (head_size + f.size + layout_size fs) ≡ at + head_size + f.size + layout_size fs = omega arith in
    rw place
    (ap (λ rest. field_is_right s at f && rest) (right_of_two s (at + head_size + f.size) fs gs)
    ∙ sym (and_assoc (field_is_right s at f) (layout_is_right s (at + head_size + f.size) fs) _))

-- a field, and a layout, read in the bytes from n on
pub field_behind : (s : List ℕ) (n at : ℕ) (f : Field) → field_is_right (drop n s) at f ≡ field_is_right s (n + at) f
unfolding field_is_right
field_behind s n at f =
    rw (get_or-drop n s at 0, get_or-drop n s (at + 1) 0, get_or-drop n s (at + 1 + 1) 0, add_assoc n at 1, add_assoc n (at + 1) 1)

pub layout_behind : (s : List ℕ) (n at : ℕ) (fs : List Field) → layout_is_right (drop n s) at fs ≡ layout_is_right s (n + at) fs
unfolding layout_is_right
layout_behind s n at [] = refl
layout_behind s n at (f ∷ fs) =
    let place : n + (at + head_size + f.size) ≡ n + at + head_size + f.size = omega arith in
    rw (field_behind s n at f, layout_behind s n (at + head_size + f.size) fs, place)

-- field k ends inside its layout
pub field_inside : (fs : List Field) (k : ℕ) → k < length fs → field_start fs k + head_size + (field_at fs k).size ≤ layout_size fs
field_inside [] k below = absurd (omega arith)
field_inside (f ∷ fs) zero below = omega arith
field_inside (f ∷ fs) (suc k) below = omega (arith, field_inside fs k (omega arith))

-- the value of field k is the part of the bytes that the layout names
pub value_of_layout : (s : List ℕ) (fs : List Field) (k : ℕ) → k < length fs → layout_is_right s 0 fs ≡ true
    → field_value s (field_start fs k) (field_at fs k) ≡ value_in fs k s
value_of_layout s fs k below right =
    value_when_right s (field_start fs k) (field_at fs k) (rw (zero-add (field_start fs k)) at (each_when_right s 0 fs no_field k below right))
