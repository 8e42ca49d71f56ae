-- Numbers and fields that stand in a list of bytes: a number is read back, a field's tag and length are right, and its value stands behind
-- its head; all fields of a layout, one after the other.
use Prim.Native.Nat.{ℕ, zero, suc, ◌+◌, ◌<◌}
use native.Mathlib.Nat.{add-zero, zero-add}
use native.Mathlib.Omega.{arith}
use mathlib.Core.Path.{◌≡◌, refl, sym, ap, ◌∙◌}
use mathlib.Core.List.{List, [], ◌∷◌, ◌++◌, append_assoc}
use mathlib.Core.Bool.{true}
use lib.ListN.{length, get_or, length-append}
use borrow.Author.Tests.{eq-eqb}
use Rattle.lists.proofs.Stands.{StandsAt, stands_itself, stands_at_front, stands_behind, stands_inside}
use Rattle.fields.specs.Numbers.{u16_at, u32_at, u16_bytes, u32_bytes}
use Rattle.fields.specs.declared.Field.{Field}
use Rattle.fields.specs.Fields.{head_size, field_bytes, field_is_right, layout_size, layout_is_right, field_at, value_start, laid_out}
use Rattle.fields.proofs.NumberLaws.{u16_same, u32_same}
use Rattle.fields.proofs.LayoutLaws.{right_when_each, field_start}

-- ---- numbers

pub u16_of_bytes : (n : ℕ) → u16_at (u16_bytes n) 0 ≡ n
u16_of_bytes n = omega arith

pub u32_of_bytes : (n : ℕ) → u32_at (u32_bytes n) 0 ≡ n
u32_of_bytes n = omega arith

module _ (l : List ℕ) (at n : ℕ) where
  pub u16_that_stands : StandsAt l at (u16_bytes n) → u16_at l at ≡ n
  u16_that_stands stands =
      u16_same l (u16_bytes n) at 0 (λ j inside. stands.each j 0 inside ∙ ap (λ k. get_or (u16_bytes n) k 0) (sym (zero-add j))) ∙ u16_of_bytes n

  pub u32_that_stands : StandsAt l at (u32_bytes n) → u32_at l at ≡ n
  u32_that_stands stands =
      u32_same l (u32_bytes n) at 0 (λ j inside. stands.each j 0 inside ∙ ap (λ k. get_or (u32_bytes n) k 0) (sym (zero-add j))) ∙ u32_of_bytes n

-- ---- fields

-- a field's tag and length
abbrev pub head_bytes_lem : Field → List ℕ
head_bytes_lem f = field_bytes f []

module _ (f : Field) (value : List ℕ) where
  pub length_field : length value ≡ f.size → length (field_bytes f value) ≡ head_size + f.size
  length_field long = omega arith

  -- what stands behind a field
  pub stands_behind_field : (l v : List ℕ) (at : ℕ) → length value ≡ f.size → StandsAt l at v
      → StandsAt (field_bytes f value ++ l) (head_size + f.size + at) v
  stands_behind_field l v at long = stands_behind (field_bytes f value) l v (head_size + f.size) at (length_field long)

  module _ (l : List ℕ) (at : ℕ) (stands : StandsAt l at (field_bytes f value)) where
    pub value_of_field : StandsAt l (at + head_size) value
    value_of_field =
        stands_inside l (field_bytes f value) value at head_size (omega arith) stands
        (stands_behind (head_bytes_lem f) value value head_size 0 refl (stands_itself value))

    pub field_is_right_lem : field_is_right l at f ≡ true
    unfolding field_is_right
    field_is_right_lem =
        let size = u16_bytes f.size in
        let tag_is : get_or l at 0 ≡ f.tag = ap (λ k. get_or l k 0) (sym (add-zero at)) ∙ stands.each 0 0 (omega arith) in
        let size-stands =
        stands_inside l (field_bytes f value) size at 1 (omega arith) stands
        (stands_behind (f.tag ∷ []) (size ++ value) size 1 0 refl (stands_at_front size value)) in
        simp (eq-eqb _ _ tag_is, eq-eqb _ _ (u16_that_stands l (at + 1) f.size size-stands))

-- ---- all fields of a layout

-- each value has its field's length
abbrev pub Sized : List Field → List (List ℕ) → Type 0
Sized [] values = Unit {0}
Sized (f ∷ fs) [] = ⊥
Sized (f ∷ fs) (value ∷ values) = (length value ≡ f.size) × Sized fs values

pub laid_out_before : (fs : List Field) (values : List (List ℕ)) (rest : List ℕ) → laid_out fs values [] ++ rest ≡ laid_out fs values rest
laid_out_before [] values rest = refl
laid_out_before (f ∷ fs) [] rest = refl
laid_out_before (f ∷ fs) (value ∷ values) rest =
    append_assoc (field_bytes f value) (laid_out fs values []) rest ∙ ap (λ (l : List ℕ). field_bytes f value ++ l) (laid_out_before fs values rest)

pub length_laid_out : (fs : List Field) (values : List (List ℕ)) (rest : List ℕ) → Sized fs values
    → length (laid_out fs values rest) ≡ layout_size fs + length rest
length_laid_out [] values rest sized = omega arith
length_laid_out (f ∷ fs) [] rest sized = absurd sized
length_laid_out (f ∷ fs) (value ∷ values) rest sized =
    omega (arith, sized.0, length-append value (laid_out fs values rest), length_laid_out fs values rest sized.1)

pub field_stands : (fs : List Field) (values : List (List ℕ)) (rest : List ℕ) → Sized fs values → (k : ℕ) → k < length fs
    → StandsAt (laid_out fs values rest) (field_start fs k) (field_bytes (field_at fs k) (get_or values k []))
field_stands [] values rest sized k below = absurd (omega arith)
field_stands (f ∷ fs) [] rest sized k below = absurd sized
field_stands (f ∷ fs) (value ∷ values) rest sized zero below = stands_at_front (field_bytes f value) (laid_out fs values rest)
field_stands (f ∷ fs) (value ∷ values) rest sized (suc k) below =
    stands_behind_field f value _ _ (field_start fs k) sized.0 (field_stands fs values rest sized.1 k (omega arith))

module _ (fs : List Field) (values : List (List ℕ)) (rest : List ℕ) (sized : Sized fs values) where
  pub value_stands : (k : ℕ) → k < length fs → StandsAt (laid_out fs values rest) (value_start fs k) (get_or values k [])
  value_stands k below = value_of_field (field_at fs k) (get_or values k []) _ (field_start fs k) (field_stands fs values rest sized k below)

  pub laid_out_is_right : layout_is_right (laid_out fs values rest) 0 fs ≡ true
  laid_out_is_right =
      right_when_each (laid_out fs values rest) 0 fs
      (λ k below. rw (zero-add (field_start fs k)) (field_is_right_lem (field_at fs k) (get_or values k []) _ (field_start fs k) (field_stands fs values rest sized k below)))
