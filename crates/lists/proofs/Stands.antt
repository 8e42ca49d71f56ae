-- What stands in a list from a place on: at its front, behind a front, inside a part that stands, and a cell among cells.
use Prim.Native.Nat.{ℕ, ◌+◌, ◌*◌, ◌<◌, ◌≤◌}
use native.Mathlib.Nat.{add_assoc, zero-add, mul_comm}
use native.Mathlib.Omega.{arith}
use mathlib.Core.Path.{◌≡◌, sym, ap, ◌∙◌}
use mathlib.Core.List.{List, ◌++◌}
use lib.ListN.{length, get_or, take, drop, get_or-append}
use lib.Seq.{ext_get_or, get_or-append-add, get_or-take, get_or-drop}
use Rattle.lists.specs.Build.{cells}
use Rattle.lists.proofs.Cells.{cell_of_cells}
use Rattle.lists.proofs.Put.{length_part}

-- from place `at` on, l has the elements of v
pub record StandsAt {A : Type 0} (l : List A) (at : ℕ) (v : List A) : Type 0 where
  pub each : (i : ℕ) (d : A) → i < length v → get_or l (at + i) d ≡ get_or v i d

module _ {A : Type 0} where
  pub stands_itself : (v : List A) → StandsAt v 0 v
  stands_itself v = record { each = λ i d inside. ap (λ k. get_or v k d) (zero-add i) }

  pub stands_at_front : (v l : List A) → StandsAt (v ++ l) 0 v
  stands_at_front v l = record { each = λ i d inside. ap (λ k. get_or (v ++ l) k d) (zero-add i) ∙ get_or-append v l d i inside }

  pub stands_behind : (front l v : List A) (n at : ℕ) → length front ≡ n → StandsAt l at v → StandsAt (front ++ l) (n + at) v
  stands_behind front l v n at long stands = record {
    each = λ i d inside.
        ap (λ k. get_or (front ++ l) (k + at + i) d) (sym long)
        ∙ ap (λ k. get_or (front ++ l) k d) (add_assoc (length front) at i)
        ∙ get_or-append-add front l (at + i) d
        ∙ stands.each i d inside;
  }

  -- a part of what stands
  pub stands_inside : (l v w : List A) (at k : ℕ) → k + length w ≤ length v → StandsAt l at v → StandsAt v k w → StandsAt l (at + k) w
  stands_inside l v w at k fits outer inner = record {
    each = λ i d inside. ap (λ n. get_or l n d) (add_assoc at k i) ∙ outer.each (k + i) d (omega arith) ∙ inner.each i d inside;
  }

  pub cell_stands : (f : ℕ → List A) (k : ℕ) → ((i : ℕ) → length (f i) ≡ k) → (n i : ℕ) → i < n → StandsAt (cells f n) (k * i) (f i)
  cell_stands f k long n i below = record {
    each = λ j d inside.
        let short : j < k = omega (arith, long i) in
        ap (λ m. get_or (cells f n) (m + j) d) (mul_comm k i)
        ∙ sym (get_or-drop (i * k) (cells f n) j d)
        ∙ sym (get_or-take k (drop (i * k) (cells f n)) j d short)
        ∙ ap (λ l. get_or l j d) (cell_of_cells f k long n i below);
  }

  -- what stands is read as a part
  pub part_that_stands : (l v : List A) (at n : ℕ) (d : A) → length v ≡ n → at + n ≤ length l → StandsAt l at v → take n (drop at l) ≡ v
  part_that_stands l v at n d long fits stands =
      let same : length (take n (drop at l)) ≡ n = length_part l at n fits in
      ext_get_or d (take n (drop at l)) v (same ∙ sym long)
      (λ i below.
      let inside : i < n = omega (arith, same) in
      get_or-take n (drop at l) i d inside ∙ get_or-drop at l i d ∙ stands.each i d (omega arith))
