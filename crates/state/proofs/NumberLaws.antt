-- Numbers as u32, one after the other: how many bytes they take, what a loop that puts them leaves, and that they are read back. The number of
-- the last accepted scan, the same.
use Prim.Native.Nat.{ℕ, ◌+◌, ◌*◌, ◌<◌, ◌≤◌}
use native.Mathlib.Nat.{mul_comm}
use native.Mathlib.Omega.{arith}
use mathlib.Core.Path.{◌≡◌, refl, sym, ap, ◌∙◌}
use mathlib.Core.List.{List, [], ◌∷◌}
use mathlib.Core.Bool.{true, cond}
use lib.Dec.{eqb, leb}
use lib.ListN.{length, get_or}
use lib.Seq.{ext_get_or}
use Rattle.std.specs.Prelude.{Option, None, Some}
use Rattle.lists.specs.Build.{put, cells}
use Rattle.lists.proofs.Cells.{length_cells, cell_inside, put_next_cell}
use Rattle.lists.proofs.Put.{put_nothing}
use Rattle.lists.proofs.Stands.{StandsAt, stands_inside, stands_behind, stands_itself, cell_stands}
use Rattle.lists.proofs.Tabulate.{length_tabulate, get_d_tabulate}
use Rattle.fields.specs.Numbers.{u32_at, u32_bytes}
use Rattle.fields.proofs.FieldBytes.{u32_that_stands}
use Rattle.state.specs.State.{number_bytes, last_bytes, at, numbers_at, number_is_right}

module _ (numbers : List ℕ) where
  abbrev pub bytes_of : ℕ → List ℕ
  bytes_of i = u32_bytes (get_or numbers i 0)

  length_bytes : (n : ℕ) → length (cells bytes_of n) ≡ 4 * n
  length_bytes n = length_cells bytes_of 4 (λ _. refl) n ∙ mul_comm n 4

  pub length_number_bytes : length (number_bytes numbers) ≡ 4 * length numbers
  unfolding number_bytes
  length_number_bytes = length_bytes (length numbers)

  -- ---- a loop that puts them
  pub put_none : (b : List ℕ) (at : ℕ) → at ≤ length b → b ≡ put b at (cells bytes_of 0)
  unfolding cells
  put_none b at fits = put_nothing b at fits

  pub put_next_of : (b : List ℕ) (at i : ℕ) → at + 4 * i ≤ length b → {out next : List ℕ} → out ≡ put b at (cells bytes_of i) → next ≡ put out (at + 4 * i) (bytes_of i) → next ≡ put b at (cells bytes_of (i + 1))
  put_next_of b at i fits before is = is ∙ ap (λ (l : List ℕ). put l (at + 4 * i) (bytes_of i)) before ∙ put_next_cell bytes_of 4 (λ _. refl) b at i fits

  pub put_all : (b : List ℕ) (at n : ℕ) → n ≡ length numbers → put b at (cells bytes_of n) ≡ put b at (number_bytes numbers)
  unfolding number_bytes
  put_all b at n all = ap (λ (n : ℕ). put b at (cells bytes_of n)) all

  -- ---- reading them back
  module _ (l : List ℕ) (at n : ℕ) (long : length numbers ≡ n) (stands : StandsAt l at (number_bytes numbers)) where
    number_stands : (i : ℕ) → i < n → StandsAt l (at + 4 * i) (bytes_of i)
    unfolding number_bytes
    number_stands i below =
        let inside : i < length numbers = omega arith in
        stands_inside l (number_bytes numbers) (bytes_of i) at (4 * i)
        (omega (arith, cell_inside 4 i (length numbers) inside, length_bytes (length numbers)))
        stands
        (cell_stands bytes_of 4 (λ _. refl) (length numbers) i inside)

    pub numbers_read_back : numbers_at l at n ≡ numbers
    unfolding numbers_at
    numbers_read_back =
        let read : ℕ → ℕ = λ i. u32_at l (at + 4 * i) in
        let same : length (numbers_at l at n) ≡ n = length_tabulate read n in
        ext_get_or 0 (numbers_at l at n) numbers (same ∙ sym long)
        (λ i below.
        let inside : i < n = omega (arith, same) in
        get_d_tabulate read n i 0 inside ∙ u32_that_stands l (at + 4 * i) (get_or numbers i 0) (number_stands i inside))

-- ---- the number of the last accepted scan

pub length_last_bytes : (last : Option ℕ) → length (last_bytes last) ≡ 5
length_last_bytes None = refl
length_last_bytes (Some last) = refl

-- what is read of it
pub record LastRead (state : List ℕ) (accepted : Option ℕ) : Type 0 where
  pub byte : leb (get_or state (at 2) 0) 1 ≡ true
  pub right : number_is_right state ≡ true
  pub last : cond (eqb (get_or state (at 2) 0) 1) (Some (u32_at state (at 2 + 1))) None ≡ accepted

number_read : (state : List ℕ) (byte number : ℕ) → StandsAt state (at 2) (byte ∷ u32_bytes number) → u32_at state (at 2 + 1) ≡ number
number_read state byte number stands =
    u32_that_stands state (at 2 + 1) number
    (stands_inside state (byte ∷ u32_bytes number) (u32_bytes number) (at 2) 1 (omega arith) stands
    (stands_behind (byte ∷ []) (u32_bytes number) (u32_bytes number) 1 0 refl (stands_itself (u32_bytes number))))

pub last_is_read : (state : List ℕ) (last : Option ℕ) → StandsAt state (at 2) (last_bytes last) → LastRead state last
last_is_read state None stands =
    let byte : get_or state (at 2) 0 ≡ 0 = stands.each 0 0 (omega arith) in
    record { byte = rw byte refl; right = rw (byte, number_read state 0 0 stands) refl; last = rw byte refl }
last_is_read state (Some last) stands =
    let byte : get_or state (at 2) 0 ≡ 1 = stands.each 0 0 (omega arith) in
    record { byte = rw byte refl; right = rw byte refl; last = rw byte (ap (λ (n : ℕ). Some n) (number_read state 1 last stands)) }
