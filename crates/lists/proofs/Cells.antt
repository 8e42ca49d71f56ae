-- Laws of `cells` and `filled`, for rules that give cells of k elements each: a buffer that is filled from the front, a cell at a time.
use Prim.Native.Nat.{ℕ, zero, suc, ◌+◌, ◌*◌, ◌<◌, ◌≤◌}
use native.Mathlib.Decide.{dec_lt}
use native.Mathlib.Nat.{le_refl, le_of_eq, mul_comm, mul-suc, suc-mul, zero-mul, mul-le-mul_left}
use native.Mathlib.Numerals.{add-one}
use native.Mathlib.Omega.{arith}
use mathlib.Core.Path.{◌≡◌, refl, sym, ap, ap₂, subst, ◌∙◌}
use mathlib.Core.List.{List, [], ◌++◌, append_assoc, append-nil}
use lib.ListN.{length, take, drop, length-append, drop_of_length-le}
use lib.Seq.{take_at, drop_at}
use Rattle.lists.specs.Build.{cells, put, filled}
use Rattle.lists.proofs.Put.{put_behind, put_after_put}

pub filled_none : {A : Type 0} (f : ℕ → List A) (k : ℕ) (b : List A) → b ≡ filled f k 0 b
unfolding cells
filled_none f k b = sym (ap (λ (n : ℕ). drop n b) (zero-mul k))

-- where cell i of n ends
pub cell_inside : (k i n : ℕ) → i < n → k * i + k ≤ k * n
cell_inside k i n below = subst (λ (m : ℕ). m ≤ k * n) (mul-suc k i) (mul-le-mul_left k below)

pub filled_all : {A : Type 0} (f : ℕ → List A) (k n : ℕ) (b : List A) → length b ≤ n * k → filled f k n b ≡ cells f n
filled_all f k n b full = rw (drop_of_length-le b full) (append-nil (cells f n))

-- at the end of a loop that fills: i has reached n
pub filled_to_end : {A : Type 0} (f : ℕ → List A) (k n : ℕ) (b : List A) {out : List A} {i : ℕ} → i ≡ n → length b ≡ k * n → out ≡ filled f k i b
    → out ≡ cells f n
filled_to_end f k n b end full is =
    is ∙ ap (λ (i : ℕ). filled f k i b) end ∙ filled_all f k n b (le_of_eq (full ∙ mul_comm k n))

module _ {A : Type 0} (f : ℕ → List A) (k : ℕ) (each : (i : ℕ) → length (f i) ≡ k) where
  pub length_cells : (n : ℕ) → length (cells f n) ≡ n * k
  unfolding cells
  length_cells zero = sym (zero-mul k)
  length_cells (suc n) =
      length-append (cells f n) (f n) ∙ ap₂ (λ (x y : ℕ). x + y) (length_cells n) (each n) ∙ sym (suc-mul n k)

  pub filled_more : (n : ℕ) (b : List A) → put (filled f k n b) (n * k) (f n) ≡ filled f k (n + 1) b
  unfolding cells
  filled_more n b =
      put_behind (cells f n) (f n) b (n * k) (length_cells n)
      ∙ ap (λ (x : ℕ). cells f n ++ f n ++ drop x b) (ap (λ (x : ℕ). n * k + x) (each n) ∙ sym (suc-mul n k))
      ∙ ap (λ (x : ℕ). filled f k x b) (sym (add-one n))

  -- a turn of such a loop: cell i is put right behind the first i
  pub filled_by_put : (b : List A) (i : ℕ) {out v next : List A} → out ≡ filled f k i b → v ≡ f i → next ≡ put out (k * i) v → next ≡ filled f k (i + 1) b
  filled_by_put b i {out} {v} is is-cell is-put =
      is-put
      ∙ ap (λ (n : ℕ). put out n v) (mul_comm k i)
      ∙ ap₂ (λ (l w : List A). put l (i * k) w) is is-cell
      ∙ filled_more i b

  -- the same in a part of a longer list, from `at` on
  pub put_next_cell : (b : List A) (at i : ℕ) → at + k * i ≤ length b → put (put b at (cells f i)) (at + k * i) (f i) ≡ put b at (cells f (i + 1))
  unfolding cells
  put_next_cell b at i fits =
      put_after_put b (cells f i) (f i) at (at + k * i) (ap (λ (n : ℕ). at + n) (length_cells i ∙ mul_comm i k)) fits
      ∙ ap (λ (n : ℕ). put b at (cells f n)) (sym (add-one i))

  -- the cell i of n stands at i * k, whatever comes behind
  pub cell_at : (n i : ℕ) (behind : List A) → i < n → take k (drop (i * k) (cells f n ++ behind)) ≡ f i
  unfolding cells
  cell_at zero i behind below = absurd (omega arith)
  cell_at (suc n) i behind below =
      ap (λ (l : List A). take k (drop (i * k) l)) (append_assoc (cells f n) (f n) behind)
      ∙ by_order (dec_lt i n) (cell_at n i (f n ++ behind))
    where
      by_order : Dec (i < n) → (i < n → take k (drop (i * k) (cells f n ++ (f n ++ behind))) ≡ f i)
          → take k (drop (i * k) (cells f n ++ (f n ++ behind))) ≡ f i
      by_order (yes less) before = before less
      by_order (no not-less) before =
          let last : i ≡ n = omega arith in
          rw (last, drop_at (cells f n) (f n ++ behind) (n * k) (length_cells n)) (take_at (f n) behind k (each n))

  pub cell_of_cells : (n i : ℕ) → i < n → take k (drop (i * k) (cells f n)) ≡ f i
  cell_of_cells n i below =
      ap (λ (l : List A). take k (drop (i * k) l)) (sym (append-nil (cells f n))) ∙ cell_at n i [] below

pub cells_same : {A : Type 0} (f g : ℕ → List A) (n : ℕ) → ((i : ℕ) → i < n → f i ≡ g i) → cells f n ≡ cells g n
unfolding cells
cells_same f g zero same = refl
cells_same {A} f g (suc n) same =
    ap₂ (λ (x y : List A). x ++ y) (cells_same f g n (λ i below. same i (omega arith))) (same n (le_refl (suc n)))
