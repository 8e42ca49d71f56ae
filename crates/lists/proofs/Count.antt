-- Laws of `count`: one test more, its bound, that it never falls, and the count where the first tests hold and the others do not.
use Prim.Native.Nat.{ℕ, zero, suc, ◌+◌, ◌<◌, ◌≤◌}
use native.Mathlib.Decide.{dec_le, le_ind}
use native.Mathlib.Nat.{add-zero, le_refl}
use native.Mathlib.Numerals.{add-one}
use native.Mathlib.Omega.{arith}
use mathlib.Core.Path.{◌≡◌, refl, ap₂}
use mathlib.Core.Bool.{Bool, true, false, cond}
use Rattle.lists.specs.Count.{count}

at_most_one : (b : Bool) → cond b 1 0 ≤ 1
at_most_one true = omega arith
at_most_one false = omega arith

module _ (holds : ℕ → Bool) where
  pub count_when_true : (n : ℕ) → holds n ≡ true → count holds (n + 1) ≡ count holds n + 1
  unfolding count
  count_when_true n one_more = rw (add-one n, one_more)

  pub count_when_false : (n : ℕ) → holds n ≡ false → count holds (n + 1) ≡ count holds n
  unfolding count
  count_when_false n no_more = rw (add-one n, no_more) (add-zero (count holds n))

  pub count_at_most : (n : ℕ) → count holds n ≤ n
  unfolding count
  count_at_most zero = omega arith
  count_at_most (suc n) = omega (arith, count_at_most n, at_most_one (holds n))

  pub count_rises : (a b : ℕ) → a ≤ b → count holds a ≤ count holds b
  unfolding count
  count_rises a b order = le_ind (λ (n : ℕ). count holds a ≤ count holds n) (le_refl _) (λ n above least. omega arith) b order

  pub count_of_first : (m n : ℕ) → m ≤ n → ((i : ℕ) → i < m → holds i ≡ true) → ((i : ℕ) → m ≤ i → i < n → holds i ≡ false)
      → count holds n ≡ m
  unfolding count
  count_of_first m zero within first others = omega arith
  count_of_first m (suc n) within first others =
      by_order (dec_le m n)
      (λ less. count_of_first m n less first (λ i past below. others i past (omega arith)))
      (λ all. count_of_first n n (le_refl n) (λ i below. first i (omega arith)) (λ i past below. absurd (omega arith)))
    where
      by_order : Dec (m ≤ n) → (m ≤ n → count holds n ≡ m) → (n < m → count holds n ≡ n) → count holds n + cond (holds n) 1 0 ≡ m
      by_order (yes less) before all = rw (others n less (le_refl (suc n)), before less) (add-zero m)
      by_order (no more) before all =
          let last : m ≡ n + 1 = omega arith in
          rw (first n (omega arith), all (omega arith), last)

pub count_same : (holds also : ℕ → Bool) (n : ℕ) → ((i : ℕ) → i < n → holds i ≡ also i) → count holds n ≡ count also n
unfolding count
count_same holds also zero same = refl
count_same holds also (suc n) same =
    ap₂ (λ (c : ℕ) (b : Bool). c + cond b 1 0) (count_same holds also n (λ i below. same i (omega arith))) (same n (le_refl (suc n)))
