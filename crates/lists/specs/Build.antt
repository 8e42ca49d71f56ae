-- Lists built from a rule for each index, and a part put into a whole. Over any element.
use Rattle.std.specs.Prelude.{ℕ, zero, suc, ◌+◌, ◌*◌, List, [], ◌∷◌, ◌++◌, length, take, drop}

module _ {A : Type 0} where
  -- f 0, f 1, .. f (n - 1)
  unfoldable pub tabulate : (ℕ → A) → ℕ → List A
  tabulate f zero = []
  tabulate f (suc n) = tabulate f n ++ (f n ∷ [])

  -- the lists f 0, f 1, .. f (n - 1), one after the other
  unfoldable pub cells : (ℕ → List A) → ℕ → List A
  cells f zero = []
  cells f (suc n) = cells f n ++ f n

  -- b with the elements of v from place `at` on, and every other element as it was
  abbrev pub put : List A → ℕ → List A → List A
  put b at v = take at b ++ v ++ drop (at + length v) b

  -- b once the first n cells, each of k elements, stand at its front
  abbrev pub filled : (ℕ → List A) → ℕ → ℕ → List A → List A
  filled f k n b = cells f n ++ drop (n * k) b
