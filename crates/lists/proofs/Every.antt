-- Whether all of a row of tests hold: one more, each of them, the front of them, the early end.
use Prim.Native.Nat.{ℕ, zero, suc, ◌+◌, ◌<◌, ◌≤◌}
use native.Mathlib.Decide.{dec_lt}
use native.Mathlib.Numerals.{add-one}
use native.Mathlib.Omega.{arith}
use mathlib.Core.Path.{◌≡◌, refl, ap, ap₂, ◌∙◌}
use mathlib.Core.List.{List, [], ◌∷◌}
use mathlib.Core.Bool.{Bool, true, false, ◌&&◌, and-eq-true_iff}
use lib.ListN.{get_or}
use Rattle.lists.specs.Count.{every, all_hold}

module _ (holds : ℕ → Bool) where
  pub every_none : every holds 0 ≡ true
  unfolding every
  every_none = refl

  pub every_more : (n : ℕ) → every holds n ≡ true → every holds (n + 1) ≡ holds n
  unfolding every
  every_more n h = rw (add-one n, h)

  -- the loop may end at the first that does not hold
  pub every_ended : (a b : ℕ) → holds a ≡ false → a < b → every holds b ≡ false
  unfolding every
  every_ended a zero h l = absurd (omega arith)
  every_ended a (suc b) h l = go (dec_lt a b) (λ k. every_ended a b h k)
    where
      and-false : (x : Bool) → (x && false) ≡ false
      and-false true = refl
      and-false false = refl

      go : Dec (a < b) → (a < b → every holds b ≡ false) → (every holds b && holds b) ≡ false
      go (yes k) earlier = ap (λ x. x && holds b) (earlier k)
      go (no k) earlier =
          let e : b ≡ a = omega arith in
          ap (λ i. every holds b && holds i) e ∙ ap (λ x. every holds b && x) h ∙ and-false (every holds b)

  pub each_of_every : (n i : ℕ) → every holds n ≡ true → i < n → holds i ≡ true
  unfolding every
  each_of_every zero i h l = absurd (omega arith)
  each_of_every (suc n) i h l = let parts = (and-eq-true_iff (every holds n) (holds n)).0 h in go (dec_lt i n) (λ k. each_of_every n i parts.0 k) parts.1
    where
      go : Dec (i < n) → (i < n → holds i ≡ true) → holds n ≡ true → holds i ≡ true
      go (yes k) earlier last = earlier k
      go (no k) earlier last =
          let e : i ≡ n = omega arith in
          ap holds e ∙ last

  -- and all of its front
  pub every_of_more : (m n : ℕ) → every holds n ≡ true → m ≤ n → every holds m ≡ true
  unfolding every
  every_of_more zero n h l = refl
  every_of_more (suc m) n h l = (and-eq-true_iff (every holds m) (holds m)).1 (every_of_more m n h (omega arith), each_of_every n m h (omega arith))

pub every_when_each : (holds : ℕ → Bool) (n : ℕ) → ((i : ℕ) → i < n → holds i ≡ true) → every holds n ≡ true
unfolding every
every_when_each holds zero each = refl
every_when_each holds (suc n) each = ap₂ ◌&&◌ (every_when_each holds n (λ i below. each i (omega arith))) (each n (omega arith))

-- all tests of a list hold, so each of them does
pub each_of_all : (tests : List Bool) → all_hold tests ≡ true → (i : ℕ) → get_or tests i true ≡ true
each_of_all [] h i = refl
each_of_all (test ∷ more) h zero = ((and-eq-true_iff test (all_hold more)).0 h).0
each_of_all (test ∷ more) h (suc i) = each_of_all more ((and-eq-true_iff test (all_hold more)).0 h).1 i
