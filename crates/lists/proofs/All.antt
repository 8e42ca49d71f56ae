-- What holds of each element of a list: of none and of one, of two lists one behind the other, of anything, and what follows from it.
use mathlib.Core.List.{List, [], ◌∷◌, ◌++◌}
use Rattle.lists.specs.All.{All}

module _ {A : Type 0} (Holds : A → Type 0) where
  pub all_none : All Holds []
  unfolding All
  all_none = tt

  pub all_one : {x : A} → Holds x → All Holds (x ∷ [])
  unfolding All
  all_one holds = (holds, tt)

  pub all_appended : (xs ys : List A) → All Holds xs → All Holds ys → All Holds (xs ++ ys)
  unfolding All
  all_appended [] ys first second = second
  all_appended (x ∷ xs) ys first second = (first.0, all_appended xs ys first.1 second)

  pub all_of_any : ((x : A) → Holds x) → (xs : List A) → All Holds xs
  unfolding All
  all_of_any any [] = tt
  all_of_any any (x ∷ xs) = (any x, all_of_any any xs)

  pub all_weaker : {Also : A → Type 0} → ((x : A) → Holds x → Also x) → (xs : List A) → All Holds xs → All Also xs
  unfolding All
  all_weaker weaker [] all = tt
  all_weaker weaker (x ∷ xs) all = (weaker x all.0, all_weaker weaker xs all.1)
