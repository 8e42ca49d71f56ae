-- How many of a row of tests hold, and whether all do.
use Rattle.std.specs.Prelude.{ℕ, zero, suc, ◌+◌, List, [], ◌∷◌, Bool, true, ◌&&◌, cond}

-- how many of holds 0, holds 1, .. holds (n - 1) are true
unfoldable pub count : (ℕ → Bool) → ℕ → ℕ
count holds zero = 0
count holds (suc n) = count holds n + cond (holds n) 1 0

-- whether all of holds 0, holds 1, .. holds (n - 1) are true
unfoldable pub every : (ℕ → Bool) → ℕ → Bool
every holds zero = true
every holds (suc n) = every holds n && holds n

-- whether all tests of a list hold
abbrev pub all_hold : List Bool → Bool
all_hold [] = true
all_hold (test ∷ more) = test && all_hold more
