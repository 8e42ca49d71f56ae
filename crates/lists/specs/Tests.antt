-- Document 01, "Operations": in each operation the tests run in the order named, and the first that applies decides.
use Rattle.std.specs.Prelude.{ℕ, List, [], ◌∷◌, Bool, cond}

-- no test applies, or one does: refused with its number
pub data Verdict : Type 0 where
  passes : Verdict
  fails : ℕ → Verdict

-- the number of a refusal, and whether it applies
infix 10 ◌when◌
pub data Test : Type 0 where
  ◌when◌ : ℕ → Bool → Test

abbrev pub first_that_applies : List Test → Verdict
first_that_applies [] = passes
first_that_applies ((number when applies) ∷ more) = cond applies (fails number) (first_that_applies more)

-- the number of a verdict; 0, which is no refusal of document 01, where none applies
abbrev pub number_of : Verdict → ℕ
number_of passes = 0
number_of (fails n) = n

-- the first verdict decides; where it passes, the second does
abbrev pub and_then : Verdict → Verdict → Verdict
and_then passes more = more
and_then (fails n) more = fails n
