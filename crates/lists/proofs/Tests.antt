-- What passes has met no test that applies; what passes and what fails, and with which number, are told apart.
use Prim.Native.Nat.{ℕ}
use native.Mathlib.Omega.{arith}
use mathlib.Core.Path.{◌≡◌, refl}
use mathlib.Core.List.{List, [], ◌∷◌}
use mathlib.Core.Bool.{Bool, true, false, cond}
use Rattle.lists.specs.Tests.{Verdict, passes, fails, Test, first_that_applies, ◌when◌}

abbrev pub NoneApplies : List Test → Type 0
NoneApplies [] = Unit {0}
NoneApplies ((number when applies) ∷ more) = (applies ≡ false) × NoneApplies more

past_first : (applies : Bool) (n : ℕ) (more : Verdict) → cond applies (fails n) more ≡ passes → (applies ≡ false) × (more ≡ passes)
past_first true n more passed = let clash : ◌≡◌ {A = ℕ} 0 1 = cc in absurd (omega arith)
past_first false n more passed = (refl, passed)

pub none_applies : (tests : List Test) → first_that_applies tests ≡ passes → NoneApplies tests
none_applies [] passed = tt
none_applies ((number when applies) ∷ more) passed =
    let past = past_first applies number (first_that_applies more) passed in
    (past.0, none_applies more past.1)

pub passes_is_no_failure : (n : ℕ) → passes ≡ fails n → ⊥
passes_is_no_failure n same = let clash : ◌≡◌ {A = ℕ} 0 1 = cc in omega arith

pub failure_number : {n k : ℕ} → fails n ≡ fails k → n ≡ k
failure_number same = cc
